use Rattle.std.proofs.Common.{◌≡◌, ℕ, Err, Result, sym, refl, ap, ◌∙◌, subst, arith}
use Rattle.std.proofs.lemmas.Result.{err_from_is_err_and}
use Rattle.std.proofs.lemmas.Bool.{cond-true, lt-ltb}
use Rattle.refusals.specs.declared.Refusal.{Refusal}
use Rattle.refusals.specs.declared.Refusal.TheVariants.{Work}
use Rattle.sessions.specs.Sessions.{HintTold}
use Rattle.sessions.proofs.Answers.{code_told, refusal_told}
use Rattle.sessions.proofs.session.Session.hint.Goals as goal

-- the refusal in an answer
same_refusal : {X Y : Type 0} (a b : Refusal) → ◌≡◌ {A = Result X Refusal} (Err a) (Err b) → ◌≡◌ {A = Result Y Refusal} (Err a) (Err b)
same_refusal a b is = let e : a ≡ b = cc in ap (λ v. Err v) e

pub returns-in_err-code : goal.returns-in_err-code
returns-in_err-code g c =
    let p = err_from_is_err_and c.from_residual.result c.from_residual.ensures.1 in
    let told = c.in_err-code.ensures in
    rw (p.1, p.2) (record {
      stays = refl;
      area = told.area;
      short = λ less. same_refusal c.in_err-code.field-0.0 Work (told.short less);
      full = λ full text row on.
          refusal_told g.K.Kind g.B.Bank g.met.K.Kind.alphabet g.met.K.Kind.named text row c.args.self.now on
          c.in_err-code.field-0.0 (told.answer full on.ready);
    })

pub returns : goal.returns
returns g c =
    let told = c.in_ok-code.ensures in
    let k = g.K.Kind in
    record {
      stays = refl;
      area = told.area;
      short = λ less. let is = told.short less in absurd (let z : ◌≡◌ {A = ℕ} 0 1 = cc in omega arith);
      full = λ full text row on.
          let (below, hint) =
          code_told k g.B.Bank g.met.K.Kind.alphabet g.met.K.Kind.named text row c.args.self.now on
          c.in_ok-code.code (told.answer full on.ready) in
          let is = c.symbol_of.ensures ∙ cond-true _ _ _ (lt-ltb c.in_ok-code.code k.codes below) in
          subst (λ r. HintTold k text row r) (sym is) hint;
    }
