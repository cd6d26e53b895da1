use Rattle.std.proofs.Common.{◌≡◌, ℕ, ◌+◌, length, take, sym, refl, ◌∙◌, subst, Ok, Err, inl, inr, arith, rules, length-set}
use Rattle.std.proofs.lemmas.List.{get_or-set_other}
use Rattle.refusals.specs.declared.Refusal.{Refusal}
use Rattle.symbols.specs.contracts.letters.LettersKind.TheImpl.{ghosts as letters}
use Rattle.par_report.proofs.NeverFull.{only_no_symbol}
use Rattle.c_interface.specs.Told.{Tells, FitsTold}
use Rattle.c_interface.proofs.Bytes.{laid_one, tells, tells_more}
use Rattle.c_interface.proofs.each.fits_each.Goals as goal

pub loop-i-preserved : goal.loop-i-preserved
loop-i-preserved c =
    let ok : c.lay.result ≡ Ok tt = search rules in
    let i = c.loop-i.i in
    let row = c.args.row.now in
    let bytes = c.loop-i.fits in (
      simp length-set (omega arith),
      λ text on.
          let (st, told, rest) = c.loop-i.invariant.1 text on in
          let next = laid_one text row i _ _ _ c.loop-i-test.true refl st (rw ok at c.lay.ensures) in (
            next,
            tells_more text row bytes i c.from.result c.if-i-fits.false told
                (subst (λ b. Tells text (take (i + 1) row) b) (sym c.from.ensures) (tells text (take (i + 1) row) c.fits-yes.result _ _ next c.fits-yes.ensures)),
            λ k far. get_or-set_other bytes i k c.from.result 0 (λ is. omega arith) ∙ rest k (omega arith),
          ),
    )

pub returns-then-i-fits : goal.returns-then-i-fits
returns-then-i-fits c = λ text on.
    let (st, told, rest) = c.loop-i.invariant.1 text on in
    let kept = c.loop-i.auto.fits in
    record { laid = omega arith; room = omega arith; symbols = st.symbols; told = told; rest = rest; ended = inr (inl (omega arith)) }

pub returns-then-is_err : goal.returns-then-is_err
returns-then-is_err c = λ text on.
    let (st, told, rest) = c.loop-i.invariant.1 text on in
    let kept = c.loop-i.auto.fits in
    let (e, err) : (e : Refusal) × (c.lay.result ≡ Err e) = search rules in
    let (is, none) = only_no_symbol letters _ _ _ e st.ready (rw err at c.lay.ensures) in
    record { laid = omega arith; room = omega arith; symbols = st.symbols; told = told; rest = rest; ended = inr (inr none) }

pub returns : goal.returns
returns c = λ text on.
    let n = length c.args.row.now in
    let end : c.loop-i.i ≡ n = omega arith in
    let (st, told, rest) = c.loop-i.invariant.1 text on in
    let kept = c.loop-i.auto.fits in
    subst (λ (m : ℕ). FitsTold text c.args.row.now c.args.fits.now c.loop-i.fits m) end
    (record { laid = omega arith; room = omega arith; symbols = st.symbols; told = told; rest = rest; ended = inl end })
