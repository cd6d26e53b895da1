use Rattle.std.proofs.Common.{◌≡◌, Option, Some, None, false, refl, ◌⊎◌, sym, ap, ◌∙◌, inl, inr, arith}
use Rattle.std.proofs.lemmas.Bool.Decides.{not_from_Decides}
use Rattle.std.proofs.lemmas.Bool.{cases_Bool}
use Rattle.distances.specs.Marks.{mark_of}
use Rattle.completions.specs.Nearest.{improving}
use Rattle.completions.specs.declared.nearest.Found.{Found}
use Rattle.completions.proofs.LeastMarks.{least_kept, least_taken}
use Rattle.completions.proofs.nearest.nearer.Goals as goal
use Rattle.completions.proofs.nearest.nearer.Goals.{else-improves-via-then-improves+else-look, else-improves-via-else-improves}

-- no pair is nearer by a mark of 0
no_mark : (old : Option Found) → improving old 0 ≡ false
no_mark None = refl
no_mark (Some x) = refl

pub returns-in_default : goal.returns-in_default
returns-in_default g c = λ stands h.
    least_kept (mark_of c.args.marks.now) (g.B.Bank.means.front c.args.bank.now) c.args.p c.args.i c.args.old
    (inl (ap (improving c.args.old) c.in_default.ensures ∙ no_mark c.args.old)) h

pub returns-then-look : goal.returns-then-look
returns-then-look g c = λ stands h.
    let f = g.B.Bank.means.front c.args.bank.now in
    let (i, a, b, x) = (c.look.ensures stands).0 c.if-look.true in
    let e : i ≡ c.args.i = omega arith in
    least_taken (mark_of c.args.marks.now) f c.args.p c.args.i c.args.old c.in-Some.distance
    c.in-Some.ensures (sym c.improves.ensures ∙ c.if-improves.true) (sym (ap (f c.args.p) e) ∙ x) h

pub returns : goal.returns
returns g c = λ stands h.
    let f = g.B.Bank.means.front c.args.bank.now in
    let M = mark_of c.args.marks.now in
    let why : (improving c.args.old (M c.args.p c.args.i) ≡ false) ⊎ (f c.args.p c.args.i ≡ false) = elim c.else-improves.branch [
      | else-improves-via-then-improves+else-look w ↦ elim (cases_Bool (f c.args.p c.args.i)) [
        | inl x ↦ absurd (not_from_Decides w.look.result (w.look.ensures stands) w.if-look.false (c.args.i, omega arith, omega arith, x))
        | inr x ↦ inr x
      ]
      | else-improves-via-else-improves w ↦
          inl (ap (improving c.args.old) c.in-Some.ensures ∙ sym c.improves.ensures ∙ w.if-improves.false)
    ] in
    least_kept M f c.args.p c.args.i c.args.old why h
