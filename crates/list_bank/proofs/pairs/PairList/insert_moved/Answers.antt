use Rattle.std.proofs.Common.{◌≡◌, ℕ, ◌+◌, List, length, sym, refl, ap, ◌∙◌, subst, arith}
use Rattle.std.proofs.lemmas.Result.{err_from_is_err_and}
use Rattle.banks.specs.Pairs.{Pairs, only, moved, ◌∪◌, ◌∩◌}
use Rattle.list_bank.specs.Listed.{listed, Short}
use Rattle.list_bank.specs.Means.{pairs_of, up_to}
use Rattle.list_bank.proofs.Moves.{with_moved, moved_none, moved_here, moved_other, refused_more}
use Rattle.list_bank.proofs.pairs.PairList.insert_moved.Goals as goal
use Rattle.list_bank.proofs.pairs.PairList.insert_moved.Goals.{then-x-p+in_ok-insert_up_to, else-x-p}

-- all pairs of the front, moved, are with those of the list
whole : (s t : Pairs) (xs ys : List (ℕ × ℕ)) (p q by width : ℕ) → s ≡ t → xs ≡ ys
    → with_moved s xs p q by width (length xs) ≡ (t ∪ (moved (listed ys (length ys)) p q by ∩ up_to width))
whole s t xs ys p q by width same is =
    ap (λ (v : Pairs). v ∪ (moved (listed xs (length xs)) p q by ∩ up_to width)) same
    ∙ ap (λ (zs : List (ℕ × ℕ)). t ∪ (moved (listed zs (length zs)) p q by ∩ up_to width)) is

pub loop-x-init : goal.loop-x-init
loop-x-init c = moved_none (pairs_of c.copy_from.new.self) c.as_slice-x-items.result.now c.args.p c.args.q c.args.by c.args.width

pub returns-in_err-insert_up_to : goal.returns-in_err-insert_up_to
returns-in_err-insert_up_to c =
    let r = err_from_is_err_and c.from_residual.result c.from_residual.ensures.1 in
    let e = c.in_err-insert_up_to.ensures in
    let xs = c.as_slice-x-items.result.now in
    rw (r.1, r.2) (
      e.0,
      (λ h.
          refused_more (pairs_of c.copy_from.new.self) xs c.args.p c.args.q c.args.by c.args.width
          (pairs_of c.loop-x.next) c.loop-x.x-index (length xs) (c.from.result + c.from-then-x-p.result)
          c.loop-x-test.true c.loop-x.invariant c.if-x-p.true (omega arith) e.1
          (subst Short (sym (whole _ _ xs c.args.front.now.pairs.items c.args.p c.args.q c.args.by c.args.width c.copy_from.ensures c.as_slice-x-items.ensures.value)) h)),
      refl,
    )

pub loop-x-preserved : goal.loop-x-preserved
loop-x-preserved c =
    let s = pairs_of c.copy_from.new.self in
    let xs = c.as_slice-x-items.result.now in
    elim c.if-x-p.branch [
      | then-x-p+in_ok-insert_up_to w ↦
          ap pairs_of w.next-is
          ∙ w.in_ok-insert_up_to.ensures
          ∙ ap (λ (v : Pairs). v ∪ (only c.args.q (w.from.result + w.from-then-x-p.result) ∩ up_to c.args.width)) c.loop-x.invariant
          ∙ moved_here s xs c.args.p c.args.q c.args.by c.args.width c.loop-x.x-index (w.from.result + w.from-then-x-p.result)
          w.if-x-p.true (omega (arith, w.from.ensures, w.from-then-x-p.ensures))
      | else-x-p w ↦
          ap pairs_of w.next-is
          ∙ c.loop-x.invariant
          ∙ moved_other s xs c.args.p c.args.q c.args.by c.args.width c.loop-x.x-index w.if-x-p.false
    ]

pub returns : goal.returns
returns c =
    let xs = c.as_slice-x-items.result.now in
    let e : c.loop-x.x-index ≡ length c.as_slice-x-items.result.now = omega arith in
    c.loop-x.invariant
    ∙ ap (λ (n : ℕ). with_moved (pairs_of c.copy_from.new.self) xs c.args.p c.args.q c.args.by c.args.width n) e
    ∙ whole _ _ xs c.args.front.now.pairs.items c.args.p c.args.q c.args.by c.args.width c.copy_from.ensures c.as_slice-x-items.ensures.value
