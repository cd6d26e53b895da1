-- The least mark of a front tells the need, and whether there is one.
use Rattle.std.proofs.Common.{◌≡◌, ℕ, suc, ◌-◌, ◌≤◌, List, Some, None, ◌∙◌, subst, arith}
use Rattle.automata.specs.Language.{Tree, In, WellFormed, NoEmptySet}
use Rattle.automata.specs.Completion.{Need, Stuck, Hint}
use Rattle.automata.specs.Distances.{Inside, Labelled}
use Rattle.automata.proofs.Completions.{need_zero}
use Rattle.automata.proofs.Distances.{need_by_labels, stuck_by_labels, hint_by_labels}
use Rattle.automata.proofs.Widths.{front_inside}
use Rattle.banks.specs.Pairs.{Pairs}
use Rattle.steps.specs.Fronts.{IsFront}
use Rattle.completions.specs.declared.nearest.Found.{Found}
use Rattle.completions.specs.Nearest.{LeastMark}
use Rattle.completions.specs.Towards.{Towards}

module _ (e : Tree) (w : List ℕ) (formed : WellFormed e) (some : NoEmptySet e) (f : Pairs) (front : IsFront e w f) (M : ℕ → ℕ → ℕ) (labels : Labelled e M) where
  pub found_need : (x : Found) → LeastMark M f (Some x) → Need e w x.distance
  found_need x (here, mark, least) =
      need_by_labels e M w x.place x.count x.distance formed some labels ((front x.place x.count).0 here) mark
      (λ q j st. least q j ((front q j).1 st))

  pub none_stuck : LeastMark M f None → Stuck e w
  none_stuck h = (stuck_by_labels e M w formed some labels).1 (λ p i st. h p i ((front p i).1 st))

  pub found_inside : (x : Found) → LeastMark M f (Some x) → Inside e x.place x.count
  found_inside x (here, mark, least) = front_inside e w x.place x.count formed ((front x.place x.count).0 here)

  pub found_fits : (x : Found) → LeastMark M f (Some x) → x.distance ≡ 0 → In e w
  found_fits x h z = (need_zero e w).0.0 (subst (λ n. Need e w n) z (found_need x h))

  pub found_hint : (x : Found) (c : ℕ) → LeastMark M f (Some x) → 1 ≤ x.distance → Towards e M x (Some c) → Hint e w c
  found_hint x c h far (q, j, link, is, held) =
      let n : x.distance ≡ suc (x.distance - 1) = omega arith in
      hint_by_labels e M w x.place x.count q j c (x.distance - 1) formed some labels (subst (λ k. Need e w k) n (found_need x h))
      ((front x.place x.count).0 h.0) link (is ∙ n) held
