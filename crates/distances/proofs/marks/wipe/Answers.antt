-- The first numbers are 0, up to 4,096 or the end; the rest are those that were there.
use Rattle.std.proofs.Common.{◌≡◌, ℕ, ◌-◌, ◌<◌, ◌≤◌, ◌++◌, length, get_or, drop, length-take, refl, ap, ◌∙◌, ⊎_elim, arith}
use Rattle.std.proofs.lemmas.List.{get_or_append_left, get_or-append_right, get_or-drop, get_or_past}
use Rattle.std.proofs.lemmas.Bool.{cases_lt}
use Rattle.distances.proofs.marks.wipe.Goals as goal

pub returns : goal.returns
returns c =
    let old = c.args.area.now in
    let new = c.fill.new.self in
    let e = c.min-end.result in
    let full : length new ≡ e = omega (arith, c.fill.ensures.len, length-take {A = ℕ}) in
    let rest : (k : ℕ) → e ≤ k → get_or (new ++ drop e old) k 0 ≡ get_or old k 0 = λ k h.
    get_or-append_right new (drop e old) e k 0 full h ∙ get_or-drop e old (k - e) 0 ∙ ap (λ (j : ℕ). get_or old j 0) (omega arith) in
    record {
      zero = λ k h. ⊎_elim
          (λ (l : k < e). get_or_append_left new (drop e old) 0 k (omega arith) ∙ c.fill.ensures.clones k 0 (omega arith) refl)
          (λ (l : e ≤ k). rest k l ∙ get_or_past old k 0 (omega arith))
          (cases_lt k e);
      beyond = λ k h. rest k (omega arith);
    }
