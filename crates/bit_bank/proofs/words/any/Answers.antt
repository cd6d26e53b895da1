use Rattle.std.proofs.Common.{◌≡◌, ℕ, ◌+◌, ◌-◌, ◌/◌, ◌%◌, ◌<◌, ◌≤◌, not, eqb, get_or, Decides, sym, refl, ap, ◌∙◌, ⊎_elim, mod-lt, arith, pow_pos}
use Rattle.std.proofs.lemmas.Bool.{both_ways, cases_lt, cases_eq, not_from_true, not_from_false, eq-eqb, ne_eqb}
use Rattle.std.proofs.lemmas.List.Edits.{get_or-between, length-between}
use Rattle.bit_bank.proofs.Any.{Set, word_within, mask_within, set_here, none_here, first_part, last_part, one_part, middle_part}
use Rattle.bit_bank.proofs.words.any.Goals as goal
use Rattle.bit_bank.proofs.words.any.Goals.{then-head-ne0, else-head-ne0}

-- a test of a number against 0, where that decides
decided : (v : ℕ) (A : Type 0) → ((v ≡ 0 → ⊥) → A) → (A → v ≡ 0 → ⊥) → Decides (not (eqb v 0)) A
decided v A found missed = (
  (λ t. found (λ z. both_ways _ (not_from_true _ (eq-eqb v 0 z)) t)),
  (λ a. not_from_false _ (ne_eqb v 0 (missed a))),
)

pub returns-then-first-last : goal.returns-then-first-last
returns-then-first-last c =
    let src = c.args.src.now in
    let lo : ℕ = c.args.lo in
    let hi : ℕ = c.args.hi in
    let part = one_part src lo hi c.if-first-last.true in
    decided _ (Set src lo hi)
    (set_here src lo hi (lo / 64) _ part (mask_within _ (hi % 64) (omega arith)))
    (λ x z. none_here src lo hi (lo / 64) _ part z x.0 (let a = x.1 in let b = x.2 in let e = c.if-first-last.true in omega arith) x.1 x.2 x.3)

pub returns-then-any_word : goal.returns-then-any_word
returns-then-any_word c =
    let src = c.args.src.now in
    let lo : ℕ = c.args.lo in
    let hi : ℕ = c.args.hi in
    elim c.if-head-ne0.branch [
      | then-head-ne0 w ↦ ((λ _. set_here src lo hi (lo / 64) _ (first_part src lo hi (omega arith)) (word_within _ (mod-lt _ (pow_pos 64))) w.if-head-ne0.true), (λ _. c.if-any_word.true))
      | else-head-ne0 w ↦ (
        (λ _.
            let k = w.any_word.ensures.0 (sym w.value-is ∙ c.if-any_word.true) in
            let n = length-between src (lo / 64 + 1) (hi / 64) (omega arith) in
            let u = k.1 in
            let e = get_or-between src (lo / 64 + 1) (hi / 64) k.0 0 (omega arith) in
            set_here src lo hi (lo / 64 + 1 + k.0) (get_or src (lo / 64 + 1 + k.0) 0) (middle_part src lo hi (lo / 64 + 1 + k.0) (omega arith) (omega arith))
            (word_within _ (let f = c.type_inv.src (lo / 64 + 1 + k.0) in omega arith)) (λ z. k.2 (e ∙ z))),
        (λ _. c.if-any_word.true),
      )
    ]

pub returns-else-any_word : goal.returns-else-any_word
returns-else-any_word c =
    let src = c.args.src.now in
    let lo : ℕ = c.args.lo in
    let hi : ℕ = c.args.hi in
    elim c.if-head-ne0.branch [
      | then-head-ne0 w ↦ absurd (both_ways _ c.if-any_word.false (w.value-is ∙ not_from_false _ (ne_eqb _ 0 w.if-head-ne0.true)))
      | else-head-ne0 w ↦
          decided _ (Set src lo hi)
          (set_here src lo hi (hi / 64) _ (last_part src lo hi (omega arith)) (mask_within _ (hi % 64) (omega arith)))
          (λ x z.
          let a = x.1 in let b = x.2 in
          ⊎_elim
          (λ (l : x.0 / 64 ≡ lo / 64). none_here src lo hi (lo / 64) _ (first_part src lo hi (omega arith)) w.if-head-ne0.false x.0 l x.1 x.2 x.3)
          (λ (d : x.0 / 64 ≡ lo / 64 → ⊥). ⊎_elim
          (λ (u : x.0 / 64 < hi / 64).
          let e = get_or-between src (lo / 64 + 1) (hi / 64) (x.0 / 64 - (lo / 64 + 1)) 0 (omega arith) in
          let n = length-between src (lo / 64 + 1) (hi / 64) (omega arith) in
          let m : lo / 64 + 1 + (x.0 / 64 - (lo / 64 + 1)) ≡ x.0 / 64 = omega arith in
          both_ways _ (sym w.value-is ∙ c.if-any_word.false)
          (w.any_word.ensures.1 (
            x.0 / 64 - (lo / 64 + 1),
            omega arith,
            (λ y. none_here src lo hi (x.0 / 64) _ (middle_part src lo hi (x.0 / 64) (omega arith) u) (sym (e ∙ ap (λ (i : ℕ). get_or src i 0) m) ∙ y) x.0 refl x.1 x.2 x.3),
          )))
          (λ (u : hi / 64 ≤ x.0 / 64). none_here src lo hi (hi / 64) _ (last_part src lo hi (omega arith)) z x.0 (omega arith) x.1 x.2 x.3)
          (cases_lt (x.0 / 64) (hi / 64)))
          (cases_eq (x.0 / 64) (lo / 64)))
    ]
