-- A text parted at the first byte that is a mark.
use Rattle.std.proofs.Common.{◌≡◌, ℕ, ◌+◌, ◌-◌, ◌<◌, min, List, [], ◌∷◌, ◌++◌, length, take, drop, sym, refl, ap, ◌∙◌, subst, inl, inr, arith}
use Rattle.std.specs.List.{AllByRecursion, AllWithin, HoldsAt}
use Rattle.std.proofs.lemmas.List.{length-take, take-append-drop, take_all, drop_more, take_rest, get_or-take}
use Rattle.std.proofs.ByRecursion.{All-from_get_or}
use Rattle.input.specs.Lines.{Parted}

module _ (mark : ℕ) (text : List ℕ) where
  -- No byte so far is the mark.
  none_before : (n : ℕ) → AllWithin (λ b. b ≡ mark → ⊥) text 0 n → AllByRecursion (λ b. b ≡ mark → ⊥) (take n text)
  none_before n before =
      All-from_get_or (λ b. b ≡ mark → ⊥) (take n text) 0
      (λ i l e.
      let m : length (take n text) ≡ min n (length text) = length-take n text in
      let below : i < n = omega arith in
      before i 0 (omega arith) below (sym (get_or-take n text i 0 below) ∙ e))

  pub parted_at : (n : ℕ) → n < length text → HoldsAt (λ b. b ≡ mark) text n → AllWithin (λ b. b ≡ mark → ⊥) text 0 n
      → Parted mark text (take n text) (take (length text - (n + 1)) (drop (n + 1) text))
  parted_at n l here before =
      let splits : text ≡ take n text ++ mark ∷ drop (n + 1) text =
      sym (take-append-drop n text) ∙ ap (λ d. take n text ++ d) (drop_more text n 0 l ∙ ap (λ b. b ∷ drop (n + 1) text) (here 0)) in
      subst (λ d. Parted mark text (take n text) d) (sym (take_rest text (n + 1))) (record { one = none_before n before; splits = inl splits })

  pub parted_none : AllWithin (λ b. b ≡ mark → ⊥) text 0 (length text) → Parted mark text text []
  parted_none before =
      record {
        one = subst (AllByRecursion (λ b. b ≡ mark → ⊥)) (take_all (length text) text (omega arith)) (none_before (length text) before);
        splits = inr (refl, refl);
      }
