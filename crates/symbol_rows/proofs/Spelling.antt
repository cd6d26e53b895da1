-- Rows and the bytes that spell them: one symbol more, and where reading stops.
use Rattle.std.proofs.Common.{◌≡◌, ℕ, ◌<◌, ◌≤◌, min, true, List, [], ◌∷◌, ◌++◌, length, take, sym, refl, ap, ◌∙◌, arith}
use Rattle.std.proofs.lemmas.List.{length-take, length-append, take_at, flat_map_more}
use Rattle.std.proofs.ByRecursion.{All-push}
use Rattle.symbols.specs.declared.kind.Kind.{Ghosts}
use Rattle.symbol_rows.specs.Rows.{unit_of, Spells, BrokenAfter}

module _ {K S : Type 0} (k : Ghosts K S) where
  -- One symbol more, and its unit behind the bytes.
  pub spells_more : (bytes : List ℕ) (row : List S) (s : S) → Spells k bytes row → k.valid s ≡ true → Spells k (bytes ++ unit_of k s) (row ++ s ∷ [])
  spells_more bytes row s h v = (
    All-push (λ x. k.valid x ≡ true) row s h.0 v,
    sym (flat_map_more (unit_of k) [] row s) ∙ ap (λ b. b ++ unit_of k s) h.1,
  )

  -- Units have the unit length.
  length_unit_of : (s : S) → length (k.spelled s) ≡ 2 → k.unit_length ≤ 2 → length (unit_of k s) ≡ k.unit_length
  length_unit_of s l u = length-take k.unit_length (k.spelled s) ∙ omega arith

  -- Where the next bytes, a unit length or what is left, are no symbol's unit, reading stops.
  pub broken_after :
      (text passed unit rest : List ℕ) (row : List S) → passed ++ (unit ++ rest) ≡ text → length unit ≡ min k.unit_length (length (unit ++ rest)) → 0 < length (unit ++ rest)
      → k.unit_length ≤ 2 → ((s : S) → length (k.spelled s) ≡ 2) → Spells k passed row
      → ((s : S) → k.valid s ≡ true → unit_of k s ≡ unit → ⊥)
      → BrokenAfter k text (length row)
  broken_after text passed unit rest row joins size some u long h none = (
    row,
    unit ++ rest,
    refl,
    h.0,
    sym joins ∙ ap (λ b. b ++ (unit ++ rest)) (sym h.1),
    some,
    λ s more v e.
        let n : length (unit_of k s) ≡ k.unit_length = length_unit_of s (long s) u in
        let all : length (unit_of k s ++ more) ≡ length (unit ++ rest) = ap length e in
        let is : length unit ≡ k.unit_length = omega (arith, length-append (unit_of k s) more) in
        none s v (sym (take_at (unit_of k s) more k.unit_length n) ∙ ap (take k.unit_length) e ∙ take_at unit rest k.unit_length is),
  )
