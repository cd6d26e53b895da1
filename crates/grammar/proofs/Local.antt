-- A derivation depends on the bytes that it covers alone: it holds over every text that agrees with this one up to its end.
use Rattle.std.proofs.Common.{◌≡◌, ℕ, ◌<◌, ◌≤◌, List, take, Option, sym, ◌∙◌, arith}
use Rattle.grammar.specs.Codes.{Codes}
use Rattle.grammar.specs.Ast.{Ast, Repetition}
use Rattle.grammar.specs.Grammar.{byte, OneUnit, Body, Digits, Number, Bound, Quantifier, Pattern, Branch, Piece, Atom, letter, tile, nothing, one, range, tiles, done, digit, number, any, some, maybe, exactly, between, with_bound, last, more, none, then, once, often, one_unit, members, others, group}
use Rattle.grammar.proofs.Texts.{same_byte}
use Rattle.grammar.proofs.Forward.{body_on, digits_on, number_on, quantifier_on, pattern_on, branch_on}

module _ (s s' : List ℕ) (n : ℕ) (e : take n s ≡ take n s') where
  -- a byte of the first text is the second's
  moved : (k c : ℕ) → byte s k ≡ c → k < n → byte s' k ≡ c
  moved k c x h = sym (same_byte s s' n k e h) ∙ x

  pub unit_at : {u i j : ℕ} {m : Codes} → j ≤ n → OneUnit u s i j m → OneUnit u s' i j m
  unit_at h (letter a b c) = letter a (moved _ _ b (omega arith)) c
  unit_at h (tile a b c d f) = tile a (moved _ _ b (omega arith)) c (moved _ _ d (omega arith)) f

  pub body_at : {u i j : ℕ} {x : Codes × Option ℕ} → j ≤ n → Body u s i j x → Body u s' i j x
  body_at h nothing = nothing
  body_at h (one a b c d) = let x = body_on d in one a (moved _ _ b (omega arith)) c (body_at h d)
  body_at h (range a b c d f g k) =
      let x = body_on k in
      range a (moved _ _ b (omega arith)) c (moved _ _ d (omega arith)) (moved _ _ f (omega arith)) g (body_at h k)
  body_at h (tiles a b c) = let x = body_on c in tiles a (unit_at (omega arith) b) (body_at h c)

  pub digits_at : {k v i j w : ℕ} → j ≤ n → Digits s k v i j w → Digits s' k v i j w
  digits_at h done = done
  digits_at h (digit a b c) = let x = digits_on c in digit (moved _ _ a (omega arith)) b (digits_at h c)

  pub number_at : {i j v : ℕ} → j ≤ n → Number s i j v → Number s' i j v
  number_at h (number a b c) = let x = digits_on c in number (moved _ _ a (omega arith)) b (digits_at h c)

  pub bound_at : {i j : ℕ} {b : ℕ × ℕ} → j ≤ n → Bound s i j b → Bound s' i j b
  bound_at h (exactly a b c) =
      let x = number_on b in exactly (moved _ _ a (omega arith)) (number_at (omega arith) b) (moved _ _ c (omega arith))
  bound_at h (between a b c d f) =
      let x = number_on b in
      let y = number_on d in
      between (moved _ _ a (omega arith)) (number_at (omega arith) b) (moved _ _ c (omega arith)) (number_at (omega arith) d) (moved _ _ f (omega arith))

  pub quantifier_at : {i j : ℕ} {q : Repetition} → j ≤ n → Quantifier s i j q → Quantifier s' i j q
  quantifier_at h (any a) = any (moved _ _ a (omega arith))
  quantifier_at h (some a) = some (moved _ _ a (omega arith))
  quantifier_at h (maybe a) = maybe (moved _ _ a (omega arith))
  quantifier_at h (with_bound a) = with_bound (bound_at h a)

  mutual
    pub pattern_at : {u i j : ℕ} {t : Ast} → j ≤ n → Pattern u s i j t → Pattern u s' i j t
    pattern_at h (last b) = last (branch_at h b)
    pattern_at h (more b x p) = let y = pattern_on p in more (branch_at (omega arith) b) (moved _ _ x (omega arith)) (pattern_at h p)

    pub branch_at : {u i j : ℕ} {t : Ast} → j ≤ n → Branch u s i j t → Branch u s' i j t
    branch_at h none = none
    branch_at h (then p b) = let y = branch_on b in then (piece_at (omega arith) p) (branch_at h b)

    pub piece_at : {u i j : ℕ} {t : Ast} → j ≤ n → Piece u s i j t → Piece u s' i j t
    piece_at h (once a) = once (atom_at h a)
    piece_at h (often a m) = let y = quantifier_on m in often (atom_at (omega arith) a) (quantifier_at h m)

    pub atom_at : {u i j : ℕ} {t : Ast} → j ≤ n → Atom u s i j t → Atom u s' i j t
    atom_at h (one_unit a) = one_unit (unit_at h a)
    atom_at h (members a b c) = let y = body_on b in members (moved _ _ a (omega arith)) (body_at (omega arith) b) (moved _ _ c (omega arith))
    atom_at h (others a b c d) = let y = body_on c in others (moved _ _ a (omega arith)) (moved _ _ b (omega arith)) (body_at (omega arith) c) (moved _ _ d (omega arith))
    atom_at h (group x p f) = let y = pattern_on p in group (moved _ _ x (omega arith)) (pattern_at (omega arith) p) (moved _ _ f (omega arith))
