-- Letters: the bytes `a` (97) to `z` (122), with the codes 0 to 25 and units of one byte.
use Rattle.std.specs.Prelude.{ℕ, ◌+◌, ◌-◌, Bool, ◌&&◌, List, [], ◌∷◌, nat_le}

abbrev pub is_letter : ℕ → Bool
is_letter s = nat_le 97 s && nat_le s 122

abbrev pub letter_code : ℕ → ℕ
letter_code s = s - 97

abbrev pub letter_of : ℕ → ℕ
letter_of n = 97 + n

-- The letter itself; the second byte is 0 and no part of the unit.
abbrev pub letter_spelled : ℕ → List ℕ
letter_spelled s = s ∷ 0 ∷ []
