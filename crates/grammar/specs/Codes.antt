-- The bytes that units are written with, and the sets of codes that units, ranges and classes spell.
-- A set of codes is a test: true of the codes that belong to it.
use Rattle.std.specs.Prelude.{◌≡◌, ℕ, ◌-◌, ◌/◌, ◌%◌, ◌≤◌, Bool, false, cond, not, ◌&&◌, ◌||◌, ◌⊎◌, ◌==◌, nat_le, nat_lt}

abbrev pub Codes : Type 0
Codes = ℕ → Bool

-- `a` (byte 97) to `z` (122)
abbrev pub Letter : ℕ → Type 0
Letter c = (97 ≤ c) × (c ≤ 122)

-- `0` (48) to `9` (57)
abbrev pub Digit : ℕ → Type 0
Digit c = (48 ≤ c) × (c ≤ 57)

-- what a unit of letters is: `.` (46) or a letter
abbrev pub LetterUnit : ℕ → Type 0
LetterUnit c = (c ≡ 46) ⊎ Letter c

-- the first byte of a tile's unit: `.`, `B` (66), `G` (71), `R` (82) or `Y` (89)
abbrev pub ColourUnit : ℕ → Type 0
ColourUnit c = (c ≡ 46) ⊎ ((c ≡ 66) ⊎ ((c ≡ 71) ⊎ ((c ≡ 82) ⊎ (c ≡ 89))))

-- the second byte of a tile's unit: `.` or a digit
abbrev pub FaceUnit : ℕ → Type 0
FaceUnit c = (c ≡ 46) ⊎ Digit c

-- the colour that a byte stands for: `R` 0, `G` 1, `B` 2, `Y` 3
unfoldable pub colour_of : ℕ → ℕ
colour_of c = cond (c == 82) 0 (cond (c == 71) 1 (cond (c == 66) 2 3))

-- how many codes there are: 26 letters where a unit has one byte, 40 tiles where it has two
abbrev pub codes_of : ℕ → ℕ
codes_of u = cond (u == 1) 26 40

abbrev pub no_codes : Codes
no_codes k = false

-- a letter's code is its place in the alphabet, from 0; `.` spells all 26
unfoldable pub codes_of_letter : ℕ → Codes
codes_of_letter c k = cond (c == 46) (nat_lt k 26) (k == c - 97)

-- a tile's code is ten times its colour and its face; `.` leaves that half open
unfoldable pub codes_of_tile : ℕ → ℕ → Codes
codes_of_tile c d k = nat_lt k 40 && ((c == 46 || k / 10 == colour_of c) && (d == 46 || k % 10 == d - 48))

-- the letters from a to b; none where b stands before a
unfoldable pub codes_of_range : ℕ → ℕ → Codes
codes_of_range a b k = nat_le (a - 97) k && nat_le k (b - 97)

-- a class spells the union of its body
abbrev pub joined_codes : Codes → Codes → Codes
joined_codes x y k = x k || y k

-- and with `^` all other codes below n
abbrev pub other_codes : ℕ → Codes → Codes
other_codes n x k = nat_lt k n && not (x k)
