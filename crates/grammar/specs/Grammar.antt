-- The grammar of a pattern, as a relation between a part of a text and what it spells.
-- In each rule u is the unit length (1 for letters, 2 for tiles), s the text, and the bytes from place i on and before place j are meant.
-- A byte is given by its number: `(` 40, `)` 41, `*` 42, `+` 43, `,` 44, `-` 45, `?` 63, `[` 91, `]` 93, `^` 94, `{` 123, `|` 124, `}` 125.
use Rattle.std.specs.Prelude.{◌≡◌, ℕ, ◌+◌, ◌-◌, ◌*◌, cond, List, ◌++◌, length, Some, None, Option, nat_lt, slice_index_or}
use Rattle.grammar.specs.Codes.{Codes, Letter, Digit, LetterUnit, ColourUnit, FaceUnit, codes_of, no_codes, codes_of_letter, codes_of_tile, codes_of_range, joined_codes, other_codes}
use Rattle.grammar.specs.Ast.{Ast, empty, leaf, class, cat, alt, repeat, Repetition, star, plus, opt, counted}

-- the byte at a place; 256, which is no byte, from the end of the text on
abbrev pub byte : List ℕ → ℕ → ℕ
byte s i = slice_index_or s i 256

-- A unit, and the codes that it spells.
pub data OneUnit (u : ℕ) (s : List ℕ) : ℕ → ℕ → Codes → Type 0 where
  -- a letter or `.`
  letter : {i c : ℕ} → u ≡ 1 → byte s i ≡ c → LetterUnit c → OneUnit u s i (i + 1) (codes_of_letter c)
  -- a colour and a face, either of which may be `.`
  tile : {i c d : ℕ} → u ≡ 2 → byte s i ≡ c → ColourUnit c → byte s (i + 1) ≡ d → FaceUnit d → OneUnit u s i (i + 2) (codes_of_tile c d)

-- the first range that runs backwards: the one from a to b, whose first letter stands at i, else the one that comes later
unfoldable pub back_of : ℕ → ℕ → ℕ → Option ℕ → Option ℕ
back_of i a b later = cond (nat_lt b a) (Some i) later

-- The body of a class: the codes that it spells, and its first range that runs backwards.
pub data Body (u : ℕ) (s : List ℕ) : ℕ → ℕ → Codes × Option ℕ → Type 0 where
  -- nothing
  nothing : {i : ℕ} → Body u s i i (no_codes, None)
  -- a letter, and the rest
  one : {i j c : ℕ} {m : Codes} {r : Option ℕ} → u ≡ 1 → byte s i ≡ c → Letter c → Body u s (i + 1) j (m, r) → Body u s i j (joined_codes (codes_of_letter c) m, r)
  -- two letters with `-` between, and the rest
  range : {i j a b : ℕ} {m : Codes} {r : Option ℕ} → u ≡ 1 → byte s i ≡ a → Letter a → byte s (i + 1) ≡ 45 → byte s (i + 2) ≡ b → Letter b → Body u s (i + 3) j (m, r) → Body u s i j (joined_codes (codes_of_range a b) m, back_of i a b r)
  -- a tile's unit, and the rest
  tiles : {i k j : ℕ} {n m : Codes} {r : Option ℕ} → u ≡ 2 → OneUnit u s i k n → Body u s k j (m, r) → Body u s i j (joined_codes n m, r)

-- At most k digits after those that spell v; with them they spell w.
pub data Digits (s : List ℕ) : ℕ → ℕ → ℕ → ℕ → ℕ → Type 0 where
  done : {k i v : ℕ} → Digits s k v i i v
  digit : {k i j v w c : ℕ} → byte s i ≡ c → Digit c → Digits s k (v * 10 + (c - 48)) (i + 1) j w → Digits s (k + 1) v i j w

-- A number of one to four digits.
pub data Number (s : List ℕ) : ℕ → ℕ → ℕ → Type 0 where
  number : {i j c v : ℕ} → byte s i ≡ c → Digit c → Digits s 3 (c - 48) (i + 1) j v → Number s i j v

-- A bound with its brackets, `{m}` or `{m,n}`: its low and its high.
pub data Bound (s : List ℕ) : ℕ → ℕ → ℕ × ℕ → Type 0 where
  exactly : {i j m : ℕ} → byte s i ≡ 123 → Number s (i + 1) j m → byte s j ≡ 125 → Bound s i (j + 1) (m, m)
  between : {i k j m n : ℕ} → byte s i ≡ 123 → Number s (i + 1) k m → byte s k ≡ 44 → Number s (k + 1) j n → byte s j ≡ 125 → Bound s i (j + 1) (m, n)

-- A quantifier: `*`, `+`, `?` or a bound.
pub data Quantifier (s : List ℕ) : ℕ → ℕ → Repetition → Type 0 where
  any : {i : ℕ} → byte s i ≡ 42 → Quantifier s i (i + 1) star
  some : {i : ℕ} → byte s i ≡ 43 → Quantifier s i (i + 1) plus
  maybe : {i : ℕ} → byte s i ≡ 63 → Quantifier s i (i + 1) opt
  with_bound : {i j : ℕ} {b : ℕ × ℕ} → Bound s i j b → Quantifier s i j (counted i b.0 b.1)

mutual
  -- A pattern: one or more branches with `|` between.
  pub data Pattern (u : ℕ) (s : List ℕ) : ℕ → ℕ → Ast → Type 0 where
    last : {i j : ℕ} {t : Ast} → Branch u s i j t → Pattern u s i j t
    more : {i k j : ℕ} {t v : Ast} → Branch u s i k t → byte s k ≡ 124 → Pattern u s (k + 1) j v → Pattern u s i j (alt t v)

  -- A branch: any number of pieces, also none.
  pub data Branch (u : ℕ) (s : List ℕ) : ℕ → ℕ → Ast → Type 0 where
    none : {i : ℕ} → Branch u s i i empty
    then : {i k j : ℕ} {t v : Ast} → Piece u s i k t → Branch u s k j v → Branch u s i j (cat t v)

  -- A piece: an atom and at most one quantifier.
  pub data Piece (u : ℕ) (s : List ℕ) : ℕ → ℕ → Ast → Type 0 where
    once : {i j : ℕ} {t : Ast} → Atom u s i j t → Piece u s i j t
    often : {i k j : ℕ} {t : Ast} {q : Repetition} → Atom u s i k t → Quantifier s k j q → Piece u s i j (repeat q t)

  -- An atom: a unit, a class `[body]` or `[^body]`, or a group `(pattern)`.
  pub data Atom (u : ℕ) (s : List ℕ) : ℕ → ℕ → Ast → Type 0 where
    one_unit : {i j : ℕ} {m : Codes} → OneUnit u s i j m → Atom u s i j (leaf i m)
    members : {i j : ℕ} {m : Codes} {r : Option ℕ} → byte s i ≡ 91 → Body u s (i + 1) j (m, r) → byte s j ≡ 93 → Atom u s i (j + 1) (class i m r)
    others : {i j : ℕ} {m : Codes} {r : Option ℕ} → byte s i ≡ 91 → byte s (i + 1) ≡ 94 → Body u s (i + 2) j (m, r) → byte s j ≡ 93 → Atom u s i (j + 1) (class i (other_codes (codes_of u) m) r)
    group : {i j : ℕ} {t : Ast} → byte s i ≡ 40 → Pattern u s (i + 1) j t → byte s j ≡ 41 → Atom u s i (j + 1) t

-- The whole text is a pattern, and t is its tree.
abbrev pub IsPattern : ℕ → List ℕ → Ast → Type 0
IsPattern u s t = Pattern u s 0 (length s) t

-- Some pattern begins with these bytes.
abbrev pub Begins : ℕ → List ℕ → Type 0
Begins u s = (ys : List ℕ) × (t : Ast) × IsPattern u (s ++ ys) t
