-- The body of a class, and the codes that it spells.
use Rattle.std.specs.Prelude.{◌≡◌, ℕ, ◌+◌, ◌*◌, Bool, ◌&&◌, ◌||◌, List, length, None, nat_le, nat_lt}
use Rattle.alphabets.specs.Colours.{number_of}
use Rattle.alphabets.specs.declared.colours.Colour.{Colour}
use Rattle.bits.specs.Members.{member}
use Rattle.bits.specs.declared.set.Set64.{Set64}
use Rattle.grammar.specs.Codes.{Codes}
use Rattle.grammar.specs.Grammar.{Body}

-- By the grammar of class bodies, in units of so many bytes, the bytes spell the codes that pass the test. No range in them runs backwards.
abbrev pub SpellsCodes : ℕ → List ℕ → (ℕ → Bool) → Type 0
SpellsCodes unit bytes test = (m : Codes) × Body unit bytes 0 (length bytes) (m, None) × ((c : ℕ) → m c ≡ test c)

-- What was spelled, and the codes that pass the test too.
abbrev pub SpellsMore : ℕ → List ℕ → List ℕ → (ℕ → Bool) → Type 0
SpellsMore unit old new test = (before : ℕ → Bool) → SpellsCodes unit old before → SpellsCodes unit new (λ c. before c || test c)

-- The codes of the set that are tiles of a colour.
abbrev pub codes_of_colour : Set64 → Colour → ℕ → Bool
codes_of_colour codes colour c = member codes c && (nat_le (10 * number_of colour) c && nat_lt c (10 * number_of colour + 10))
