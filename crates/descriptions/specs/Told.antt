-- What is told of a place, by the table alone.
use Rattle.std.specs.Prelude.{◌≡◌, ℕ, ◌+◌, ◌<◌, ◌&&◌, List, vec_items, nat_lt, slice_index, slice_index_or}
use Rattle.bits.specs.Members.{member}
use Rattle.grammar.specs.Codes.{codes_of}
use Rattle.alphabets.specs.Alphabets.{unit_of}
use Rattle.alphabets.specs.declared.Alphabet.{Alphabet}
use Rattle.widths.specs.Width.{width_of}
use Rattle.tables.specs.Masks.{cross, has_place}
use Rattle.tables.specs.Tables.{takes, low_of, links_of}
use Rattle.tables.specs.declared.table.Table.{Table}
use Rattle.descriptions.specs.declared.data.Place.{Place}
use Rattle.class_bodies.specs.ClassBody.{SpellsCodes}

-- The place with the number p, which stands at the byte b. The start has a cross link to every first.
pub record Told (a : Alphabet) (t : Table) (p b : ℕ) (r : Place) : Type 0 where
  pub byte : r.byte ≡ b
  pub codes : (c : ℕ) → member r.codes c ≡ takes t p c
  pub spelled : SpellsCodes (unit_of a) (vec_items r.spelled) (λ c. member r.codes c && nat_lt c (codes_of (unit_of a)))
  pub width : r.width ≡ width_of t.widths p
  pub low : r.low ≡ low_of t p
  pub first : r.first ≡ cross (links_of t 0 p)
  pub last : r.last ≡ has_place t.lasts p

-- The first n places in their order, with the bytes where they stand.
abbrev pub EachTold : Alphabet → Table → List ℕ → List Place → ℕ → Type 0
EachTold a t bytes rs n = (k : ℕ) (d : Place) → k < n → Told a t (k + 1) (slice_index bytes k) (slice_index_or rs k d)
