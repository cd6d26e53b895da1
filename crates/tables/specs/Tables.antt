-- The table of a pattern: every field as the pattern's tree gives it.
use Rattle.std.specs.Prelude.{◌≡◌, ℕ, ◌≤◌, Bool, cond, ◌⊎◌, Decides, nat_le, slice_index_or}
use Rattle.automata.specs.Language.{Tree}
use Rattle.automata.specs.Places.{size, nullable, First, Last, Holds, low, width}
use Rattle.automata.specs.Links.{Within, Next, Cross}
use Rattle.bits.specs.Members.{member}
use Rattle.widths.specs.Width.{width_of}
use Rattle.checks.specs.Widths.{widths_of}
use Rattle.tables.specs.declared.table.Table.{Table}
use Rattle.tables.specs.Masks.{mask_at, within, next, cross, has_place, no_place}

-- The width of a number: that of the place, and 0 where there is no such place.
abbrev pub width_or_zero : Tree → ℕ → ℕ
width_or_zero e p = cond (nat_le p (size e)) (width e 0 p) 0

-- The low of a number: that of the place, and 0 where there is no such place.
abbrev pub low_or_zero : Tree → ℕ → ℕ
low_or_zero e p = cond (nat_le p (size e)) (low e 0 p) 0

-- The low that a table has for a number.
abbrev pub low_of : Table → ℕ → ℕ
low_of t p = (slice_index_or t.each p no_place).low

-- The set of codes at a place holds a code.
abbrev pub takes : Table → ℕ → ℕ → Bool
takes t p c = member (slice_index_or t.each p no_place).codes c

-- The mask of the links from p to q.
abbrev pub links_of : Table → ℕ → ℕ → ℕ
links_of t p q = mask_at t.links p q

-- A tree that a table has room for: at most 64 places, no width above 1,000, and widths that add to at most 4,096, the start's with them.
pub record Roomy (e : Tree) : Type 0 where
  pub places : size e ≤ 64
  pub wide : (p : ℕ) → width e 0 p ≤ 1000
  pub counts : widths_of e ≤ 4096

-- Every field of the table is as the tree gives it.
pub record TableOf (e : Tree) (t : Table) : Type 0 where
  pub places : t.places ≡ size e
  pub null : t.nullable ≡ nullable e
  pub sets : (p c : ℕ) → Decides (takes t p c) (Holds e 0 p c)
  pub widths : (p : ℕ) → width_of t.widths p ≡ width_or_zero e p
  pub lows : (p : ℕ) → low_of t p ≡ low_or_zero e p
  pub lasts : (p : ℕ) → Decides (has_place t.lasts p) (Last e 0 p)
  pub withins : (p q : ℕ) → Decides (within (links_of t p q)) (Within e 0 p q)
  pub nexts : (p q : ℕ) → Decides (next (links_of t p q)) (Next e 0 p q)
  -- the start has a cross link to every first
  pub crosses : (p q : ℕ) → Decides (cross (links_of t p q)) (Cross e 0 p q ⊎ ((p ≡ 0) × First e 0 q))
