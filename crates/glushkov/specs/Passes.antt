-- What the passes over a part of the pattern write and answer. The part is e, and its places begin behind o.
use Rattle.std.specs.Prelude.{◌≡◌, ℕ, ◌+◌, ◌<◌, ◌≤◌, Bool, false, cond, ◌||◌, ◌⊎◌, List, length, Some, None, Option, ◌==◌, slice_index, slice_index_or}
use Rattle.automata.specs.Language.{Tree}
use Rattle.automata.specs.Places.{size, nullable, low, width}
use Rattle.automata.specs.Decide.{firstb, lastb, holdsb, meetb, withinb, nextb, crossb}
use Rattle.bits.specs.declared.set.Set64.{Set64}
use Rattle.bits.specs.Members.{member}
use Rattle.glushkov.specs.declared.data.Counts.{Counts}
use Rattle.tables.specs.declared.table.LinkRow.{LinkRow}
use Rattle.glushkov.specs.declared.data.Part.{Part}
use Rattle.tables.specs.Masks.{mask_at, within, next, cross, has_place, no_place}

-- What is told of a part.
pub record PartOf (e : Tree) (o : ℕ) (r : Part) : Type 0 where
  pub upto : r.upto ≡ o + size e
  pub null : r.nullable ≡ nullable e
  pub firsts : (p : ℕ) → has_place r.firsts p ≡ firstb e o p
  pub lasts : (p : ℕ) → has_place r.lasts p ≡ lastb e o p

-- The new links are the old ones and those of the part. Inside a counted repeat's body every meeting is within, and none is cross.
pub record LinksOf (e : Tree) (o : ℕ) (inside : Bool) (old new : List LinkRow) : Type 0 where
  pub withins : (p q : ℕ) → within (mask_at new p q) ≡ (within (mask_at old p q) || cond inside (meetb e o p q) (withinb e o p q))
  pub nexts : (p q : ℕ) → next (mask_at new p q) ≡ (next (mask_at old p q) || nextb e o p q)
  pub crosses : (p q : ℕ) → cross (mask_at new p q) ≡ (cross (mask_at old p q) || cond inside false (crossb e o p q))

-- The low and the width of a place: those that a counted repeat around the part gives, else its own.
abbrev pub low_in : Option (ℕ × ℕ) → Tree → ℕ → ℕ → ℕ
low_in None e o p = low e o p
low_in (Some b) e o p = b.0

abbrev pub width_in : Option (ℕ × ℕ) → Tree → ℕ → ℕ → ℕ
width_in None e o p = width e o p
width_in (Some b) e o p = b.1

-- p is no place of a part of n places behind o.
abbrev pub Outside : ℕ → ℕ → ℕ → Type 0
Outside o n p = (p ≤ o) ⊎ (o + n < p)

-- The places of the part have their codes, widths and lows; the others have what they had.
pub record CountsOf (e : Tree) (o : ℕ) (b : Option (ℕ × ℕ)) (old new : Counts) : Type 0 where
  pub sets : (p s : ℕ) → o < p → p ≤ o + size e → member (slice_index_or new.each p no_place).codes s ≡ holdsb e o p s
  pub widths : (p : ℕ) → o < p → p ≤ o + size e → slice_index new.widths p ≡ width_in b e o p
  pub lows : (p : ℕ) → o < p → p ≤ o + size e → (slice_index_or new.each p no_place).low ≡ low_in b e o p
  pub other_places : (p : ℕ) → Outside o (size e) p → slice_index_or new.each p no_place ≡ slice_index_or old.each p no_place
  pub other_widths : (p : ℕ) → Outside o (size e) p → slice_index new.widths p ≡ slice_index old.widths p

-- The low and the width of a place outside every counted repeat are 1 and 1.
abbrev pub bounds_or : Option (ℕ × ℕ) → ℕ × ℕ
bounds_or None = (1, 1)
bounds_or (Some b) = b

-- One place is written.
pub record Written (p : ℕ) (codes : Set64) (b : ℕ × ℕ) (old new : Counts) : Type 0 where
  pub places : (q : ℕ) → slice_index_or new.each q no_place ≡ cond (q == p) (record { codes = codes; low = b.0 }) (slice_index_or old.each q no_place)
  pub widths : (q : ℕ) → slice_index new.widths q ≡ cond (q == p) b.1 (slice_index old.widths q)

-- Before the passes: no place but the start, which has width 1 and low 1.
pub record FreshCounts (c : Counts) : Type 0 where
  pub sets : (p s : ℕ) → member (slice_index_or c.each p no_place).codes s ≡ false
  pub widths : (p : ℕ) → slice_index c.widths p ≡ cond (p == 0) 1 0
  pub lows : (p : ℕ) → (slice_index_or c.each p no_place).low ≡ cond (p == 0) 1 0

-- Before the passes: no links.
abbrev pub FreshRows : List LinkRow → Type 0
FreshRows rows = (length rows ≡ 65) × ((p q : ℕ) → mask_at rows p q ≡ 0)
