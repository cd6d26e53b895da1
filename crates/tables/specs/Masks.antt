-- What link masks and sets of places say.
use Rattle.std.specs.Prelude.{ℕ, ◌-◌, Bool, cond, ◌&&◌, List, replicate, bit_or, nat_lt, slice_index_or, refl}
use Rattle.std.proofs.Common.{lit<}
use Rattle.bits.specs.declared.set.Set64.{Set64}
use Rattle.bits.specs.Bit.{bit}
use Rattle.bits.specs.Members.{member}
use Rattle.tables.specs.declared.links.Link.{Link}
use Rattle.tables.specs.declared.links.Link.TheVariants.{Within, Next, Cross}
use Rattle.tables.specs.declared.links.Links.{Links}
use Rattle.tables.specs.declared.places.PlaceSet.{PlaceSet}
use Rattle.tables.specs.declared.table.LinkRow.{LinkRow}
use Rattle.tables.specs.declared.table.Place.{Place}

-- No links, and a row without links.
abbrev pub no_links : Links
no_links = record { mask = 0 }

abbrev pub no_row : LinkRow
no_row = record { to = replicate 65 no_links; long = refl }

-- A set without codes.
abbrev pub no_set : Set64
no_set = record { bits = 0; small = lit< tt }

-- A number that is no place: it takes nothing.
abbrev pub no_place : Place
no_place = record { codes = no_set; low = 0 }

-- The mask of the links from a row's place to q, and from p to q.
abbrev pub mask_in : LinkRow → ℕ → ℕ
mask_in row q = (slice_index_or row.to q no_links).mask

abbrev pub mask_at : List LinkRow → ℕ → ℕ → ℕ
mask_at rows p q = mask_in (slice_index_or rows p no_row) q

-- The bits of a mask: a within link, a next link, a cross link.
abbrev pub within : ℕ → Bool
within m = bit m 0

abbrev pub next : ℕ → Bool
next m = bit m 1

abbrev pub cross : ℕ → Bool
cross m = bit m 2

-- The mask has the link.
abbrev pub has_link : ℕ → Link → Bool
has_link m Within = within m
has_link m Next = next m
has_link m Cross = cross m

-- The mask of a link alone.
abbrev pub mask_of : Link → ℕ
mask_of Within = 1
mask_of Next = 2
mask_of Cross = 4

-- The place p, which is 1 or more, is in the set: its number less one is a member.
abbrev pub has_place : PlaceSet → ℕ → Bool
has_place s p = nat_lt 0 p && member s.numbers (p - 1)

-- The mask x, with the links of m too where b holds.
abbrev pub joined : Bool → ℕ → ℕ → ℕ
joined b x m = cond b (bit_or x m) x
