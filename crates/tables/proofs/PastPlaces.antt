-- What is read of a table at numbers that are no places.
use Rattle.std.proofs.Common.{◌≡◌, ℕ, zero, suc, ◌-◌, ◌≤◌, false, List, length, get_or, replicate, refl, ap, ◌∙◌, arith}
use Rattle.std.proofs.lemmas.List.{get_or_past}
use Rattle.std.proofs.lemmas.Bool.Decides.{nat_tests}
use Rattle.bits.specs.Members.{member}
use Rattle.bits.proofs.Laws.{bit_zero}
use Rattle.bits.proofs.Members.{member_past}
use Rattle.tables.specs.declared.links.Links.{Links}
use Rattle.tables.specs.declared.places.PlaceSet.{PlaceSet}
use Rattle.tables.specs.declared.table.LinkRow.{LinkRow}
use Rattle.tables.specs.declared.table.Place.{Place}
use Rattle.tables.specs.Masks.{no_place, no_links, no_row, no_set, mask_in, mask_at, has_place}

-- What holds of an element and of the default holds wherever a list of it is read.
pub read_replicate : {A : Type 0} (P : A → Type 0) (n : ℕ) (x d : A) → P x → P d → (i : ℕ) → P (get_or (replicate n x) i d)
read_replicate P zero x d h k i = k
read_replicate P (suc n) x d h k zero = h
read_replicate P (suc n) x d h k (suc i) = read_replicate P n x d h k i

pub member_no_set : (s : ℕ) → member no_set s ≡ false
unfolding member
member_no_set s = bit_zero s

-- A number that is no place takes no code.
pub codes_past : (each : List Place) (p c : ℕ) → length each ≤ p → member (get_or each p no_place).codes c ≡ false
codes_past each p c h = ap (λ (v : Place). member v.codes c) (get_or_past each p no_place h) ∙ member_no_set c

-- No place past 64 is in a set.
pub has_place_past : (s : PlaceSet) (p : ℕ) → 65 ≤ p → has_place s p ≡ false
has_place_past s p h = let m : member s.numbers (p - 1) ≡ false = member_past s.numbers (p - 1) (omega arith) in grind (arith, nat_tests)

-- No links from a number that is no place.
pub mask_past : (rows : List LinkRow) (p q : ℕ) → length rows ≤ p → mask_at rows p q ≡ 0
mask_past rows p q h = ap (λ (r : LinkRow). mask_in r q) (get_or_past rows p no_row h) ∙ read_replicate (λ (v : Links). v.mask ≡ 0) 65 no_links no_links refl refl q

-- No links to a number that is no place.
pub mask_past_to : (rows : List LinkRow) (p q : ℕ) → 65 ≤ q → mask_at rows p q ≡ 0
mask_past_to rows p q h = let e = (get_or rows p no_row).long in ap (λ (l : Links). l.mask) (get_or_past (get_or rows p no_row).to q no_links (omega arith))
