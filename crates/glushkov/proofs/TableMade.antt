-- The table that the passes leave is that of the tree.
use Rattle.std.proofs.Common.{◌≡◌, ℕ, zero, suc, ◌+◌, ◌<◌, ◌≤◌, Bool, false, cond, ◌&&◌, ◌||◌, eqb, ◌⊎◌, List, length, get_or, set, replicate, None, Decides, sym, refl, ap, ◌∙◌, inl, inr, zero-add, arith, get_or-set_other, get_or-set_same}
use Rattle.std.proofs.lemmas.List.{get_or_default}
use Rattle.std.proofs.lemmas.Bool.Decides.{nat_tests, eqb_tells, Decides-or, Decides-and, Decides-eqb}
use Rattle.automata.specs.Language.{Tree}
use Rattle.automata.specs.Places.{size, low, width}
use Rattle.automata.specs.Decide.{firstb, holdsb, crossb}
use Rattle.automata.proofs.Decide.{decides_first, decides_last, decides_holds, decides_within, decides_next, decides_cross}
use Rattle.automata.proofs.Widths.{start_bounds}
use Rattle.bits.specs.Bit.{bit}
use Rattle.bits.specs.Members.{member}
use Rattle.bits.specs.declared.set.Set64.{Set64}
use Rattle.bits.proofs.Laws.{bit_zero}
use Rattle.widths.specs.Width.{width_of, Sound}
use Rattle.tables.proofs.PastPlaces.{read_replicate, member_no_set}
use Rattle.glushkov.specs.declared.data.Counts.{Counts}
use Rattle.tables.specs.declared.links.Links.{Links}
use Rattle.tables.specs.declared.places.PlaceSet.{PlaceSet}
use Rattle.tables.specs.declared.table.LinkRow.{LinkRow}
use Rattle.tables.specs.declared.table.Place.{Place}
use Rattle.glushkov.specs.declared.data.Part.{Part}
use Rattle.tables.specs.declared.table.Table.{Table}
use Rattle.tables.specs.Masks.{no_links, no_row, no_place, mask_in, mask_at, has_place, joined}
use Rattle.glushkov.specs.Passes.{PartOf, LinksOf, CountsOf, Outside, FreshCounts, FreshRows}
use Rattle.tables.specs.Tables.{TableOf, Roomy, width_or_zero, low_or_zero}
use Rattle.glushkov.proofs.CountLaws.{holds_outside, side}
use Rattle.glushkov.proofs.LinkLaws.{bit_joined, mask_cross}
use Rattle.glushkov.proofs.WidthSums.{sum_widths}

-- No place but the start takes anything, and the start has the low 1.
pub fresh_codes : (s : Set64) → ((k : ℕ) → member s k ≡ false) → (p c : ℕ) → member (get_or (set (replicate 65 (record { codes = s; low = 0 })) 0 (record { codes = s; low = 1 })) p no_place).codes c ≡ false
fresh_codes s none zero c = none c
fresh_codes s none (suc p) c = read_replicate (λ (v : Place). member v.codes c ≡ false) 64 (record { codes = s; low = 0 }) no_place (none c) (member_no_set c) p

pub fresh_lows : (s : Set64) (p : ℕ) → (get_or (set (replicate 65 (record { codes = s; low = 0 })) 0 (record { codes = s; low = 1 })) p no_place).low ≡ cond (eqb p 0) 1 0
fresh_lows s zero = refl
fresh_lows s (suc p) = let z = read_replicate (λ (v : Place). v.low ≡ 0) 64 (record { codes = s; low = 0 }) no_place refl refl p in grind (arith, nat_tests)

pub fresh_masks : (row : LinkRow) (none : Links) → row.to ≡ replicate 65 none → none.mask ≡ 0 → (p q : ℕ) → mask_at (replicate 65 row) p q ≡ 0
fresh_masks row none e z p q =
    let here : mask_in row q ≡ 0 = ap (λ (v : List Links). (get_or v q no_links).mask) e ∙ read_replicate (λ (v : Links). v.mask ≡ 0) 65 none no_links z refl q in
    read_replicate (λ (r : LinkRow). mask_in r q ≡ 0) 65 row no_row here (read_replicate (λ (v : Links). v.mask ≡ 0) 65 no_links no_links refl refl q) p

-- A place of the pattern, or not.
placed : (n p : ℕ) → ((0 < p) × (p ≤ 0 + n)) ⊎ Outside 0 n p
placed n p = elim (side p 0) [ inl h ↦ inr (inl h) | inr h ↦ elim (side p (0 + n)) [ inl k ↦ inl (h, k) | inr k ↦ inr (inr k) ] ]

module _ (e : Tree) (old new : Counts) (f : FreshCounts old) (c : CountsOf e 0 None old new) where
  all_sets : (p s : ℕ) → member (get_or new.each p no_place).codes s ≡ holdsb e 0 p s
  all_sets p s =
      elim (placed (size e) p) [
        | inl h ↦ c.sets p s h.0 h.1
        | inr h ↦ ap (λ (v : Place). member v.codes s) (c.other_places p h) ∙ f.sets p s ∙ sym (holds_outside e 0 p s h)
      ]

  pub all_widths : (p : ℕ) → get_or new.widths p 0 ≡ width_or_zero e p
  all_widths p =
      elim (placed (size e) p) [
        | inl h ↦ let w = c.widths p h.0 h.1 in grind (arith, nat_tests)
        | inr (inl h) ↦
            let w = c.other_widths p (inl h) ∙ f.widths p in
            let start : width e 0 p ≡ 1 = ap (width e 0) (omega arith) ∙ (start_bounds e).1 in
            grind (arith, nat_tests)
        | inr (inr h) ↦ let w = c.other_widths p (inr h) ∙ f.widths p in grind (arith, nat_tests)
      ]

  all_lows : (p : ℕ) → (get_or new.each p no_place).low ≡ low_or_zero e p
  all_lows p =
      elim (placed (size e) p) [
        | inl h ↦ let w = c.lows p h.0 h.1 in grind (arith, nat_tests)
        | inr (inl h) ↦
            let w = ap (λ (v : Place). v.low) (c.other_places p (inl h)) ∙ f.lows p in
            let start : low e 0 p ≡ 1 = ap (low e 0) (omega arith) ∙ (start_bounds e).0 in
            grind (arith, nat_tests)
        | inr (inr h) ↦ let w = ap (λ (v : Place). v.low) (c.other_places p (inr h)) ∙ f.lows p in grind (arith, nat_tests)
      ]

  -- Widths that `Widths` refuses are those of a tree without room.
  pub no_room : length new.widths ≡ 65 → (Sound new.widths → ⊥) → Roomy e → ⊥
  no_room long refused room =
      let total = sum_widths new.widths (width e 0) (size e) long room.places all_widths in
      refused (record {
        start = (let w = all_widths 0 in let s = (start_bounds e).1 in grind (arith, nat_tests));
        each = λ p l. (let w = all_widths p in let r = room.wide p in grind (arith, nat_tests));
        total = (let r = room.counts in omega (arith, total));
      })

-- What a test decides, another equal to it decides.
same_test : {P : Type 0} (x y : Bool) → x ≡ y → Decides y P → Decides x P
same_test x y e d = (λ h. d.0 (sym e ∙ h), λ h. e ∙ d.1 h)

-- A cross link from the start to each place of a set.
pub start_linked :
    (mid : List LinkRow) (d row : LinkRow) (fs : PlaceSet) → 0 < length mid
    → ((q : ℕ) → mask_in row q ≡ joined (has_place fs q) (mask_in (get_or mid 0 d) q) 4)
    → (p q : ℕ) → mask_at (set mid 0 row) p q ≡ joined (eqb p 0 && has_place fs q) (mask_at mid p q) 4
start_linked mid d row fs h new p q =
    elim (eqb_tells p 0) [
      | inl t ↦
          let here : mask_at (set mid 0 row) p q ≡ mask_in row q = ap (λ (r : LinkRow). mask_in r q) (ap (λ j. get_or (set mid 0 row) j no_row) t.1 ∙ get_or-set_same mid 0 row no_row h) in
          let same : mask_in (get_or mid 0 d) q ≡ mask_at mid p q = ap (λ (r : LinkRow). mask_in r q) (get_or_default mid 0 d no_row h ∙ ap (λ j. get_or mid j no_row) (sym t.1)) in
          let added = new q in
          grind (arith, nat_tests)
      | inr t ↦
          let same : mask_at (set mid 0 row) p q ≡ mask_at mid p q = ap (λ (r : LinkRow). mask_in r q) (get_or-set_other mid 0 p row no_row t.1) in
          grind (arith, nat_tests)
    ]

pub table_made :
    (e : Tree) (t : Table) (old new : Counts) (fresh mid : List LinkRow) (r : Part) → t.places ≡ 0 + size e → FreshCounts old → CountsOf e 0 None old new
    → t.each ≡ new.each → ((p : ℕ) → width_of t.widths p ≡ get_or new.widths p 0)
    → PartOf e 0 r → t.nullable ≡ r.nullable → t.lasts ≡ r.lasts → FreshRows fresh → LinksOf e 0 false fresh mid
    → ((p q : ℕ) → mask_at t.links p q ≡ joined (eqb p 0 && has_place r.firsts q) (mask_at mid p q) 4) → TableOf e t
table_made e t old new fresh mid r u f c each widths h n l none k j =
    let b = mask_cross in
    let clear : (i p q : ℕ) → bit (mask_at fresh p q) i ≡ false = (λ i p q. ap (λ v. bit v i) (none.1 p q) ∙ bit_zero i) in
    record {
      places = u ∙ zero-add (size e);
      null = n ∙ h.null;
      sets = λ p s. same_test _ _ (ap (λ (v : List Place). member (get_or v p no_place).codes s) each ∙ all_sets e old new f c p s) (decides_holds e 0 p s);
      widths = λ p. widths p ∙ all_widths e old new f c p;
      lows = λ p. ap (λ (v : List Place). (get_or v p no_place).low) each ∙ all_lows e old new f c p;
      lasts = λ p. same_test _ _ (ap (λ (v : PlaceSet). has_place v p) l ∙ h.lasts p) (decides_last e 0 p);
      withins = λ p q. same_test _ _ (let a = bit_joined 0 _ (mask_at mid p q) 4 _ (j p q) in let w = k.withins p q in let z = clear 0 p q in grind (arith, nat_tests)) (decides_within e 0 p q);
      nexts = λ p q. same_test _ _ (let a = bit_joined 1 _ (mask_at mid p q) 4 _ (j p q) in let w = k.nexts p q in let z = clear 1 p q in grind (arith, nat_tests)) (decides_next e 0 p q);
      crosses = λ p q.
          same_test _ (crossb e 0 p q || (eqb p 0 && firstb e 0 q)) (let a = bit_joined 2 _ (mask_at mid p q) 4 _ (j p q) in let w = k.crosses p q in let z = clear 2 p q in let g = h.firsts q in grind (arith, nat_tests))
          (Decides-or _ _ (decides_cross e 0 p q) (Decides-and _ _ (Decides-eqb p 0) (decides_first e 0 q)));
    }
