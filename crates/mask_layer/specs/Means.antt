-- What a mask layer means, over what the bank below means.
use Rattle.std.specs.Prelude.{◌≡◌, ℕ, true, false, cond, not, ◌&&◌, Option, ◌==◌}
use Rattle.widths.specs.declared.data.Widths.{Widths}
use Rattle.widths.specs.Width.{width_in}
use Rattle.banks.specs.Pairs.{Pairs}
use Rattle.banks.specs.Meaning.{Meaning}
use Rattle.mask_layer.specs.declared.sets.PlaceSet.{PlaceSet}
use Rattle.mask_layer.specs.declared.layer.MaskLayer.{MaskLayer}
use Rattle.mask_layer.specs.Places.{placed, narrow}

-- the pairs at places that are not of width 1
abbrev pub wider : Option Widths → Pairs → Pairs
wider plan s = λ p i. not (narrow plan p) && s p i

-- at places of width 1 the set of places tells whether count 1 is there; at the others the set below
abbrev pub joined : Option Widths → PlaceSet → Pairs → Pairs
joined plan own below = λ p i. cond (narrow plan p) (i == 1 && placed own p) (below p i)

-- A mask layer is in standing where the bank below is, with the same widths, no count 0 in either set and no pair at a place of width 1 in its back,
-- and can hold its back.
pub record Stands {B : Type 0} (m : Meaning B) (w : MaskLayer B) : Type 0 where
  pub below : m.standing w.below
  pub agrees : m.widths w.below ≡ width_in w.plan
  pub front_counts : (p : ℕ) → m.front w.below p 0 ≡ false
  pub back_counts : (p : ℕ) → m.back w.below p 0 ≡ false
  pub clean : (p i : ℕ) → narrow w.plan p ≡ true → m.back w.below p i ≡ false
  pub able : m.holds w.below (m.back w.below)

-- its sets are joined of its own places and the sets below; it can hold a set exactly when the bank below can hold its pairs at wider places
abbrev pub masked : {B : Type 0} → Meaning B → Meaning (MaskLayer B)
masked m = record {
  standing = λ w. Stands m w;
  widths = λ w. m.widths w.below;
  front = λ w. joined w.plan w.front (m.front w.below);
  back = λ w. joined w.plan w.back (m.back w.below);
  holds = λ w s. m.holds w.below (wider w.plan s);
}
