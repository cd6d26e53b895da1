-- The two facts about what a mask layer can hold, from those of the bank below: here, since the layer gives them with its meaning.
use Rattle.std.proofs.Common.{arith}
use Rattle.banks.specs.Pairs.{none}
use Rattle.banks.specs.Meaning.{Meaning, Facts}
use Rattle.mask_layer.specs.Means.{wider, masked}

pub masked_facts : {B : Type 0} (m : Meaning B) → Facts m → Facts (masked m)
masked_facts m f = record {
  empty = λ w h. f.fewer w.below (wider w.plan none) none h.below (λ p i e. grind arith) (f.empty w.below h.below);
  fewer = λ w s t h st. f.fewer w.below (wider w.plan s) (wider w.plan t) h.below (λ p i e. let x = st p i in grind arith);
}
