-- Sweeps, one after another.
use Rattle.std.proofs.Common.{◌≡◌, ℕ, ◌<◌, Bool, true, false, ◌||◌, ◌⊎◌, List, sym, refl, ap, ◌∙◌, subst, ⊎_elim, arith}
use Rattle.std.proofs.lemmas.Bool.{both_ways}
use Rattle.std.proofs.lemmas.Bool.Decides.{nat_tests}
use Rattle.distances.specs.declared.graph.Graph.{Graph}
use Rattle.distances.specs.Graphs.{Pair}
use Rattle.distances.specs.Search.{Ground, Settled, Swept, Sweeps, rest}

-- nothing is written
swept_none : (g : Graph) (l : List ℕ) (V : ℕ → ℕ → Type 0) → Ground g l → ((p i : ℕ) → V p i → Pair g p i → Settled g l p i) → Swept g l l V false
swept_none g l V ground h = record {
  ground = ground;
  behind = λ k _. refl;
  falls = λ e. absurd (both_ways false refl e);
  still = λ e. (refl, h);
}

-- fewer pairs
swept_fewer : (g : Graph) (l m : List ℕ) (V W : ℕ → ℕ → Type 0) (b : Bool) → ((p i : ℕ) → W p i → Pair g p i → V p i) → Swept g l m V b → Swept g l m W b
swept_fewer g l m V W b f s = record {
  ground = s.ground;
  behind = s.behind;
  falls = s.falls;
  still = λ e. let t = s.still e in (t.0, λ p i w d. t.1 p i (f p i w d) d);
}

falls_join : (k l m : List ℕ) (a b : Bool) → (a ≡ true → rest l < rest k) → (a ≡ false → l ≡ k) → (b ≡ true → rest m < rest l) → (b ≡ false → m ≡ l) → (a || b) ≡ true → rest m < rest k
falls_join k l m true true fa sa fb sb e = let x = fa refl in let y = fb refl in omega arith
falls_join k l m true false fa sa fb sb e = let x = fa refl in let y : rest m ≡ rest l = ap rest (sb refl) in omega arith
falls_join k l m false true fa sa fb sb e = let x : rest l ≡ rest k = ap rest (sa refl) in let y = fb refl in omega arith
falls_join k l m false false fa sa fb sb e = absurd (both_ways false refl e)

-- one sweep after another covers what either covers
swept_more : (g : Graph) (k l m : List ℕ) (V W U : ℕ → ℕ → Type 0) (a b : Bool) → ((p i : ℕ) → U p i → Pair g p i → V p i ⊎ W p i) → Swept g k l V a → Swept g l m W b → Swept g k m U (a || b)
swept_more g k l m V W U a b f s t = record {
  ground = t.ground;
  behind = λ x h. t.behind x h ∙ s.behind x h;
  falls = falls_join k l m a b s.falls (λ e. (s.still e).0) t.falls (λ e. (t.still e).0);
  still = λ e.
      let x = s.still (grind (arith, nat_tests)) in
      let y = t.still (grind (arith, nat_tests)) in (
        y.0 ∙ x.0,
        λ p i u d.
            ⊎_elim
            (λ (w : V p i). subst (λ (n : List ℕ). Settled g n p i) (sym y.0) (x.1 p i w d))
            (λ (w : W p i). y.1 p i w d)
            (f p i u d),
      );
}

-- the same of sweeps of grounded marks
pub sweeps_none : (g : Graph) (l : List ℕ) (V : ℕ → ℕ → Type 0) → ((p i : ℕ) → V p i → Pair g p i → ⊥) → Sweeps g l l V false
sweeps_none g l V h = λ ground. swept_none g l V ground (λ p i v d. absurd (h p i v d))

pub sweeps_fewer : (g : Graph) (l m : List ℕ) (V W : ℕ → ℕ → Type 0) (b : Bool) → ((p i : ℕ) → W p i → Pair g p i → V p i) → Sweeps g l m V b → Sweeps g l m W b
sweeps_fewer g l m V W b f s = λ ground. swept_fewer g l m V W b f (s ground)

pub sweeps_more : (g : Graph) (k l m : List ℕ) (V W U : ℕ → ℕ → Type 0) (a b : Bool) → ((p i : ℕ) → U p i → Pair g p i → V p i ⊎ W p i) → Sweeps g k l V a → Sweeps g l m W b → Sweeps g k m U (a || b)
sweeps_more g k l m V W U a b f s t = λ ground. let x = s ground in swept_more g k l m V W U a b f x (t x.ground)
