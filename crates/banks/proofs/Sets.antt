-- Sets of pairs that are equal, and a bank that a call leaves as it was.
use Rattle.std.proofs.Common.{◌≡◌, ℕ, false, ◌&&◌, refl, ap, arith}
use mathlib.Core.Path.{fun_ext}
use Rattle.banks.specs.Pairs.{Pairs, ◌∪◌, ◌∩◌}
use Rattle.banks.specs.Meaning.{Meaning, Keeps}

-- sets with the same pairs are equal
pub same_pairs : (s t : Pairs) → ((p i : ℕ) → s p i ≡ t p i) → s ≡ t
same_pairs s t h = fun_ext (λ p. fun_ext (λ i. h p i))

-- of equal sets each pair is in both or in neither
pub at_pair : (s t : Pairs) → s ≡ t → (p i : ℕ) → s p i ≡ t p i
at_pair s t e p i = ap (λ (u : Pairs). u p i) e

-- what is left of new pairs none of which lies within the widths changes nothing
pub nothing_new : (s new inside : Pairs) → ((p i : ℕ) → (new p i && inside p i) ≡ false) → s ≡ (s ∪ (new ∩ inside))
nothing_new s new inside h = same_pairs s (s ∪ (new ∩ inside)) (λ p i. let e = h p i in grind arith)

-- a bank in standing that stays as it is
pub keeps_itself : {B : Type 0} (m : Meaning B) (b : B) → m.standing b → Keeps m b b
keeps_itself m b h = record { stands = h; same_widths = refl; same_holds = λ s. ((λ x. x), (λ x. x)) }
