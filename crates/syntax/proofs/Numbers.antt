-- A refusal is known by its number and its place.
use Rattle.std.proofs.Common.{◌≡◌, ℕ, ◌≤◌, cond, eqb, sym, refl, ap, ◌∙◌, lit≤}
use Rattle.refusals.specs.Numbering.{number_of}
use Rattle.refusals.specs.declared.Refusal.{Refusal}
use Rattle.refusals.specs.declared.Refusal.TheVariants.{Length, Byte, End, Range, Empty, Bounds, Nested, Places, Counts, Symbol, Work, Code, Full, Complete, Stuck, Memory}

-- the place that a refusal holds, and 0 where it holds none
abbrev pub place_in : Refusal → ℕ
place_in Length = 0
place_in (Byte p) = p
place_in (End p) = p
place_in (Range p) = p
place_in (Empty p) = p
place_in (Bounds p) = p
place_in (Nested p) = p
place_in (Places p) = p
place_in Counts = 0
place_in Symbol = 0
place_in Work = 0
place_in Code = 0
place_in Full = 0
place_in Complete = 0
place_in Stuck = 0
place_in Memory = 0

-- the refusal with a number and a place
abbrev pub refusal_of : ℕ → ℕ → Refusal
refusal_of n p =
    cond (eqb n 1) Length (cond (eqb n 2) (Byte p) (cond (eqb n 3) (End p) (cond (eqb n 4) (Range p) (cond (eqb n 5) (Empty p) (cond (eqb n 6) (Bounds p) (cond (eqb n 7) (Nested p) (cond (eqb n 8) (Places p) (cond (eqb n 9) Counts (cond (eqb n 10) Symbol (cond (eqb n 11) Work (cond (eqb n 12) Code (cond (eqb n 20) Full (cond (eqb n 21) Complete (cond (eqb n 22) Stuck Memory))))))))))))))

again : (r : Refusal) → refusal_of (number_of r) (place_in r) ≡ r
again Length = refl
again (Byte p) = refl
again (End p) = refl
again (Range p) = refl
again (Empty p) = refl
again (Bounds p) = refl
again (Nested p) = refl
again (Places p) = refl
again Counts = refl
again Symbol = refl
again Work = refl
again Code = refl
again Full = refl
again Complete = refl
again Stuck = refl
again Memory = refl

pub known : (r : Refusal) (n : ℕ) → number_of r ≡ n → r ≡ refusal_of n (place_in r)
known r n e = sym (again r) ∙ ap (λ k. refusal_of k (place_in r)) e

pub from_one : (r : Refusal) → 1 ≤ number_of r
from_one Length = lit≤ tt
from_one (Byte p) = lit≤ tt
from_one (End p) = lit≤ tt
from_one (Range p) = lit≤ tt
from_one (Empty p) = lit≤ tt
from_one (Bounds p) = lit≤ tt
from_one (Nested p) = lit≤ tt
from_one (Places p) = lit≤ tt
from_one Counts = lit≤ tt
from_one Symbol = lit≤ tt
from_one Work = lit≤ tt
from_one Code = lit≤ tt
from_one Full = lit≤ tt
from_one Complete = lit≤ tt
from_one Stuck = lit≤ tt
from_one Memory = lit≤ tt
