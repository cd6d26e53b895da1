-- Each test decides its relation.
use Rattle.std.proofs.Common.{ℕ, suc, ◌+◌, ◌≤◌, Bool, true, false, ◌&&◌, leb, Decides, arith}
use Rattle.std.proofs.lemmas.Bool.Decides.{Decides-or, Decides-and, Decides-eqb, Decides-ltb, Decides-like, nat_tests}
use Rattle.automata.specs.Language.{Tree, empty, unit, cat, alt, star, plus, opt, rep, Flat, WellFormed}
use Rattle.automata.specs.Places.{size, nullable, First, Last, Holds, low, width}
use Rattle.automata.specs.Links.{Meet, Within, Next, Cross, Takes, Link}
use Rattle.automata.specs.Step.{Accepts}
use Rattle.automata.specs.Decide.{flatb, well_formedb, firstb, lastb, holdsb, meetb, withinb, nextb, crossb, takesb, linkb, acceptsb}
use Rattle.automata.proofs.Powers.{decides_T}
use Rattle.automata.specs.Theorems.{FormDecided, PlacesDecided, MeetingsDecided, LinksDecided}

-- ---- small tests

pub decides_leb : (a b : ℕ) → Decides (leb a b) (a ≤ b)
decides_leb a b = (λ e. grind (arith, nat_tests), λ h. grind (arith, nat_tests))

pub decides_⊥ : Decides false ⊥
decides_⊥ = decides_T false

pub decides_yes : Decides true (Unit {0})
decides_yes = decides_T true

-- ---- the form of a pattern

pub decides_flat : (e : Tree) → Decides (flatb e) (Flat e)
decides_flat empty = decides_yes
decides_flat (unit S) = decides_yes
decides_flat (cat a b) = Decides-and _ _ (decides_flat a) (decides_flat b)
decides_flat (alt a b) = Decides-and _ _ (decides_flat a) (decides_flat b)
decides_flat (star a) = decides_flat a
decides_flat (plus a) = decides_flat a
decides_flat (opt a) = decides_flat a
decides_flat (rep lo hi a) = decides_⊥

pub decides_formed : (e : Tree) → Decides (well_formedb e) (WellFormed e)
decides_formed empty = decides_yes
decides_formed (unit S) = decides_yes
decides_formed (cat a b) = Decides-and _ _ (decides_formed a) (decides_formed b)
decides_formed (alt a b) = Decides-and _ _ (decides_formed a) (decides_formed b)
decides_formed (star a) = decides_formed a
decides_formed (plus a) = decides_formed a
decides_formed (opt a) = decides_formed a
decides_formed (rep lo hi a) =
    Decides-like _ (λ t. (t.0, t.1.0, t.1.1)) (λ t. (t.0, (t.1, t.2)))
    (Decides-and _ _ (decides_leb lo hi) (Decides-and _ _ (decides_leb 1 hi) (decides_flat a)))

-- ---- places

pub decides_first : (e : Tree) (o p : ℕ) → Decides (firstb e o p) (First e o p)
decides_first empty o p = decides_⊥
decides_first (unit S) o p = Decides-eqb p (suc o)
decides_first (cat a b) o p = Decides-or _ _ (decides_first a o p) (Decides-and _ _ (decides_T (nullable a)) (decides_first b (o + size a) p))
decides_first (alt a b) o p = Decides-or _ _ (decides_first a o p) (decides_first b (o + size a) p)
decides_first (star a) o p = decides_first a o p
decides_first (plus a) o p = decides_first a o p
decides_first (opt a) o p = decides_first a o p
decides_first (rep lo hi a) o p = decides_first a o p

pub decides_last : (e : Tree) (o p : ℕ) → Decides (lastb e o p) (Last e o p)
decides_last empty o p = decides_⊥
decides_last (unit S) o p = Decides-eqb p (suc o)
decides_last (cat a b) o p = Decides-or _ _ (decides_last b (o + size a) p) (Decides-and _ _ (decides_T (nullable b)) (decides_last a o p))
decides_last (alt a b) o p = Decides-or _ _ (decides_last a o p) (decides_last b (o + size a) p)
decides_last (star a) o p = decides_last a o p
decides_last (plus a) o p = decides_last a o p
decides_last (opt a) o p = decides_last a o p
decides_last (rep lo hi a) o p = decides_last a o p

pub decides_holds : (e : Tree) (o p s : ℕ) → Decides (holdsb e o p s) (Holds e o p s)
decides_holds empty o p s = decides_⊥
decides_holds (unit S) o p s = Decides-and _ _ (Decides-eqb p (suc o)) (decides_T (S s))
decides_holds (cat a b) o p s = Decides-or _ _ (decides_holds a o p s) (decides_holds b (o + size a) p s)
decides_holds (alt a b) o p s = Decides-or _ _ (decides_holds a o p s) (decides_holds b (o + size a) p s)
decides_holds (star a) o p s = decides_holds a o p s
decides_holds (plus a) o p s = decides_holds a o p s
decides_holds (opt a) o p s = decides_holds a o p s
decides_holds (rep lo hi a) o p s = decides_holds a o p s

-- ---- links

-- a last of the one and a first of the other
decides_join :
    (a : Tree) (o : ℕ) (b : Tree) (m p q : ℕ) → Decides (lastb a o p && firstb b m q) (Last a o p × First b m q)
decides_join a o b m p q = Decides-and _ _ (decides_last a o p) (decides_first b m q)

pub decides_meet : (e : Tree) (o p q : ℕ) → Decides (meetb e o p q) (Meet e o p q)
decides_meet empty o p q = decides_⊥
decides_meet (unit S) o p q = decides_⊥
decides_meet (cat a b) o p q =
    Decides-or _ _ (Decides-or _ _ (decides_meet a o p q) (decides_meet b (o + size a) p q)) (decides_join a o b (o + size a) p q)
decides_meet (alt a b) o p q = Decides-or _ _ (decides_meet a o p q) (decides_meet b (o + size a) p q)
decides_meet (star a) o p q = Decides-or _ _ (decides_meet a o p q) (decides_join a o a o p q)
decides_meet (plus a) o p q = Decides-or _ _ (decides_meet a o p q) (decides_join a o a o p q)
decides_meet (opt a) o p q = decides_meet a o p q
decides_meet (rep lo hi a) o p q = decides_meet a o p q

pub decides_within : (e : Tree) (o p q : ℕ) → Decides (withinb e o p q) (Within e o p q)
decides_within empty o p q = decides_⊥
decides_within (unit S) o p q = decides_⊥
decides_within (cat a b) o p q = Decides-or _ _ (decides_within a o p q) (decides_within b (o + size a) p q)
decides_within (alt a b) o p q = Decides-or _ _ (decides_within a o p q) (decides_within b (o + size a) p q)
decides_within (star a) o p q = decides_within a o p q
decides_within (plus a) o p q = decides_within a o p q
decides_within (opt a) o p q = decides_within a o p q
decides_within (rep lo hi a) o p q = decides_meet a o p q

pub decides_next : (e : Tree) (o p q : ℕ) → Decides (nextb e o p q) (Next e o p q)
decides_next empty o p q = decides_⊥
decides_next (unit S) o p q = decides_⊥
decides_next (cat a b) o p q = Decides-or _ _ (decides_next a o p q) (decides_next b (o + size a) p q)
decides_next (alt a b) o p q = Decides-or _ _ (decides_next a o p q) (decides_next b (o + size a) p q)
decides_next (star a) o p q = decides_next a o p q
decides_next (plus a) o p q = decides_next a o p q
decides_next (opt a) o p q = decides_next a o p q
decides_next (rep lo hi a) o p q = Decides-or _ _ (decides_next a o p q) (decides_join a o a o p q)

pub decides_cross : (e : Tree) (o p q : ℕ) → Decides (crossb e o p q) (Cross e o p q)
decides_cross empty o p q = decides_⊥
decides_cross (unit S) o p q = decides_⊥
decides_cross (cat a b) o p q =
    Decides-or _ _ (Decides-or _ _ (decides_cross a o p q) (decides_cross b (o + size a) p q)) (decides_join a o b (o + size a) p q)
decides_cross (alt a b) o p q = Decides-or _ _ (decides_cross a o p q) (decides_cross b (o + size a) p q)
decides_cross (star a) o p q = Decides-or _ _ (decides_cross a o p q) (decides_join a o a o p q)
decides_cross (plus a) o p q = Decides-or _ _ (decides_cross a o p q) (decides_join a o a o p q)
decides_cross (opt a) o p q = decides_cross a o p q
decides_cross (rep lo hi a) o p q = decides_⊥

-- ---- pairs

-- The tests stand in the other order than the facts.
decides_swap : {P Q : Type 0} (x y : Bool) → Decides x P → Decides y Q → Decides (x && y) (Q × P)
decides_swap x y h k = Decides-like (x && y) (λ t. (t.1, t.0)) (λ t. (t.1, t.0)) (Decides-and x y h k)

decides_turn : {P Q R : Type 0} (x y z : Bool) → Decides x P → Decides y Q → Decides z R → Decides (x && (y && z)) (R × Q × P)
decides_turn x y z h k l =
    Decides-like (x && (y && z)) (λ t. (t.1.1, t.1.0, t.0)) (λ t. (t.2, (t.1, t.0))) (Decides-and x (y && z) h (Decides-and y z k l))

pub decides_takes : (e : Tree) (o p i q j : ℕ) → Decides (takesb e o p i q j) (Takes e o p i q j)
decides_takes e o p i q j =
    Decides-or _ _ (decides_swap _ _ (Decides-eqb j i) (decides_within e o p q))
    (Decides-or _ _
    (decides_turn _ _ _ (Decides-eqb j (suc i)) (Decides-ltb i (width e o p)) (decides_next e o p q))
    (decides_turn _ _ _ (Decides-eqb j 1) (decides_leb (low e o p) i) (decides_cross e o p q)))

pub decides_link : (e : Tree) (p i q j : ℕ) → Decides (linkb e p i q j) (Link e p i q j)
decides_link e p i q j =
    Decides-or _ _ (decides_takes e 0 p i q j)
    (Decides-like _ (λ t. (t.0, t.1.0, t.1.1, t.1.2)) (λ t. (t.0, (t.1, t.2, t.3)))
    (Decides-and _ _ (Decides-eqb p 0) (decides_turn _ _ _ (Decides-eqb j 1) (decides_leb 1 i) (decides_first e 0 q))))

pub decides_accepts : (e : Tree) (p i : ℕ) → Decides (acceptsb e p i) (Accepts e p i)
decides_accepts e p i =
    Decides-or _ _
    (Decides-like _ (λ t. (t.0, t.1.0, t.1.1)) (λ t. (t.0, (t.1, t.2)))
    (Decides-and _ _ (Decides-eqb p 0) (Decides-and _ _ (Decides-eqb i 1) (decides_T (nullable e)))))
    (Decides-and _ _ (decides_last e 0 p) (decides_leb (low e 0 p) i))

-- ---- the statements

pub form_decided : FormDecided
form_decided e = (decides_flat e, decides_formed e)

pub places_decided : PlacesDecided
places_decided e o p s = (decides_first e o p, decides_last e o p, decides_holds e o p s)

pub meetings_decided : MeetingsDecided
meetings_decided e o p q = (decides_meet e o p q, decides_within e o p q, decides_next e o p q, decides_cross e o p q)

pub links_decided : LinksDecided
links_decided e o p i q j = (decides_takes e o p i q j, decides_link e p i q j, decides_accepts e p i)
