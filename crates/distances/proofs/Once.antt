-- The local facts of distances leave no choice, so that an area that holds them is told number by number.
use Rattle.std.proofs.Common.{◌≡◌, ℕ, zero, suc, ◌+◌, ◌-◌, ◌<◌, ◌≤◌, Bool, true, false, cond, leb, get_or, sym, refl, ap, ◌∙◌, ⊎_elim, arith}
use Rattle.std.proofs.lemmas.Bool.{cases_lt}
use Rattle.std.proofs.lemmas.Bool.Decides.{nat_tests}
use Rattle.automata.specs.Language.{Tree, WellFormed}
use Rattle.automata.specs.Places.{size, width}
use Rattle.automata.specs.Distances.{Inside, Labelled}
use Rattle.automata.proofs.Distances.{labels_right}
use Rattle.widths.specs.Width.{width_of, base_of}
use Rattle.tables.specs.declared.table.Table.{Table}
use Rattle.tables.specs.Tables.{TableOf}
use Rattle.distances.specs.Marks.{mark_at, MeasuredOnce}
use Rattle.distances.proofs.Numbers.{pair_of_number}
use Rattle.distances.proofs.Trees.{mark_at_lem}

-- two tables of labels have the same label at each pair
pub labels_once : (e : Tree) (l m : ℕ → ℕ → ℕ) (p i : ℕ) → WellFormed e → Labelled e l → Labelled e m → Inside e p i → l p i ≡ m p i
labels_once e l m p i h a b f = go (l p i) refl
  where
    go : (n : ℕ) → l p i ≡ n → n ≡ m p i
    go zero is = sym ((labels_right e m p i h b f).1.1 ((labels_right e l p i h a f).1.0 is))
    go (suc k) is = sym (((labels_right e m p i h b f).0 k).1 (((labels_right e l p i h a f).0 k).0 is))

-- a count from 1 to the width belongs to a place of the pattern
place_inside : (e : Tree) (t : Table) (p i : ℕ) → TableOf e t → 1 ≤ i → i ≤ width_of t.widths p → Inside e p i
place_inside e t p i of a b = go (leb p (size e)) refl
  where
    go : (c : Bool) → leb p (size e) ≡ c → Inside e p i
    go true is =
        let w : width_of t.widths p ≡ width e 0 p = of.widths p ∙ ap (λ (x : Bool). cond x (width e 0 p) 0) is in
        (grind (arith, nat_tests), a, omega arith)
    go false is =
        let w : width_of t.widths p ≡ 0 = of.widths p ∙ ap (λ (x : Bool). cond x (width e 0 p) 0) is in
        let z : ⊥ = omega arith in
        absurd z

pub measured_once : MeasuredOnce
measured_once e t old new other h of a b k = ⊎_elim
    (λ (inner : k < base_of t.widths 65).
    let (p, i, s, u, v, is) = pair_of_number t.widths 65 k (omega arith) inner in
    let x = mark_at_lem t.widths new p i u v in
    let y = mark_at_lem t.widths other p i u v in
    let one = labels_once e (mark_at t.widths new) (mark_at t.widths other) p i h (a.labels e h of) (b.labels e h of) (place_inside e t p i of u v) in
    let n : get_or new k 0 ≡ get_or new (base_of t.widths p + (i - 1)) 0 = ap (λ (j : ℕ). get_or new j 0) is in
    let o : get_or other k 0 ≡ get_or other (base_of t.widths p + (i - 1)) 0 = ap (λ (j : ℕ). get_or other j 0) is in
    n ∙ sym x ∙ one ∙ y ∙ sym o)
    (λ (outer : base_of t.widths 65 ≤ k).
    ⊎_elim
    (λ (l : k < 4096). a.spare k outer l ∙ sym (b.spare k outer l))
    (λ (l : 4096 ≤ k). a.beyond k l ∙ sym (b.beyond k l))
    (cases_lt k 4096))
    (cases_lt k (base_of t.widths 65))
