-- What is written for the places of one part and then for those of another.
use Rattle.std.proofs.Common.{◌≡◌, ℕ, ◌+◌, ◌<◌, ◌≤◌, Bool, true, false, ◌⊎◌, get_or, Some, None, Option, Box, sym, refl, ap, ◌∙◌, subst, inl, inr, arith}
use Rattle.std.proofs.lemmas.Bool.{cases_lt}
use Rattle.std.proofs.lemmas.Bool.Decides.{nat_tests}
use Rattle.automata.specs.Language.{Tree, cat, alt}
use Rattle.automata.specs.Places.{size}
use Rattle.automata.specs.Decide.{holdsb}
use Rattle.automata.proofs.Decide.{decides_holds}
use Rattle.automata.proofs.Ranges.{holds_range}
use Rattle.tables.specs.declared.table.Place.{Place}
use Rattle.bits.specs.Members.{member}
use Rattle.std.specs.declared.alloc.Global.{Global}
use Rattle.grammar.specs.declared.tree.Node.{Node, Cat, Alt}
use Rattle.glushkov.specs.declared.data.Counts.{Counts}
use Rattle.glushkov.specs.Nodes.{tree_in}
use Rattle.tables.specs.Masks.{no_place}
use Rattle.glushkov.specs.Passes.{CountsOf, Outside, low_in, width_in}

outside_left : (x y o p : ℕ) → Outside o (x + y) p → Outside o x p
outside_left x y o p (inl h) = inl h
outside_left x y o p (inr h) = inr (omega arith)

outside_right : (x y o p : ℕ) → Outside o (x + y) p → Outside (o + x) y p
outside_right x y o p (inl h) = inl (omega arith)
outside_right x y o p (inr h) = inr (omega arith)

inside_out : (o n p : ℕ) → Outside o n p → (o < p) × (p ≤ o + n) → ⊥
inside_out o n p (inl h) k = omega arith
inside_out o n p (inr h) k = omega arith

-- A place outside the part takes no code in it.
pub holds_outside : (e : Tree) (o p s : ℕ) → Outside o (size e) p → holdsb e o p s ≡ false
holds_outside e o p s h = go (holdsb e o p s) refl
  where
    go : (b : Bool) → holdsb e o p s ≡ b → b ≡ false
    go true is = absurd (inside_out o (size e) p h (holds_range e o p s ((decides_holds e o p s).0 is)))
    go false is = refl

width_left : (b : Option (ℕ × ℕ)) (x y : Tree) (o p : ℕ) → p ≤ o + size x → width_in b (cat x y) o p ≡ width_in b x o p
width_left None x y o p h = grind (arith, nat_tests)
width_left (Some b) x y o p h = refl

width_right : (b : Option (ℕ × ℕ)) (x y : Tree) (o p : ℕ) → o + size x < p → width_in b (cat x y) o p ≡ width_in b y (o + size x) p
width_right None x y o p h = grind (arith, nat_tests)
width_right (Some b) x y o p h = refl

low_left : (b : Option (ℕ × ℕ)) (x y : Tree) (o p : ℕ) → p ≤ o + size x → low_in b (cat x y) o p ≡ low_in b x o p
low_left None x y o p h = grind (arith, nat_tests)
low_left (Some b) x y o p h = refl

low_right : (b : Option (ℕ × ℕ)) (x y : Tree) (o p : ℕ) → o + size x < p → low_in b (cat x y) o p ≡ low_in b y (o + size x) p
low_right None x y o p h = grind (arith, nat_tests)
low_right (Some b) x y o p h = refl

-- At or before, or behind.
pub side : (p m : ℕ) → (p ≤ m) ⊎ (m < p)
side p m = elim (cases_lt m p) [ inl h ↦ inr h | inr h ↦ inl h ]

module _ (x y : Tree) (o : ℕ) (b : Option (ℕ × ℕ)) (old mid new : Counts) (l : CountsOf x o b old mid) (r : CountsOf y (o + size x) b mid new) where
  both_sets : (p s : ℕ) → o < p → p ≤ o + (size x + size y) → member (get_or new.each p no_place).codes s ≡ holdsb (cat x y) o p s
  both_sets p s h k =
      elim (side p (o + size x)) [
        | inl t ↦
            let u : member (get_or new.each p no_place).codes s ≡ holdsb x o p s = ap (λ (v : Place). member v.codes s) (r.other_places p (inl t)) ∙ l.sets p s h t in
            let v = holds_outside y (o + size x) p s (inl t) in
            grind (arith, nat_tests)
        | inr t ↦
            let u = r.sets p s t (omega arith) in
            let v = holds_outside x o p s (inr t) in
            grind (arith, nat_tests)
      ]

  both_widths : (p : ℕ) → o < p → p ≤ o + (size x + size y) → get_or new.widths p 0 ≡ width_in b (cat x y) o p
  both_widths p h k =
      elim (side p (o + size x)) [
        | inl t ↦ r.other_widths p (inl t) ∙ l.widths p h t ∙ sym (width_left b x y o p t)
        | inr t ↦ r.widths p t (omega arith) ∙ sym (width_right b x y o p t)
      ]

  both_lows : (p : ℕ) → o < p → p ≤ o + (size x + size y) → (get_or new.each p no_place).low ≡ low_in b (cat x y) o p
  both_lows p h k =
      elim (side p (o + size x)) [
        | inl t ↦ ap (λ (v : Place). v.low) (r.other_places p (inl t)) ∙ l.lows p h t ∙ sym (low_left b x y o p t)
        | inr t ↦ r.lows p t (omega arith) ∙ sym (low_right b x y o p t)
      ]

  both : CountsOf (cat x y) o b old new
  both =
      record {
        sets = both_sets;
        widths = both_widths;
        lows = both_lows;
        other_places = λ p h. r.other_places p (outside_right (size x) (size y) o p h) ∙ l.other_places p (outside_left (size x) (size y) o p h);
        other_widths = λ p h. r.other_widths p (outside_right (size x) (size y) o p h) ∙ l.other_widths p (outside_left (size x) (size y) o p h);
      }

-- Alternatives have the places of a sequence.
as_alt : (b : Option (ℕ × ℕ)) (x y : Tree) (o : ℕ) (old new : Counts) → CountsOf (cat x y) o b old new → CountsOf (alt x y) o b old new
as_alt None x y o old new c = record { sets = c.sets; widths = c.widths; lows = c.lows; other_places = c.other_places; other_widths = c.other_widths }
as_alt (Some b) x y o old new c = record { sets = c.sets; widths = c.widths; lows = c.lows; other_places = c.other_places; other_widths = c.other_widths }

-- A sequence or alternatives have the places of both parts.
module _ {n : Node} {a b : Box Node Global} where
  pub pair_size : (n ≡ Cat a b) ⊎ (n ≡ Alt a b) → size (tree_in n) ≡ size (tree_in a.value) + size (tree_in b.value)
  pair_size (inl e) = ap (λ v. size (tree_in v)) e
  pair_size (inr e) = ap (λ v. size (tree_in v)) e

  pub pair_counts :
      (o m : ℕ) (bounds : Option (ℕ × ℕ)) (old mid new : Counts) → (n ≡ Cat a b) ⊎ (n ≡ Alt a b) → m ≡ o + size (tree_in a.value)
      → CountsOf (tree_in a.value) o bounds old mid → CountsOf (tree_in b.value) m bounds mid new → CountsOf (tree_in n) o bounds old new
  pair_counts o m bounds old mid new is e l r =
      let c = both (tree_in a.value) (tree_in b.value) o bounds old mid new l (subst (λ v. CountsOf (tree_in b.value) v bounds mid new) e r) in
      elim is [
        | inl i ↦ subst (λ v. CountsOf v o bounds old new) (sym (ap tree_in i)) c
        | inr i ↦ subst (λ v. CountsOf v o bounds old new) (sym (ap tree_in i)) (as_alt bounds _ _ o old new c)
      ]
