-- The graph of a pattern's table is the pattern's: its pairs, links and accepting pairs; so settled marks are distances in the pattern.
use Rattle.automata.proofs.Powers.{decides_T}
use Rattle.std.proofs.lemmas.Float.{T_from_true}
use Rattle.std.proofs.Common.{◌≡◌, ℕ, suc, ◌+◌, ◌-◌, ◌≤◌, Bool, true, cond, ◌&&◌, eqb, leb, ◌⊎◌, List, length, get_or, Decides, sym, ap, ◌∙◌, inl, inr, arith}
use Rattle.std.proofs.lemmas.Bool.Decides.{nat_tests, Decides-and, Decides-or, Decides-eqb}
use Rattle.automata.specs.Language.{Tree, WellFormed}
use Rattle.automata.specs.Places.{size, nullable, First, low, width}
use Rattle.automata.specs.Links.{Cross, Link as TreeLink}
use Rattle.automata.specs.Step.{Accepts}
use Rattle.automata.specs.Distances.{Inside, Labelled}
use Rattle.automata.proofs.Ranges.{link_range}
use Rattle.automata.proofs.Widths.{link_inside, start_bounds}
use Rattle.widths.specs.declared.data.Widths.{Widths}
use Rattle.widths.specs.Width.{width_of, widths_of, base_of}
use Rattle.tables.specs.Masks.{has_place}
use Rattle.tables.specs.Tables.{TableOf, low_of}
use Rattle.distances.specs.declared.graph.Graph.{Graph}
use Rattle.distances.specs.Graphs.{Pair, Goes, Leads, accepting, mark_in, width_in}
use Rattle.distances.specs.Marks.{mark_at}
use Rattle.distances.specs.Search.{Ground, Settled}
use Rattle.distances.proofs.Closing.{mark_steps, mark_small}

-- the mark of a count that the place has
pub mark_at_lem : (w : Widths) (l : List ℕ) (p i : ℕ) → 1 ≤ i → i ≤ width_of w p → mark_at w l p i ≡ get_or l (base_of w p + (i - 1)) 0
mark_at_lem w l p i a b = let t : (leb 1 i && leb i (width_of w p)) ≡ true = grind (arith, nat_tests) in ap (λ (x : Bool). cond x (get_or l (base_of w p + (i - 1)) 0) 0) t

-- the test of an accepting pair, in parts
accepting_parts : (g : Graph) (p i : ℕ) → Decides (accepting g p i) (((p ≡ 0) × (g.table.now.nullable ≡ true)) ⊎ ((has_place g.table.now.lasts p ≡ true) × (low_of g.table.now p ≤ i)))
accepting_parts g p i =
    Decides-or (eqb p 0 && g.table.now.nullable) (has_place g.table.now.lasts p && leb (low_of g.table.now p) i)
    (Decides-and (eqb p 0) g.table.now.nullable (Decides-eqb p 0) (λ x. x, λ x. x))
    (Decides-and (has_place g.table.now.lasts p) (leb (low_of g.table.now p) i) (λ x. x, λ x. x) (λ x. grind (arith, nat_tests), λ x. grind (arith, nat_tests)))

module _ (e : Tree) (formed : WellFormed e) (g : Graph) (of : TableOf e g.table.now) (same : widths_of g.layout ≡ g.table.now.widths) where
  width_is : (p : ℕ) → p ≤ size e → width_in g p ≡ width e 0 p
  width_is p h =
      let t : leb p (size e) ≡ true = grind (arith, nat_tests) in
      ap (λ (w : Widths). width_of w p) same ∙ of.widths p ∙ ap (λ (x : Bool). cond x (width e 0 p) 0) t

  low_is : (p : ℕ) → p ≤ size e → low_of g.table.now p ≡ low e 0 p
  low_is p h =
      let t : leb p (size e) ≡ true = grind (arith, nat_tests) in
      of.lows p ∙ ap (λ (x : Bool). cond x (low e 0 p) 0) t

  pub inside_pair : (p i : ℕ) → Inside e p i → Pair g p i
  inside_pair p i (a, b, c) =
      let s = of.places in
      let w = width_is p a in
      (omega arith, b, omega arith)

  link_to : (p i q j : ℕ) → Inside e p i → Leads g p i q j → TreeLink e p i q j
  link_to p i q j f (x, y, inl (k, d)) = inl (inl ((of.withins p q).0 k, d))
  link_to p i q j f (x, y, inr (inl (k, l, d))) =
      let w = width_is p f.0 in
      inl (inr (inl ((of.nexts p q).0 k, omega arith, omega arith)))
  link_to p i q j f (x, y, inr (inr (k, l, d))) = crossed ((of.crosses p q).0 k)
    where
      crossed : Cross e 0 p q ⊎ ((p ≡ 0) × First e 0 q) → TreeLink e p i q j
      crossed (inl c) = let w = low_is p f.0 in inl (inr (inr (c, omega arith, d)))
      crossed (inr (z, c)) = inr (z, c, f.1, d)

  link_of : (p i q j : ℕ) → Inside e p i → TreeLink e p i q j → Leads g p i q j
  link_of p i q j f k = (inside_pair q j (link_inside e p i q j formed f k), (link_range e p i q j k).0, go k)
    where
      go : TreeLink e p i q j → Goes g p i q j
      go (inl (inl (k, d))) = inl ((of.withins p q).1 k, d)
      go (inl (inr (inl (k, l, d)))) = let w = width_is p f.0 in inr (inl ((of.nexts p q).1 k, omega arith, omega arith))
      go (inl (inr (inr (k, l, d)))) = let w = low_is p f.0 in inr (inr ((of.crosses p q).1 (inl k), omega arith, d))
      go (inr (z, k, l, d)) =
          let w = low_is p f.0 in
          let o = (start_bounds e).0 in
          let v : low e 0 p ≡ low e 0 0 = ap (low e 0) z in
          inr (inr ((of.crosses p q).1 (inr (z, k)), omega arith, d))

  accept_to : (p i : ℕ) → Inside e p i → accepting g p i ≡ true → Accepts e p i
  accept_to p i f a = go ((accepting_parts g p i).0 a)
    where
      go : ((p ≡ 0) × (g.table.now.nullable ≡ true)) ⊎ ((has_place g.table.now.lasts p ≡ true) × (low_of g.table.now p ≤ i)) → Accepts e p i
      go (inl (z, n)) =
          let o = (start_bounds e).1 in
          let v : width e 0 p ≡ width e 0 0 = ap (width e 0) z in
          let f1 = f.1 in
          let f2 = f.2 in
          inl (z, omega arith, T_from_true (nullable e) (sym of.null ∙ n))
      go (inr (l, h)) = let w = low_is p f.0 in inr ((of.lasts p).0 l, omega arith)

  accept_of : (p i : ℕ) → Inside e p i → Accepts e p i → accepting g p i ≡ true
  accept_of p i f a = (accepting_parts g p i).1 (go a)
    where
      go : Accepts e p i → ((p ≡ 0) × (g.table.now.nullable ≡ true)) ⊎ ((has_place g.table.now.lasts p ≡ true) × (low_of g.table.now p ≤ i))
      go (inl (z, o, n)) = inl (z, of.null ∙ (decides_T (nullable e)).1 n)
      go (inr (l, h)) = let w = low_is p f.0 in inr ((of.lasts p).1 l, omega arith)

  module _ (l : List ℕ) (long : 4096 ≤ length l) (ground : Ground g l) (settled : (p i : ℕ) → Pair g p i → Settled g l p i) where
    mark_is : (p i : ℕ) → Pair g p i → mark_at g.table.now.widths l p i ≡ mark_in g l p i
    mark_is p i d = ap (λ (w : Widths). mark_at w l p i) (sym same) ∙ mark_at_lem (widths_of g.layout) l p i d.1 d.2

    labels_leads : (p i k : ℕ) → Inside e p i → mark_at g.table.now.widths l p i ≡ suc (suc k) → (q : ℕ) × (j : ℕ) × TreeLink e p i q j × (mark_at g.table.now.widths l q j ≡ suc k)
    labels_leads p i k f is =
        let d = inside_pair p i f in
        let (q, j, s, m) = mark_steps g l long ground settled p i k d (sym (mark_is p i d) ∙ is) in
        (q, j, link_to p i q j f s, mark_is q j s.0 ∙ m)

    labels_linked : (p i q j k : ℕ) → Inside e p i → TreeLink e p i q j → mark_at g.table.now.widths l q j ≡ suc k
        → (1 ≤ mark_at g.table.now.widths l p i) × (mark_at g.table.now.widths l p i ≤ suc (suc k))
    labels_linked p i q j k f s is =
        let d = inside_pair p i f in
        let s' = link_of p i q j f s in
        let m : mark_in g l q j ≡ suc k = sym (mark_is q j s'.0) ∙ is in
        let b = mark_small g l long ground settled q j s'.0 in
        let t = (settled p i d).linked q j s' (omega arith) (omega arith) in
        let t0 = t.0 in
        let t1 = t.1 in
        let h = mark_is p i d in
        (omega arith, omega arith)

    -- settled marks meet the local facts of distances
    pub labels_met : Labelled e (mark_at g.table.now.widths l)
    labels_met = record {
      accepts = λ p i f is. let d = inside_pair p i f in accept_to p i f (ground.one p i d (sym (mark_is p i d) ∙ is));
      leads = labels_leads;
      accepting = λ p i f a. let d = inside_pair p i f in mark_is p i d ∙ (settled p i d).accepts (accept_of p i f a);
      linked = labels_linked;
    }
