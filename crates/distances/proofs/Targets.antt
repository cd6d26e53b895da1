-- The targets of a place: at first none is passed.
use Rattle.std.proofs.Common.{◌≡◌, ℕ, ◌+◌, ◌-◌, ◌<◌, false, List, get_or, sym, ap, ◌∙◌, arith}
use Rattle.std.proofs.lemmas.Bool.Decides.{nat_tests}
use Rattle.bits.specs.declared.set.Set64.{Set64}
use Rattle.bits.specs.Members.{member}
use Rattle.tables.specs.Masks.{no_set}
use Rattle.tables.specs.Tables.{links_of}
use Rattle.distances.specs.declared.graph.Graph.{Graph}
use Rattle.distances.specs.Graphs.{Pair, Leads, mark_in}
use Rattle.distances.specs.Search.{Better}
use Rattle.distances.proofs.Betters.{better_none}
use Rattle.distances.proofs.Masks.{no_links}

-- the links from (p, i) to the places that are no longer left
abbrev pub Passed : Graph → ℕ → ℕ → Set64 → ℕ → ℕ → Type 0
Passed g p i left a b = (member left (a - 1) ≡ false) × Leads g p i a b

module _ (g : Graph) (area : List ℕ) (p i : ℕ) (d : Pair g p i) where
  -- no link leads to a place that is no target
  no_target : (a b : ℕ) → member (get_or g.targets p no_set) (a - 1) ≡ false → Leads g p i a b → ⊥
  no_target a b out k =
      let one = k.1 in
      let upto = k.0.0 in
      let back : (a - 1) + 1 ≡ a = omega arith in
      let same : links_of g.table.now p ((a - 1) + 1) ≡ links_of g.table.now p a = ap (links_of g.table.now p) back in
      let x = g.exact p (a - 1) d.0 in
      let within : a - 1 < g.table.now.places = omega arith in
      let e : links_of g.table.now p ((a - 1) + 1) ≡ 0 = grind (arith, nat_tests) in
      no_links g p i a b (sym same ∙ e) k

  pub better_first : (left : Set64) → left ≡ get_or g.targets p no_set → Better (mark_in g area) (Passed g p i left) 0 0
  better_first left is =
      better_none (mark_in g area) (Passed g p i left) 0
      (λ a b s. no_target a b (ap (λ (x : Set64). member x (a - 1)) (sym is) ∙ s.0) s.1)
