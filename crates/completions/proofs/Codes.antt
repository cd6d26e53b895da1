-- A code of the place that a link leads to from a pair, with one less as its distance.
use Rattle.std.proofs.Common.{◌≡◌, ℕ, suc, ◌+◌, ◌-◌, ◌<◌, ◌≤◌, true, false, Some, None, Option, sym, ◌∙◌, arith, MatchOption}
use Rattle.std.proofs.lemmas.Bool.{both_ways}
use Rattle.automata.specs.Language.{Tree, NoEmptySet}
use Rattle.automata.specs.Distances.{Inside, Labelled}
use Rattle.automata.proofs.Ranges.{link_range}
use Rattle.automata.proofs.Completions.{symbol_at}
use Rattle.bits.specs.declared.set.Set64.{Set64}
use Rattle.bits.specs.Members.{member, Least}
use Rattle.tables.specs.declared.table.Table.{Table}
use Rattle.tables.specs.Tables.{TableOf, takes}
use Rattle.completions.specs.declared.nearest.Found.{Found}
use Rattle.completions.specs.Towards.{leading, Towards}
use Rattle.completions.proofs.Leading.{leading_leads, leads_leading}

module _ (e : Tree) (t : Table) (table : TableOf e t) (M : ℕ → ℕ → ℕ) (x : Found) (inside : Inside e x.place x.count) where
  -- the least code of such a place
  pub code_there :
      (q : ℕ) (s : Set64) (r : Option ℕ) → NoEmptySet e → leading t M x.place x.count q x.distance ≡ true
      → ((c : ℕ) → member s c ≡ takes t q c) → MatchOption r ((k : ℕ) → member s k ≡ false) (λ n. Least s n) → Towards e M x r
  code_there q s None some l same none =
      let (j, link, is) = leading_leads e t table M x.place x.count q x.distance inside l in
      let (c, held) = symbol_at e 0 q some (link_range e x.place x.count q j link) in
      both_ways (member s c) (none c) (same c ∙ (table.sets q c).1 held)
  code_there q s (Some n) some l same least =
      let (j, link, is) = leading_leads e t table M x.place x.count q x.distance inside l in
      (q, j, link, is, (table.sets q n).0 (sym (same n) ∙ least.has))

  -- there is such a place
  pub some_place :
      Labelled e M → 1 ≤ x.distance → M x.place x.count ≡ suc x.distance
      → ((k : ℕ) → 1 ≤ k → k < t.places + 1 → leading t M x.place x.count k x.distance ≡ false) → ⊥
  some_place labels far mark none =
      let n : suc (suc (x.distance - 1)) ≡ suc x.distance = omega arith in
      let (q, j, link, is) = labels.leads x.place x.count (x.distance - 1) inside (mark ∙ sym n) in
      let range = link_range e x.place x.count q j link in
      let places = table.places in
      both_ways (leading t M x.place x.count q x.distance) (none q (omega arith) (omega arith))
      (leads_leading e t table M x.place x.count q x.distance inside (j, link, omega arith))
