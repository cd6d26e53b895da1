-- One place more is a target where a link leads to it.
use Rattle.std.proofs.Common.{◌≡◌, ℕ, ◌+◌, ap, ◌∙◌, ⊎_elim, arith}
use Rattle.std.proofs.lemmas.Bool.{cases_eq}
use Rattle.std.proofs.lemmas.Bool.Decides.{nat_tests}
use Rattle.bits.specs.declared.set.Set64.{Set64}
use Rattle.bits.specs.Members.{member}
use Rattle.tables.specs.Tables.{links_of}
use Rattle.distances.proofs.build.targets_of.Goals as goal
use Rattle.distances.proofs.build.targets_of.Goals.{then-not-is_empty, else-not-is_empty}

pub loop-k-preserved : goal.loop-k-preserved
loop-k-preserved c a =
    let k = c.loop-k.k in
    let few = c.args.table.now.few in
    let l = c.links.ensures in
    let m = c.is_empty.ensures in
    let old = c.loop-k.invariant a in
    let here : a ≡ k → links_of c.args.table.now c.args.p (a + 1) ≡ links_of c.args.table.now c.args.p (k + 1) = ap (λ (x : ℕ). links_of c.args.table.now c.args.p (x + 1)) in
    elim c.if-not-is_empty.branch [
      | then-not-is_empty w ↦
          let e = ap (λ (s : Set64). member s a) w.targets-is in
          let t = w.if-not-is_empty.true in
          let u = w.union-targets.ensures a in
          let o = w.only.ensures a in
          ⊎_elim
          (λ (same : a ≡ k). let h = here same in e ∙ grind (arith, nat_tests))
          (λ (ne : a ≡ k → ⊥). e ∙ grind (arith, nat_tests))
          (cases_eq a k)
      | else-not-is_empty w ↦
          let e = ap (λ (s : Set64). member s a) w.targets-is in
          let t = w.if-not-is_empty.false in
          ⊎_elim
          (λ (same : a ≡ k). let h = here same in e ∙ grind (arith, nat_tests))
          (λ (ne : a ≡ k → ⊥). e ∙ grind (arith, nat_tests))
          (cases_eq a k)
    ]
