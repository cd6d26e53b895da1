use Rattle.std.proofs.Common.{◌≡◌, ℕ, ◌≤◌, true, false, rules, List, length, sym, ◌∙◌, subst, arith}
use Rattle.std.specs.List.Sorted.{IsPartitionedBy, IsPartitionPoint}
use Rattle.std.proofs.lemmas.List.Sorted.{IsPartitionPoint-from_clause}
use Rattle.list_bank.proofs.Order.{is_before, parted, first_at, all_before, none_before}
use Rattle.list_bank.proofs.pairs.PairList.first.Goals as goal
use Rattle.list_bank.proofs.pairs.PairList.first.Goals.{in_default-via-in-Some+else-ge, in_default-via-in_default}

pub returns-in-Some : goal.returns-in-Some
returns-in-Some c =
    let l = c.args.self.now in
    let p = c.args.p in
    let i = c.args.i in
    let k = c.partition_point.result in
    let e = c.deref-in-Some.ensures.0 in
    let before = is_before l p i (omega arith) in
    let point = IsPartitionPoint-from_clause before _ _ c.partition_point.ensures.partitioned
    (subst (λ (xs : List (ℕ × ℕ)). IsPartitionedBy before xs) (sym e) (parted l p i (omega arith))) (λ a r q h. search rules) in
    first_at l p i (omega arith) k (subst (λ (xs : List (ℕ × ℕ)). k ≤ length xs) e c.partition_point.ensures.bound)
    (subst (λ (xs : List (ℕ × ℕ)). IsPartitionPoint (λ y. before y ≡ true) (λ y. before y ≡ false) xs k) e point)

pub returns-in_default : goal.returns-in_default
returns-in_default c =
    let l = c.args.self.now in
    let p = c.args.p in
    let i = c.args.i in
    elim c.in_default.branch [
      | in_default-via-in-Some+else-ge w ↦
          let item = w.in-Some.ensures.item in
          all_before l p i (omega arith) w.in-Some.last.now c.deref.result.now c.len.result c.deref.ensures.0 item.3.0 (item.3.1 (0, 0))
          (sym w.ge.ensures ∙ w.if-ge.false) c.len.ensures.value
      | in_default-via-in_default w ↦ none_before l p i (omega arith) c.deref.result.now c.len.result c.deref.ensures.0 w.in_default.ensures.item.0 c.len.ensures.value
    ]
