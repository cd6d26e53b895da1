use Rattle.std.proofs.Common.{rules, ◌≡◌, ℕ, ◌<◌, ◌≤◌, Bool, true, false, ◌&&◌, ◌==◌, nat_lt, nat_le, Decides, List, length, get_or, Bor, Option, Some, None, sym, subst, ap, ◌∙◌, arith}
use Rattle.std.specs.Option.{is_some, IfSome, MatchOption}
use Rattle.std.proofs.lemmas.Bool.{ltb-true, ltb-false}
use Rattle.std.proofs.lemmas.Bool.Decides.{nat_tests, Decides-at}
use Rattle.std.proofs.lemmas.List.{get_or_read}
use Rattle.list_bank.specs.declared.pairs.PairList.{PairList}
use Rattle.list_bank.specs.Means.{pairs_of, First}
use Rattle.list_bank.proofs.Inserts.{any_is, any_none}
use Rattle.list_bank.proofs.pairs.PairList.any.Goals as goal

-- what was read at k tells it
told : (l : PairList) (p low high k : ℕ) (xs : List (ℕ × ℕ)) → xs ≡ l.pairs.items → high < 65536 → First l k p low → (o : Option (Bor (ℕ × ℕ))) (r : Bool)
    → is_some o ≡ nat_lt k (length xs) → IfSome o (λ x. x.now ≡ get_or xs k x.now) → MatchOption o (r ≡ false) (λ x. r ≡ (x.now.0 == p && nat_le x.now.1 high))
    → Decides r ((i : ℕ) × (low ≤ i) × (i ≤ high) × (pairs_of l p i ≡ true))
told l p low high k xs e fits first (Some x) r lt at is =
    let u = subst (λ (ys : List (ℕ × ℕ)). k < length ys) e (ltb-true k (length xs) (sym lt)) in
    let same = get_or_read xs k x.now (ltb-true k (length xs) (sym lt)) at (0, 0) ∙ ap (λ (ys : List (ℕ × ℕ)). get_or ys k (0, 0)) e in
    let e0 = ap (λ (y : ℕ × ℕ). y.0) same in
    let e1 = ap (λ (y : ℕ × ℕ). y.1) same in
    Decides-at _ _ (grind (arith, nat_tests)) (any_is l p low high k fits (l.counts k u) first.below first.from)
told l p low high k xs e fits first None r lt at is =
    let past = ltb-false k (length xs) (sym lt) in
    subst (λ (b : Bool). Decides b ((i : ℕ) × (low ≤ i) × (i ≤ high) × (pairs_of l p i ≡ true))) (sym is)
    (any_none l p low high k (subst (λ (ys : List (ℕ × ℕ)). length ys ≤ k) e past) first.below)

pub returns : goal.returns
returns c =
    told c.args.self.now c.args.p c.args.low c.args.high c.first.result c.deref.result.now c.deref.ensures.0 (omega arith) c.first.ensures
    c.get.result c.is_some_and.result c.get.ensures.lookup.0 c.get.ensures.lookup.1 (search rules)
