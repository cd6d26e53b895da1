use Rattle.std.proofs.Common.{rules, ◌+◌, ◌*◌, ◌≡◌, ℕ, ◌-◌, min, ap, ap₂, ◌∙◌, inl, inr, arith}
use Rattle.banks.specs.Pairs.{moved}
use Rattle.banks.specs.Raises.{raise_by}
use Rattle.bit_bank.specs.declared.rows.Row.{Row}
use Rattle.bit_bank.specs.Join.{joined}
use Rattle.bit_bank.specs.Means.{pairs_in}
use Rattle.bit_bank.proofs.Stand.{nothing_moved}
use Rattle.bit_bank.proofs.Puts.{put_nothing, carry_done}
use Rattle.bit_bank.proofs.calls.BitBankBank.carry.Goals as goal

pub returns-in_default : goal.returns-in_default
returns-in_default c = λ _.
    let b = c.args.self.now in
    let s : ℕ = raise_by c.args.raise in
    put_nothing b (moved (pairs_in b.rows b.front) c.args.p c.args.q s) (nothing_moved b.rows b.front c.args.p c.args.q s (inr c.in_default.ensures'))

pub returns-in_default-2 : goal.returns-in_default-2
returns-in_default-2 c = λ _.
    let b = c.args.self.now in
    let s : ℕ = raise_by c.args.raise in
    put_nothing b (moved (pairs_in b.rows b.front) c.args.p c.args.q s)
    (nothing_moved b.rows b.front c.args.p c.args.q s (inl (let r = c.in_default.is-0 in let e = c.get.ensures in search rules)))

-- how many counts are carried
taken : (row target from to : Row) (n least room raise by : ℕ) → row ≡ from → target ≡ to → n ≡ least → least ≡ min row.width room → room ≡ target.width - raise → raise ≡ by
    → n ≡ min from.width (to.width - by)
taken row target from to n least room raise by er et en el eo eb =
    en
    ∙ el
    ∙ ap₂ (λ (x y : ℕ). min x y) (ap (λ (r : Row). r.width) er) (eo ∙ ap₂ (λ (x y : ℕ). x - y) (ap (λ (r : Row). r.width) et) eb)

pub returns-in-Nothing : goal.returns-in-Nothing
returns-in-Nothing c = λ _.
    let b = c.args.self.now in
    let rp = c.in-Some-Some.ensures in
    let rq = c.in-Some-Some.ensures' in
    let from = c.from-from.ensures ∙ ap (λ (r : Row). r.base) rp.1 in
    let to = c.from-to.ensures ∙ ap (λ (r : Row). r.base) rq.1 in
    carry_done b c.args.raise c.args.p c.args.q 0 c.from-n.result (64 * c.from-to.result + 0) (64 * c.from-to.result + 0 + c.from-n.result) c.join.new.dst rp.0 rq.0
    (omega arith) (ap raise_by c.in-Nothing.is)
    (taken _ _ _ _ _ _ _ _ _ rp.1 rq.1 c.from-n.ensures c.min.ensures c.saturating_sub-room.ensures c.from.ensures)
    (ap (λ (x : ℕ). 64 * x + 0) to) (ap (λ (x : ℕ). 64 * x + 0 + c.from-n.result) to)
    (λ a. c.join.ensures a ∙ ap (λ (x : ℕ). joined b.back b.front (64 * c.from-to.result + 0) (64 * x) (64 * c.from-to.result + 0 + c.from-n.result) a) from)

pub returns-in-One : goal.returns-in-One
returns-in-One c = λ _.
    let b = c.args.self.now in
    let rp = c.in-Some-Some.ensures in
    let rq = c.in-Some-Some.ensures' in
    let from = c.from-from.ensures ∙ ap (λ (r : Row). r.base) rp.1 in
    let to = c.from-to.ensures ∙ ap (λ (r : Row). r.base) rq.1 in
    carry_done b c.args.raise c.args.p c.args.q 1 c.from-n.result (64 * c.from-to.result + 1) (64 * c.from-to.result + 1 + c.from-n.result) c.join-in-One.new.dst rp.0 rq.0
    (omega arith) (ap raise_by c.in-One.is)
    (taken _ _ _ _ _ _ _ _ _ rp.1 rq.1 c.from-n.ensures c.min.ensures c.saturating_sub-room.ensures c.from.ensures)
    (ap (λ (x : ℕ). 64 * x + 1) to) (ap (λ (x : ℕ). 64 * x + 1 + c.from-n.result) to)
    (λ a. c.join-in-One.ensures a ∙ ap (λ (x : ℕ). joined b.back b.front (64 * c.from-to.result + 1) (64 * x) (64 * c.from-to.result + 1 + c.from-n.result) a) from)
