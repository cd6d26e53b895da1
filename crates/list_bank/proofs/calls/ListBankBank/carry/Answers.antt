use Rattle.std.proofs.Common.{ℕ, ◌<◌, ap, subst, ◌∙◌, arith}
use Rattle.std.specs.Result.{OkIff}
use Rattle.widths.specs.Width.{width_in}
use Rattle.banks.specs.Pairs.{moved, ◌∩◌}
use Rattle.banks.specs.Raises.{raise_by}
use Rattle.list_bank.specs.Means.{pairs_of, up_to}
use Rattle.list_bank.proofs.Puts.{put_done, put_nothing, same_bound, moved_away, away_past, none_moved}
use Rattle.list_bank.proofs.calls.ListBankBank.carry.Goals as goal

pub returns-in_default : goal.returns-in_default
returns-in_default c = λ _.
    let b = c.args.self.now in
    let n : ℕ = raise_by c.args.raise in
    let far = c.in_default.ensures' in
    put_nothing b (moved (pairs_of b.front) c.args.p c.args.q n)
    (away_past b (moved (pairs_of b.front) c.args.p c.args.q n) c.args.q (omega arith) (moved_away (pairs_of b.front) c.args.p c.args.q n))

pub returns-in_default-2 : goal.returns-in_default-2
returns-in_default-2 c = λ _.
    let b = c.args.self.now in
    let n : ℕ = raise_by c.args.raise in
    let far = subst (λ r. OkIff r (c.args.p < 256) c.args.p) c.in_default.is-0 c.try_from.ensures in
    put_nothing b (moved (pairs_of b.front) c.args.p c.args.q n) (none_moved b c.args.p c.args.q n (omega arith))

pub returns : goal.returns
returns c = λ _.
    let b = c.args.self.now in
    let F = pairs_of b.front in
    let n : ℕ = raise_by c.args.raise in
    let width = c.width_in-width.result in
    let from = c.in-Ok-Ok.ensures.1 in
    let to = c.in-Ok-Ok.ensures'.1 in
    put_done b (moved F c.args.p c.args.q n) (moved F c.in-Ok-Ok.from c.in-Ok-Ok.to c.from.result ∩ up_to width) c.insert_moved.result c.insert_moved.new.self
    (ap (λ (p : ℕ). moved F p c.in-Ok-Ok.to c.from.result ∩ up_to width) from
    ∙ ap (λ (q : ℕ). moved F c.args.p q c.from.result ∩ up_to width) to
    ∙ ap (λ (m : ℕ). moved F c.args.p c.args.q m ∩ up_to width) c.from.ensures
    ∙ same_bound (moved F c.args.p c.args.q n) (width_in b.plan) c.args.q width c.width_in-width.ensures (moved_away F c.args.p c.args.q n))
    c.insert_moved.ensures
