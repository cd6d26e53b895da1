use Rattle.std.proofs.Common.{◌≡◌, ℕ, ◌+◌, ◌-◌, ◌*◌, ◌/◌, ◌%◌, ◌^◌, ◌<◌, get_or, refl, ap, ◌∙◌, subst, arith}
use lib.Bits.{bit_and}
use Rattle.std.specs.List.{between}
use Rattle.std.proofs.lemmas.Bool.Decides.{nat_tests}
use Rattle.std.proofs.lemmas.List.Edits.{get_or-between, length-between}
use Rattle.bit_bank.specs.Join.{joined}
use Rattle.bit_bank.proofs.Join.{Carried, joined_more, over_none, over_more, raised, all_bits, low_bits}
use Rattle.bit_bank.proofs.words.join.Goals as goal

pub loop-k-init : goal.loop-k-init
loop-k-init g c = ((λ a. grind (arith, nat_tests)), over_none c.args.src.now c.args.from g.row.UP)

pub loop-k-preserved : goal.loop-k-preserved
loop-k-preserved g c =
    let k : ℕ = c.loop-k.k in
    let src = c.args.src.now in
    let from : ℕ = c.args.from in
    let to : ℕ = c.args.to in
    let u : ℕ = g.row.UP in
    let n = length-between src from (from + c.args.n / 64) (omega arith) in
    let word : get_or (between from (from + c.args.n / 64) src) c.loop-k.k 0 ≡ get_or src (from + c.loop-k.k) 0 =
    get_or-between src from (from + c.args.n / 64) c.loop-k.k 0 (omega arith) in
    let fits : get_or (between from (from + c.args.n / 64) src) c.loop-k.k 0 < 2 ^ 64 = omega arith in
    let e : 64 * (c.args.to + c.loop-k.k) + 64 ≡ 64 * (c.args.to + (c.loop-k.k + 1)) = omega arith in (
      (λ a.
          joined_more c.args.dst.now c.loop-k.dst src (64 * to + u) (64 * from) (to + k) _ 64 (omega arith) (omega arith) c.loop-k.invariant.0
          (raised src to from u k _ c.loop-k.over 64 64 (omega arith) (λ b h. grind (arith, nat_tests)) c.loop-k.invariant.1
          (λ b h. all_bits src (from + k) _ b word h)) a
          ∙ ap (λ (x : ℕ). joined c.args.dst.now src (64 * to + u) (64 * from) x a) e),
      over_more src from u k _ (omega arith) word fits,
    )

pub returns : goal.returns
returns g c = λ a.
    let n : ℕ = c.args.n in
    let src = c.args.src.now in
    let from : ℕ = c.args.from in
    let to : ℕ = c.args.to in
    let u : ℕ = g.row.UP in
    let l = length-between src from (from + c.args.n / 64) (omega arith) in
    let k : c.loop-k.k ≡ c.args.n / 64 = omega arith in
    let e : 64 * (c.args.to + c.args.n / 64) + (c.args.n % 64 + g.row.UP) ≡ 64 * c.args.to + g.row.UP + c.args.n = omega arith in
    joined_more c.args.dst.now c.loop-k.dst src (64 * to + u) (64 * from) (to + n / 64) _ (n % 64 + u) (omega arith) (omega arith)
    (λ b. c.loop-k.invariant.0 b ∙ ap (λ (x : ℕ). joined c.args.dst.now src (64 * to + u) (64 * from) (64 * (to + x)) b) k)
    (raised src to from u (n / 64) (bit_and (get_or src (from + n / 64) 0) (1 * 2 ^ (n % 64) % 2 ^ 64 - 1)) c.loop-k.over (n % 64) (n % 64 + u) (omega arith)
    (λ b h. refl)
    (subst (λ (x : ℕ). Carried src from u x c.loop-k.over) k c.loop-k.invariant.1)
    (λ b h. low_bits src (from + n / 64) (n % 64) b (omega arith) h)) a
    ∙ ap (λ (x : ℕ). joined c.args.dst.now src (64 * to + u) (64 * from) x a) e
