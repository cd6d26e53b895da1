use Rattle.std.proofs.Common.{◌≡◌, ℕ, ◌+◌, ◌*◌, ◌||◌, eqb, ap, ◌∙◌, arith}
use mathlib.Core.Path.{fun_ext}
use Rattle.std.proofs.lemmas.Bool.Decides.{nat_tests}
use Rattle.bits.specs.Bit.{bit_at}
use Rattle.bit_bank.specs.Row.{row_of}
use Rattle.bit_bank.specs.Means.{row_widths}
use Rattle.bit_bank.proofs.Stand.{no_pairs}
use Rattle.bit_bank.proofs.Puts.{start_pair, holds_start}
use Rattle.bit_bank.proofs.calls.BitBankBank.start.Goals as goal

pub returns : goal.returns
returns c =
    let rows = c.of-rows.result in
    let w : (row_of rows.list 0).width ≡ 1 = c.of-rows.ensures 0 ∙ c.args.plan.now.start in
    record {
      stands = tt;
      widths_are = fun_ext c.of-rows.ensures;
      front_is =
          start_pair rows c.clear.new.words c.put.new.words w
          (no_pairs rows c.clear.new.words (λ a h. c.clear.ensures a ∙ grind (arith, nat_tests)))
          (λ a. c.put.ensures a ∙ ap (λ (x : ℕ). bit_at c.clear.new.words a || eqb a (64 * x + 0)) c.from.ensures);
      back_is = no_pairs rows c.clear-2.new.words (λ a h. c.clear-2.ensures a ∙ grind (arith, nat_tests));
      holds_start = holds_start (row_widths rows) w;
    }
