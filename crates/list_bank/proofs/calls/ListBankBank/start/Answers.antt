use Rattle.std.proofs.Common.{refl, rules}
use Rattle.list_bank.proofs.Puts.{short_start}
use Rattle.list_bank.proofs.calls.ListBankBank.start.Goals as goal

pub returns : goal.returns
returns c =
    record {
      stands = tt;
      widths_are = refl;
      front_is = search rules;
      back_is = search rules;
      holds_start = short_start;
    }
