use mathlib.Core.Path.{fun_ext}
use Rattle.bit_bank.proofs.Stand.{zeros}
use Rattle.bit_bank.proofs.calls.BitBankBank.new.Goals as goal

pub returns : goal.returns
returns c =
    record { stands = tt; widths_are = fun_ext c.none.ensures; front_is = zeros c.none.result 128; back_is = zeros c.none.result 128 }
