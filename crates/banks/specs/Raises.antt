-- By how much a carry raises each count.
use Rattle.std.specs.Prelude.{ℕ}
use Rattle.banks.specs.declared.Raise.{Raise}
use Rattle.banks.specs.declared.Raise.TheVariants.{Nothing, One}

abbrev pub raise_by : Raise → ℕ
raise_by Nothing = 0
raise_by One = 1
