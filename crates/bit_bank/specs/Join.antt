-- A row of bits joined into another.
use Rattle.std.specs.Prelude.{ℕ, ◌+◌, ◌-◌, Bool, ◌&&◌, ◌||◌, List, nat_le, nat_lt}
use Rattle.bits.specs.Bit.{bit_at}

-- bit a of `dst` once the bits of `src` from bit `from` on are joined in at its bits from `to` on, below `end`
abbrev pub joined : List ℕ → List ℕ → ℕ → ℕ → ℕ → ℕ → Bool
joined dst src to from end a = bit_at dst a || ((nat_le to a && nat_lt a end) && bit_at src (from + (a - to)))
