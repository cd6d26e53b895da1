-- The bits of a number, and of a list of 64-bit words read as one long row of bits.
use Rattle.std.specs.Prelude.{ℕ, ◌/◌, ◌%◌, ◌^◌, Bool, List, ◌==◌, slice_index}

-- bit k of w is set; the lowest is bit 0
unfoldable pub bit : ℕ → ℕ → Bool
bit w k = w / 2 ^ k % 2 == 1

-- bit a of the words ws is set, 64 bits to a word; past the last word no bit is
unfoldable pub bit_at : List ℕ → ℕ → Bool
bit_at ws a = bit (slice_index ws (a / 64)) (a % 64)
