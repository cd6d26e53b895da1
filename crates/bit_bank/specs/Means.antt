-- What a bit bank means.
use Rattle.std.specs.Prelude.{ℕ, ◌+◌, ◌-◌, ◌*◌, ◌&&◌, List}
use Rattle.bits.specs.Bit.{bit_at}
use Rattle.banks.specs.Pairs.{Pairs, within, ◌⊆◌}
use Rattle.banks.specs.Meaning.{Meaning}
use Rattle.bit_bank.specs.declared.rows.Rows.{Rows}
use Rattle.bit_bank.specs.declared.bank.BitBank.{BitBank}
use Rattle.bit_bank.specs.Row.{row_of}

-- the width of each place
abbrev pub row_widths : Rows → ℕ → ℕ
row_widths rows p = (row_of rows.list p).width

-- the pairs that words stand for: bit i - 1 of the row of place p is count i; other bits mean nothing
unfoldable pub pairs_in : Rows → List ℕ → Pairs
pairs_in rows words p i = within (row_widths rows) p i && bit_at words (64 * (row_of rows.list p).base + (i - 1))

-- every state is in standing, and every set within the widths can be held
abbrev pub bit_means : Meaning BitBank
bit_means = record {
  standing = λ b. Unit {0};
  widths = λ b. row_widths b.rows;
  front = λ b. pairs_in b.rows b.front;
  back = λ b. pairs_in b.rows b.back;
  holds = λ b s. s ⊆ within (row_widths b.rows);
}
