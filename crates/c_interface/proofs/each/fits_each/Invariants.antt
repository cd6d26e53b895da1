use Rattle.std.proofs.Common.{◌≡◌, ℕ, ◌+◌, ◌<◌, ◌≤◌, List, [], length, get_or, take}
use Rattle.symbols.specs.contracts.letters.LettersKind.TheImpl.{ghosts as letters}
use Rattle.bit_bank.specs.contracts.calls.BitBankBank.TheImpl.{ghosts as bits}
use Rattle.sessions.specs.Sessions.{StandsOn}
use Rattle.c_interface.specs.Told.{Tells}
use Rattle.c_interface.proofs.each.fits_each.Given as goal

-- The letters so far are laid, and the bytes so far tell of them.
abbrev pub invariant-loop-i : goal.invariant-loop-i
invariant-loop-i l =
    (l.i ≤ length l.fits) ×
    ((text : List ℕ) → StandsOn letters bits text [] l.initial.session
    → StandsOn letters bits text (take l.i l.row) l.session
    × ((k : ℕ) → k < l.i → Tells text (take (k + 1) l.row) (get_or l.fits k 0))
    × ((k : ℕ) → l.i ≤ k → get_or l.fits k 0 ≡ get_or l.initial.fits k 0))
