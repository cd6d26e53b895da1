use Rattle.std.proofs.Common.{take}
use Rattle.sessions.specs.Calls.{laid_all}
use Rattle.sessions.specs.Runs.{Run}
use Rattle.sessions.proofs.session.Session.lay_row.Given as goal

-- The symbols so far were laid.
abbrev pub invariant-loop-before : goal.invariant-loop-before
invariant-loop-before g l = Run g.K.Kind g.B.Bank l.initial.self (laid_all (take l.before-counter l.row)) l.self
