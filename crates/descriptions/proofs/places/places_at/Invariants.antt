use Rattle.std.proofs.Common.{◌≡◌, vec_items, vec_len}
use Rattle.descriptions.specs.Told.{EachTold}
use Rattle.descriptions.proofs.places.places_at.Given as goal

-- The places so far are told.
abbrev pub invariant-loop-i : goal.invariant-loop-i
invariant-loop-i l = (vec_len l.places ≡ l.i) × EachTold l.kind l.table l.starts (vec_items l.places) l.i
