use Rattle.std.proofs.Common.{◌≡◌, ℕ, ◌&&◌, ltb, length}
use Rattle.tables.specs.Masks.{mask_at, has_place, joined, mask_of}
use Rattle.glushkov.proofs.joins.join.Given as goal

-- The places passed have their links.
abbrev pub invariant-loop-p : goal.invariant-loop-p
invariant-loop-p l =
    (length l.rows ≡ 65)
    × ((k q : ℕ) → mask_at l.rows k q ≡ joined (ltb k l.p && (has_place l.lasts k && has_place l.firsts q)) (mask_at l.initial.rows k q) (mask_of l.link))
