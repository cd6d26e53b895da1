use Rattle.std.proofs.Common.{◌≡◌, ℕ, ◌&&◌, ltb, length, get_or}
use Rattle.tables.specs.Masks.{no_links, mask_in, has_place, joined, mask_of}
use Rattle.glushkov.proofs.joins.join_row.Given as goal

-- The places passed have their links.
abbrev pub invariant-loop-q : goal.invariant-loop-q
invariant-loop-q l =
    (length l.links-items ≡ 65)
    × ((k : ℕ) → (get_or l.links-items k no_links).mask ≡ joined (ltb k l.q && has_place l.firsts k) (mask_in l.fn.row k) (mask_of l.link))
