-- Links of a mask.
use Rattle.std.proofs.Common.{◌≡◌, ℕ, ap, ◌∙◌, inl, inr}
use Rattle.std.proofs.lemmas.Bool.{both_ways}
use Rattle.bits.specs.Bit.{bit}
use Rattle.bits.proofs.Laws.{bit_zero}
use Rattle.tables.specs.Tables.{links_of}
use Rattle.distances.specs.declared.graph.Graph.{Graph}
use Rattle.distances.specs.Graphs.{Leads}

-- an empty mask has no link
pub no_links : (g : Graph) (p i q j : ℕ) → links_of g.table.now p q ≡ 0 → Leads g p i q j → ⊥
no_links g p i q j e (x, y, inl (k, d)) = both_ways (bit (links_of g.table.now p q) 0) (ap (λ (m : ℕ). bit m 0) e ∙ bit_zero 0) k
no_links g p i q j e (x, y, inr (inl (k, l, d))) = both_ways (bit (links_of g.table.now p q) 1) (ap (λ (m : ℕ). bit m 1) e ∙ bit_zero 1) k
no_links g p i q j e (x, y, inr (inr (k, l, d))) = both_ways (bit (links_of g.table.now p q) 2) (ap (λ (m : ℕ). bit m 2) e ∙ bit_zero 2) k
