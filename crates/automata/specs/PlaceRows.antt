-- Rows of places: which place takes each symbol of a row.
use Rattle.std.specs.Prelude.{◌≡◌, ℕ, suc, ◌+◌, ◌≤◌, ◌⊎◌, List, [], ◌∷◌, ◌++◌}
use Rattle.std.specs.List.{AllZip}
use Rattle.automata.specs.Language.{Tree, empty, unit, cat, alt, star, plus, opt, rep, Power}
use Rattle.automata.specs.Places.{size, Holds}

-- The language once more, with each set's place for its symbols.
abbrev pub PlaceRow : Tree → ℕ → List ℕ → Type 0
PlaceRow empty o w = w ≡ []
PlaceRow (unit S) o w = w ≡ suc o ∷ []
PlaceRow (cat a b) o w = (u : List ℕ) × (v : List ℕ) × (w ≡ u ++ v) × PlaceRow a o u × PlaceRow b (o + size a) v
PlaceRow (alt a b) o w = PlaceRow a o w ⊎ PlaceRow b (o + size a) w
PlaceRow (star a) o w = (n : ℕ) × Power (PlaceRow a o) n w
PlaceRow (plus a) o w = (n : ℕ) × (1 ≤ n) × Power (PlaceRow a o) n w
PlaceRow (opt a) o w = (n : ℕ) × (n ≤ 1) × Power (PlaceRow a o) n w
PlaceRow (rep lo hi a) o w = (n : ℕ) × (lo ≤ n) × (n ≤ hi) × Power (PlaceRow a o) n w

-- The places ps read the row w: they are a row of places of the part, as many as there are symbols, and the set at each holds its symbol.
abbrev pub Reads : Tree → ℕ → List ℕ → List ℕ → Type 0
Reads e o ps w = PlaceRow e o ps × AllZip (Holds e o) ps w
