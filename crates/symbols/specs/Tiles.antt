-- Tiles: a colour from 0 to 3 and a face from 0 to 9, with the code 10 × colour + face and units of two bytes.
use Rattle.std.specs.Prelude.{ℕ, ◌+◌, ◌*◌, ◌/◌, ◌%◌, Bool, cond, ◌&&◌, List, [], ◌∷◌, ◌==◌, nat_lt}
use Rattle.symbols.specs.declared.tiles.Tile.{Tile}

abbrev pub is_tile : Tile → Bool
is_tile t = nat_lt t.colour 4 && nat_lt t.face 10

abbrev pub tile_code : Tile → ℕ
tile_code t = 10 * t.colour + t.face

abbrev pub tile_of : ℕ → Tile
tile_of n = record { colour = n / 10; face = n % 10 }

-- The colours 0 to 3 are written `R` (82), `G` (71), `B` (66) and `Y` (89).
abbrev pub colour_byte : ℕ → ℕ
colour_byte c = cond (c == 0) 82 (cond (c == 1) 71 (cond (c == 2) 66 89))

-- The colour's letter, and the face as a digit (`0` is 48).
abbrev pub tile_spelled : Tile → List ℕ
tile_spelled t = colour_byte t.colour ∷ (48 + t.face) ∷ []
