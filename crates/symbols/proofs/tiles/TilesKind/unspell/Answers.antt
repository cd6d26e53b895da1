use Rattle.std.proofs.Common.{◌≡◌, get_or, rules}
use Rattle.alphabets.specs.declared.colours.Colour.{Colour}
use Rattle.alphabets.specs.declared.colours.Colour.TheVariants.{Red, Green, Blue, Yellow}
use Rattle.alphabets.specs.Colours.{letter_of}
use Rattle.symbols.proofs.tiles.TilesKind.unspell.Goals as goal

pub returns-in_err-colour : goal.returns-in_err-colour
returns-in_err-colour c =
    let none : (k : Colour) → get_or c.args.u.now 0 0 ≡ letter_of k → ⊥ = search rules in
    let red = none Red in
    let green = none Green in
    let blue = none Blue in
    let yellow = none Yellow in
    search rules
