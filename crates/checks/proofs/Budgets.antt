-- What a part takes of a budget, from its own parts.
use Rattle.std.proofs.Common.{◌≡◌, ℕ, ◌+◌, Some, None, Option, refl}
use Rattle.std.specs.Prelude.{unwrap_or}
use Rattle.std.specs.Option.{option_or}
use Rattle.grammar.specs.Ast.{Ast, empty, leaf, class, cat, alt, repeat, star, plus, opt, counted}
use Rattle.grammar.specs.Codes.{Codes}
use Rattle.checks.specs.Widths.{widths_by}

pub by_empty : (w : Option ℕ) → widths_by w empty ≡ 0
by_empty None = refl
by_empty (Some w) = refl

pub by_leaf : (w : Option ℕ) (at : ℕ) (codes : Codes) → widths_by w (leaf at codes) ≡ unwrap_or w 1
by_leaf None at codes = refl
by_leaf (Some w) at codes = refl

pub by_class : (w : Option ℕ) (at : ℕ) (codes : Codes) (back : Option ℕ) → widths_by w (class at codes back) ≡ unwrap_or w 1
by_class None at codes back = refl
by_class (Some w) at codes back = refl

pub by_cat : (w : Option ℕ) (a b : Ast) → widths_by w (cat a b) ≡ widths_by w a + widths_by w b
by_cat None a b = refl
by_cat (Some w) a b = refl

pub by_alt : (w : Option ℕ) (a b : Ast) → widths_by w (alt a b) ≡ widths_by w a + widths_by w b
by_alt None a b = refl
by_alt (Some w) a b = refl

pub by_star : (w : Option ℕ) (a : Ast) → widths_by w (repeat star a) ≡ widths_by w a
by_star None a = refl
by_star (Some w) a = refl

pub by_plus : (w : Option ℕ) (a : Ast) → widths_by w (repeat plus a) ≡ widths_by w a
by_plus None a = refl
by_plus (Some w) a = refl

pub by_opt : (w : Option ℕ) (a : Ast) → widths_by w (repeat opt a) ≡ widths_by w a
by_opt None a = refl
by_opt (Some w) a = refl

pub by_counted : (w : Option ℕ) (a : Ast) (at low high : ℕ) → widths_by w (repeat (counted at low high) a) ≡ widths_by (option_or w (Some high)) a
by_counted None a at low high = refl
by_counted (Some w) a at low high = refl

-- the width that a part takes, from those of its own parts
pub ruleset widths_by_laws = (by_empty, by_leaf, by_class, by_cat, by_alt, by_star, by_plus, by_opt, by_counted)
