-- What each return of the readers in the cycle answers: the derivation that it has read, or where it stops.
use Rattle.std.proofs.Common.{◌≡◌, ◌+◌, length, get_or, sym, refl, ap, ◌∙◌, subst, arith, true-eqb, false-eqb}
use Rattle.std.proofs.lemmas.List.{get_or_default}
use Rattle.bits.specs.Members.{member}
use Rattle.grammar.specs.Codes.{codes_of_letter}
use Rattle.grammar.specs.Ast as ast
use Rattle.grammar.specs.Grammar.{byte, OneUnit, Atom, letter, last, more, none, then, once, often, one_unit, group}
use Rattle.grammar.specs.Reading.{Stops, Anything}
use Rattle.grammar.specs.Nodes.{ast_of}
use Rattle.grammar.proofs.Exits.{exit}
use Rattle.grammar.proofs.Roles.{goes_on, no_second, inside, no_opening, no_letter, no_colour, no_bar}
use Rattle.grammar.proofs.UnitStops.{unit_stops_first}
use Rattle.grammar.proofs.PatternStops.{piece_stops_in_atom, piece_stops_in_quantifier, piece_stops_at_second, atom_stops_in_unit, atom_stops_in_group, group_stops_at_end, pattern_stops_in_branch, pattern_stops_after_bar, branch_stops_in_piece, branch_stops_after_piece}
use Rattle.grammar.proofs.reader.Reader.+atom_branch_group_pattern_piece.Goals as goal

pub branch-returns-in_err-first-in_default : goal.branch-returns-in_err-first-in_default
branch-returns-in_err-first-in_default t c =
    let s = c.args.self.now.text.now in
    let n = goes_on c.args.self.now.unit (byte s c.args.at) c.role.result c.role.ensures c.in_default.not-Stop in
    exit ast_of c.args.at (branch_stops_in_piece {s = s} n) c.from_residual.result c.in_err-first-in_default.field-0.0 c.from_residual.ensures.1 c.in_err-first-in_default.ensures

pub branch-returns-in_err-rest-in_default : goal.branch-returns-in_err-rest-in_default
branch-returns-in_err-rest-in_default t c =
    let s = c.args.self.now.text.now in
    let n = goes_on c.args.self.now.unit (byte s c.args.at) c.role.result c.role.ensures c.in_default.not-Stop in
    exit ast_of c.args.at (branch_stops_after_piece {s = s} n c.in_ok-first-in_default.ensures) c.from_residual-in_err-rest-in_default.result c.in_err-rest-in_default.field-0.0 c.from_residual-in_err-rest-in_default.ensures.1 c.in_err-rest-in_default.ensures

pub branch-returns-in-Stop : goal.branch-returns-in-Stop
branch-returns-in-Stop t c =
    record {
      ahead = omega arith;
      inside = c.requires;
      derives = none;
      after = c.in-Stop.ensures;
    }

pub branch-returns-in_ok-cat-in_default : goal.branch-returns-in_ok-cat-in_default
branch-returns-in_ok-cat-in_default t c =
    let a = c.in_ok-first-in_default.ensures in
    let b = c.in_ok-rest-in_default.ensures in
    record {
      ahead = omega (arith, a.ahead, b.ahead);
      inside = b.inside;
      derives = rw c.in_ok-cat-in_default.ensures (then a.derives b.derives);
      after = b.after;
    }

pub group-returns-in_err-body : goal.group-returns-in_err-body
group-returns-in_err-body t c =
    exit ast_of (c.args.at + 1) (atom_stops_in_group c.requires.1) c.from_residual.result c.in_err-body.field-0.0 c.from_residual.ensures.1 c.in_err-body.ensures

pub group-returns-in-Some-eq41 : goal.group-returns-in-Some-eq41
group-returns-in-Some-eq41 t c =
    let h = c.in-Some-eq41 in
    let r = c.in_ok-body.ensures in
    record {
      ahead = omega (arith, r.ahead);
      inside = omega (arith, h.ensures.0);
      derives = group c.requires.1 r.derives (h.ensures.1 ∙ h.field-0-test);
      after = tt;
    }

pub group-returns-in_default : goal.group-returns-in_default
group-returns-in_default t c =
    let s = c.args.self.now.text.now in
    let p = c.in_ok-body.p in
    let r = c.in_ok-body.ensures in
    let a = r.after in
    let e : p ≡ length s = grind (arith, a, r.inside) in
    (e, subst (λ q. Stops ast.Ast (Atom c.args.self.now.unit) Anything s c.args.at q) (sym e) (group_stops_at_end c.requires.1 r e))

pub pattern-returns-in_err-first : goal.pattern-returns-in_err-first
pattern-returns-in_err-first t c =
    exit ast_of c.args.at pattern_stops_in_branch c.from_residual.result c.in_err-first.field-0.0 c.from_residual.ensures.1 c.in_err-first.ensures

pub pattern-returns-in_err-rest : goal.pattern-returns-in_err-rest
pattern-returns-in_err-rest t c =
    let s = c.args.self.now.text.now in
    let x = true-eqb (byte s c.in_ok-first.p) 124 c.if-next_is.ensures in
    exit ast_of c.args.at (pattern_stops_after_bar c.in_ok-first.ensures x) c.from_residual-in_err-rest.result c.in_err-rest.field-0.0 c.from_residual-in_err-rest.ensures.1 c.in_err-rest.ensures

pub pattern-returns-in_ok-alt : goal.pattern-returns-in_ok-alt
pattern-returns-in_ok-alt t c =
    let s = c.args.self.now.text.now in
    let a = c.in_ok-first.ensures in
    let b = c.in_ok-rest.ensures in
    let x = true-eqb (byte s c.in_ok-first.p) 124 c.if-next_is.ensures in
    record {
      ahead = omega (arith, a.ahead, b.ahead);
      inside = b.inside;
      derives = rw c.in_ok-alt.ensures (more a.derives x b.derives);
      after = b.after;
    }

pub pattern-returns-else-next_is : goal.pattern-returns-else-next_is
pattern-returns-else-next_is t c =
    let s = c.args.self.now.text.now in
    let a = c.in_ok-first.ensures in
    let x = false-eqb (byte s c.in_ok-first.p) 124 c.if-next_is.ensures in
    record {
      ahead = a.ahead;
      inside = a.inside;
      derives = last a.derives;
      after = no_bar a.after x;
    }

pub piece-returns-in_err-body : goal.piece-returns-in_err-body
piece-returns-in_err-body t c =
    exit ast_of (c.args.at + 1) piece_stops_in_atom c.from_residual.result c.in_err-body.field-0.0 c.from_residual.ensures.1 c.in_err-body.ensures

pub piece-returns-in_err-times-in-Quantifier : goal.piece-returns-in_err-times-in-Quantifier
piece-returns-in_err-times-in-Quantifier t c =
    exit ast_of (c.args.at + 1) (piece_stops_in_quantifier c.in_ok-body.ensures c.in-Quantifier.ensures) c.from_residual-in_err-times-in-Quantifier.result c.in_err-times-in-Quantifier.field-0.0 c.from_residual-in_err-times-in-Quantifier.ensures.1 c.in_err-times-in-Quantifier.ensures

pub piece-returns-in-Quantifier-role : goal.piece-returns-in-Quantifier-role
piece-returns-in-Quantifier-role t c =
    let q = c.in-Quantifier-role.ensures in
    (inside c.args.self.now.text.now c.in_ok-times-in-Quantifier.q q, piece_stops_at_second c.in_ok-body.ensures c.in_ok-times-in-Quantifier.ensures q)

pub piece-returns-in_ok-repeat-in_default-role : goal.piece-returns-in_ok-repeat-in_default-role
piece-returns-in_ok-repeat-in_default-role t c =
    let s = c.args.self.now.text.now in
    let a = c.in_ok-body.ensures in
    let b = c.in_ok-times-in-Quantifier.ensures in
    record {
      ahead = omega (arith, a.ahead, b.ahead);
      inside = b.inside;
      derives = rw c.in_ok-repeat-in_default-role.ensures (often a.derives b.derives);
      after = no_second c.args.self.now.unit (byte s c.in_ok-times-in-Quantifier.q) c.role-in-Quantifier.result c.role-in-Quantifier.ensures c.in_default-role.not-Quantifier;
    }

pub piece-returns-in_default : goal.piece-returns-in_default
piece-returns-in_default t c =
    let s = c.args.self.now.text.now in
    let a = c.in_ok-body.ensures in
    record {
      ahead = a.ahead;
      inside = a.inside;
      derives = once a.derives;
      after = no_second c.args.self.now.unit (byte s c.in_ok-body.p) c.role.result c.role.ensures c.in_default.not-Quantifier;
    }

pub atom-returns-in_err-codes-in-Tile : goal.atom-returns-in_err-codes-in-Tile
atom-returns-in_err-codes-in-Tile t c =
    let s = c.args.self.now.text.now in
    let h = c.in-Tile.ensures.1 in
    exit ast_of (c.args.at + 1) (atom_stops_in_unit {s = s} (λ x. grind (arith, h, x))) c.from_residual.result c.in_err-codes-in-Tile.field-0.0 c.from_residual.ensures.1 c.in_err-codes-in-Tile.ensures

pub atom-returns-in-Letter : goal.atom-returns-in-Letter
atom-returns-in-Letter t c =
    let s = c.args.self.now.text.now in
    let i = c.args.at in
    let u = c.args.self.now.unit in
    let e : get_or s i 0 ≡ byte s i = get_or_default s i 0 256 c.requires in
    let h = c.in-Letter.ensures in
    let d : OneUnit u s i (i + 1) (codes_of_letter (byte s i)) = letter h.0 refl h.1 in
    let m : codes_of_letter (byte s i) ≡ member c.letter_codes.result = sym (c.letter_codes.ensures ∙ ap codes_of_letter e) in
    record {
      ahead = omega arith;
      inside = omega (arith, c.requires);
      derives = one_unit (subst (λ v. OneUnit u s i (i + 1) v) m d);
      after = tt;
    }

pub atom-returns-in_ok-codes-in-Tile : goal.atom-returns-in_ok-codes-in-Tile
atom-returns-in_ok-codes-in-Tile t c =
    let a = c.in_ok-codes-in-Tile.ensures in
    record { ahead = a.ahead; inside = a.inside; derives = one_unit a.derives; after = tt }

pub atom-returns-in-Quantifier : goal.atom-returns-in-Quantifier
atom-returns-in-Quantifier t c =
    let s = c.args.self.now.text.now in
    let i = c.args.at in
    let u = c.args.self.now.unit in
    let r = c.role.result in
    let m = c.role.ensures in
    let n = unit_stops_first {u = u} {s = s} {i = i} (omega arith) (omega arith) (omega (arith, c.requires)) (no_letter u (byte s i) r m c.in-Quantifier.is) (no_colour u (byte s i) r m c.in-Quantifier.is) in
    (c.requires, atom_stops_in_unit (no_opening u (byte s i) r m c.in-Quantifier.is) i n)
