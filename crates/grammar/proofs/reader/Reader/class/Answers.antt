-- A body between brackets, its codes or all others, or where that stops.
use Rattle.std.proofs.Common.{◌≡◌, ◌+◌, sym, ◌∙◌, subst, arith, true-eqb, false-eqb}
use mathlib.Core.Path.{fun_ext}
use Rattle.bits.specs.Members.{member}
use Rattle.grammar.specs.Codes.{other_codes, codes_of}
use Rattle.grammar.specs.Ast as ast
use Rattle.grammar.specs.Grammar.{byte, Atom, members, others}
use Rattle.grammar.specs.Nodes.{ast_of}
use Rattle.grammar.proofs.Exits.{exit}
use Rattle.grammar.proofs.Texts.{within}
use Rattle.grammar.proofs.Spelling.{other_codes_lem}
use Rattle.grammar.proofs.ClassStops.{class_stops_in_body, class_stops_in_other_body}
use Rattle.grammar.proofs.reader.Reader.class.Goals as goal

pub returns-in_err-body : goal.returns-in_err-body
returns-in_err-body c =
    let s = c.args.self.now.text.now in
    let x = true-eqb (byte s (c.args.at + 1)) 94 c.if-next_is.ensures in
    exit ast_of (c.args.at + 1) (class_stops_in_other_body {s = s} c.requires.1 x) c.from_residual.result c.in_err-body.field-0.0 c.from_residual.ensures.1 c.in_err-body.ensures

pub returns-then-next_is : goal.returns-then-next_is
returns-then-next_is c =
    let s = c.args.self.now.text.now in
    let i = c.args.at in
    let u = c.args.self.now.unit in
    let k = c.in_ok-body in
    let h = k.ensures in
    let x = true-eqb (byte s (i + 1)) 94 c.if-next_is.ensures in
    let y = h.after in
    let l = within s k.p (omega arith) in
    let d = others c.requires.1 x h.derives h.after in
    let m : other_codes (codes_of u) (member k.body.codes) ≡ member c.complement-codes.result =
    fun_ext (λ v. sym (c.complement-codes.ensures v ∙ other_codes_lem u c.code_count.result (member k.body.codes v) v c.code_count.ensures)) in
    record {
      ahead = omega arith;
      inside = omega arith;
      derives = subst (λ z. Atom u s i (k.p + 1) (ast.class i z k.body.back)) m d;
      after = tt;
    }

pub returns-in_err-body-2 : goal.returns-in_err-body-2
returns-in_err-body-2 c =
    let s = c.args.self.now.text.now in
    let x = false-eqb (byte s (c.args.at + 1)) 94 c.if-next_is.ensures in
    exit ast_of (c.args.at + 1) (class_stops_in_body {s = s} c.requires.1 x) c.from_residual-in_err-body-2.result c.in_err-body-2.field-0.0 c.from_residual-in_err-body-2.ensures.1 c.in_err-body-2.ensures

pub returns : goal.returns
returns c =
    let s = c.args.self.now.text.now in
    let i = c.args.at in
    let h = c.in_ok-body-2.ensures in
    let y = h.after in
    let l = within s c.in_ok-body-2.p (omega arith) in
    record {
      ahead = omega arith;
      inside = omega arith;
      derives = members c.requires.1 h.derives h.after;
      after = tt;
    }
