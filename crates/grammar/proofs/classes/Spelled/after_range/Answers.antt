-- A range that runs backwards, and one that does not.
use Rattle.std.proofs.Common.{◌||◌, sym, ap, ◌∙◌}
use mathlib.Core.Path.{fun_ext}
use Rattle.bits.specs.Members.{member}
use Rattle.grammar.proofs.Spelling.{some_letters, pair_is, back_here, back_later}
use Rattle.grammar.proofs.classes.Spelled.after_range.Goals as goal

pub returns-then-to-from : goal.returns-then-to-from
returns-then-to-from c =
    let h = c.requires in
    pair_is
    (fun_ext (λ k. c.union.ensures k ∙ ap (λ z. z || member c.args.self.codes k) (c.span.ensures k ∙ some_letters c.args.from c.args.to k h.0 h.1)))
    (sym (back_here c.args.at c.args.from c.args.to c.args.self.back c.if-to-from.true))

pub returns-else-to-from : goal.returns-else-to-from
returns-else-to-from c =
    let h = c.requires in
    pair_is
    (fun_ext (λ k. c.union.ensures k ∙ ap (λ z. z || member c.args.self.codes k) (c.span.ensures k ∙ some_letters c.args.from c.args.to k h.0 h.1)))
    (sym (back_later c.args.at c.args.from c.args.to c.args.self.back c.if-to-from.false))
