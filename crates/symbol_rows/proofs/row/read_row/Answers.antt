use Rattle.std.proofs.Common.{◌≡◌, ℕ, ◌<◌, List, ◌++◌, length, min, true, take, inr, sym, ap, ◌∙◌, subst, rules}
use Rattle.std.specs.Slice.Iter.{chunks_rest}
use Rattle.std.proofs.lemmas.Result.{err_from_is_err_and}
use Rattle.refusals.specs.declared.Refusal.TheVariants.{Symbol}
use Rattle.symbol_rows.proofs.Spelling.{broken_after}
use Rattle.symbol_rows.proofs.row.read_row.Goals as goal

pub returns-in_err-symbol : goal.returns-in_err-symbol
returns-in_err-symbol g c =
    let k = g.K.Kind in
    let e = c.in_err-symbol.field-0.0 in
    let unit = c.in-Some.unit.now in
    let rest = chunks_rest c.next.new.self in
    let (size, (joined, short, some)) = c.in-Some.ensures.steps in
    let (passed, spells, joins) = c.loop-unit.invariant.3 in
    let p = err_from_is_err_and c.from_residual.result c.from_residual.ensures.1 in
    let is : (e.refusal ≡ Symbol) × (e.before ≡ length c.loop-unit.row.items) = search rules in
    let none : (s : _) → k.valid s ≡ true → take k.unit_length (k.spelled s) ≡ unit → ⊥ = search rules in
    let text : passed ++ (unit ++ rest) ≡ c.args.text.now = ap (λ (x : List ℕ). passed ++ x) (sym joined) ∙ joins in
    let whole : length unit ≡ min k.unit_length (length (unit ++ rest)) = rw (c.loop-unit.invariant.2, joined) at short in
    rw (p.1, p.2, is.1)
    (inr (is.0, broken_after k c.args.text.now passed unit rest c.loop-unit.row.items text whole (subst (λ (x : List ℕ). 0 < length x) joined some) g.met.K.Kind.short.1 g.met.K.Kind.long spells none))
