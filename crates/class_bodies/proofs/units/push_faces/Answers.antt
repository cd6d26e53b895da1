use Rattle.std.proofs.Common.{◌≡◌, ℕ, ◌+◌, ◌*◌, ◌%◌, not, ◌&&◌, ◌||◌, eqb, sym, ap, ◌∙◌, arith, true-eqb}
use Rattle.std.proofs.lemmas.Bool.{and_parts}
use Rattle.alphabets.specs.Colours.{number_of}
use Rattle.bits.specs.declared.set.Set64.{Set64}
use Rattle.bits.specs.Members.{member}
use Rattle.class_bodies.specs.ClassBody.{codes_of_colour}
use Rattle.class_bodies.proofs.UnitCodes.{more_like, more_more, nothing_more, codes_of_tile_lem, in_colour, all_left, one_passed, none_left}
use Rattle.class_bodies.proofs.units.push_faces.Goals as goal

pub loop-code-init : goal.loop-code-init
loop-code-init c =
    let is : (k : ℕ) → member c.into_iter-code-iterator.result.left k ≡ codes_of_colour c.args.codes c.args.colour k =
    λ k. ap (λ (s : Set64). member s k) c.into_iter-code-iterator.ensures.into_iter_gives ∙ c.intersection-code-items.ensures k ∙ ap (λ v. member c.args.codes k && v) (c.colour_codes.ensures k) in
    record {
      left = λ k h. sym (is k) ∙ h;
      passed = nothing_more 2 _ _ (λ k. all_left _ _ (is k));
    }

pub loop-code-preserved : goal.loop-code-preserved
loop-code-preserved c =
    let first = 10 * number_of c.args.colour in
    let l = c.loop-code.invariant in
    let s = c.in-Some.ensures.steps in
    let n = c.in-Some.code in
    let all = codes_of_colour c.args.codes c.args.colour in
    let h = l.left n s.least.has in
    let b = in_colour (member c.args.codes n) n first h in
    let e : first + n % 10 ≡ n = omega arith in
    record {
      left = λ k x. l.left k ((and_parts _ _ (sym (s.others k) ∙ x)).0);
      passed = more_like 2 _ _ _ _
          (λ k. ap (λ v. (all k && not (member c.loop-code.code-iterator.left k)) || v) (codes_of_tile_lem c.args.colour (n % 10) k (omega arith) ∙ ap (λ v. eqb k v) e)
          ∙ one_passed (all k) _ (eqb k n) (λ x. ap all (true-eqb k n (sym x)) ∙ h)
          ∙ ap (λ v. all k && not v) (sym (s.others k)))
          (more_more 2 _ _ _ _ _ l.passed c.in_ok-push_tile.ensures);
    }

pub returns : goal.returns
returns c = more_like 2 _ _ _ _ (λ k. none_left _ _ (c.in-None.ensures.steps.0 k)) c.loop-code.invariant.passed
