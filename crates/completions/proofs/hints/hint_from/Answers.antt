use Rattle.std.proofs.Common.{rules, ◌≡◌, ℕ, ◌≤◌, List, Option, Some, None, Ok, Err, Result, sym, refl, subst, inl, inr, arith, MatchResult}
use Rattle.refusals.specs.declared.Refusal.TheVariants.{Stuck as NoCompletion}
use Rattle.distances.specs.Marks.{mark_of}
use Rattle.completions.specs.declared.nearest.Found.{Found}
use Rattle.completions.specs.Nearest.{LeastMark}
use Rattle.completions.proofs.Answers.{none_stuck, found_inside, found_fits, found_hint}
use Rattle.std.specs.Option.{ok_or}
use Rattle.automata.specs.Language.{Tree}
use Rattle.automata.specs.Completion.{Stuck}
use Rattle.refusals.specs.declared.Refusal.{Refusal}
use Rattle.completions.specs.Answers.{HintOf}
use Rattle.completions.specs.Towards.{Towards}
use Rattle.completions.proofs.hints.hint_from.Goals as goal

-- a refusal by which the row is stuck
stuck_told : (e : Tree) (w : List ℕ) (r : Result ℕ Refusal) → MatchResult r (λ _. ⊥) (λ x. x ≡ NoCompletion) → Stuck e w → HintOf e w r
stuck_told e w (Ok c) h s = absurd h
stuck_told e w (Err x) h s = inr (h, s)

pub returns-in_err-from : goal.returns-in_err-from
returns-in_err-from c = λ f least marks e w formed some table front.
    let M = mark_of c.args.marks.now in
    let is : MatchResult c.from_residual.result (λ _. ⊥) (λ x. x ≡ NoCompletion) = search rules in
    stuck_told e w c.from_residual.result is
    (none_stuck e w formed some f front M (marks e formed table) (subst (λ (o : Option Found). LeastMark M f o) c.in_err-from.ensures.ok_part least))

pub returns-then-from-eq0 : goal.returns-then-from-eq0
returns-then-from-eq0 c = λ f least marks e w formed some table front.
    inl (
      refl,
      found_fits e w formed some f front (mark_of c.args.marks.now) (marks e formed table) c.in_ok-from.from
          (subst (λ (o : Option Found). LeastMark (mark_of c.args.marks.now) f o) c.in_ok-from.ensures.ok_part least) c.if-from-eq0.true,
    )

pub returns : goal.returns
returns c = λ f least marks e w formed some table front.
    let M = mark_of c.args.marks.now in
    let labels = marks e formed table in
    let x = c.in_ok-from.from in
    let here = subst (λ (o : Option Found). LeastMark M f o) c.in_ok-from.ensures.ok_part least in
    let far : 1 ≤ x.distance = omega (arith, c.if-from-eq0.false) in
    let code : (o : Option ℕ) → Towards e M x o → HintOf e w (ok_or o NoCompletion) = λ o. elim o as (λ (o : Option ℕ). Towards e M x o → HintOf e w (ok_or o NoCompletion)) [
      | Some n ↦ λ there. found_hint e w formed some f front M labels x n here far there
      | None ↦ λ there. absurd there
    ] in
    let there = c.code_towards.ensures e formed some table labels (found_inside e w formed some f front M labels x here) far here.1 in
    subst (λ (r : Result ℕ Refusal). HintOf e w r) (sym c.ok_or-2.ensures.value) (code c.code_towards.result there)
