use Rattle.std.proofs.Common.{rules, ◌≡◌, ℕ, List, Option, Some, None, Result, refl, sym, subst}
use Rattle.refusals.specs.declared.Refusal.{Refusal}
use Rattle.refusals.specs.declared.Refusal.TheVariants.{Stuck as NoCompletion}
use Rattle.std.specs.Option.{ok_or, option_map}
use Rattle.automata.specs.Language.{Tree, WellFormed, NoEmptySet}
use Rattle.automata.specs.Distances.{Labelled}
use Rattle.banks.specs.Pairs.{Pairs}
use Rattle.steps.specs.Fronts.{IsFront}
use Rattle.completions.specs.Answers.{NeedOf}
use Rattle.completions.specs.Nearest.{LeastMark}
use Rattle.completions.specs.declared.nearest.Found.{Found}
use Rattle.completions.proofs.Answers.{found_need, none_stuck}
use Rattle.distances.specs.Marks.{mark_of}
use Rattle.completions.proofs.needs.need_of.Goals as goal

-- the distance that was found, or that nothing was
need_told : (e : Tree) (w : List ℕ) (f : Pairs) (M : ℕ → ℕ → ℕ) (found : Option Found)
    → WellFormed e → NoEmptySet e → IsFront e w f → Labelled e M → LeastMark M f found
    → NeedOf e w (ok_or (option_map (λ (x : Found). x.distance) found) NoCompletion)
need_told e w f M (Some x) formed some front labels least = found_need e w formed some f front M labels x least
need_told e w f M None formed some front labels least = (refl, none_stuck e w formed some f front M labels least)

pub returns-clause-answer : goal.returns-clause-answer
returns-clause-answer g c = λ full fresh e w formed some table front.
    let (marks, found, distances, least, told) = c.measured.ensures.told full fresh in
    let is : c.measured.result ≡ ok_or (option_map (λ (x : Found). x.distance) found) NoCompletion = search rules in
    subst (λ (r : Result ℕ Refusal). NeedOf e w r) (sym is)
    (need_told e w (g.B.Bank.means.front c.args.bank.now) (mark_of marks.now) found formed some front (distances e formed table) (least e table))
