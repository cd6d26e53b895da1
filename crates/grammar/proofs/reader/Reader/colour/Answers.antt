-- A colour's letter, or no colour has the byte as its letter.
use Rattle.std.proofs.Common.{◌≡◌, ℕ, ◌<◌, List, length, Some, Option, IsErrAnd, IsOkAnd, Ok, Err, Result, subst, ◌∙◌, inl, rules}
use Rattle.std.specs.Result.{MatchResult}
use Rattle.alphabets.specs.Colours.{Lettered}
use Rattle.alphabets.specs.declared.colours.Colour.{Colour}
use Rattle.alphabets.specs.declared.colours.UnknownColour.{UnknownColour}
use Rattle.refusals.specs.declared.Refusal.{Refusal}
use Rattle.refusals.specs.declared.Refusal.TheVariants.{Byte}
use Rattle.grammar.specs.Codes.{ColourUnit}
use Rattle.grammar.specs.Grammar.{byte}
use Rattle.grammar.specs.Reading.{colour_byte, Lacks}
use Rattle.grammar.proofs.Spelling.{not_colour}
use Rattle.grammar.proofs.reader.Reader.colour.Goals as goal

coloured : (P : UnknownColour → Refusal → Type 0) (s : List ℕ) (i b : ℕ) (t : Result Colour UnknownColour) (m : Result (Option Colour) UnknownColour) (r : Result (Option Colour) Refusal)
    → i < length s → byte s i ≡ b → (b ≡ 46 → ⊥) → Lettered b t → MatchResult t (λ c. IsOkAnd m (λ o. o ≡ Some c)) (λ e. m ≡ Err e)
    → MatchResult m (λ c. r ≡ Ok c) (λ x. IsErrAnd r (P x)) → ((x : UnknownColour) (e : Refusal) → P x e → e ≡ Byte i) → MatchResult r (λ c. byte s i ≡ colour_byte c) (λ e. Lacks ColourUnit s i e)
coloured P s i b (Ok c) (Ok o) r l e n is h g f = rw (g, h) (e ∙ is)
coloured P s i b (Ok c) (Err x) r l e n is h g f = absurd h
coloured P s i b (Err x) m (Ok c) l e n is h g f = absurd (rw h at g)
coloured P s i b (Err x) m (Err y) l e n is h g f = let k : y ≡ Byte i = f x y (rw h at g) in inl (k, (l, λ u. not_colour n is (subst ColourUnit e u)))

pub returns-in-Some : goal.returns-in-Some
returns-in-Some c = coloured _ c.args.self.now.text.now c.args.at c.in-Some.b c.try_from.result c.map.result c.map_err.result c.in-Some.ensures.0 c.in-Some.ensures.1 c.in-Some.b-test.1 c.try_from.ensures c.map.ensures.cases c.map_err.ensures.cases (λ x e h. search rules)
