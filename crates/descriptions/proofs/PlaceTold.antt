-- What the table says of a place is what the tree says.
use Rattle.std.proofs.Common.{◌≡◌, ℕ, ◌+◌, ◌<◌, ◌≤◌, Bool, true, false, ◌&&◌, ltb, ◌⊎◌, List, length, get_or, sym, refl, ◌∙◌, inl, inr, arith}
use Rattle.std.proofs.lemmas.Bool.{cases_lt}
use Rattle.std.proofs.lemmas.Bool.Decides.{nat_tests, Decides-at, Decides-like}
use Rattle.automata.specs.Language.{Tree, empty, unit, cat, alt, star, plus, opt, rep}
use Rattle.automata.specs.Places.{size, First, Holds}
use Rattle.automata.specs.Links.{Cross}
use Rattle.automata.proofs.Ranges.{cross_range}
use Rattle.grammar.specs.Ast.{Ast}
use Rattle.grammar.specs.Codes.{codes_of}
use Rattle.alphabets.specs.Alphabets.{unit_of}
use Rattle.alphabets.specs.declared.Alphabet.{Alphabet}
use Rattle.plans.specs.Plans.{RefusedText}
use Rattle.refusals.specs.declared.Refusal.TheVariants.{Length, Memory}
use Rattle.checks.specs.Faults.{places_of}
use Rattle.syntax.specs.Refuses.{Accepted}
use Rattle.syntax.specs.TextLanguage.{tree_of, CodesBelow}
use Rattle.tables.specs.Tables.{TableOf}
use Rattle.tables.specs.declared.table.Table.{Table}
use Rattle.descriptions.specs.declared.data.Place.{Place}
use Rattle.class_bodies.specs.ClassBody.{SpellsCodes}
use Rattle.descriptions.specs.Told.{Told}
use Rattle.descriptions.specs.Describes.{PlaceOf}
use Rattle.descriptions.proofs.CountsUsed.{width_told, low_told}

-- The start is no place of the pattern, so a cross link from it leads to a first.
from_start : (e : Tree) (p : ℕ) → Cross e 0 0 p ⊎ ((◌≡◌ {A = ℕ} 0 0) × First e 0 p) → First e 0 p
from_start e p (inl h) = absurd (omega (arith, (cross_range e 0 0 p h).0.0))
from_start e p (inr h) = h.1

-- Every code that a place takes is a code of the alphabet.
holds_below : (n : ℕ) (e : Tree) (o p c : ℕ) → CodesBelow n e → Holds e o p c → c < n
holds_below n empty o p c b h = absurd h
holds_below n (unit S) o p c b h = b c h.1
holds_below n (cat x y) o p c b (inl h) = holds_below n x o p c b.0 h
holds_below n (cat x y) o p c b (inr h) = holds_below n y (o + size x) p c b.1 h
holds_below n (alt x y) o p c b (inl h) = holds_below n x o p c b.0 h
holds_below n (alt x y) o p c b (inr h) = holds_below n y (o + size x) p c b.1 h
holds_below n (star x) o p c b h = holds_below n x o p c b h
holds_below n (plus x) o p c b h = holds_below n x o p c b h
holds_below n (opt x) o p c b h = holds_below n x o p c b h
holds_below n (rep lo hi x) o p c b h = holds_below n x o p c b h

-- So nothing is cut off where the codes are spelled.
kept : (b : Bool) (c n : ℕ) → (b ≡ true → c < n) → (b && ltb c n) ≡ b
kept true c n h = let l = h refl in grind (arith, nat_tests)
kept false c n h = refl

all_below : (a : Alphabet) (bytes : List ℕ) (f : ℕ → Bool) → SpellsCodes (unit_of a) bytes (λ c. f c && ltb c (codes_of (unit_of a)))
    → ((c : ℕ) → f c ≡ true → c < codes_of (unit_of a)) → SpellsCodes (unit_of a) bytes f
all_below a bytes f (m, body, is) below = (m, body, λ c. is c ∙ kept (f c) c (codes_of (unit_of a)) (below c))

pub place_told : (a : Alphabet) (t : Ast) (tab : Table) (k : ℕ) (r : Place) → TableOf (tree_of t) tab → CodesBelow (codes_of (unit_of a)) (tree_of t) → k < size (tree_of t) → Told a tab (k + 1) (get_or (places_of t) k 0) r → PlaceOf a t k r
place_told a t tab k r of below h told =
    let e = tree_of t in
    record {
      byte = told.byte;
      codes = λ c. Decides-at _ _ (told.codes c) (of.sets (k + 1) c);
      spelled = all_below a _ _ told.spelled (λ c m. holds_below (codes_of (unit_of a)) e 0 (k + 1) c below ((of.sets (k + 1) c).0 (sym (told.codes c) ∙ m)));
      width = told.width ∙ width_told e tab (k + 1) of (omega arith);
      low = told.low ∙ low_told e tab (k + 1) of (omega arith);
      first = Decides-at _ _ told.first (Decides-like _ (from_start e (k + 1)) (λ f. inr (refl, f)) (of.crosses 0 (k + 1)));
      last = Decides-at _ _ told.last (of.lasts (k + 1));
    }

-- An accepted text has at most 512 bytes.
short : (a : Alphabet) (s : List ℕ) (t : Ast) → Accepted a s t → length s ≤ 512
short a s t h = elim (cases_lt 512 (length s)) [ inl l ↦ absurd (h.unrefused Length l) | inr g ↦ g ]

-- So want of memory may be told of it.
pub refused_memory : (a : Alphabet) (s : List ℕ) (t : Ast) → Accepted a s t → RefusedText a s Memory
refused_memory a s t h = record { why = inl (refl, short a s t h) }
