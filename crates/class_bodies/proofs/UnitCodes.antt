-- The codes of one more item of a class body, and of all items so far.
use Rattle.std.proofs.Common.{◌≡◌, ℕ, ◌+◌, ◌-◌, ◌*◌, ◌<◌, ◌≤◌, Bool, true, false, cond, not, ◌&&◌, ◌||◌, eqb, ltb, leb, List, [], ◌++◌, is_ok, IfOk, Ok, Err, Result, sym, refl, ap, ◌∙◌, subst, arith}
use Rattle.std.proofs.lemmas.Bool.{false≢true}
use Rattle.std.proofs.lemmas.Bool.Decides.{nat_tests}
use Rattle.grammar.specs.Codes.{Codes, no_codes, codes_of_letter, codes_of_tile, codes_of_range, joined_codes}
use Rattle.grammar.specs.Grammar.{nothing}
use Rattle.alphabets.specs.Colours.{letter_of, number_of}
use Rattle.alphabets.specs.declared.colours.Colour.{Colour}
use Rattle.grammar.proofs.Spelling.{one_colour, one_tile, colour_lem}
use Rattle.class_bodies.specs.ClassBody.{SpellsCodes, SpellsMore}

-- Tests that agree everywhere serve alike.
pub codes_like : (u : ℕ) (s : List ℕ) (f g : ℕ → Bool) → ((c : ℕ) → f c ≡ g c) → SpellsCodes u s f → SpellsCodes u s g
codes_like u s f g e h = (h.0, h.1, λ c. h.2 c ∙ e c)

pub more_like : (u : ℕ) (s t : List ℕ) (f g : ℕ → Bool) → ((c : ℕ) → f c ≡ g c) → SpellsMore u s t f → SpellsMore u s t g
more_like u s t f g e h before old = codes_like u t _ _ (λ c. ap (λ v. before c || v) (e c)) (h before old)

-- Nothing is spelled by no bytes.
pub spells_none : (u : ℕ) (s : List ℕ) (f : ℕ → Bool) → s ≡ [] → ((c : ℕ) → f c ≡ false) → SpellsCodes u s f
spells_none u s f e none = subst (λ v. SpellsCodes u v f) (sym e) (no_codes, nothing, λ c. sym (none c))

pub none_below : (b : Bool) (c : ℕ) → (b && ltb c 0) ≡ false
none_below true c = grind (arith, nat_tests)
none_below false c = refl

-- What an append spells, where there was memory for it.
pub more_made : {T E : Type 0} (u : ℕ) (r : Result T E) (s t new : List ℕ) (f : ℕ → Bool) → new ≡ cond (is_ok r) (s ++ t) s → SpellsMore u s (s ++ t) f → IfOk r (λ _. SpellsMore u s new f)
more_made u (Ok x) s t new f e h = subst (λ v. SpellsMore u s v f) (sym e) h
more_made u (Err x) s t new f e h = tt

pub made_like : {T E : Type 0} (u : ℕ) (r : Result T E) (s t : List ℕ) (f g : ℕ → Bool) → ((c : ℕ) → f c ≡ g c) → IfOk r (λ _. SpellsMore u s t f) → IfOk r (λ _. SpellsMore u s t g)
made_like u (Ok x) s t f g e h = more_like u s t f g e h
made_like u (Err x) s t f g e h = tt

-- Some more, and then some more.
pub more_more : (u : ℕ) (s t v : List ℕ) (f g : ℕ → Bool) → SpellsMore u s t f → SpellsMore u t v g → SpellsMore u s v (λ c. f c || g c)
more_more u s t v f g h k before old =
    codes_like u v _ _ (λ c. or_assoc (before c) (f c) (g c)) (k (λ c. before c || f c) (h before old))
  where
    or_assoc : (x y z : Bool) → ((x || y) || z) ≡ (x || (y || z))
    or_assoc true y z = refl
    or_assoc false y z = refl

pub codes_of_letter_lem : (low end c : ℕ) → low < end → 97 + low ≡ 97 + (end - 1) → joined_codes (codes_of_letter (97 + low)) no_codes c ≡ (leb low c && ltb c end)
unfolding codes_of_letter
codes_of_letter_lem low end c h e = grind (arith, nat_tests)

pub codes_of_range_lem : (low end c : ℕ) → low < end → joined_codes (codes_of_range (97 + low) (97 + (end - 1))) no_codes c ≡ (leb low c && ltb c end)
unfolding codes_of_range
codes_of_range_lem low end c h = grind (arith, nat_tests)

-- The codes below `low` that are in the set, and those of the run that begins there.
pub run_codes : (b : Bool) (c low end : ℕ) → low ≤ end → end ≤ 26 → (low ≤ c → c < end → b ≡ true) → (c ≡ end → end < 26 → b ≡ false)
    → (((b && ltb c low) && ltb c 26) || (leb low c && ltb c end)) ≡ ((b && ltb c (end + 1)) && ltb c 26)
run_codes true c low end h k inside stop = grind (arith, nat_tests)
run_codes false c low end h k inside stop = grind (arith, nat_tests)

-- One item by itself.
pub just_codes : (f : Codes) (c : ℕ) → joined_codes f no_codes c ≡ f c
just_codes f c = or_none (f c) where
  or_none : (b : Bool) → (b || false) ≡ b
  or_none true = refl
  or_none false = refl

-- One tile.
pub codes_of_tile_lem : (colour : Colour) (face c : ℕ) → face < 10 → codes_of_tile (letter_of colour) (48 + face) c ≡ eqb c (10 * number_of colour + face)
codes_of_tile_lem colour face c k =
    let l = colour_lem colour in
    let below = l.2 in
    sym (one_tile (letter_of colour) face (number_of colour) c l.0 l.1 l.2 k)
    ∙ (let y : (eqb c (10 * number_of colour + face) && ltb c 64) ≡ eqb c (10 * number_of colour + face) = grind (arith, nat_tests) in y)

-- All tiles of a colour.
pub colour_codes : (colour : Colour) (c : ℕ) → codes_of_tile (letter_of colour) 46 c ≡ (leb (10 * number_of colour) c && ltb c (10 * number_of colour + 10))
colour_codes colour c = let l = colour_lem colour in sym (one_colour (letter_of colour) (number_of colour) c l.0 l.1 l.2)

-- No more codes.
pub nothing_more : (u : ℕ) (s : List ℕ) (f : ℕ → Bool) → ((c : ℕ) → f c ≡ false) → SpellsMore u s s f
nothing_more u s f none before old = codes_like u s before _ (λ c. or_false (before c) (f c) (none c)) old
  where
    or_false : (x y : Bool) → y ≡ false → x ≡ (x || y)
    or_false true y e = refl
    or_false false y e = sym e

-- A code of a colour within a set.
pub in_colour : (m : Bool) (c first : ℕ) → (m && (leb first c && ltb c (first + 10))) ≡ true → (first ≤ c) × (c < first + 10)
in_colour true c first e = (grind (arith, nat_tests), grind (arith, nat_tests))
in_colour false c first e = absurd (false≢true e)

-- A walk over the codes m has none behind it at first, then one more each time (is), and in the end all.
pub all_left : (m old : Bool) → old ≡ m → (m && not old) ≡ false
all_left true old e = rw e refl
all_left false old e = refl

pub one_passed : (m old is : Bool) → (is ≡ true → m ≡ true) → ((m && not old) || is) ≡ (m && not (old && not is))
one_passed true true true h = refl
one_passed true true false h = refl
one_passed true false true h = refl
one_passed true false false h = refl
one_passed false old true h = sym (h refl)
one_passed false old false h = refl

pub none_left : (m left : Bool) → left ≡ false → (m && not left) ≡ m
none_left true left e = rw e refl
none_left false left e = refl

-- All faces (s) are in the set m: nothing is left (d) of them without it.
pub all_faces : (s d m : Bool) → d ≡ (s && not m) → d ≡ false → s ≡ (m && s)
all_faces s d true left none = refl
all_faces true d false left none = sym left ∙ none
all_faces false d false left none = refl

-- The colours so far, and one more.
pub colours_codes : (b : Bool) (c colour : ℕ)
    → ((b && ltb c (10 * colour)) || (b && (leb (10 * colour) c && ltb c (10 * colour + 10)))) ≡ (b && ltb c (10 * (colour + 1)))
colours_codes true c colour = grind (arith, nat_tests)
colours_codes false c colour = refl
