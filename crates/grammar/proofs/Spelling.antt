-- The sets that the code computes are those that units and classes spell.
use Rattle.std.proofs.Common.{◌≡◌, ℕ, ◌+◌, ◌-◌, ◌*◌, ◌/◌, ◌%◌, ◌<◌, ◌≤◌, Bool, not, ◌&&◌, ◌||◌, eqb, ltb, leb, Some, None, Option, IfSome, refl, ap, ◌∙◌, inl, inr, arith}
use Rattle.std.proofs.lemmas.Bool.{lt-ltb, le-ltb, cases_eq}
use Rattle.std.proofs.lemmas.Bool.Decides.{nat_tests}
use Rattle.grammar.specs.Codes.{Codes, Letter, LetterUnit, ColourUnit, FaceUnit, colour_of, codes_of_letter, codes_of_tile, codes_of_range, codes_of}
use Rattle.grammar.specs.Grammar.{back_of}
use Rattle.grammar.specs.Reading.{colour_byte, face_byte}
use Rattle.alphabets.specs.Colours.{letter_of, number_of}
use Rattle.alphabets.specs.declared.colours.Colour.{Colour}
use Rattle.alphabets.specs.declared.colours.Colour.TheVariants.{Red, Green, Blue, Yellow}

pub any_letter : (k : ℕ) → ltb k 26 && ltb k 64 ≡ codes_of_letter 46 k
unfolding codes_of_letter
any_letter k = grind (arith, nat_tests)

pub one_letter : (c k : ℕ) → Letter c → eqb k (c - 97) && ltb k 64 ≡ codes_of_letter c k
unfolding codes_of_letter
one_letter c k h = grind (arith, nat_tests, h.0, h.1)

pub some_letters : (a b k : ℕ) → Letter a → Letter b → (leb (a - 97) k && leb k (b - 97)) && ltb k 64 ≡ codes_of_range a b k
unfolding codes_of_range
some_letters a b k g h = grind (arith, nat_tests, g.0, h.1)

pub any_tile : (k : ℕ) → ltb k 40 && ltb k 64 ≡ codes_of_tile 46 46 k
unfolding codes_of_tile
any_tile k = grind (arith, nat_tests)

-- every face of one colour
pub one_colour : (c v k : ℕ) → (c ≡ 46 → ⊥) → v ≡ colour_of c → v < 4 → (leb (10 * v) k && ltb k (10 * v + 10)) ≡ codes_of_tile c 46 k
unfolding codes_of_tile
one_colour c v k n e l =
    let d : k ≡ 10 * (k / 10) + k % 10 = omega arith in
    let m : k % 10 < 10 = omega arith in
    grind (arith, nat_tests)

-- the same by the span of its codes
pub colour_span : (v k : ℕ) → v < 4 → (leb (10 * v) k && leb k (10 * v + 9)) && ltb k 64 ≡ (leb (10 * v) k && ltb k (10 * v + 10))
colour_span v k l = grind (arith, nat_tests)

-- one face of every colour
pub one_face : (f k : ℕ) → f < 10 → ((((eqb k f && ltb k 64) || (eqb k (f + 10) && ltb k 64)) || (eqb k (f + 20) && ltb k 64)) || (eqb k (f + 30) && ltb k 64)) ≡ codes_of_tile 46 (48 + f) k
unfolding codes_of_tile
one_face f k h =
    let x : k ≡ 10 * (k / 10) + k % 10 = omega arith in
    let m : k % 10 < 10 = omega arith in
    grind (arith, nat_tests)

pub one_tile : (c f v k : ℕ) → (c ≡ 46 → ⊥) → v ≡ colour_of c → v < 4 → f < 10 → eqb k (10 * v + f) && ltb k 64 ≡ codes_of_tile c (48 + f) k
unfolding codes_of_tile
one_tile c f v k n e l h =
    let x : k ≡ 10 * (k / 10) + k % 10 = omega arith in
    let m : k % 10 < 10 = omega arith in
    grind (arith, nat_tests)

-- a colour's letter stands for its number
pub colour_lem : (c : Colour) → (letter_of c ≡ 46 → ⊥) × (number_of c ≡ colour_of (letter_of c)) × (number_of c < 4)
unfolding colour_of
colour_lem Red = (λ e. omega arith, refl, omega arith)
colour_lem Green = (λ e. omega arith, refl, omega arith)
colour_lem Blue = (λ e. omega arith, refl, omega arith)
colour_lem Yellow = (λ e. omega arith, refl, omega arith)

-- a unit of letters that is no `.` is a letter
pub not_dot : {c : ℕ} → LetterUnit c → (c ≡ 46 → ⊥) → Letter c
not_dot h n = elim h [ inl e ↦ absurd (n e) | inr l ↦ l ]

-- a byte that is neither `.` nor a colour's letter is no first half
pub not_colour : {b : ℕ} → (b ≡ 46 → ⊥) → ((c : Colour) → b ≡ letter_of c → ⊥) → ColourUnit b → ⊥
not_colour n m (inl e) = n e
not_colour n m (inr (inl e)) = m Blue e
not_colour n m (inr (inr (inl e))) = m Green e
not_colour n m (inr (inr (inr (inl e)))) = m Red e
not_colour n m (inr (inr (inr (inr e)))) = m Yellow e

-- halves as they are written
pub colour_unit : (c : Option Colour) → ColourUnit (colour_byte c)
colour_unit None = inl refl
colour_unit (Some Red) = inr (inr (inr (inl refl)))
colour_unit (Some Green) = inr (inr (inl refl))
colour_unit (Some Blue) = inr (inl refl)
colour_unit (Some Yellow) = inr (inr (inr (inr refl)))

pub face_unit : (f : Option ℕ) → IfSome f (λ n. n < 10) → FaceUnit (face_byte f)
face_unit None l = inl refl
face_unit (Some n) l = inr (omega arith, omega arith)

-- the pair that a body spells, from its parts
pub pair_is : {m m' : Codes} {r r' : Option ℕ} → m ≡ m' → r ≡ r' → ◌≡◌ {A = Codes × Option ℕ} (m, r) (m', r')
pair_is {m} {m'} {r} {r'} x y =
    let f : Codes → Codes × Option ℕ = λ v. (v, r) in
    let g : Option ℕ → Codes × Option ℕ = λ v. (m', v) in
    ap f x ∙ ap g y

pub back_here : (i a b : ℕ) (r : Option ℕ) → b < a → back_of i a b r ≡ Some i
unfolding back_of
back_here i a b r h = rw (lt-ltb b a h)

pub back_later : (i a b : ℕ) (r : Option ℕ) → a ≤ b → back_of i a b r ≡ r
unfolding back_of
back_later i a b r h = rw (le-ltb b a h)

-- all other codes of the kind; n is how many there are
pub other_codes_lem : (u n : ℕ) (b : Bool) (k : ℕ) → n ≡ codes_of u → (ltb k n && ltb k 64) && not b ≡ ltb k (codes_of u) && not b
other_codes_lem u n b k e = elim (cases_eq u 1) [ inl x ↦ grind (arith, nat_tests) | inr x ↦ grind (arith, nat_tests) ]
