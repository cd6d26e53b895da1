-- A class body with one more item at its end.
use Rattle.std.proofs.Common.{◌≡◌, ℕ, ◌+◌, ◌≤◌, Bool, true, false, cond, ◌||◌, ltb, List, [], ◌∷◌, ◌++◌, length, get_or, Some, None, Option, sym, refl, ap, ◌∙◌, subst, arith, length-append}
use Rattle.std.proofs.lemmas.List.{take-append-le, get_or-append-add}
use Rattle.grammar.specs.Codes.{Codes, Letter, ColourUnit, FaceUnit, no_codes, codes_of_letter, codes_of_tile, codes_of_range, joined_codes}
use Rattle.grammar.specs.Grammar.{byte, OneUnit, Body, back_of, tile, nothing, one, range, tiles}
use Rattle.grammar.proofs.Local.{body_at}
use Rattle.grammar.proofs.Spelling.{back_later}
use Rattle.class_bodies.specs.ClassBody.{SpellsMore}

-- The first of two places, where there is one.
abbrev later : Option ℕ → Option ℕ → Option ℕ
later None q = q
later (Some p) q = Some p

pick_later : (t : Bool) (i : ℕ) (r q : Option ℕ) → cond t (Some i) (later r q) ≡ later (cond t (Some i) r) q
pick_later true i r q = refl
pick_later false i r q = refl

back_first : (i a b : ℕ) (r q : Option ℕ) → back_of i a b (later r q) ≡ later (back_of i a b r) q
unfolding back_of
back_first i a b r q = pick_later (ltb b a) i r q

-- The bytes from i on and before j spell the codes m and n, and their first range that runs backwards is that of m, or that of n.
abbrev Both : ℕ → List ℕ → ℕ → ℕ → Codes → Codes → Option ℕ → Option ℕ → Type 0
Both u s i j m n r q = (y : Codes) × Body u s i j (y, later r q) × ((c : ℕ) → y c ≡ (m c || n c))

more_codes : (x y m n : Bool) → y ≡ (m || n) → (x || y) ≡ ((x || m) || n)
more_codes true y m n e = refl
more_codes false y m n e = e

both_one : (u : ℕ) (s : List ℕ) (i j c : ℕ) (m n : Codes) (r q : Option ℕ) → u ≡ 1 → byte s i ≡ c → Letter c → Both u s (i + 1) j m n r q
    → Both u s i j (joined_codes (codes_of_letter c) m) n r q
both_one u s i j c m n r q x y z w = (joined_codes (codes_of_letter c) w.0, one x y z w.1, λ k. more_codes (codes_of_letter c k) (w.0 k) (m k) (n k) (w.2 k))

both_range : (u : ℕ) (s : List ℕ) (i j a b : ℕ) (m n : Codes) (r q : Option ℕ) → u ≡ 1 → byte s i ≡ a → Letter a → byte s (i + 1) ≡ 45 → byte s (i + 2) ≡ b → Letter b
    → Both u s (i + 3) j m n r q → Both u s i j (joined_codes (codes_of_range a b) m) n (back_of i a b r) q
both_range u s i j a b m n r q x y z d f g w =
    let item = range x y z d f g w.1 in
    (joined_codes (codes_of_range a b) w.0, subst (λ v. Body u s i j (joined_codes (codes_of_range a b) w.0, v)) (back_first i a b r q) item, λ k. more_codes (codes_of_range a b k) (w.0 k) (m k) (n k) (w.2 k))

both_tile : (u : ℕ) (s : List ℕ) (i k j : ℕ) (l m n : Codes) (r q : Option ℕ) → u ≡ 2 → OneUnit u s i k l → Both u s k j m n r q
    → Both u s i j (joined_codes l m) n r q
both_tile u s i k j l m n r q x y w = (joined_codes l w.0, tiles x y w.1, λ c. more_codes (l c) (w.0 c) (m c) (n c) (w.2 c))

-- Two bodies, one behind the other, spell the codes of both.
join : {u : ℕ} {s : List ℕ} {i k j : ℕ} {m n : Codes} {r q : Option ℕ} → Body u s i k (m, r) → Body u s k j (n, q) → Both u s i j m n r q
join {n = n} nothing b = (n, b, λ c. refl)
join {q = q} (one {r = r} x y z rest) b = both_one _ _ _ _ _ _ _ r q x y z (join rest b)
join {q = q} (range {r = r} x y z d f g rest) b = both_range _ _ _ _ _ _ _ _ r q x y z d f g (join rest b)
join {q = q} (tiles {r = r} x y rest) b = both_tile _ _ _ _ _ _ _ _ r q x y (join rest b)

-- What was spelled is spelled still, and the new bytes spell their codes behind it.
pub extended : (u : ℕ) (s t : List ℕ) (m : Codes) → Body u (s ++ t) (length s) (length (s ++ t)) (m, None) → SpellsMore u s (s ++ t) m
extended u s t m new before (old, body, is) =
    let moved = body_at s (s ++ t) (length s) (sym (take-append-le (length s) s t (omega arith))) (omega arith) body in
    let w = join moved new in
    (w.0, w.1, λ c. w.2 c ∙ ap (λ v. v || m c) (is c))

-- The bytes at the end.
behind : (s t : List ℕ) (n c : ℕ) → get_or t n 256 ≡ c → byte (s ++ t) (length s + n) ≡ c
behind s t n c e = get_or-append-add s t n 256 ∙ e

at_end : (s t : List ℕ) (c : ℕ) → get_or t 0 256 ≡ c → byte (s ++ t) (length s) ≡ c
at_end s t c e = let z : length s + 0 ≡ length s = omega arith in subst (λ v. byte (s ++ t) v ≡ c) z (behind s t 0 c e)

pub letter_more : (s : List ℕ) (a : ℕ) → Letter a → SpellsMore 1 s (s ++ a ∷ []) (joined_codes (codes_of_letter a) no_codes)
letter_more s a h =
    let long : length s + 1 ≡ length (s ++ a ∷ []) = sym (length-append s (a ∷ [])) in
    extended 1 s (a ∷ []) _ (one refl (at_end s (a ∷ []) a refl) h (subst (λ v. Body 1 (s ++ a ∷ []) (length s + 1) v (no_codes, None)) long nothing))

pub range_more : (s : List ℕ) (a b : ℕ) → Letter a → Letter b → a ≤ b → SpellsMore 1 s (s ++ a ∷ 45 ∷ b ∷ []) (joined_codes (codes_of_range a b) no_codes)
range_more s a b h k l =
    let t = a ∷ 45 ∷ b ∷ [] in
    let long : length s + 3 ≡ length (s ++ t) = sym (length-append s t) in
    let item = range {r = None} refl (at_end s t a refl) h (behind s t 1 45 refl) (behind s t 2 b refl) k (subst (λ v. Body 1 (s ++ t) (length s + 3) v (no_codes, None)) long nothing) in
    extended 1 s t _ (subst (λ v. Body 1 (s ++ t) (length s) (length (s ++ t)) (joined_codes (codes_of_range a b) no_codes, v)) (back_later (length s) a b None l) item)

pub tile_more : (s : List ℕ) (a b : ℕ) → ColourUnit a → FaceUnit b → SpellsMore 2 s (s ++ a ∷ b ∷ []) (joined_codes (codes_of_tile a b) no_codes)
tile_more s a b h k =
    let t = a ∷ b ∷ [] in
    let long : length s + 2 ≡ length (s ++ t) = sym (length-append s t) in
    extended 2 s t _ (tiles refl (tile refl (at_end s t a refl) h (behind s t 1 b refl) k) (subst (λ v. Body 2 (s ++ t) (length s + 2) v (no_codes, None)) long nothing))
