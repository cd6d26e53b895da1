-- Every row of a pattern whose sets have codes below n has codes below n.
use Rattle.std.proofs.Common.{ℕ, zero, suc, ◌<◌, List, [], ◌∷◌, ◌++◌, sym, subst, inl, inr}
use Rattle.std.specs.List.{AllByRecursion}
use Rattle.std.proofs.ByRecursion.{All-append}
use Rattle.automata.specs.Language.{Tree, empty, unit, cat, alt, star, plus, opt, rep, Power, In}
use Rattle.syntax.specs.TextLanguage.{CodesBelow}

-- the parts of a joined list
pub all_parts : {X : Type 0} (P : X → Type 0) (xs ys : List X) → AllByRecursion P (xs ++ ys) → AllByRecursion P xs × AllByRecursion P ys
all_parts P [] ys h = (tt, h)
all_parts P (x ∷ xs) ys h = let (a, b) = all_parts P xs ys h.1 in ((h.0, a), b)

power_all : (L : List ℕ → Type 0) (P : ℕ → Type 0) → ((w : List ℕ) → L w → AllByRecursion P w) → (m : ℕ) (w : List ℕ) → Power L m w → AllByRecursion P w
power_all L P each zero w is = subst (λ v. AllByRecursion P v) (sym is) tt
power_all L P each (suc m) w (u, v, is, x, y) = subst (λ z. AllByRecursion P z) (sym is) (All-append P u v (each u x) (power_all L P each m v y))

pub row_below : (n : ℕ) (e : Tree) → CodesBelow n e → (w : List ℕ) → In e w → AllByRecursion (λ c. c < n) w
row_below n empty h w is = subst (λ v. AllByRecursion (λ c. c < n) v) (sym is) tt
row_below n (unit S) h w (c, held, is) = subst (λ v. AllByRecursion (λ c. c < n) v) (sym is) (h c held, tt)
row_below n (cat a b) h w (u, v, is, x, y) =
    subst (λ z. AllByRecursion (λ c. c < n) z) (sym is) (All-append (λ c. c < n) u v (row_below n a h.0 u x) (row_below n b h.1 v y))
row_below n (alt a b) h w (inl x) = row_below n a h.0 w x
row_below n (alt a b) h w (inr x) = row_below n b h.1 w x
row_below n (star a) h w (m, x) = power_all (In a) (λ c. c < n) (row_below n a h) m w x
row_below n (plus a) h w (m, l, x) = power_all (In a) (λ c. c < n) (row_below n a h) m w x
row_below n (opt a) h w (m, l, x) = power_all (In a) (λ c. c < n) (row_below n a h) m w x
row_below n (rep lo hi a) h w (m, l, g, x) = power_all (In a) (λ c. c < n) (row_below n a h) m w x
