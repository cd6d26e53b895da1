-- What follows from the meaning of a byte.
use Rattle.std.proofs.Common.{◌≡◌, ℕ, ◌<◌, ◌⊎◌, List, length, refl, subst, inl, inr, arith}
use Rattle.grammar.specs.Codes.{LetterUnit, ColourUnit}
use Rattle.grammar.specs.Grammar.{byte}
use Rattle.grammar.specs.Reading.{Means, QuantifierByte, AfterPattern, AfterBranch, AfterPiece}
use Rattle.grammar.specs.declared.bytes.Role.{Role}
use Rattle.grammar.specs.declared.bytes.Role.TheVariants.{Group, Class, Letter, Tile, Quantifier, Stop, Other}
use Rattle.grammar.proofs.Texts.{within}

-- where a branch is not over, what stands there does not follow a branch
pub goes_on : (u c : ℕ) (r : Role) → Means u c r → (r ≡ Stop → ⊥) → AfterBranch c → ⊥
goes_on u c Group m n a = grind arith
goes_on u c Class m n a = grind arith
goes_on u c Letter m n a = grind (arith, m.1)
goes_on u c Tile m n a = grind (arith, m.1)
goes_on u c Quantifier m n a = grind arith
goes_on u c Stop m n a = n refl
goes_on u c Other m n a = m.5 a

-- what is no quantifier may follow a piece
pub no_second : (u c : ℕ) (r : Role) → Means u c r → (r ≡ Quantifier → ⊥) → AfterPiece c
no_second u c Group m n a = grind arith
no_second u c Class m n a = grind arith
no_second u c Letter m n a = grind (arith, m.1)
no_second u c Tile m n a = grind (arith, m.1)
no_second u c Quantifier m n a = n refl
no_second u c Stop m n a = grind arith
no_second u c Other m n a = m.4 a

-- a quantifier is a byte of the text
pub inside : (s : List ℕ) (i : ℕ) → QuantifierByte (byte s i) → i < length s
inside s i q = within s i (grind arith)

-- a quantifier, the end of a branch and any other byte begin no atom: they are no bracket
pub no_opening : (u c : ℕ) (r : Role) → Means u c r → (r ≡ Quantifier) ⊎ ((r ≡ Stop) ⊎ (r ≡ Other)) → (c ≡ 91) ⊎ (c ≡ 40) → ⊥
no_opening u c r m (inl e) x = let w : QuantifierByte c = subst (Means u c) e m in grind arith
no_opening u c r m (inr (inl e)) x = let w : AfterBranch c = subst (Means u c) e m in grind arith
no_opening u c r m (inr (inr e)) x = let w : Means u c Other = subst (Means u c) e m in elim x [ inl y ↦ w.1 y | inr y ↦ w.0 y ]

-- and no unit begins with them
pub no_letter : (u c : ℕ) (r : Role) → Means u c r → (r ≡ Quantifier) ⊎ ((r ≡ Stop) ⊎ (r ≡ Other)) → u ≡ 1 → LetterUnit c → ⊥
no_letter u c r m (inl e) v x = let w : QuantifierByte c = subst (Means u c) e m in grind arith
no_letter u c r m (inr (inl e)) v x = let w : AfterBranch c = subst (Means u c) e m in grind arith
no_letter u c r m (inr (inr e)) v x = let w : Means u c Other = subst (Means u c) e m in w.2 v x

pub no_colour : (u c : ℕ) (r : Role) → Means u c r → (r ≡ Quantifier) ⊎ ((r ≡ Stop) ⊎ (r ≡ Other)) → u ≡ 2 → ColourUnit c → ⊥
no_colour u c r m (inl e) v x = let w : QuantifierByte c = subst (Means u c) e m in grind arith
no_colour u c r m (inr (inl e)) v x = let w : AfterBranch c = subst (Means u c) e m in grind arith
no_colour u c r m (inr (inr e)) v x = let w : Means u c Other = subst (Means u c) e m in w.3 v x

-- what follows a branch and is no bar follows a pattern
pub no_bar : {c : ℕ} → AfterBranch c → (c ≡ 124 → ⊥) → AfterPattern c
no_bar a x = elim a [ inl p ↦ p | inr e ↦ absurd (x e) ]
