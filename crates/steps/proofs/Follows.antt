-- The links from one place to another, followed one after another.
use Rattle.std.proofs.Common.{◌≡◌, ℕ, Bool, false, ◌&&◌, Ok, Err, Result, ap, ◌∙◌, subst, arith}
use Rattle.refusals.specs.declared.Refusal.{Refusal}
use Rattle.bits.proofs.Laws.{bit_zero}
use Rattle.banks.specs.Pairs.{Pairs, only, moved}
use Rattle.banks.specs.Meaning.{Meaning, Facts}
use Rattle.widths.specs.Width.{width_of}
use Rattle.tables.specs.declared.table.Table.{Table}
use Rattle.tables.specs.Masks.{within, next, cross}
use Rattle.tables.specs.Tables.{links_of, low_of}
use Rattle.steps.specs.StepSet.{seen, only_if, along}
use Rattle.steps.specs.Gathered.{Ready, Gathered}
use Rattle.steps.proofs.Gathers.{gathered_none, gathered_more, gathered_refused}

-- what a link from p to q gives of the set f, if x says that there is one: a within link, a next link, a cross link
abbrev pub by_within : ℕ → ℕ → Bool → Pairs → Pairs
by_within p q x f = only_if x (moved f p q 0)

abbrev pub by_next : ℕ → ℕ → Bool → Pairs → Pairs
by_next p q x f = only_if x (moved f p q 1)

abbrev pub by_cross : Table → ℕ → ℕ → Bool → Pairs → Pairs
by_cross t p q x f = only_if (x && seen f p (low_of t p) (width_of t.widths p)) (only q 1)

-- the same pairs, where the test and the set are equal
pub gathered_at :
    {B : Type 0} (m : Meaning B) (S : Bool → Pairs → Pairs) (x y : Bool) (f h : Pairs) (b : B) (r : Result (Unit {0}) Refusal) (b' : B)
    → x ≡ y → f ≡ h → Gathered m (S x f) b r b' → Gathered m (S y h) b r b'
gathered_at m S x y f h b r b' e k z =
    subst (λ v. Gathered m (S v h) b r b') e (subst (λ v. Gathered m (S x v) b r b') k z)

module _ {B : Type 0} (m : Meaning B) (t : Table) (f : Pairs) (p q : ℕ) where
  abbrev ByWithin : B → Result (Unit {0}) Refusal → B → Type 0
  ByWithin = Gathered m (by_within p q (within (links_of t p q)) f)

  abbrev ByNext : B → Result (Unit {0}) Refusal → B → Type 0
  ByNext = Gathered m (by_next p q (next (links_of t p q)) f)

  abbrev ByCross : B → Result (Unit {0}) Refusal → B → Type 0
  ByCross = Gathered m (by_cross t p q (cross (links_of t p q)) f)

  -- what the within link gives is refused
  pub within_refused :
      Facts m → (b : B) (e : Refusal) (b₁ : B) → m.standing b → ByWithin b (Err e) b₁ → Gathered m (along t f p q) b (Err e) b₁
  within_refused facts b e b₁ stands h = gathered_refused m facts _ (along t f p q) b e b₁ stands (λ r j x. grind arith) h

  -- what the next link gives is refused
  pub next_refused :
      Facts m → (b b₁ : B) (e : Refusal) (b₂ : B) → m.standing b → ByWithin b (Ok tt) b₁ → ByNext b₁ (Err e) b₂
      → Gathered m (along t f p q) b (Err e) b₂
  next_refused facts b b₁ e b₂ stands h k =
      gathered_refused m facts _ (along t f p q) b e b₂ stands (λ r j x. grind arith) (gathered_more m _ _ b b₁ (Err e) b₂ h k)

  -- all three links are followed
  pub links_followed :
      (b b₁ b₂ : B) (r : Result (Unit {0}) Refusal) (b₃ : B)
      → ByWithin b (Ok tt) b₁ → ByNext b₁ (Ok tt) b₂ → ByCross b₂ r b₃ → Gathered m (along t f p q) b r b₃
  links_followed b b₁ b₂ r b₃ h k l = gathered_more m _ _ b b₁ r b₃ h (gathered_more m _ _ b₁ b₂ r b₃ k l)

  -- without a link there is nothing to follow
  pub no_link_followed : links_of t p q ≡ 0 → (b : B) → Ready m b → Gathered m (along t f p q) b (Ok tt) b
  no_link_followed none b =
      let w : within (links_of t p q) ≡ false = ap within none ∙ bit_zero 0 in
      let n : next (links_of t p q) ≡ false = ap next none ∙ bit_zero 1 in
      let x : cross (links_of t p q) ≡ false = ap cross none ∙ bit_zero 2 in
      gathered_none m (along t f p q) b (λ r j. grind arith)
