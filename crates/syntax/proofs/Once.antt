-- A text has at most one refusal.
use Rattle.std.proofs.Common.{◌≡◌, ℕ, ◌+◌, ◌≤◌, List, [], ◌++◌, length, take, drop, sym, ap, ◌∙◌, subst, inl, inr, append_assoc, arith, take-append-drop}
use Rattle.std.proofs.lemmas.List.{take-take, take_all, append-nil}
use Rattle.std.proofs.lemmas.Bool.{cases_order}
use Rattle.grammar.specs.Ast.{Ast}
use Rattle.grammar.specs.Grammar.{IsPattern, Begins}
use Rattle.alphabets.specs.Alphabets.{unit_of}
use Rattle.grammar.specs.Reading.{ByteAt}
use Rattle.alphabets.specs.declared.Alphabet.{Alphabet}
use Rattle.grammar.proofs.Whole.{one_tree}
use Rattle.refusals.specs.Numbering.{number_of}
use Rattle.refusals.specs.declared.Refusal.{Refusal}
use Rattle.refusals.specs.declared.Refusal.TheVariants.{Length, Byte, End, Range, Empty, Bounds, Nested, Places, Counts, Symbol, Work, Code, Full, Complete, Stuck, Memory}
use Rattle.checks.specs.Faults.{Leftmost}
use Rattle.syntax.specs.Refuses.{Breaks, Applies, Refuses}
use Rattle.syntax.proofs.Numbers.{place_in, known}

-- what begins with a beginning of a pattern is one
begins_less : (u : ℕ) (s : List ℕ) (m n : ℕ) → m ≤ n → Begins u (take n s) → Begins u (take m s)
begins_less u s m n l b =
    let x = take n s in
    let e : take m s ++ drop m x ≡ x = ap (λ v. v ++ drop m x) (sym (take-take m n s l)) ∙ take-append-drop m x in
    let f : take m s ++ (drop m x ++ b.0) ≡ x ++ b.0 = sym (append_assoc (take m s) (drop m x) b.0) ∙ ap (λ v. v ++ b.0) e in
    (drop m x ++ b.0, b.1, subst (λ v. IsPattern u v b.1) (sym f) b.2)

-- a text that begins a pattern has no byte with which it stops
pub begins_on : (u : ℕ) (s : List ℕ) (p : ℕ) → Begins u s → ByteAt u s p → ⊥
begins_on u s p b h = h.2 (begins_less u s (p + 1) (length s) (omega (arith, h.0)) (subst (Begins u) (sym (take_all (length s) s (omega arith))) b))

pub begins_whole : (u : ℕ) (s : List ℕ) (t : Ast) → IsPattern u s t → Begins u s
begins_whole u s t d = ([], t, subst (λ v. IsPattern u v t) (sym (append-nil s)) d)

byte_once : (u : ℕ) (s : List ℕ) (p q : ℕ) → ByteAt u s p → ByteAt u s q → p ≡ q
byte_once u s p q h g =
    elim (cases_order p q) [ inl e ↦ e | inr (inl l) ↦ absurd (h.2 (begins_less u s (p + 1) q (omega arith) g.1)) | inr (inr l) ↦ absurd (g.2 (begins_less u s (q + 1) p (omega arith) h.1)) ]

leftmost_once : {P : ℕ → Type 0} {p q : ℕ} → Leftmost P p → Leftmost P q → p ≡ q
leftmost_once {P} {p} {q} h g = omega (arith, h.1 q g.0, g.1 p h.0)

module _ (a : Alphabet) (s : List ℕ) where
  -- the refusal of a tree that is the tree of the text
  pub of_tree : (t v : Ast) (r : Refusal) → IsPattern (unit_of a) s t → IsPattern (unit_of a) s v → Breaks v r → Breaks t r
  of_tree t v r d e = subst (λ w. Breaks w r) (one_tree (unit_of a) s v t e d)

  -- two refusals with one number, both of which apply, are one
  same : (r q : Refusal) → number_of q ≡ number_of r → Applies a s r → Applies a s q → q ≡ r
  same Length q e h g = known q 1 e
  same (Byte p) q e h g =
      let x = known q 2 e in
      x ∙ ap Byte (byte_once (unit_of a) s (place_in q) p (subst (Applies a s) x g) h)
  same (End p) q e h g =
      let x = known q 3 e in
      let y = subst (Applies a s) x g in
      x ∙ ap End (y.0 ∙ sym h.0)
  same (Range p) q e h g =
      let x = known q 4 e in
      let y = subst (Applies a s) x g in
      x ∙ ap Range (leftmost_once y.2 (of_tree y.0 h.0 (Range p) y.1 h.1 h.2))
  same (Empty p) q e h g =
      let x = known q 5 e in
      let y = subst (Applies a s) x g in
      x ∙ ap Empty (leftmost_once y.2 (of_tree y.0 h.0 (Empty p) y.1 h.1 h.2))
  same (Bounds p) q e h g =
      let x = known q 6 e in
      let y = subst (Applies a s) x g in
      x ∙ ap Bounds (leftmost_once y.2 (of_tree y.0 h.0 (Bounds p) y.1 h.1 h.2))
  same (Nested p) q e h g =
      let x = known q 7 e in
      let y = subst (Applies a s) x g in
      x ∙ ap Nested (leftmost_once y.2 (of_tree y.0 h.0 (Nested p) y.1 h.1 h.2))
  same (Places p) q e h g =
      let x = known q 8 e in
      let y = subst (Applies a s) x g in
      x ∙ ap Places (y.2.1 ∙ sym (of_tree y.0 h.0 (Places p) y.1 h.1 h.2).1)
  same Counts q e h g = known q 9 e
  same Symbol q e h g = absurd h
  same Work q e h g = absurd h
  same Code q e h g = absurd h
  same Full q e h g = absurd h
  same Complete q e h g = absurd h
  same Stuck q e h g = absurd h
  same Memory q e h g = absurd h

  pub refused_once : (r q : Refusal) → Refuses a s r → Refuses a s q → q ≡ r
  refused_once r q h g =
      elim (cases_order (number_of q) (number_of r)) [ inl e ↦ same r q e h.0 g.0 | inr (inl l) ↦ absurd (h.1 q l g.0) | inr (inr l) ↦ absurd (g.1 r l h.0) ]
