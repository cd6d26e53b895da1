-- What the exit of a `?` answers: the refusal of the inner reader is one of the outer.
use Rattle.std.proofs.Common.{◌≡◌, ℕ, ◌<◌, ◌≤◌, List, length, None, Some, Option, IsErrAnd, Ok, Err, Result, sym, subst, rules}
use Rattle.std.specs.Option.{MatchOption, ok_or}
use Rattle.grammar.specs.Ast.{Ast}
use Rattle.grammar.specs.Grammar.{byte, Pattern}
use Rattle.alphabets.specs.Alphabets.{unit_of}
use Rattle.grammar.specs.Reading.{AfterPattern, Stops, Reads, Faults, Tells}
use Rattle.alphabets.specs.declared.Alphabet.{Alphabet}
use Rattle.grammar.specs.declared.tree.Node.{Node}
use Rattle.grammar.proofs.Whole.{byte_at, end_at}
use Rattle.refusals.specs.declared.Refusal.{Refusal}
use Rattle.refusals.specs.declared.Refusal.TheVariants.{Length, Byte, End, Range, Empty, Bounds, Nested, Places, Counts, Symbol, Work, Code, Full, Complete, Stuck, Memory}

-- where the outer reader stops with the inner, its refusal is the inner's
handed : {X Y : Type 0} {R : List ℕ → ℕ → ℕ → X → Type 0} {Q : List ℕ → ℕ → ℕ → Y → Type 0} {F G : ℕ → Type 0} {s : List ℕ} {i j : ℕ} → ((p : ℕ) → Stops X R F s i p → Stops Y Q G s j p) → (e : Refusal) → Faults X R F s i e → Faults Y Q G s j e
handed f (Byte p) h = (h.0, f p h.1)
handed f (End p) h = (h.0, f p h.1)
handed f Memory h = tt
handed f Length h = h
handed f (Range p) h = h
handed f (Empty p) h = h
handed f (Bounds p) h = h
handed f (Nested p) h = h
handed f (Places p) h = h
handed f Counts h = h
handed f Symbol h = h
handed f Work h = h
handed f Code h = h
handed f Full h = h
handed f Complete h = h
handed f Stuck h = h

-- a refusal that is handed on
pub refused : {Y V : Type 0} (Q : List ℕ → ℕ → ℕ → Y → Type 0) (G : ℕ → Type 0) (s : List ℕ) (j : ℕ) (f : V → Y) (least : ℕ) (r : Result (V × ℕ) Refusal) (e : Refusal) → IsErrAnd r (λ y. y ≡ e) → Faults Y Q G s j e → Reads V Y f Q G s least j r
refused Q G s j f least (Ok x) e h d = absurd h
refused {Y} Q G s j f least (Err y) e h d = subst (λ v. Faults Y Q G s j v) (sym h) d

pub exit : {X Y V : Type 0} {R : List ℕ → ℕ → ℕ → X → Type 0} {Q : List ℕ → ℕ → ℕ → Y → Type 0} {F G : ℕ → Type 0} {s : List ℕ} {i j : ℕ} (f : V → Y) (least : ℕ) → ((p : ℕ) → Stops X R F s i p → Stops Y Q G s j p) → (r : Result (V × ℕ) Refusal) (e : Refusal) → IsErrAnd r (λ y. y ≡ e) → Faults X R F s i e → Reads V Y f Q G s least j r
exit {X} {Y} {V} {R} {Q} {F} {G} {s} {i} {j} f least g r e h d = refused Q G s j f least r e h (handed g e d)

told_at : (a : Alphabet) (s : List ℕ) (e : Refusal) → Faults Ast (Pattern (unit_of a)) AfterPattern s 0 e → Tells a s (Err e)
told_at a s (Byte p) h = byte_at h.0 h.1
told_at a s (End p) h = end_at h.0 h.1
told_at a s Memory h = tt
told_at a s Length h = h
told_at a s (Range p) h = h
told_at a s (Empty p) h = h
told_at a s (Bounds p) h = h
told_at a s (Nested p) h = h
told_at a s (Places p) h = h
told_at a s Counts h = h
told_at a s Symbol h = h
told_at a s Work h = h
told_at a s Code h = h
told_at a s Full h = h
told_at a s Complete h = h
told_at a s Stuck h = h

-- the same for the reader of the whole text
pub told : (a : Alphabet) (s : List ℕ) (r : Result Node Refusal) (e : Refusal) → IsErrAnd r (λ y. y ≡ e) → Faults Ast (Pattern (unit_of a)) AfterPattern s 0 e → Tells a s r
told a s (Ok x) e h d = absurd h
told a s (Err y) e h d = subst (λ v. Tells a s (Err v)) (sym h) (told_at a s e d)

-- a byte that was asked for, and is there or not
pub was_read : (s : List ℕ) (i : ℕ) (o : Option ℕ) (b : ℕ) → MatchOption o ((length s ≤ i) × (byte s i ≡ 256)) (λ b. (i < length s) × (byte s i ≡ b)) → o ≡ Some b → (i < length s) × (byte s i ≡ b)
was_read s i o b h e = rw e at h

pub not_read : (s : List ℕ) (i : ℕ) (o : Option ℕ) (x e : Refusal) → MatchOption o ((length s ≤ i) × (byte s i ≡ 256)) (λ b. (i < length s) × (byte s i ≡ b)) → Err e ≡ ok_or o x → (e ≡ x) × (length s ≤ i) × (byte s i ≡ 256)
not_read s i None x e h k = (search rules, h.0, h.1)
not_read s i (Some b) x e h k = absurd (search rules)
