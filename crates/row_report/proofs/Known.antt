-- A row of symbols can be refused only for want of memory.
use Rattle.std.proofs.Common.{◌≡◌, ℕ, true, List, [], ◌∷◌, sym, ◌∙◌, inl, inr, arith}
use mathlib.Core.Bool.{false≢true}
use Rattle.std.proofs.ByRecursion.{All-get_or}
use Rattle.refusals.specs.declared.Refusal.TheVariants.{Memory}
use Rattle.symbols.specs.declared.kind.Kind.{Ghosts}
use Rattle.symbol_rows.specs.declared.row.RowRefusal.{RowRefusal}
use Rattle.symbol_rows.specs.Rows.{AllSymbols, NoSymbolAfter, RowRefused}

module _ {K S : Type 0} (k : Ghosts K S) where
  none_after : (row : List S) (n : ℕ) → AllSymbols k row → NoSymbolAfter k row n → ⊥
  none_after [] n all (l, before, none) = omega arith
  none_after (s ∷ row) n all (l, before, none) = false≢true (sym (none s) ∙ All-get_or (λ x. k.valid x ≡ true) (s ∷ row) n s l all)

  pub memory_only : (row : List S) (e : RowRefusal) → AllSymbols k row → RowRefused k row e → e.refusal ≡ Memory
  memory_only row e all (inl m) = m
  memory_only row e all (inr (is, after)) = absurd (none_after row e.before all after)
