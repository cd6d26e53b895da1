-- What a list bank means.
use Rattle.std.specs.Prelude.{◌≡◌, ℕ, ◌<◌, ◌≤◌, ◌&&◌, length, Result, MatchResult, nat_le, slice_index_or}
use Rattle.refusals.specs.declared.Refusal.{Refusal}
use Rattle.refusals.specs.declared.Refusal.TheVariants.{Full}
use Rattle.widths.specs.Width.{width_in}
use Rattle.banks.specs.Pairs.{Pairs, ◌∪◌}
use Rattle.banks.specs.Meaning.{Meaning}
use Rattle.list_bank.specs.declared.pairs.PairList.{PairList}
use Rattle.list_bank.specs.declared.bank.ListBank.{ListBank}
use Rattle.list_bank.specs.Listed.{rank, listed, Short}

-- the pairs of a list
abbrev pub pairs_of : PairList → Pairs
pairs_of l = listed l.pairs.items (length l.pairs.items)

-- the pair at k of a list is (p, i)
pub record At (l : PairList) (k p i : ℕ) : Type 0 where
  pub within : k < length l.pairs.items
  pub place : (slice_index_or l.pairs.items k (0, 0)).0 ≡ p
  pub count : (slice_index_or l.pairs.items k (0, 0)).1 ≡ i

-- (p, i) is not in a list, and its place in the order is before the pair at k: those below k come before it, and it before those from k on
pub record Before (l : PairList) (k p i : ℕ) : Type 0 where
  pub bound : k ≤ length l.pairs.items
  pub below : (m : ℕ) → m < k → rank (slice_index_or l.pairs.items m (0, 0)) < rank (p, i)
  pub above : (m : ℕ) → k ≤ m → m < length l.pairs.items → rank (p, i) < rank (slice_index_or l.pairs.items m (0, 0))

-- the pair at k is the first that is not before (p, i): those below k come before it, and those from k on do not
pub record First (l : PairList) (k p i : ℕ) : Type 0 where
  pub bound : k ≤ length l.pairs.items
  pub below : (m : ℕ) → m < k → rank (slice_index_or l.pairs.items m (0, 0)) < rank (p, i)
  pub from : (m : ℕ) → k ≤ m → m < length l.pairs.items → rank (p, i) ≤ rank (slice_index_or l.pairs.items m (0, 0))

-- what putting new pairs into a list answers, and the pairs that it leaves there: the set with the new pairs where that has at most 256, else the set as it was
abbrev pub Gained : Pairs → Pairs → Result (Unit {0}) Refusal → Pairs → Type 0
Gained s new r s' = MatchResult r (λ _. s' ≡ (s ∪ new)) (λ e. (e ≡ Full) × (Short (s ∪ new) → ⊥) × (s' ≡ s))

-- the pairs with a count from 1 to n
abbrev pub up_to : ℕ → Pairs
up_to n = λ p i. nat_le 1 i && nat_le i n

-- every state is in standing, and every set of at most 256 pairs can be held
abbrev pub list_means : Meaning ListBank
list_means = record {
  standing = λ b. Unit {0};
  widths = λ b. width_in b.plan;
  front = λ b. pairs_of b.front;
  back = λ b. pairs_of b.back;
  holds = λ b s. Short s;
}
