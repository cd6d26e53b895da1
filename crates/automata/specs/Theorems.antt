-- The statements that this crate proves, each named by the contract of one of its functions.
use Rattle.std.specs.Prelude.{◌≡◌, ℕ, suc, ◌-◌, ◌<◌, ◌≤◌, T, ◌⊎◌, ◌↔◌, List, [], ◌∷◌, ◌++◌, length, Decides}
use Rattle.automata.specs.Language.{Tree, In, Flat, WellFormed, NoEmptySet}
use Rattle.automata.specs.Places.{nullable, First, Last, Holds, low, width}
use Rattle.automata.specs.Links.{Meet, Within, Next, Cross, Takes, Link}
use Rattle.automata.specs.Step.{Step, Stands, Accepts, Fits}
use Rattle.automata.specs.Moves.{Moved}
use Rattle.automata.specs.Completion.{Least, Completed, Need, Stuck, Hint, Hinted, Reach, Near}
use Rattle.automata.specs.Distances.{Inside, Labelled}
use Rattle.automata.specs.PlaceRows.{Reads}
use Rattle.automata.specs.Decide.{flatb, well_formedb, firstb, lastb, holdsb, meetb, withinb, nextb, crossb, takesb, linkb, acceptsb}

-- ---- The language and the front

-- A row belongs to the language exactly when its front fits.
abbrev pub LanguageByFronts : Type 0
LanguageByFronts = (e : Tree) (w : List ℕ) → WellFormed e → (In e w ↔ Fits e w)

-- ---- Nullable, firsts and lasts

-- A part is nullable exactly when the empty row belongs to its language.
abbrev pub NullableByRows : Type 0
NullableByRows = (e : Tree) → WellFormed e → (T (nullable e) ↔ In e [])

-- A row belongs to the language exactly when some row of places reads it.
abbrev pub RowsByPlaces : Type 0
RowsByPlaces = (e : Tree) (o : ℕ) (w : List ℕ) → (In e w ↔ ((ps : List ℕ) × Reads e o ps w))

-- The firsts are the places that take the first symbol of some row of the language.
abbrev pub FirstsByRows : Type 0
FirstsByRows =
    (e : Tree) (o p : ℕ) → WellFormed e → NoEmptySet e
    → (First e o p ↔ ((ps : List ℕ) × (s : ℕ) × (w : List ℕ) × Reads e o (p ∷ ps) (s ∷ w)))

-- The lasts are the places that take the last symbol of some row of the language.
abbrev pub LastsByRows : Type 0
LastsByRows =
    (e : Tree) (o p : ℕ) → WellFormed e → NoEmptySet e
    → (Last e o p ↔ ((ps : List ℕ) × (s : ℕ) × (w : List ℕ) × Reads e o (ps ++ (p ∷ [])) (w ++ (s ∷ []))))

-- ---- The step

-- The front after one more symbol is the step of the front.
abbrev pub FrontByStep : Type 0
FrontByStep = (e : Tree) (w : List ℕ) (s q j : ℕ) → (Stands e (w ++ (s ∷ [])) q j ↔ Step e s (Stands e w) q j)

-- Every pair that stands lies within the widths.
abbrev pub FrontInside : Type 0
FrontInside = (e : Tree) (w : List ℕ) (p i : ℕ) → WellFormed e → Stands e w p i → Inside e p i

-- The start has low 1 and width 1.
abbrev pub StartBounds : Type 0
StartBounds = (e : Tree) → (low e 0 0 ≡ 1) × (width e 0 0 ≡ 1)

-- The front after one more symbol is what the moves of the front give at the places whose sets hold the symbol.
abbrev pub FrontByMoves : Type 0
FrontByMoves =
    (e : Tree) (w : List ℕ) (s q j : ℕ) → WellFormed e
    → (Stands e (w ++ (s ∷ [])) q j ↔ (Holds e 0 q s × ((p : ℕ) × Moved e (Stands e w) p q j)))

-- ---- Completions

-- A completion of n symbols exists exactly when a path of n links leads from the front to a pair that accepts.
abbrev pub CompletionsByPaths : Type 0
CompletionsByPaths = (e : Tree) (w : List ℕ) (n : ℕ) → WellFormed e → NoEmptySet e → (Completed e w n ↔ Near e w n)

-- The need is the length of the shortest such path.
abbrev pub NeedByPaths : Type 0
NeedByPaths = (e : Tree) (w : List ℕ) (n : ℕ) → WellFormed e → NoEmptySet e → (Need e w n ↔ Least (Near e w) n)

-- A row is stuck exactly when there is no such path.
abbrev pub StuckByPaths : Type 0
StuckByPaths = (e : Tree) (w : List ℕ) → WellFormed e → NoEmptySet e → (Stuck e w ↔ ((n : ℕ) → Near e w n → ⊥))

-- A row has at most one need.
abbrev pub NeedUnique : Type 0
NeedUnique = (e : Tree) (w : List ℕ) (m n : ℕ) → Need e w m → Need e w n → m ≡ n

-- The need is 0 exactly when the row belongs to the language, that is, when its front fits.
abbrev pub NeedZero : Type 0
NeedZero = (e : Tree) (w : List ℕ) → (Need e w 0 ↔ In e w) × (WellFormed e → (Need e w 0 ↔ Fits e w))

-- A row that has a need is not stuck.
abbrev pub NeedNotStuck : Type 0
NeedNotStuck = (e : Tree) (w : List ℕ) (n : ℕ) → Need e w n → Stuck e w → ⊥

-- ---- Hints

-- Where the need is above 0 there is a hint.
abbrev pub HintExists : Type 0
HintExists = (e : Tree) (w : List ℕ) (n : ℕ) → Need e w (suc n) → (s : ℕ) × Hint e w s

-- Hints bring the row into the language after exactly as many symbols as the need, and not before:
-- of the hinted row, no part from the start with fewer symbols does.
abbrev pub HintsFinish : Type 0
HintsFinish =
    (e : Tree) (w v : List ℕ) → Need e w (length v) → Hinted e w v
    → In e (w ++ v) × ((u x : List ℕ) → v ≡ u ++ x → length u < length v → In e (w ++ u) → ⊥)

-- Each hint takes one from the need. So there are never more hints than the need, and with them the row is in the language
-- exactly when they are as many as the need.
abbrev pub HintsCount : Type 0
HintsCount =
    (e : Tree) (w v : List ℕ) (n : ℕ) → Need e w n → Hinted e w v
    → (length v ≤ n) × Need e (w ++ v) (n - length v) × (In e (w ++ v) ↔ (length v ≡ n))

-- Every symbol of the place that the first link of a shortest path leads to is a hint.
abbrev pub HintByPaths : Type 0
HintByPaths =
    (e : Tree) (w : List ℕ) (n p i q j s : ℕ) → WellFormed e → NoEmptySet e → Need e w (suc n)
    → Stands e w p i → Link e p i q j → Reach e n q j → Holds e 0 q s → Hint e w s

-- A hint is a symbol of the pattern: the set at some place holds it.
abbrev pub HintHeld : Type 0
HintHeld = (e : Tree) (w : List ℕ) (s : ℕ) → WellFormed e → Hint e w s → (q : ℕ) × Holds e 0 q s

-- ---- Tables of distances

-- A table that meets the local facts is right: it has k + 1 where the shortest path has k links, and 0 where there is none.
abbrev pub LabelsRight : Type 0
LabelsRight =
    (e : Tree) (label : ℕ → ℕ → ℕ) (p i : ℕ) → WellFormed e → Labelled e label → Inside e p i
    → ((k : ℕ) → (label p i ≡ suc k ↔ Least (λ n. Reach e n p i) k)) × (label p i ≡ 0 ↔ ((n : ℕ) → Reach e n p i → ⊥))

-- The least label, 0 apart, of a pair that stands is one more than the need.
abbrev pub NeedByLabels : Type 0
NeedByLabels =
    (e : Tree) (label : ℕ → ℕ → ℕ) (w : List ℕ) (p i n : ℕ) → WellFormed e → NoEmptySet e → Labelled e label
    → Stands e w p i → label p i ≡ suc n → ((q j : ℕ) → Stands e w q j → (label q j ≡ 0) ⊎ (suc n ≤ label q j)) → Need e w n

-- The row is stuck exactly when every pair that stands has the label 0.
abbrev pub StuckByLabels : Type 0
StuckByLabels =
    (e : Tree) (label : ℕ → ℕ → ℕ) (w : List ℕ) → WellFormed e → NoEmptySet e → Labelled e label
    → (Stuck e w ↔ ((p i : ℕ) → Stands e w p i → label p i ≡ 0))

-- Where the need is n + 1 and a link leads from a pair that stands to one with the label n + 1, every symbol of the place there is a hint.
abbrev pub HintByLabels : Type 0
HintByLabels =
    (e : Tree) (label : ℕ → ℕ → ℕ) (w : List ℕ) (p i q j s n : ℕ) → WellFormed e → NoEmptySet e → Labelled e label
    → Need e w (suc n) → Stands e w p i → Link e p i q j → label q j ≡ suc n → Holds e 0 q s → Hint e w s

-- ---- The tests decide the relations

-- Those on the form of a pattern.
abbrev pub FormDecided : Type 0
FormDecided = (e : Tree) → Decides (flatb e) (Flat e) × Decides (well_formedb e) (WellFormed e)

-- Those on its places.
abbrev pub PlacesDecided : Type 0
PlacesDecided =
    (e : Tree) (o p s : ℕ)
    → Decides (firstb e o p) (First e o p) × Decides (lastb e o p) (Last e o p) × Decides (holdsb e o p s) (Holds e o p s)

-- Those on how two places meet.
abbrev pub MeetingsDecided : Type 0
MeetingsDecided =
    (e : Tree) (o p q : ℕ)
    → Decides (meetb e o p q) (Meet e o p q) × Decides (withinb e o p q) (Within e o p q) × Decides (nextb e o p q) (Next e o p q)
    × Decides (crossb e o p q) (Cross e o p q)

-- Those on pairs: the links that take one to another, and which accept.
abbrev pub LinksDecided : Type 0
LinksDecided =
    (e : Tree) (o p i q j : ℕ)
    → Decides (takesb e o p i q j) (Takes e o p i q j) × Decides (linkb e p i q j) (Link e p i q j) × Decides (acceptsb e p i) (Accepts e p i)
