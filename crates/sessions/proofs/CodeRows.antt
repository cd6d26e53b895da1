-- Rows of symbols belong to the language of an accepted text, have needs and hints, just as their codes do in its tree.
use Rattle.std.proofs.Common.{◌≡◌, ℕ, suc, ◌<◌, Bool, true, false, cond, eqb, ◌↔◌, List, [], ◌∷◌, ◌++◌, map, sym, refl, ap, ◌∙◌, subst}
use Rattle.std.specs.List.{AllByRecursion}
use Rattle.std.proofs.ByRecursion.{All-append, All-push}
use Rattle.std.proofs.lemmas.List.{map-append, map_push, length-map}
use Rattle.automata.specs.Language.{Tree, In}
use Rattle.automata.specs.Completion.{Completed, Need, Stuck, Hint}
use Rattle.automata.proofs.Completions.{least_like}
use Rattle.grammar.specs.Ast.{Ast}
use Rattle.grammar.specs.Codes as grammar
use Rattle.alphabets.specs.Alphabets.{unit_of}
use Rattle.alphabets.specs.declared.Alphabet.TheVariants.{Letters, Tiles}
use Rattle.syntax.specs.Refuses.{Accepted}
use Rattle.syntax.specs.TextLanguage.{tree_of}
use Rattle.symbols.specs.declared.kind.Kind.{Ghosts}
use Rattle.symbol_rows.specs.Rows.{AllSymbols, codes_of}
use Rattle.plans.specs.Plans.{alphabet_of}
use Rattle.sessions.specs.RowLanguage.{Belongs, CompletedBy, NeedIs, IsStuck, IsHint}
use Rattle.sessions.proofs.CodesBelow.{all_parts, row_below}

alphabet_codes : (b : Bool) → grammar.codes_of (unit_of (cond b Letters Tiles)) ≡ cond b 26 40
alphabet_codes true = refl
alphabet_codes false = refl

module _ {K S : Type 0} (k : Ghosts K S)
    (alphabet : k.codes ≡ cond (eqb k.unit_length 1) 26 40)
    (named : (n : ℕ) → n < k.codes → (k.valid (k.symbol n) ≡ true) × (k.code (k.symbol n) ≡ n))
    (text : List ℕ) (tree : Ast) (accepted : Accepted (alphabet_of k) text tree) where
  abbrev e : Tree
  e = tree_of tree

  -- the codes of the kind are those of its alphabet
  codes_are : grammar.codes_of (unit_of (alphabet_of k)) ≡ k.codes
  codes_are = alphabet_codes (eqb k.unit_length 1) ∙ sym alphabet

  -- every code of a row of the language is one of the kind
  in_below : (w : List ℕ) → In e w → AllByRecursion (λ c. c < k.codes) w
  in_below w x = subst (λ n. AllByRecursion (λ c. c < n) w) codes_are (row_below (grammar.codes_of (unit_of (alphabet_of k))) e accepted.codes w x)

  -- the symbols of codes
  symbols_of : (v : List ℕ) → AllByRecursion (λ c. c < k.codes) v → AllSymbols k (map k.symbol v) × (codes_of k (map k.symbol v) ≡ v)
  symbols_of [] h = (tt, refl)
  symbols_of (c ∷ v) (h, t) =
      let (valid, is) = named c h in
      let (rest, are) = symbols_of v t in
      ((valid, rest), ap (λ x. x ∷ codes_of k (map k.symbol v)) is ∙ ap (λ x. c ∷ x) are)

  pub in_belongs : (row : List S) → AllSymbols k row → In e (codes_of k row) → Belongs k text row
  in_belongs row valid x = (valid, (accepted.language (codes_of k row)).1 x)

  pub belongs_in : (row : List S) → Belongs k text row → In e (codes_of k row)
  belongs_in row (valid, x) = (accepted.language (codes_of k row)).0 x

  joined_in : (row v : List S) → Belongs k text (row ++ v) → In e (codes_of k row ++ codes_of k v)
  joined_in row v h = subst (λ w. In e w) (map-append k.code row v) (belongs_in (row ++ v) h)

  module _ (row : List S) (valid : AllSymbols k row) where
    completed_to : (n : ℕ) → CompletedBy k text row n → Completed e (codes_of k row) n
    completed_to n (v, long, h) = (codes_of k v, length-map v k.code ∙ long, joined_in row v h)

    completed_from : (n : ℕ) → Completed e (codes_of k row) n → CompletedBy k text row n
    completed_from n (v, long, x) =
        let (front, back) = all_parts (λ c. c < k.codes) (codes_of k row) v (in_below (codes_of k row ++ v) x) in
        let (rest, are) = symbols_of v back in
        let u = map k.symbol v in (
          u,
          length-map v k.symbol ∙ long,
          in_belongs (row ++ u) (All-append (λ s. k.valid s ≡ true) row u valid rest)
              (subst (λ w. In e w) (sym (map-append k.code row u ∙ ap (λ z. codes_of k row ++ z) are)) x),
        )

    pub need_like : (n : ℕ) → NeedIs k text row n ↔ Need e (codes_of k row) n
    need_like n = least_like (CompletedBy k text row) (Completed e (codes_of k row)) (λ m. (completed_to m, completed_from m)) n

    pub stuck_from : Stuck e (codes_of k row) → IsStuck k text row
    stuck_from none = λ v h. none (codes_of k v) (joined_in row v h)

    -- the code of a hint is one of the kind, and its symbol is a hint
    pub hint_code : (c : ℕ) → Hint e (codes_of k row) c → c < k.codes
    hint_code c (n, need, ((v, long, x), least)) =
        let (front, back) = all_parts (λ i. i < k.codes) (codes_of k row ++ (c ∷ [])) v (in_below ((codes_of k row ++ (c ∷ [])) ++ v) x) in
        (all_parts (λ i. i < k.codes) (codes_of k row) (c ∷ []) front).1.0

  pub hint_from : (row : List S) → AllSymbols k row → (c : ℕ) → Hint e (codes_of k row) c → IsHint k text row (k.symbol c)
  hint_from row valid c h =
      let (n, need, more) = h in
      let (symbol, is) = named c (hint_code row valid c h) in
      let longer = row ++ (k.symbol c ∷ []) in
      let codes : codes_of k longer ≡ codes_of k row ++ (c ∷ []) = map_push k.code row (k.symbol c) ∙ ap (λ x. codes_of k row ++ (x ∷ [])) is in (
        n,
        (need_like row valid (suc n)).1 need,
        (need_like longer (All-push (λ s. k.valid s ≡ true) row (k.symbol c) valid symbol) n).1 (subst (λ w. Need e w n) (sym codes) more),
      )
