-- The links of each construct from those of its parts.
use Rattle.std.proofs.Common.{◌≡◌, ℕ, ◌+◌, Bool, true, false, cond, ◌&&◌, ◌||◌, eqb, ◌⊎◌, List, Some, None, Option, sym, refl, ap, ◌∙◌, subst, inl, inr, arith}
use Rattle.std.proofs.lemmas.Bool.Decides.{nat_tests}
use Rattle.automata.specs.Language.{Tree, unit, cat, alt, star, opt, rep}
use Rattle.automata.specs.Places.{size}
use Rattle.bits.specs.Bit.{bit}
use Rattle.bits.specs.declared.set.Set64.{Set64}
use Rattle.bits.proofs.Laws.{bit_of_or}
use Rattle.grammar.specs.Nodes.{repetition_of}
use Rattle.grammar.specs.declared.tree.Node.{Node, Leaf, Class}
use Rattle.grammar.specs.declared.tree.Times.{Times}
use Rattle.grammar.specs.declared.tree.Times.TheVariants.{Star, Plus, Opt, Counted}
use Rattle.syntax.specs.TextLanguage.{repeated}
use Rattle.tables.specs.declared.places.PlaceSet.{PlaceSet}
use Rattle.tables.specs.declared.table.LinkRow.{LinkRow}
use Rattle.glushkov.specs.declared.data.Part.{Part}
use Rattle.tables.specs.declared.links.Link.{Link}
use Rattle.tables.specs.declared.links.Link.TheVariants.{Next}
use Rattle.tables.specs.Masks.{mask_at, within, next, cross, has_place, joined, mask_of}
use Rattle.glushkov.specs.Nodes.{tree_in, body_inside, meeting, again, nullable_in}
use Rattle.glushkov.specs.Passes.{PartOf, LinksOf}

-- Each of the three masks has its own bit alone.
pub mask_within : (bit 1 0 ≡ true) × (bit 1 1 ≡ false) × (bit 1 2 ≡ false)
unfolding bit
mask_within = (refl, refl, refl)

pub mask_next : (bit 2 0 ≡ false) × (bit 2 1 ≡ true) × (bit 2 2 ≡ false)
unfolding bit
mask_next = (refl, refl, refl)

pub mask_cross : (bit 4 0 ≡ false) × (bit 4 1 ≡ false) × (bit 4 2 ≡ true)
unfolding bit
mask_cross = (refl, refl, refl)

-- A bit of a mask that links may have been added to.
pub bit_joined : (k : ℕ) (b : Bool) (x m y : ℕ) → y ≡ joined b x m → bit y k ≡ (bit x k || (b && bit m k))
bit_joined k true x m y e = ap (λ v. bit v k) e ∙ bit_of_or x m k
bit_joined k false x m y e = let h : bit y k ≡ bit x k = ap (λ v. bit v k) e in grind (arith, nat_tests)

-- A link from each place of one set to each place of another.
abbrev pub Joined : PlaceSet → PlaceSet → Link → List LinkRow → List LinkRow → Type 0
Joined ls fs link old new = (p q : ℕ) → mask_at new p q ≡ joined (has_place ls p && has_place fs q) (mask_at old p q) (mask_of link)

-- The meetings of a joint: within inside a counted repeat's body, else cross.
pub record Met (inside : Bool) (ls fs : PlaceSet) (old new : List LinkRow) : Type 0 where
  pub withins : (p q : ℕ) → within (mask_at new p q) ≡ (within (mask_at old p q) || cond inside (has_place ls p && has_place fs q) false)
  pub nexts : (p q : ℕ) → next (mask_at new p q) ≡ next (mask_at old p q)
  pub crosses : (p q : ℕ) → cross (mask_at new p q) ≡ (cross (mask_at old p q) || cond inside false (has_place ls p && has_place fs q))

pub met_joined : (inside : Bool) (ls fs : PlaceSet) (old new : List LinkRow) → Joined ls fs (meeting inside) old new → Met inside ls fs old new
met_joined true ls fs old new j =
    let b = mask_within in
    record {
      withins = λ p q. let h = bit_joined 0 _ (mask_at old p q) 1 _ (j p q) in grind (arith, nat_tests);
      nexts = λ p q. let h = bit_joined 1 _ (mask_at old p q) 1 _ (j p q) in grind (arith, nat_tests);
      crosses = λ p q. let h = bit_joined 2 _ (mask_at old p q) 1 _ (j p q) in grind (arith, nat_tests);
    }
met_joined false ls fs old new j =
    let b = mask_cross in
    record {
      withins = λ p q. let h = bit_joined 0 _ (mask_at old p q) 4 _ (j p q) in grind (arith, nat_tests);
      nexts = λ p q. let h = bit_joined 1 _ (mask_at old p q) 4 _ (j p q) in grind (arith, nat_tests);
      crosses = λ p q. let h = bit_joined 2 _ (mask_at old p q) 4 _ (j p q) in grind (arith, nat_tests);
    }

pub alt_links :
    (a b : Tree) (o : ℕ) (i : Bool) (old mid new : List LinkRow) (r : Part) → PartOf a o r → LinksOf a o i old mid → LinksOf b r.upto i mid new
    → LinksOf (alt a b) o i old new
alt_links a b o i old mid new r h l k =
    let k' : LinksOf b (o + size a) i mid new = subst (λ n. LinksOf b n i mid new) h.upto k in
    record {
      withins = λ p q. let u = l.withins p q in let v = k'.withins p q in grind (arith, nat_tests);
      nexts = λ p q. let u = l.nexts p q in let v = k'.nexts p q in grind (arith, nat_tests);
      crosses = λ p q. let u = l.crosses p q in let v = k'.crosses p q in grind (arith, nat_tests);
    }

pub cat_links :
    (a b : Tree) (o : ℕ) (i : Bool) (old mid end new : List LinkRow) (r s : Part) (m : Link) → m ≡ meeting i → PartOf a o r → PartOf b r.upto s
    → LinksOf a o i old mid → LinksOf b r.upto i mid end → Joined r.lasts s.firsts m end new → LinksOf (cat a b) o i old new
cat_links a b o i old mid end new r s m e h g l k j =
    let met = met_joined i r.lasts s.firsts end new (subst (λ v. Joined r.lasts s.firsts v end new) e j) in
    let k' : LinksOf b (o + size a) i mid end = subst (λ n. LinksOf b n i mid end) h.upto k in
    let g' : PartOf b (o + size a) s = subst (λ n. PartOf b n s) h.upto g in
    record {
      withins = λ p q. let u = l.withins p q in let v = k'.withins p q in let f = g'.firsts q in let t = h.lasts p in let w = met.withins p q in grind (arith, nat_tests);
      nexts = λ p q. let u = l.nexts p q in let v = k'.nexts p q in let w = met.nexts p q in grind (arith, nat_tests);
      crosses = λ p q. let u = l.crosses p q in let v = k'.crosses p q in let f = g'.firsts q in let t = h.lasts p in let w = met.crosses p q in grind (arith, nat_tests);
    }

star_links :
    (a : Tree) (o : ℕ) (i : Bool) (old mid new : List LinkRow) (r : Part) → PartOf a o r → LinksOf a o i old mid → Joined r.lasts r.firsts (meeting i) mid new
    → LinksOf (star a) o i old new
star_links a o i old mid new r h l j =
    let met = met_joined i r.lasts r.firsts mid new j in
    record {
      withins = λ p q. let f = h.firsts q in let s = h.lasts p in let m = met.withins p q in let w = l.withins p q in grind (arith, nat_tests);
      nexts = λ p q. met.nexts p q ∙ l.nexts p q;
      crosses = λ p q. let f = h.firsts q in let s = h.lasts p in let m = met.crosses p q in let w = l.crosses p q in grind (arith, nat_tests);
    }

opt_links : (a : Tree) (o : ℕ) (i : Bool) (old new : List LinkRow) → LinksOf a o i old new → LinksOf (opt a) o i old new
opt_links a o i old new l = record { withins = l.withins; nexts = l.nexts; crosses = l.crosses }

rep_links :
    (a : Tree) (o : ℕ) (i : Bool) (lo hi : ℕ) (old mid new : List LinkRow) (r : Part) → PartOf a o r → LinksOf a o true old mid
    → Joined r.lasts r.firsts Next mid new → LinksOf (rep lo hi a) o i old new
rep_links a o i lo hi old mid new r h l j =
    let b = mask_next in
    record {
      withins = λ p q. let m = bit_joined 0 _ (mask_at mid p q) 2 _ (j p q) in let w = l.withins p q in grind (arith, nat_tests);
      nexts = λ p q. let f = h.firsts q in let s = h.lasts p in let m = bit_joined 1 _ (mask_at mid p q) 2 _ (j p q) in let w = l.nexts p q in grind (arith, nat_tests);
      crosses = λ p q. let m = bit_joined 2 _ (mask_at mid p q) 2 _ (j p q) in let w = l.crosses p q in grind (arith, nat_tests);
    }

-- The link again, where there is one.
abbrev pub JoinedAgain : PlaceSet → PlaceSet → Option Link → List LinkRow → List LinkRow → Type 0
JoinedAgain ls fs None old new = new ≡ old
JoinedAgain ls fs (Some link) old new = Joined ls fs link old new

by_times :
    (t : Times) (a : Tree) (o : ℕ) (i : Bool) (old mid new : List LinkRow) (r : Part) → PartOf a o r → LinksOf a o (body_inside t i) old mid
    → JoinedAgain r.lasts r.firsts (again t i) mid new → LinksOf (repeated (repetition_of t) a) o i old new
by_times Star a o i old mid new r h l j = star_links a o i old mid new r h l j
by_times Plus a o i old mid new r h l j =
    let s = star_links a o i old mid new r h l j in
    record { withins = s.withins; nexts = s.nexts; crosses = s.crosses }
by_times Opt a o i old mid new r h l j = opt_links a o i old new (subst (λ v. LinksOf a o i old v) (sym j) l)
by_times (Counted at bounds) a o i old mid new r h l j = rep_links a o i bounds.0 bounds.1 old mid new r h l j

pub repeat_links :
    (t : Times) (a : Tree) (o : ℕ) (i b : Bool) (old mid new : List LinkRow) (r : Part) (m : Option Link) → b ≡ body_inside t i → m ≡ again t i → PartOf a o r
    → LinksOf a o b old mid → JoinedAgain r.lasts r.firsts m mid new → LinksOf (repeated (repetition_of t) a) o i old new
repeat_links t a o i b old mid new r m e f h l j =
    by_times t a o i old mid new r h (subst (λ v. LinksOf a o v old mid) e l) (subst (λ v. JoinedAgain r.lasts r.firsts v mid new) f j)

-- A repeat has the places of its body.
pub repeat_part :
    (t : Times) (a : Tree) (o : ℕ) (r : Part) (n : Bool) → PartOf a o r → n ≡ nullable_in t r.nullable
    → PartOf (repeated (repetition_of t) a) o (record { upto = r.upto; nullable = n; firsts = r.firsts; lasts = r.lasts })
repeat_part Star a o r n h e = record { upto = h.upto; null = e; firsts = h.firsts; lasts = h.lasts }
repeat_part Plus a o r n h e = record { upto = h.upto; null = e ∙ h.null; firsts = h.firsts; lasts = h.lasts }
repeat_part Opt a o r n h e = record { upto = h.upto; null = e; firsts = h.firsts; lasts = h.lasts }
repeat_part (Counted at bounds) a o r n h e =
    record { upto = h.upto; null = e ∙ ap (λ b. eqb bounds.0 0 || b) h.null; firsts = h.firsts; lasts = h.lasts }

-- A unit or a class has a tree of one place.
pub one_of : {n : Node} → ((at : ℕ) × (codes : Set64) × (n ≡ Leaf at codes)) ⊎ ((at : ℕ) × (codes : Set64) × (back : Option ℕ) × (n ≡ Class at codes back))
    → (S : ℕ → Bool) × (tree_in n ≡ unit S)
one_of (inl (at, codes, e)) = (_, ap tree_in e)
one_of (inr (at, codes, back, e)) = (_, ap tree_in e)

or_false : (b : Bool) → b ≡ (b || false)
or_false true = refl
or_false false = refl

-- One place has no link.
pub unit_links : (S : ℕ → Bool) (o : ℕ) (i : Bool) (old : List LinkRow) → LinksOf (unit S) o i old old
unit_links S o true old = record { withins = λ p q. or_false _; nexts = λ p q. or_false _; crosses = λ p q. or_false _ }
unit_links S o false old = record { withins = λ p q. or_false _; nexts = λ p q. or_false _; crosses = λ p q. or_false _ }
