-- What the calls of a mask layer do to its meaning, from what the calls of the bank below do to that bank's.
use Rattle.std.specs.Prelude.{◌≡◌, ℕ, ◌+◌, ◌-◌, ◌<◌, ◌≤◌, Bool, true, false, cond, not, ◌&&◌, ◌||◌, leb, Ok, Err, Decides, Option, Result, ◌==◌, ◌≢◌, nat_le, refl}
use Rattle.std.proofs.Common.{sym, ap, subst, ◌∙◌, ⊎_elim, arith}
use Rattle.std.proofs.lemmas.Bool.{cases_eq, cases_lt, cases_Bool, both_ways, eqb-true, false≢true}
use Rattle.std.proofs.lemmas.Bool.Decides.{nat_tests}
use Rattle.refusals.specs.declared.Refusal.{Refusal}
use Rattle.widths.specs.declared.data.Widths.{Widths}
use Rattle.widths.specs.Width.{width_in}
use Rattle.widths.proofs.Rows.{width_in_past}
use Rattle.banks.specs.Pairs.{Pairs, none, only, within, moved}
use Rattle.banks.specs.Meaning.{Meaning, Facts, Keeps, Put, Looked, Turned, grown}
use Rattle.banks.proofs.Sets.{same_pairs, at_pair, nothing_new, keeps_itself}
use Rattle.mask_layer.specs.declared.sets.PlaceSet.{PlaceSet}
use Rattle.mask_layer.specs.declared.layer.MaskLayer.{MaskLayer}
use Rattle.mask_layer.specs.Places.{placed, narrow}
use Rattle.mask_layer.specs.Means.{wider, joined, Stands, masked}

-- the same place has the same width
same_narrow : (plan : Option Widths) (a q : ℕ) → a ≡ q → narrow plan a ≡ narrow plan q
same_narrow plan a q e = ap (narrow plan) e

-- a pair of the back, or a new one, is at a wider place
at_wider : (n own back new inside : Bool) → (n ≡ true → back ≡ false) → (n ≡ true → new ≡ false) → (back || (new && inside)) ≡ true
    → (not n && (cond n own back || (new && inside))) ≡ true
at_wider true own back new inside clean away h =
    let x = clean refl in let y = away refl in
    let z : (back || (new && inside)) ≡ false = ap (λ (t : Bool). t || (new && inside)) x ∙ ap (λ (t : Bool). t && inside) y in
    absurd (both_ways (back || (new && inside)) z h)
at_wider false own back new inside clean away h = h

-- a place of width 1 is a place
pub narrow_place : (plan : Option Widths) (p : ℕ) → narrow plan p ≡ true → p ≤ 64
narrow_place plan p n = ⊎_elim
    (λ (h : p < 65). omega arith)
    (λ (h : 65 ≤ p). let z = width_in_past plan p h in let e = eqb-true (width_in plan p) 1 n in let no_way : ⊥ = omega arith in absurd no_way)
    (cases_lt p 65)

-- one pair, or moved pairs, at a place that is not of width 1
pub only_away : (plan : Option Widths) (q i : ℕ) → narrow plan q ≡ false → (a j : ℕ) → narrow plan a ≡ true → only q i a j ≡ false
only_away plan q i n a j h = ⊎_elim
    (λ (e : a ≡ q). absurd (both_ways (narrow plan q) n (sym (same_narrow plan a q e) ∙ h)))
    (λ (ne : a ≡ q → ⊥). grind (arith, nat_tests))
    (cases_eq a q)

pub moved_away : (plan : Option Widths) (s : Pairs) (p q n : ℕ) → narrow plan q ≡ false → (a j : ℕ) → narrow plan a ≡ true → moved s p q n a j ≡ false
moved_away plan s p q n out a j h = ⊎_elim
    (λ (e : a ≡ q). absurd (both_ways (narrow plan q) out (sym (same_narrow plan a q e) ∙ h)))
    (λ (ne : a ≡ q → ⊥). grind (arith, nat_tests))
    (cases_eq a q)

-- of one pair at a place of width 1, count 1 lies within the widths
pub one_within : (ws : ℕ → ℕ) (q i a j : ℕ) → ws q ≡ 1 → (only q i a j && within ws a j) ≡ ((a == q && j == 1) && i == 1)
one_within ws q i a j e = ⊎_elim
    (λ (h : a ≡ q). let z : ws a ≡ 1 = ap ws h ∙ e in grind (arith, nat_tests))
    (λ (ne : a ≡ q → ⊥). grind (arith, nat_tests))
    (cases_eq a q)

-- of the pairs moved to a place of width 1, count 1 lies within the widths
pub moved_within : (F : Pairs) (ws : ℕ → ℕ) (p q n a j : ℕ) → ws q ≡ 1 → (moved F p q n a j && within ws a j) ≡ ((a == q && j == 1) && (nat_le n 1 && F p (1 - n)))
moved_within F ws p q n a j e = ⊎_elim
    (λ (h : a ≡ q).
    let z : ws a ≡ 1 = ap ws h ∙ e in
    ⊎_elim
    (λ (k : j ≡ 1). let x : F p (j - n) ≡ F p (1 - n) = ap (λ (y : ℕ). F p (y - n)) k in let y : leb n j ≡ leb n 1 = ap (leb n) k in grind (arith, nat_tests))
    (λ (k : j ≡ 1 → ⊥). grind (arith, nat_tests))
    (cases_eq j 1))
    (λ (ne : a ≡ q → ⊥). grind (arith, nat_tests))
    (cases_eq a q)

-- what is left of these where the count is 1, where it is not, and where the place is one
pub one_of : (a j q i : ℕ) → i ≡ 1 → ((a == q && j == 1) && i == 1) ≡ (a == q && j == 1)
one_of a j q i e = grind (arith, nat_tests)

pub none_of : (a j q i : ℕ) → (i ≢ 1) → ((a == q && j == 1) && i == 1) ≡ false
none_of a j q i ne = grind (arith, nat_tests)

pub with_of : (a q : ℕ) (t : Bool) → q ≤ 64 → (t || (a == q && nat_le a 64)) ≡ (t || a == q)
with_of a q t le = grind (arith, nat_tests)

-- where count 1 alone stands at p, one pair is moved
pub moved_one : (F : Pairs) (p q n : ℕ) → ((j : ℕ) → F p j ≡ (j == 1)) → only q (1 + n) ≡ moved F p q n
moved_one F p q n h = same_pairs (only q (1 + n)) (moved F p q n) (λ a j. let x = h (j - n) in grind (arith, nat_tests))

-- where nothing stands at p, nothing is moved
pub no_moved : (F : Pairs) (p q n a j : ℕ) (inside : Bool) → ((i : ℕ) → F p i ≡ false) → (moved F p q n a j && inside) ≡ false
no_moved F p q n a j inside h = let x = h (j - n) in grind arith

and_true : (b : Bool) → (b && true) ≡ b
and_true true = refl
and_true false = refl

and_false : (b : Bool) → (b && false) ≡ false
and_false true = refl
and_false false = refl

-- what is moved depends on what stands at p alone
pub moved_same : (F G : Pairs) (p q n : ℕ) → ((j : ℕ) → G p j ≡ F p j) → moved G p q n ≡ moved F p q n
moved_same F G p q n h = same_pairs (moved G p q n) (moved F p q n) (λ a j. let x = h (j - n) in grind arith)

-- a look at one count tells whether it stands
pub look_one : (F : Pairs) (p i : ℕ) (r : Bool) → Decides r ((j : ℕ) × (i ≤ j) × (j ≤ i) × (F p j ≡ true)) → F p i ≡ r
look_one F p i true d = let x = d.0 refl in let a = x.1 in let b = x.2 in ap (F p) (let e : i ≡ x.0 = omega arith in e) ∙ x.3
look_one F p i false d = ⊎_elim
    (λ (t : F p i ≡ true). absurd (false≢true (d.1 (i, (let l : i ≤ i = omega arith in l), (let l : i ≤ i = omega arith in l), t))))
    (λ (t : F p i ≡ false). t)
    (cases_Bool (F p i))

module _ {B : Type 0} (m : Meaning B) (f : Facts m) where
  module _ (w : MaskLayer B) (s : Stands m w) where
    -- new pairs go to the bank below where none of them is at a place of width 1
    module _ (b : B) (new : Pairs) (away : (a j : ℕ) → narrow w.plan a ≡ true → new a j ≡ false) where
      -- the part that is the same whether they were taken or not
      keeps_below : (back : Pairs) → Keeps m w.below b → m.front b ≡ m.front w.below → m.back b ≡ back
          → ((p : ℕ) → back p 0 ≡ false) → ((p i : ℕ) → narrow w.plan p ≡ true → back p i ≡ false) → m.holds w.below back
          → Keeps (masked m) w record { below = b; plan = w.plan; front = w.front; back = w.back }
      keeps_below back k fe be counts clean able = record {
        stands = record {
          below = k.stands;
          agrees = k.same_widths ∙ s.agrees;
          front_counts = λ p. at_pair (m.front b) (m.front w.below) fe p 0 ∙ s.front_counts p;
          back_counts = λ p. at_pair (m.back b) back be p 0 ∙ counts p;
          clean = λ p i h. at_pair (m.back b) back be p i ∙ clean p i h;
          able = subst (λ (v : Pairs). m.holds b v) (sym be) ((k.same_holds back).0 able);
        };
        same_widths = k.same_widths;
        same_holds = λ v. k.same_holds (wider w.plan v);
      }

      pub below_put : (r : Result (Unit {0}) Refusal) → Put m new w.below r b
          → Put (masked m) new w r record { below = b; plan = w.plan; front = w.front; back = w.back }
      below_put (Ok u) p =
          let h = p.answered.0 in
          let e = p.answered.1 in
          record {
            keeps = keeps_below (grown m w.below new) p.keeps p.front_stays e
                (λ a. let x = s.back_counts a in grind (arith, nat_tests))
                (λ a j n. let x = s.clean a j n in let y = away a j n in grind arith)
                h;
            front_stays = ap (joined w.plan w.front) p.front_stays;
            answered = (
              f.fewer w.below (wider w.plan (grown (masked m) w new)) (grown m w.below new) s.below (λ a j x. grind arith) h,
              same_pairs _ _ (λ a j. let x = at_pair (m.back b) (grown m w.below new) e a j in let y = away a j in grind arith),
            );
          }
      below_put (Err x) p =
          let e = p.answered.2 in
          record {
            keeps = keeps_below (m.back w.below) p.keeps p.front_stays e s.back_counts s.clean s.able;
            front_stays = ap (joined w.plan w.front) p.front_stays;
            answered = (
              p.answered.0,
              (λ h. p.answered.1 (f.fewer w.below (grown m w.below new) (wider w.plan (grown (masked m) w new)) s.below
                  (λ a j y. at_wider (narrow w.plan a) (j == 1 && placed w.back a) (m.back w.below a j) (new a j) (within (m.widths w.below) a j) (s.clean a j) (away a j) y) h)),
              ap (joined w.plan w.back) e,
            );
          }

    -- there are no new pairs within the widths
    pub nothing_put : (new : Pairs) → ((a j : ℕ) → (new a j && within (m.widths w.below) a j) ≡ false) → Put (masked m) new w (Ok tt) w
    nothing_put new is = record {
      keeps = keeps_itself (masked m) w s;
      front_stays = refl;
      answered = (
        f.fewer w.below (wider w.plan (grown (masked m) w new)) (m.back w.below) s.below (λ a j e. let x = is a j in grind arith) s.able,
        nothing_new ((masked m).back w) new (within (m.widths w.below)) is,
      );
    }

    -- the pair (q, 1) alone is new, at a place of width 1
    pub own_put : (new : Pairs) (q : ℕ) (back : PlaceSet) → narrow w.plan q ≡ true
        → ((a j : ℕ) → (new a j && within (m.widths w.below) a j) ≡ (a == q && j == 1))
        → ((a : ℕ) → placed back a ≡ (placed w.back a || a == q))
        → Put (masked m) new w (Ok tt) record { below = w.below; plan = w.plan; front = w.front; back = back }
    own_put new q back n is put = record {
      keeps = record {
        stands = record { below = s.below; agrees = s.agrees; front_counts = s.front_counts; back_counts = s.back_counts; clean = s.clean; able = s.able };
        same_widths = refl;
        same_holds = λ v. ((λ h. h), (λ h. h));
      };
      front_stays = refl;
      answered = (
        f.fewer w.below (wider w.plan (grown (masked m) w new)) (m.back w.below) s.below
            (λ a j e. let x = is a j in ⊎_elim
            (λ (k : a ≡ q). let z = same_narrow w.plan a q k in grind arith)
            (λ (k : a ≡ q → ⊥). grind (arith, nat_tests))
            (cases_eq a q))
            s.able,
        same_pairs _ _ (λ a j. let x = is a j in let y = put a in ⊎_elim
            (λ (k : a ≡ q). let z = same_narrow w.plan a q k in grind (arith, nat_tests))
            (λ (k : a ≡ q → ⊥). grind (arith, nat_tests))
            (cases_eq a q)),
      );
    }

    -- a place of width 1 has it below too
    pub one_wide : (q : ℕ) → narrow w.plan q ≡ true → m.widths w.below q ≡ 1
    one_wide q n = ap (λ (ws : ℕ → ℕ). ws q) s.agrees ∙ eqb-true (width_in w.plan q) 1 n

    -- no count is 0
    pub no_zero : (p : ℕ) → (masked m).front w p 0 ≡ false
    no_zero p = let x = s.front_counts p in grind arith

    -- a look at a place of width 1, and at any other
    pub looked_own : (p low high : ℕ) (r : Bool) → narrow w.plan p ≡ true → r ≡ (placed w.front p && (nat_le low 1 && nat_le 1 high)) → Looked (masked m) p low high w r
    looked_own p low high r n e = (
      (λ t. (1, grind (arith, nat_tests), grind (arith, nat_tests), grind (arith, nat_tests))),
      (λ x. let a = x.1 in let b = x.2 in let c = x.3 in grind (arith, nat_tests)),
    )

    pub looked_below : (p low high : ℕ) (r : Bool) → narrow w.plan p ≡ false → Looked m p low high w.below r → Looked (masked m) p low high w r
    looked_below p low high r n k = (
      (λ t. let x = k.0 t in (x.0, x.1, x.2, (let e = x.3 in grind arith))),
      (λ x. k.1 (x.0, x.1, x.2, (let e = x.3 in grind arith))),
    )

    -- what stands at a place of width 1, and at any other
    own_front : (p j : ℕ) → narrow w.plan p ≡ true → (masked m).front w p j ≡ (j == 1 && placed w.front p)
    own_front p j n = grind arith

    below_front : (p j : ℕ) → narrow w.plan p ≡ false → m.front w.below p j ≡ (masked m).front w p j
    below_front p j n = grind arith

    -- a carry to a place of width 1, of count 1 as it is
    pub carry_own : (p q n : ℕ) (back : PlaceSet) → narrow w.plan q ≡ true → n ≡ 0 → (masked m).front w p 1 ≡ true
        → ((a : ℕ) → placed back a ≡ (placed w.back a || a == q))
        → Put (masked m) (moved ((masked m).front w) p q n) w (Ok tt) record { below = w.below; plan = w.plan; front = w.front; back = back }
    carry_own p q n back nq z stands put =
        own_put (moved ((masked m).front w) p q n) q back nq
        (λ a j.
        moved_within ((masked m).front w) (m.widths w.below) p q n a j (one_wide q nq)
        ∙ ap (λ (x : ℕ). (a == q && j == 1) && (nat_le x 1 && (masked m).front w p (1 - x))) z
        ∙ ap (λ (t : Bool). (a == q && j == 1) && t) stands
        ∙ and_true (a == q && j == 1))
        put

    -- a carry to a place of width 1 of nothing
    pub carry_none : (p q n : ℕ) → narrow w.plan q ≡ true → (nat_le n 1 && (masked m).front w p (1 - n)) ≡ false
        → Put (masked m) (moved ((masked m).front w) p q n) w (Ok tt) w
    carry_none p q n nq z =
        nothing_put (moved ((masked m).front w) p q n)
        (λ a j. let x = moved_within ((masked m).front w) (m.widths w.below) p q n a j (one_wide q nq) in x ∙ ap (λ (t : Bool). (a == q && j == 1) && t) z ∙ and_false (a == q && j == 1))

    -- a carry between wider places
    pub carry_below : (p q n : ℕ) (r : Result (Unit {0}) Refusal) (b : B) → narrow w.plan p ≡ false → narrow w.plan q ≡ false
        → Put m (moved (m.front w.below) p q n) w.below r b
        → Put (masked m) (moved ((masked m).front w) p q n) w r record { below = b; plan = w.plan; front = w.front; back = w.back }
    carry_below p q n r b np nq put =
        subst (λ (v : Pairs). Put (masked m) v w r record { below = b; plan = w.plan; front = w.front; back = w.back })
        (moved_same ((masked m).front w) (m.front w.below) p q n (λ j. below_front p j np))
        (below_put b (moved (m.front w.below) p q n) (moved_away w.plan (m.front w.below) p q n nq) r put)

    -- a carry from a place of width 1 to a wider one
    pub carry_one : (p q n : ℕ) (r : Result (Unit {0}) Refusal) (b : B) → narrow w.plan p ≡ true → narrow w.plan q ≡ false → placed w.front p ≡ true
        → Put m (only q (1 + n)) w.below r b
        → Put (masked m) (moved ((masked m).front w) p q n) w r record { below = b; plan = w.plan; front = w.front; back = w.back }
    carry_one p q n r b np nq at put =
        subst (λ (v : Pairs). Put (masked m) v w r record { below = b; plan = w.plan; front = w.front; back = w.back })
        (moved_one ((masked m).front w) p q n (λ j. own_front p j np ∙ ap (λ (t : Bool). (j == 1) && t) at ∙ and_true (j == 1)))
        (below_put b (only q (1 + n)) (only_away w.plan q (1 + n) nq) r put)

    -- a carry from a place of width 1 at which nothing stands
    pub carry_empty : (p q n : ℕ) → narrow w.plan p ≡ true → placed w.front p ≡ false → Put (masked m) (moved ((masked m).front w) p q n) w (Ok tt) w
    carry_empty p q n np at =
        nothing_put (moved ((masked m).front w) p q n)
        (λ a j. no_moved ((masked m).front w) p q n a j (within (m.widths w.below) a j) (λ i. own_front p i np ∙ ap (λ (t : Bool). (i == 1) && t) at ∙ and_false (i == 1)))

    -- a turn
    pub turned : (b : B) (front back : PlaceSet) → Turned m w.below b → front ≡ w.back → ((p : ℕ) → placed back p ≡ false)
        → Turned (masked m) w record { below = b; plan = w.plan; front = front; back = back }
    turned b front back t same none-there = record {
      keeps = record {
        stands = record {
          below = t.keeps.stands;
          agrees = t.keeps.same_widths ∙ s.agrees;
          front_counts = λ p. at_pair (m.front b) (m.back w.below) t.front_is p 0 ∙ s.back_counts p;
          back_counts = λ p. at_pair (m.back b) none t.back_is p 0;
          clean = λ p i h. at_pair (m.back b) none t.back_is p i;
          able = subst (λ (v : Pairs). m.holds b v) (sym t.back_is) (f.empty b t.keeps.stands);
        };
        same_widths = t.keeps.same_widths;
        same_holds = λ v. t.keeps.same_holds (wider w.plan v);
      };
      front_is = ap (λ (o : PlaceSet). joined w.plan o (m.front b)) same ∙ ap (joined w.plan w.back) t.front_is;
      back_is = same_pairs _ _ (λ p i. let x = at_pair (m.back b) none t.back_is p i in let y = none-there p in grind arith);
    }
