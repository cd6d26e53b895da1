use Rattle.std.proofs.Common.{◌≡◌, ℕ, ◌+◌, ◌<◌, ◌≤◌, true, Ok, length, get_or, sym, ap, ◌∙◌, subst, arith}
use Rattle.std.specs.List.{between}
use Rattle.std.proofs.lemmas.List.{get_or_default}
use Rattle.std.proofs.lemmas.List.Edits.{get_or-between, length-between}
use Rattle.std.proofs.lemmas.Result.{err_from_is_err_and}
use Rattle.bits.specs.Members.{member}
use Rattle.tables.specs.declared.table.Place.{Place}
use Rattle.tables.specs.declared.table.Table.{Table}
use Rattle.tables.specs.Masks.{no_place}
use Rattle.tables.specs.Tables.{takes}
use Rattle.steps.proofs.Leaves.{To, to_followed, to_passed, to_refused}
use Rattle.steps.proofs.moves.leave.Goals as goal
use Rattle.steps.proofs.moves.leave.Goals.{then-have_code+in_ok-follow, else-have_code}

-- the k-th of the places behind the start
behind_start : (t : Table) (n k : ℕ) (x : Place) → n ≤ 64 → k < length (between 1 (n + 1) t.each) → x ≡ get_or (between 1 (n + 1) t.each) k x
    → (k + 1 ≤ n) × (get_or t.each (k + 1) no_place ≡ x)
behind_start t n k x few below is =
    let l = length-between t.each 1 (n + 1) (omega (arith, t.full)) in
    let inside : k + 1 ≤ n = omega arith in
    let e : 1 + k ≡ k + 1 = omega arith in
    let a = get_or-between t.each 1 (n + 1) k x (omega arith) in
    let b = get_or_default t.each (1 + k) x no_place (omega (arith, t.full)) in
    (inside, ap (λ i. get_or t.each i no_place) (sym e) ∙ sym (is ∙ a ∙ b))

pub returns-in_err-follow : goal.returns-in_err-follow
returns-in_err-follow g c = λ ready.
    let m = g.B.Bank.means in
    let t = c.args.table.now in
    let (inside, place) = behind_start t c.min-places.result c.loop-before.before c.place-item.result (omega (arith, c.min-places.ensures)) c.loop-before-test.true c.place-item.is in
    let h : takes t (c.loop-before.before + 1) c.args.code ≡ true =
    ap (λ (v : Place). member v.codes c.args.code) place ∙ sym (c.have_code.ensures c.args.code c.only-alone.ensures) ∙ c.if-have_code.true in
    let k = to_followed m t c.args.code c.args.bank.now c.args.p (c.loop-before.before + 1) _ _ _
    (omega arith) (omega (arith, t.few, c.places.ensures, c.min-places.ensures)) h (c.loop-before.invariant ready) c.in_err-follow.ensures in
    let x = err_from_is_err_and c.from_residual.result c.from_residual.ensures.1 in
    rw (x.1, x.2) (to_refused m t c.args.code c.args.bank.now g.met.B.Bank.facts _ _ _ _ ready.stands k)

pub loop-before-preserved : goal.loop-before-preserved
loop-before-preserved g c = λ ready.
    let m = g.B.Bank.means in
    let t = c.args.table.now in
    let b = c.args.bank.now in
    let q = c.loop-before.before + 1 in
    let (inside, place) = behind_start t c.min-places.result c.loop-before.before c.place-item.result (omega (arith, c.min-places.ensures)) c.loop-before-test.true c.place-item.is in
    let codes : takes t q c.args.code ≡ c.have_code.result = ap (λ (v : Place). member v.codes c.args.code) place ∙ sym (c.have_code.ensures c.args.code c.only-alone.ensures) in
    elim c.if-have_code.branch [
      | then-have_code+in_ok-follow w ↦
          subst (λ v. To m t c.args.code b c.args.p (q + 1) (Ok tt) v) (sym w.bank-is)
          (to_followed m t c.args.code b c.args.p q _ _ _ (omega arith) (omega (arith, t.few, c.places.ensures, c.min-places.ensures)) (codes ∙ w.if-have_code.true) (c.loop-before.invariant ready) w.in_ok-follow.ensures)
      | else-have_code w ↦
          subst (λ v. To m t c.args.code b c.args.p (q + 1) (Ok tt) v) (sym w.bank-is)
          (to_passed m t c.args.code b c.args.p q _ (codes ∙ w.if-have_code.false) (c.loop-before.invariant ready))
    ]
