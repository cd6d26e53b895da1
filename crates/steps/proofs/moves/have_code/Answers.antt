use Rattle.std.proofs.Common.{◌≡◌, ℕ, ◌&&◌, ◌==◌, nat_lt, Bool, true, false, not, refl, sym, ap, ◌∙◌, inl, inr, arith, Decides}
use Rattle.std.proofs.lemmas.Bool.{cases_lt}
use Rattle.std.proofs.lemmas.Bool.Decides.{nat_tests, eqb_tells}
use Rattle.bits.specs.declared.set.Set64.{Set64}
use Rattle.bits.specs.Members.{member}
use Rattle.bits.proofs.Members.{member_past}
use Rattle.steps.proofs.moves.have_code.Goals as goal

-- what two sets have in common, one of them with n alone
module _ (codes alone both : Set64) (n : ℕ)
    (meet : (k : ℕ) → member both k ≡ (member codes k && member alone k))
    (one : (k : ℕ) → member alone k ≡ (k == n && nat_lt k 64)) where
  none_without : member codes n ≡ false → (k : ℕ) → member both k ≡ false
  none_without out k =
      let b = meet k in
      let o = one k in
      elim (eqb_tells k n) [ inl w ↦ (let h : member codes k ≡ false = ap (member codes) w.1 ∙ out in grind (arith, nat_tests)) | inr w ↦ grind (arith, nat_tests) ]

  none_only_without : ((k : ℕ) → member both k ≡ false) → member codes n ≡ false
  none_only_without none =
      let a = none n in
      let b = meet n in
      let o = one n in
      elim (cases_lt n 64) [ inl l ↦ grind (arith, nat_tests) | inr l ↦ member_past codes n l ]

  told : (r m : Bool) → Decides r ((k : ℕ) → member both k ≡ false) → m ≡ member codes n → not r ≡ m
  told true m d is = sym (is ∙ none_only_without (d.0 refl))
  told false true d is = refl
  told false false d is = sym (d.1 (none_without (sym is)))

pub returns : goal.returns
returns c = λ n one. told c.args.codes c.args.alone c.intersection.result n c.intersection.ensures one c.is_empty.result (member c.args.codes n) c.is_empty.ensures refl
