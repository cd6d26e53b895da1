-- Settled marks in the first 4,096 numbers of an area are the distances; the rest of the area is as it was.
use Rattle.std.proofs.Common.{◌≡◌, ℕ, ◌+◌, ◌-◌, ◌<◌, ◌≤◌, Bool, cond, ◌&&◌, leb, List, ◌++◌, length, get_or, drop, sym, ap, ◌∙◌, subst, inl, inr, arith}
use Rattle.std.proofs.Math.Path.{fun_ext}
use Rattle.std.proofs.lemmas.List.{get_or_append_left, get_or-append_right, get_or-drop}
use Rattle.std.proofs.lemmas.Bool.{cases_Bool}
use Rattle.std.proofs.lemmas.Bool.Decides.{nat_tests}
use Rattle.automata.specs.Distances.{Labelled}
use Rattle.widths.specs.declared.data.Widths.{Widths}
use Rattle.widths.specs.Width.{width_of, widths_of, base_of}
use Rattle.widths.proofs.Rows.{base_room}
use Rattle.distances.specs.declared.graph.Graph.{Graph}
use Rattle.distances.specs.Marks.{mark_at, Measured}
use Rattle.distances.specs.Search.{AllSettled}
use Rattle.distances.proofs.Trees.{labels_met}

-- every mark stands in the first 4,096 numbers
chunk_mark : (w : Widths) (m more : List ℕ) (p i : ℕ) → length m ≡ 4096 → mark_at w m p i ≡ mark_at w (m ++ more) p i
chunk_mark w m more p i full = elim (cases_Bool (leb 1 i && leb i (width_of w p))) [
  | inl t ↦
      let room = base_room w p in
      let low : 1 ≤ i = grind (arith, nat_tests) in
      let high : i ≤ width_of w p = grind (arith, nat_tests) in
      let same = get_or_append_left m more 0 (base_of w p + (i - 1)) (omega arith) in
      ap (λ (x : ℕ). cond (leb 1 i && leb i (width_of w p)) x 0) (sym same)
  | inr t ↦ ap (λ (b : Bool). cond b (get_or m (base_of w p + (i - 1)) 0) 0) t ∙ sym (ap (λ (b : Bool). cond b (get_or (m ++ more) (base_of w p + (i - 1)) 0) 0) t)
]

pub measured :
    (g : Graph) (old zeros new : List ℕ) → widths_of g.layout ≡ g.table.now.widths → ((k : ℕ) → k < 4096 → get_or zeros k 0 ≡ 0)
    → AllSettled g zeros new → Measured g.table.now old (new ++ drop 4096 old)
measured g old zeros new same zero s = let full = s.long in record {
  labels = λ e formed of.
      subst (λ (l : ℕ → ℕ → ℕ). Labelled e l) (fun_ext (λ p. fun_ext (λ i. chunk_mark g.table.now.widths new (drop 4096 old) p i full)))
      (labels_met e formed g of same new (omega arith) s.ground s.settled);
  spare = λ k h b.
      get_or_append_left new (drop 4096 old) 0 k (omega arith) ∙ s.behind k (subst (λ (w : Widths). base_of w 65 ≤ k) (sym same) h) ∙ zero k b;
  beyond = λ k h.
      get_or-append_right new (drop 4096 old) 4096 k 0 full h ∙ get_or-drop 4096 old (k - 4096) 0 ∙ ap (λ (j : ℕ). get_or old j 0) (omega arith);
}
