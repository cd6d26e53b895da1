-- A need above 0 has a hint, and hints bring the row into the language after just as many symbols as the need.
use Rattle.std.proofs.Common.{◌≡◌, ℕ, suc, ◌-◌, ◌<◌, ◌≤◌, List, [], ◌∷◌, ◌++◌, length, sym, refl, ap, subst, append_assoc, append-nil, arith}
use Rattle.automata.specs.Language.{Tree, In}
use Rattle.automata.specs.Completion.{Completed, Need, Hint, Hinted}
use Rattle.automata.specs.Theorems.{HintExists, HintsFinish, HintsCount, HintByPaths, HintHeld}
use Rattle.automata.proofs.Completions.{need_unique, need_zero, completions_by_paths_lem, front_on}
use Rattle.automata.proofs.Fronts.{front_by_step}

-- A completion after one more symbol completes the row with that symbol in front.
completed_more : (e : Tree) (w : List ℕ) (s n : ℕ) → Completed e (w ++ (s ∷ [])) n → Completed e w (suc n)
completed_more e w s n (v, is, k) = (s ∷ v, ap suc is, subst (λ z. In e z) (append_assoc w (s ∷ []) v) k)

-- So a symbol after which a completion has one symbol fewer than the need is a hint.
hint_from : (e : Tree) (w : List ℕ) (s n : ℕ) → Need e w (suc n) → Completed e (w ++ (s ∷ [])) n → Hint e w s
hint_from e w s n need k = (n, need, (k, λ m x. omega (arith, need.1 (suc m) (completed_more e w s m x))))

pub hint_exists : HintExists
hint_exists e w n (([], is, k), least) = absurd (omega arith)
hint_exists e w n ((s ∷ v, is, k), least) =
    (s, hint_from e w s n ((s ∷ v, is, k), least) (v, omega arith, subst (λ z. In e z) (sym (append_assoc w (s ∷ []) v)) k))

pub hint_by_paths : HintByPaths
hint_by_paths e w n p i q j s h ne need st l r k =
    hint_from e w s n need ((completions_by_paths_lem e (w ++ (s ∷ [])) n h ne).1 (q, j, (front_by_step e w s q j).1 (k, (p, i, st, l)), r))

pub hint_held : HintHeld
hint_held e w s h (n, need, ((v, is, k), least)) =
    let (q, j, st, t) = front_on e (w ++ (s ∷ [])) v h k in
    (q, ((front_by_step e w s q j).0 st).0)

hints_left : (e : Tree) (w v : List ℕ) (n : ℕ) → Need e w n → Hinted e w v → (length v ≤ n) × Need e (w ++ v) (n - length v)
hints_left e w [] n need hs =
    let same : n ≡ n - 0 = omega arith in
    (omega arith, subst (λ z. Need e (w ++ []) z) same (subst (λ z. Need e z n) (sym (append-nil w)) need))
hints_left e w (s ∷ v) n need ((m, x, y), hs) =
    let same : n ≡ suc m = need_unique e w n (suc m) need x in
    let (l, k) = hints_left e (w ++ (s ∷ [])) v m y hs in
    let less : m - length v ≡ n - length (s ∷ v) = omega arith in
    (omega arith, subst (λ z. Need e (w ++ (s ∷ v)) z) less (subst (λ z. Need e z (m - length v)) (append_assoc w (s ∷ []) v) k))

pub hints_count : HintsCount
hints_count e w v n need hs = (l, k, (to, from))
  where
    l : length v ≤ n
    l = (hints_left e w v n need hs).0

    k : Need e (w ++ v) (n - length v)
    k = (hints_left e w v n need hs).1

    to : In e (w ++ v) → length v ≡ n
    to m = omega (arith, l, need_unique e (w ++ v) (n - length v) 0 k ((need_zero e (w ++ v)).0.1 m))

    from : length v ≡ n → In e (w ++ v)
    from is =
        let none : n - length v ≡ 0 = omega arith in
        (need_zero e (w ++ v)).0.0 (subst (λ z. Need e (w ++ v) z) none k)

-- The first hints of a hinted row are hints.
pub hinted_front : (e : Tree) (w u x : List ℕ) → Hinted e w (u ++ x) → Hinted e w u
hinted_front e w [] x hs = tt
hinted_front e w (s ∷ u) x hs = (hs.0, hinted_front e (w ++ (s ∷ [])) u x hs.1)

pub hints_finish : HintsFinish
hints_finish e w v need hs = ((hints_count e w v (length v) need hs).2.1 refl, not_before)
  where
    not_before : (u x : List ℕ) → v ≡ u ++ x → length u < length v → In e (w ++ u) → ⊥
    not_before u x is less m =
        omega (arith, (hints_count e w u (length v) need (hinted_front e w u x (subst (λ z. Hinted e w z) is hs))).2.0 m)
