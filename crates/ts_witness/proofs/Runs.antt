-- What is known of the states of a run, after a change and one cell further.
use Rattle.std.proofs.Common.{◌≡◌, ◌<◌, ◌≤◌, ◌⊎◌, ℕ, zero, suc, ◌+◌, ◌-◌, ℤ, pos, List, [], ◌∷◌, ◌++◌, length, take, set, Some, slice_get, get_or, refl, sym, ◌∙◌, ap, subst, ⊎_elim, inl, inr, arith}
use Rattle.std.proofs.lemmas.List.{take-set-le, length-set, append_assoc}
use Rattle.std.proofs.Math.Seq.{take-suc}
use Rattle.std.proofs.lemmas.Option.{slice_get-get_or, get_or_from_slice_get, same_Some, slice_get_within}
use Rattle.ts_automaton.specs.declared.regs.At.{At}
use Rattle.ts_automaton.specs.Body.{Body}
use Rattle.ts_automaton.specs.AutomatonRun.{Stands, after, step_of, standing_of}
use Rattle.ts_glue.proofs.CallerLemmas.{after_more}
use Rattle.ts_witness.specs.declared.run.Side.{Side}
use Rattle.ts_witness.specs.Runs.{IsRun, IsSide}

get_other : (xs : List At) (i k : ℕ) (y : At) → k < i → slice_get (set xs i y) k ≡ slice_get xs k
get_other [] i k y l = refl
get_other (x ∷ xs) zero k y l = absurd (omega (arith, l))
get_other (x ∷ xs) (suc i) zero y l = refl
get_other (x ∷ xs) (suc i) (suc k) y l = get_other xs i k y (omega (arith, l))

get_same : (xs : List At) (i : ℕ) (y : At) → i < length xs → slice_get (set xs i y) i ≡ Some y
get_same [] i y l = absurd (omega (arith, l))
get_same (x ∷ xs) zero y l = refl
get_same (x ∷ xs) (suc i) y l = get_same xs i y (omega (arith, l))

pub changed_run : (b : Body) (cells : List ℤ) (states : List At) (known less i : ℕ) (v : ℤ) → IsRun b cells states known → less ≤ known → less ≤ i →
    IsRun b (set cells i v) states less
changed_run b cells states known less i v r l m = record {
  count = r.count ∙ sym (length-set cells i v);
  few = let e = length-set cells i v in let f = r.few in omega (arith, l, e, f);
  right = λ k a n e. r.right k a (omega (arith, n, l)) e ∙ ap (after b) (sym (take-set-le (suc k) cells i v (omega (arith, n, m))));
  stands = λ k a n e. r.stands k a (omega (arith, n, l)) e;
}

-- one move further
pub moved : (b : Body) (cells : List ℤ) (states : List At) (known j : ℕ) (x v : ℤ) (a : At) → IsRun b cells states known → j < known →
    slice_get states j ≡ Some a → slice_get cells j ≡ Some x → step_of b (standing_of a) x v ≡ after b (take (suc j) cells ++ v ∷ [])
moved b cells states known j x v a r l e f =
    let cut : take (suc j) cells ≡ take j cells ++ x ∷ [] =
    take-suc cells j (pos 0) (slice_get_within cells j x f) ∙ ap (λ z. take j cells ++ z ∷ []) (get_or_from_slice_get cells j x (pos 0) f) in
    ap (λ z. step_of b z x v) (r.right j a l e ∙ ap (after b) cut) ∙ sym (after_more b (take j cells) x v)
    ∙ ap (after b) (sym (ap (λ z. z ++ v ∷ []) cut ∙ append_assoc (take j cells) (x ∷ []) (v ∷ [])))

pub split : (k n : ℕ) → k < n + 1 → (k < n) ⊎ (k ≡ n)
split zero zero h = inr refl
split zero (suc n) h = inl (omega arith)
split (suc k) zero h = absurd (omega (arith, h))
split (suc k) (suc n) h = ⊎_elim (λ l. inl (omega (arith, l))) (λ e. inr (ap suc e)) (split k n (omega (arith, h)))

pub one_more : (b : Body) (cells : List ℤ) (states : List At) (known : ℕ) (x : ℤ) (at : At) → IsRun b cells states known → known < length cells →
    x ≡ get_or cells known x → standing_of at ≡ after b (take known cells ++ x ∷ []) →
    Stands b (standing_of at) → IsRun b cells (set states known at) (known + 1)
one_more b cells states known x at r l g h st = record {
  count = length-set states known at ∙ r.count;
  few = omega (arith, l);
  right = λ k a n e. go k a e (split k known n);
  stands = λ k a n e. kinds k a e (split k known n);
}
  where
    f : slice_get cells known ≡ Some x
    f = slice_get-get_or cells known x l ∙ ap Some (sym g)

    there : known < length states
    there = let c = r.count in omega (arith, l, c)

    cut : take (suc known) cells ≡ take known cells ++ x ∷ []
    cut = take-suc cells known (pos 0) l ∙ ap (λ z. take known cells ++ z ∷ []) (get_or_from_slice_get cells known x (pos 0) f)

    go : (k : ℕ) (a : At) → slice_get (set states known at) k ≡ Some a → (k < known) ⊎ (k ≡ known) → standing_of a ≡ after b (take (suc k) cells)
    go k a e s =
        ⊎_elim (λ m. r.right k a m (sym (get_other states known k at m) ∙ e))
        (λ m. let same : at ≡ a = same_Some at a (sym (get_same states known at there) ∙ subst (λ z. slice_get (set states known at) z ≡ Some a) m e) in
        ap standing_of (sym same) ∙ h ∙ ap (after b) (sym cut) ∙ ap (λ z. after b (take (suc z) cells)) (sym m))
        s

    kinds : (k : ℕ) (a : At) → slice_get (set states known at) k ≡ Some a → (k < known) ⊎ (k ≡ known) → Stands b (standing_of a)
    kinds k a e s =
        ⊎_elim (λ m. r.stands k a m (sym (get_other states known k at m) ∙ e))
        (λ m. let same : at ≡ a = same_Some at a (sym (get_same states known at there) ∙ subst (λ z. slice_get (set states known at) z ≡ Some a) m e) in
        subst (λ z. Stands b (standing_of z)) same st)
        s

-- the place before one of the known places, from 1 on, is known
below : (i known : ℕ) → (i ≡ 0 → ⊥) → i ≤ known → i - 1 < known
below zero known n l = absurd (n refl)
below (suc i) known n l = omega (arith, l)

back_up : (i : ℕ) → (i ≡ 0 → ⊥) → suc (i - 1) ≡ i
back_up zero n = absurd (n refl)
back_up (suc i) n = omega arith

-- an element that is there
found : {A : Type 0} (xs : List A) (k : ℕ) (a : A) → a ≡ get_or xs k a → k < length xs → slice_get xs k ≡ Some a
found xs k a e l = slice_get-get_or xs k a l ∙ ap Some (sym e)

inside : (b : Body) (cells : List ℤ) (states : List At) (known i : ℕ) → IsRun b cells states known → (i ≡ 0 → ⊥) → i ≤ known →
    (i - 1 < length states) × (i - 1 < length cells)
inside b cells states known i r n l =
    let k = below i known n l in
    let f = r.few in
    let c = r.count in
    (omega (arith, k, f, c), omega (arith, k, f))

module _ (b : Body) (cells : List ℤ) (states : List At) (known i : ℕ) (r : IsRun b cells states known) (n : i ≡ 0 → ⊥) (l : i ≤ known) (a : At)
    (e : a ≡ get_or states (i - 1) a) where
  state_there : slice_get states (i - 1) ≡ Some a
  state_there = found states (i - 1) a e (inside b cells states known i r n l).0

  pub stands_at : Stands b (standing_of a)
  stands_at = r.stands (i - 1) a (below i known n l) state_there

  pub moved_at : (x v : ℤ) → x ≡ get_or cells (i - 1) x → step_of b (standing_of a) x v ≡ after b (take i cells ++ v ∷ [])
  moved_at x v f =
      subst (λ z. step_of b (standing_of a) x v ≡ after b (take z cells ++ v ∷ [])) (back_up i n)
      (moved b cells states known (i - 1) x v a r (below i known n l) state_there (found cells (i - 1) x f (inside b cells states known i r n l).1))

-- what a run has beside a place

pub first_side : (b : Body) (cells : List ℤ) (i : ℕ) (s : Side) → i ≡ 0 → IsSide b cells i s
first_side b cells zero s e v = refl
first_side b cells (suc i) s e v = absurd (omega (arith, e))

pub next_side : (b : Body) (cells : List ℤ) (states : List At) (known i : ℕ) (s : Side) → IsRun b cells states known → (i ≡ 0 → ⊥) → i ≤ known →
    s.at ≡ get_or states (i - 1) s.at → s.cell ≡ get_or cells (i - 1) s.cell → IsSide b cells i s
next_side b cells states known zero s r n l e f v = absurd (n refl)
next_side b cells states known (suc i) s r n l e f v = moved_at b cells states known (suc i) r n l s.at e s.cell v f

-- what a run has beside a place is what is known of it
pub same_side : (b : Body) (cells : List ℤ) (states : List At) (known i : ℕ) (s : Side) (a : At) (x : ℤ) → IsRun b cells states known → (i ≡ 0 → ⊥) →
    i ≤ known → s.at ≡ a → s.cell ≡ x → a ≡ get_or states (i - 1) a → x ≡ get_or cells (i - 1) x → IsSide b cells i s
same_side b cells states known i s a x r n l at cell e f =
    next_side b cells states known i s r n l (subst (λ z. z ≡ get_or states (i - 1) z) (sym at) e) (subst (λ z. z ≡ get_or cells (i - 1) z) (sym cell) f)
