-- The steps of a sweep over values with gaps.
use Rattle.std.proofs.Common.{◌≡◌, ℕ, suc, ◌+◌, ◌-◌, ◌<◌, ◌≤◌, ◌⊎◌, inl, inr, ◌≢◌, Bool, true, false, nat_lt, ℤ, ◌<ℤ◌, List, length, get_or, refl, sym, ap, subst, ◌∙◌, arith}
use Rattle.std.proofs.lemmas.Int.{ints}
use mir.Val.{of_z, to_z}
use mir.Syntax.{w64}
use Rattle.ts_sweep.specs.Small.{IsSmall}
use Rattle.ts_sweep.specs.Sweeps.{total, gathered, step_place, passes, passed_hull, IsSteppedTo, IsTakenIn}
use Rattle.ts_sweep.proofs.Gathered.{gathered_takes, gathered_total}
use Rattle.ts_sweep.proofs.RunSteps.{as_passed, begins, steps, ends, place_place}

-- in the order of a sweep
abbrev Before : Bool → ℤ → ℤ → Type 0
Before true x y = x <ℤ y
Before false x y = y <ℤ x

-- a value before one that is passed is passed, also at a later next value
passes_before : (up twin : Bool) (x y w : ℤ) → Before up x y → passes up twin y w ≡ true → passes up twin x w ≡ true
passes_before true true x y w b h = grind (arith, ints)
passes_before true false x y w b h = grind (arith, ints)
passes_before false true x y w b h = grind (arith, ints)
passes_before false false x y w b h = grind (arith, ints)

passes_after : (up twin : Bool) (x w z : ℤ) → Before up w z → passes up twin x w ≡ true → passes up twin x z ≡ true
passes_after true true x y w b h = grind (arith, ints)
passes_after true false x y w b h = grind (arith, ints)
passes_after false true x y w b h = grind (arith, ints)
passes_after false false x y w b h = grind (arith, ints)

Rising : (ℕ → ℤ) → ℕ → Type 0
Rising value n = (i j : ℕ) → i < j → j < n → value i <ℤ value j

in_order : (up : Bool) (value : ℕ → ℤ) (n i j : ℕ) → ((i j : ℕ) → i < j → j < n → value i <ℤ value j) → i < j → j < n →
    Before up (value (step_place up n i)) (value (step_place up n j))
in_order true value n i j rises lt inside = rises i j lt inside
in_order false value n i j rises lt inside = rises (n - suc j) (n - suc i) (omega (arith, lt, inside)) (omega (arith, lt, inside))

below_same_or : (a b : ℕ) → a < b + 1 → (a < b) ⊎ (a ≡ b)
below_same_or a b h = grind arith

below_or_not : (a b : ℕ) → (a < b) ⊎ (b ≤ a)
below_or_not a b = grind arith

same_or : (a b : ℕ) → a ≤ b → (a ≡ b) ⊎ (a < b)
same_or a b h = grind arith

is_below : (a b : ℕ) → a < b → nat_lt a b ≡ true
is_below a b h = grind arith

not_below : (a b : ℕ) → b ≤ a → nat_lt a b ≡ false
not_below a b h = grind arith

is_false : (b : Bool) → (b ≡ true → ⊥) → b ≡ false
is_false true h = absurd (h refl)
is_false false h = refl

not_both : (b : Bool) → b ≡ true → b ≡ false → ⊥
not_both true h k = cc
not_both false h k = cc

-- where a sweep is that has passed `at` values and given to k next ones
pub record IsMergedTo {X Y : Type 0} (both : X → X → X) (taking : Y → X → Y) (none : X) (blank : Y) (up twin : Bool) (front closing : X → ℤ → X)
    (hulls : List X) (value next_value : ℕ → ℤ) (n m at k : ℕ) (run : X) (old new : List Y) : Type 0 where
  pub inside : at ≤ n
  pub run_is : run ≡ gathered both none up (λ i. front (get_or hulls i none) (value i)) n at
  pub passed : (i : ℕ) → i < at → k < m → passes up twin (value (step_place up n i)) (next_value (step_place up m k)) ≡ true
  pub column : IsSteppedTo taking none blank up
      (λ k. closing (passed_hull both none up twin front hulls value (next_value (step_place up m k))) (next_value (step_place up m k))) m 0 0 k old new

module _ {X Y : Type 0} (both : X → X → X) (taking : Y → X → Y) (none : X) (blank : Y) (assoc : (a b c : X) → both (both a b) c ≡ both a (both b c))
    (comm : (a b : X) → both a b ≡ both b a) (idem : (a : X) → both a a ≡ a) (up twin : Bool) (front closing : X → ℤ → X) (hulls : List X)
    (value next_value : ℕ → ℤ) (n m : ℕ) where
  pub merge_begin : (run : X) (old : List Y) → run ≡ none → IsMergedTo both taking none blank up twin front closing hulls value next_value n m 0 0 run old old
  unfolding gathered
  merge_begin run old is = record {
    inside = omega arith;
    run_is = is;
    passed = λ i lt inside. absurd (omega (arith, lt));
    column = begins taking none blank up _ m 0 0 old (λ k lt before. absurd (omega (arith, before)));
  }

  pub merge_takes : (at k : ℕ) (run : X) (old new : List Y) →
      IsMergedTo both taking none blank up twin front closing hulls value next_value n m at k run old new →
      both run none ≡ run
  merge_takes at k run old new is =
      subst (λ x. both x none ≡ x) (sym is.run_is)
      (gathered_takes both none assoc comm (λ i. front (get_or hulls i none) (value i)) up n at (idem none))

  merge_take : (at k i : ℕ) (w : ℤ) (run run' : X) (old new : List Y) →
      IsMergedTo both taking none blank up twin front closing hulls value next_value n m at k run old new → at < n → i ≡ step_place up n at →
      w ≡ next_value (step_place up m k) → passes up twin (value (step_place up n at)) w ≡ true →
      run' ≡ both run (front (get_or hulls i none) (value i)) →
      IsMergedTo both taking none blank up twin front closing hulls value next_value n m (at + 1) k run' old new
  unfolding gathered
  merge_take at k i w run run' old new is lt ei ew pass taken =
      let here : passes up twin (value (step_place up n at)) (next_value (step_place up m k)) ≡ true =
      ap (passes up twin (value (step_place up n at))) (sym ew) ∙ pass in
      let more : suc at ≡ at + 1 = omega arith in
      record {
        inside = omega (arith, lt);
        run_is = taken ∙ ap (λ j. both run (front (get_or hulls j none) (value j))) ei
            ∙ ap (λ x. both x (front (get_or hulls (step_place up n at) none) (value (step_place up n at)))) is.run_is
            ∙ ap (gathered both none up (λ i. front (get_or hulls i none) (value i)) n) more;
        passed = λ j less inside. elim (below_same_or j at less) [
          | inl before ↦ is.passed j before inside
          | inr same ↦ ap (λ z. passes up twin (value (step_place up n z)) (next_value (step_place up m k))) same ∙ here
        ];
        column = is.column;
      }

  -- the values that are not passed at a next value are all from place `at` on
  rest : (at k : ℕ) → at ≤ n → ((i j : ℕ) → i < j → j < n → value i <ℤ value j) →
      ((i : ℕ) → i < at → passes up twin (value (step_place up n i)) (next_value (step_place up m k)) ≡ true) →
      (at < n → passes up twin (value (step_place up n at)) (next_value (step_place up m k)) ≡ false) → (i : ℕ) → i < n →
      passes up twin (value (step_place up n i)) (next_value (step_place up m k)) ≡ nat_lt i at
  rest at k inside rises passed stop i li = elim (below_or_not i at) [
    | inl before ↦ passed i before ∙ sym (is_below i at before)
    | inr after ↦ elim (same_or at i after) [
      | inl same ↦ ap (λ z. passes up twin (value (step_place up n z)) (next_value (step_place up m k))) (sym same)
          ∙ stop (omega (arith, same, li)) ∙ sym (not_below i at after)
      | inr later ↦ is_false (passes up twin (value (step_place up n i)) (next_value (step_place up m k)))
          (λ h. not_both (passes up twin (value (step_place up n at)) (next_value (step_place up m k)))
          (passes_before up twin (value (step_place up n at)) (value (step_place up n i)) (next_value (step_place up m k))
          (in_order up value n at i rises later li) h)
          (stop (omega (arith, later, li))))
          ∙ sym (not_below i at after)
    ]
  ]

  merge_put : (at k j : ℕ) (w : ℤ) (run : X) (old next next' : List Y) →
      IsMergedTo both taking none blank up twin front closing hulls value next_value n m at k run old next → ((i j : ℕ) → i < j → j < n → value i <ℤ value j) →
      ((i j : ℕ) → i < j → j < m → next_value i <ℤ next_value j) → length hulls ≡ n → k < m → j ≡ step_place up m k → w ≡ next_value j →
      (at < n → passes up twin (value (step_place up n at)) w ≡ false) → length next' ≡ length next →
      get_or next' j blank ≡ taking (get_or next j blank) (closing run w) → ((i : ℕ) → i ≢ j → get_or next' i blank ≡ get_or next i blank) →
      IsMergedTo both taking none blank up twin front closing hulls value next_value n m at (k + 1) run old next'
  merge_put at k j w run old next next' is rises next_rises same lt ej ew stop len here others =
      let wk : w ≡ next_value (step_place up m k) = ew ∙ ap next_value ej in
      let stops : at < n → passes up twin (value (step_place up n at)) (next_value (step_place up m k)) ≡ false =
      λ less. (ap (passes up twin (value (step_place up n at))) (sym wk) ∙ stop less) in
      let whole : run ≡ passed_hull both none up twin front hulls value (next_value (step_place up m k)) =
      is.run_is
      ∙ sym (gathered_total both none assoc comm (λ i. front (get_or hulls i none) (value i)) up
      (λ i. passes up twin (value i) (next_value (step_place up m k))) n at is.inside
      (rest at k is.inside rises (λ i less. is.passed i less lt) stops))
      ∙ ap (total both none (λ i. passes up twin (value i) (next_value (step_place up m k))) (λ i. front (get_or hulls i none) (value i))) (sym same) in
      let there : get_or next' (step_place up m k) blank
      ≡ taking (get_or next (step_place up m k) blank)
      (closing (passed_hull both none up twin front hulls value (next_value (step_place up m k))) (next_value (step_place up m k))) =
      subst (λ z. get_or next' z blank ≡ taking (get_or next z blank) (closing run w)) ej here
      ∙ ap (λ x. taking (get_or next (step_place up m k) blank) (closing x w)) whole
      ∙ ap (λ x. taking (get_or next (step_place up m k) blank)
      (closing (passed_hull both none up twin front hulls value (next_value (step_place up m k))) x)) wk in
      record {
        inside = is.inside;
        run_is = is.run_is;
        passed = λ i less inside.
            passes_after up twin (value (step_place up n i)) (next_value (step_place up m k)) (next_value (step_place up m (k + 1)))
            (in_order up next_value m k (k + 1) next_rises (omega arith) inside) (is.passed i less lt);
        column = steps taking none blank up
            (λ k. closing (passed_hull both none up twin front hulls value (next_value (step_place up m k))) (next_value (step_place up m k)))
            m 0 0 k old next next' is.column len
            (λ k' lt' e. (let same_k : k ≡ k' = omega (arith, e) in
            subst (λ z. get_or next' (step_place up m z) blank
            ≡ taking (get_or next (step_place up m z) blank)
            (closing (passed_hull both none up twin front hulls value (next_value (step_place up m z))) (next_value (step_place up m z)))) same_k there))
            (λ k' lt' e. others (step_place up m k')
            (λ same_place. (let back : k' ≡ k =
            sym (place_place up m k' lt') ∙ ap (step_place up m) (same_place ∙ ej) ∙ place_place up m k lt in e (omega (arith, back)))));
      }

  -- a step that passes a value, by what its calls say: of a length that is n, and of w as it was passed
  pub merge_took : (len at k i : ℕ) (w : ℤ) (run run' : X) (old new : List Y) →
      IsMergedTo both taking none blank up twin front closing hulls value next_value n m at k run old new → n ≡ len → IsSmall w → at < len →
      i ≡ step_place up n at →
      w ≡ next_value (step_place up m k) → passes up twin (value (step_place up len at)) (to_z w64 (of_z w64 w)) ≡ true →
      run' ≡ both run (front (get_or hulls i none) (value i)) →
      IsMergedTo both taking none blank up twin front closing hulls value next_value n m (at + 1) k run' old new
  merge_took len at k i w run run' old new is same small lt ei ew pass taken =
      merge_take at k i w run run' old new is (omega (arith, same, lt)) ei ew
      (subst (λ z. passes up twin (value (step_place up z at)) w ≡ true) (sym same)
      (as_passed (λ z. passes up twin (value (step_place up len at)) z ≡ true) w small pass))
      taken

  pub merge_gave : (len at k j : ℕ) (w : ℤ) (run : X) (old next next' : List Y) →
      IsMergedTo both taking none blank up twin front closing hulls value next_value n m at k run old next → n ≡ len → IsSmall w →
      ((i j : ℕ) → i < j → j < n → value i <ℤ value j) → ((i j : ℕ) → i < j → j < m → next_value i <ℤ next_value j) → length hulls ≡ n → k < m →
      j ≡ step_place up m k → w ≡ next_value j → (at < len → passes up twin (value (step_place up len at)) (to_z w64 (of_z w64 w)) ≡ false) →
      length next' ≡ length next → get_or next' j blank ≡ taking (get_or next j blank) (closing run w) →
      ((i : ℕ) → i ≢ j → get_or next' i blank ≡ get_or next i blank) →
      IsMergedTo both taking none blank up twin front closing hulls value next_value n m at (k + 1) run old next'
  merge_gave len at k j w run old next next' is same small rises next_rises hulls_same lt ej ew stop =
      merge_put at k j w run old next next' is rises next_rises hulls_same lt ej ew
      (λ less. subst (λ z. passes up twin (value (step_place up z at)) w ≡ false) (sym same)
      (as_passed (λ z. passes up twin (value (step_place up len at)) z ≡ false) w small (stop (omega (arith, same, less)))))

  pub merge_end : (at k : ℕ) (run : X) (old new : List Y) →
      IsMergedTo both taking none blank up twin front closing hulls value next_value n m at k run old new →
      m ≤ k → length old ≡ m →
      IsTakenIn taking none blank (λ j. closing (passed_hull both none up twin front hulls value (next_value j)) (next_value j)) old new
  merge_end at k run old new is all len =
      ends taking none blank up _ (λ j. closing (passed_hull both none up twin front hulls value (next_value j)) (next_value j)) m 0 0 k old new is.column
      (omega (arith, all)) len (λ i lt. refl)
