-- The steps of a move on `=`.
use Rattle.std.proofs.Common.{◌≡◌, ◌≢◌, ℕ, zero, suc, ◌+◌, ◌<◌, ◌≤◌, ◌⊎◌, inl, inr, Bool, true, false, cond, ℤ, ◌<ℤ◌, List, length, get_or, refl, sym, ap, subst, ◌∙◌, arith}
use Rattle.std.specs.Ordering.{int_eq}
use Rattle.std.proofs.lemmas.Int.{ints}
use Rattle.ts_sweep.specs.Sweeps.{total, equal_hull, IsTakenIn}

below_or_not : (a b : ℕ) → (a < b) ⊎ (b ≤ a)
below_or_not a b = grind arith

below_same_or : (a b : ℕ) → a < b + 1 → (a < b) ⊎ (a ≡ b)
below_same_or a b h = grind arith

same_or : (a b : ℕ) → a ≤ b → (a ≡ b) ⊎ (a < b)
same_or a b h = grind arith

less_apart : (x y : ℤ) → x <ℤ y → int_eq x y ≡ false
less_apart x y h = grind (arith, ints)

more_apart : (x y : ℤ) → y <ℤ x → int_eq x y ≡ false
more_apart x y h = grind (arith, ints)

same_is : (x y : ℤ) → x ≡ y → int_eq x y ≡ true
same_is x y h = grind (arith, ints)

before_too : (x y z : ℤ) → x <ℤ y → y <ℤ z → x <ℤ z
before_too x y z h k = omega (arith, ints, h, k)

module _ {X : Type 0} (both : X → X → X) (none : X) (f : ℕ → X) where
  total_nothing : (test : ℕ → Bool) (n : ℕ) → ((i : ℕ) → i < n → test i ≡ false) → total both none test f n ≡ none
  unfolding total
  total_nothing test zero h = refl
  total_nothing test (suc n) h =
      ap (λ b. cond b (both (total both none test f n) (f n)) (total both none test f n)) (h n (omega arith))
      ∙ total_nothing test n (λ i lt. h i (omega (arith, lt)))

  total_one : (test : ℕ → Bool) (n at : ℕ) → at < n → test at ≡ true → ((i : ℕ) → i < n → i ≢ at → test i ≡ false) →
      total both none test f n ≡ both none (f at)
  unfolding total
  total_one test zero at lt here others = absurd (omega (arith, lt))
  total_one test (suc n) at lt here others = elim (below_same_or at n (omega (arith, lt))) [
    | inl before ↦ ap (λ b. cond b (both (total both none test f n) (f n)) (total both none test f n))
        (others n (omega arith) (λ e. omega (arith, e, before)))
        ∙ total_one test n at before here (λ i less other. others i (omega (arith, less)) other)
    | inr same ↦ ap (λ b. cond b (both (total both none test f n) (f n)) (total both none test f n)) (ap test (sym same) ∙ here)
        ∙ ap (λ x. both x (f n)) (total_nothing test n (λ i less. others i (omega (arith, less)) (λ e. omega (arith, e, same, less))))
        ∙ ap (λ k. both none (f k)) (sym same)
  ]

-- where a move on `=` is that has left `at` values and k next ones behind
pub record IsEqualTo {X Y : Type 0} (both : X → X → X) (taking : Y → X → Y) (none : X) (blank : Y) (front closing : X → ℤ → X) (hulls : List X)
    (value next_value : ℕ → ℤ) (n m at k : ℕ) (old new : List Y) : Type 0 where
  pub inside : at ≤ n
  pub within : k ≤ m
  pub passed : (i j : ℕ) → i < at → k ≤ j → j < m → value i <ℤ next_value j
  pub len : length new ≡ length old
  pub done : (j : ℕ) → j < k → taking (get_or old j blank) none ≡ get_or old j blank →
      get_or new j blank ≡ taking (get_or old j blank) (closing (equal_hull both none front hulls value (next_value j)) (next_value j))
  pub rest : (j : ℕ) → k ≤ j → get_or new j blank ≡ get_or old j blank

module _ {X Y : Type 0} (both : X → X → X) (taking : Y → X → Y) (none : X) (blank : Y) (front closing : X → ℤ → X) (closes : (w : ℤ) → closing none w ≡ none)
    (hulls : List X) (value next_value : ℕ → ℤ) (n m : ℕ) (hulls_same : length hulls ≡ n) (rises : (i j : ℕ) → i < j → j < n → value i <ℤ value j)
    (next_rises : (i j : ℕ) → i < j → j < m → next_value i <ℤ next_value j) where
  pub equal_begin : (old : List Y) → IsEqualTo both taking none blank front closing hulls value next_value n m 0 0 old old
  equal_begin old = record {
    inside = omega arith;
    within = omega arith;
    passed = λ i j lt le inside. absurd (omega (arith, lt));
    len = refl;
    done = λ j lt takes. absurd (omega (arith, lt));
    rest = λ j le. refl;
  }

  pub equal_less : (at k : ℕ) (old new : List Y) → IsEqualTo both taking none blank front closing hulls value next_value n m at k old new → at < n → k < m →
      value at <ℤ next_value k → IsEqualTo both taking none blank front closing hulls value next_value n m (at + 1) k old new
  equal_less at k old new is lt inside less = record {
    inside = omega (arith, lt);
    within = is.within;
    passed = λ i j below le j_inside. elim (below_same_or i at below) [
      | inl before ↦ is.passed i j before le j_inside
      | inr same ↦ subst (λ z. value z <ℤ next_value j) (sym same) (elim (same_or k j le) [
        | inl here ↦ subst (λ z. value at <ℤ next_value z) here less
        | inr later ↦ before_too (value at) (next_value k) (next_value j) less (next_rises k j later j_inside)
      ])
    ];
    len = is.len;
    done = is.done;
    rest = is.rest;
  }

  -- no value is equal to a next one that is above those left behind and below the others
  none_equal : (at k : ℕ) (old new : List Y) → IsEqualTo both taking none blank front closing hulls value next_value n m at k old new →
      (j : ℕ) → k ≤ j → j < m → (at < n → next_value j <ℤ value at) → equal_hull both none front hulls value (next_value j) ≡ none
  none_equal at k old new is j le inside above =
      total_nothing both none (λ i. front (get_or hulls i none) (value i)) (λ i. int_eq (value i) (next_value j)) (length hulls)
      (λ i lt. elim (below_or_not i at) [
        | inl before ↦ less_apart (value i) (next_value j) (is.passed i j before le inside)
        | inr after ↦ more_apart (value i) (next_value j) (elim (same_or at i after) [
          | inl same ↦ subst (λ z. next_value j <ℤ value z) same (above (omega (arith, after, lt, hulls_same)))
          | inr later ↦ before_too (next_value j) (value at) (value i) (above (omega (arith, later, lt, hulls_same)))
              (rises at i later (omega (arith, lt, hulls_same)))
        ])
      ])

  gives_nothing : (at k : ℕ) (old new : List Y) → IsEqualTo both taking none blank front closing hulls value next_value n m at k old new →
      (j : ℕ) → k ≤ j → j < m → (at < n → next_value j <ℤ value at) → taking (get_or old j blank) none ≡ get_or old j blank →
      get_or new j blank ≡ taking (get_or old j blank) (closing (equal_hull both none front hulls value (next_value j)) (next_value j))
  gives_nothing at k old new is j le inside above takes =
      is.rest j le ∙ sym takes
      ∙ ap (taking (get_or old j blank)) (sym (ap (λ x. closing x (next_value j)) (none_equal at k old new is j le inside above) ∙ closes (next_value j)))

  pub equal_more : (at k : ℕ) (old new : List Y) → IsEqualTo both taking none blank front closing hulls value next_value n m at k old new → at < n → k < m →
      next_value k <ℤ value at → IsEqualTo both taking none blank front closing hulls value next_value n m at (k + 1) old new
  equal_more at k old new is lt inside more = record {
    inside = is.inside;
    within = omega (arith, inside);
    passed = λ i j below le j_inside. is.passed i j below (omega (arith, le)) j_inside;
    len = is.len;
    done = λ j below takes. elim (below_same_or j k below) [
      | inl before ↦ is.done j before takes
      | inr same ↦ gives_nothing at k old new is j (omega (arith, same)) (omega (arith, same, inside))
          (λ less. subst (λ z. next_value z <ℤ value at) (sym same) more) takes
    ];
    rest = λ j le. is.rest j (omega (arith, le));
  }

  pub equal_same : (at k : ℕ) (h : X) (old next next' : List Y) →
      IsEqualTo both taking none blank front closing hulls value next_value n m at k old next → at < n → k < m →
      value at ≡ next_value k → h ≡ closing (both none (front (get_or hulls at none) (value at))) (value at) → length next' ≡ length next →
      get_or next' k blank ≡ taking (get_or next k blank) h → ((j : ℕ) → j ≢ k → get_or next' j blank ≡ get_or next j blank) →
      IsEqualTo both taking none blank front closing hulls value next_value n m (at + 1) (k + 1) old next'
  equal_same at k h old next next' is lt inside same h_is len here others =
      let f : ℕ → X = λ i. front (get_or hulls i none) (value i) in
      let one : equal_hull both none front hulls value (next_value k) ≡ both none (f at) =
      total_one both none f (λ i. int_eq (value i) (next_value k)) (length hulls) at (omega (arith, lt, hulls_same))
      (same_is (value at) (next_value k) same)
      (λ i less other. elim (below_or_not i at) [
        | inl before ↦ less_apart (value i) (next_value k) (is.passed i k before (omega arith) inside)
        | inr after ↦ more_apart (value i) (next_value k)
            (subst (λ z. z <ℤ value i) same (rises at i (omega (arith, after, other)) (omega (arith, less, hulls_same))))
      ]) in
      record {
        inside = omega (arith, lt);
        within = omega (arith, inside);
        passed = λ i j below le j_inside. elim (below_same_or i at below) [
          | inl before ↦ is.passed i j before (omega (arith, le)) j_inside
          | inr equal ↦ subst (λ z. value z <ℤ next_value j) (sym equal)
              (subst (λ z. z <ℤ next_value j) (sym same) (next_rises k j (omega (arith, le)) j_inside))
        ];
        len = len ∙ is.len;
        done = λ j below takes. elim (below_same_or j k below) [
          | inl before ↦ others j (λ e. omega (arith, e, before)) ∙ is.done j before takes
          | inr equal ↦ subst (λ z. get_or next' z blank
              ≡ taking (get_or old z blank) (closing (equal_hull both none front hulls value (next_value z)) (next_value z))) (sym equal)
              (here ∙ ap (λ y. taking y h) (is.rest k (omega arith))
              ∙ ap (taking (get_or old k blank)) (h_is ∙ ap (closing (both none (f at))) same ∙ ap (λ x. closing x (next_value k)) (sym one)))
        ];
        rest = λ j le. others j (λ e. omega (arith, e, le)) ∙ is.rest j (omega (arith, le));
      }

  pub equal_end : (at k : ℕ) (old new : List Y) → IsEqualTo both taking none blank front closing hulls value next_value n m at k old new →
      ((at < n) → k < m → ⊥) → length old ≡ m →
      IsTakenIn taking none blank (λ j. closing (equal_hull both none front hulls value (next_value j)) (next_value j)) old new
  equal_end at k old new is over same = record {
    len = is.len;
    each = λ j lt takes. elim (below_or_not j k) [
      | inl before ↦ is.done j before takes
      | inr after ↦ gives_nothing at k old new is j after (omega (arith, lt, same))
          (λ less. absurd (over less (omega (arith, after, lt, same)))) takes
    ];
  }
