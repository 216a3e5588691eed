-- The steps of a sweep over cells without gaps.
use Rattle.std.proofs.Common.{◌≡◌, ℕ, zero, suc, ◌+◌, ◌-◌, ◌<◌, ◌≤◌, ◌⊎◌, inl, inr, ◌≢◌, Bool, true, false, nat_lt, ℤ, List, length, get_or, min, refl, sym, ap, subst, ◌∙◌, arith}
use Rattle.std.proofs.lemmas.Int.{ints, to_z-of_z}
use Rattle.ts_sweep.specs.Small.{IsSmall}
use Rattle.ts_sweep.specs.Sweeps.{total, gathered, step_place, passes, passed_hull, Leads, IsSteppedTo, IsTakenIn}
use Rattle.ts_sweep.proofs.Gathered.{gathered_takes, gathered_total}
use mir.Val.{SFits, of_z, to_z}
use mir.Syntax.{w64}

-- a small number that was passed is itself
pub as_passed : (P : ℤ → Type 0) (x : ℤ) → IsSmall x → P (to_z w64 (of_z w64 x)) → P x
as_passed P x small h =
    let low = small.0 in let high = small.1 in
    let fits : SFits w64 x = grind (arith, ints) in subst P (to_z-of_z w64 x fits) h

below_or_not : (a b : ℕ) → (a < b) ⊎ (b ≤ a)
below_or_not a b = grind arith

below_same_or : (a b : ℕ) → a < b + 1 → (a < b) ⊎ (a ≡ b)
below_same_or a b h = grind arith

pub place_inside : (up : Bool) (m k : ℕ) → k < m → step_place up m k < m
place_inside true m k h = h
place_inside false m k h = omega (arith, h)

pub place_place : (up : Bool) (m k : ℕ) → k < m → step_place up m (step_place up m k) ≡ k
place_place true m k h = refl
place_place false m k h = omega (arith, h)

lt_same : (a b c d : ℕ) → (a < b → c < d) → (c < d → a < b) → nat_lt a b ≡ nat_lt c d
lt_same a b c d h k = go (nat_lt a b) refl (nat_lt c d) refl
  where
    means : (x y : ℕ) → nat_lt x y ≡ true → x < y
    means x y e = grind arith

    holds : (x y : ℕ) → x < y → nat_lt x y ≡ true
    holds x y e = grind arith

    go : (s : Bool) → nat_lt a b ≡ s → (t : Bool) → nat_lt c d ≡ t → nat_lt a b ≡ nat_lt c d
    go true e t f = e ∙ sym (holds c d (h (means a b e)))
    go false e true f = holds a b (k (means c d f)) ∙ sym f
    go false e false f = e ∙ sym f

cut_same : (i n k a b : ℕ) → i < n → nat_lt (i + b) (k + a) ≡ nat_lt i (min (k + a - b) n)
cut_same i n k a b li = lt_same (i + b) (k + a) i (min (k + a - b) n) (λ h. grind arith) (λ h. grind arith)

module _ {X Y : Type 0} (taking : Y → X → Y) (none : X) (blank : Y) where
  pub begins : (up : Bool) (h : ℕ → X) (m a b : ℕ) (old : List Y) → ((k : ℕ) → k < m → k + a < b → h k ≡ none) →
      IsSteppedTo taking none blank up h m a b 0 old old
  begins up h m a b old early = record {
    len = refl;
    done = λ k lt before takes. sym takes ∙ ap (taking (get_or old (step_place up m k) blank)) (sym (early k lt (omega (arith, before))));
    rest = λ k lt after. refl;
  }

  pub steps : (up : Bool) (h : ℕ → X) (m a b t : ℕ) (old next new : List Y) → IsSteppedTo taking none blank up h m a b t old next →
      length new ≡ length next →
      ((k : ℕ) → k < m → k + a ≡ t + b → get_or new (step_place up m k) blank ≡ taking (get_or next (step_place up m k) blank) (h k)) →
      ((k : ℕ) → k < m → k + a ≢ t + b → get_or new (step_place up m k) blank ≡ get_or next (step_place up m k) blank) →
      IsSteppedTo taking none blank up h m a b (t + 1) old new
  steps up h m a b t old next new s len here others = record {
    len = len ∙ s.len;
    done = λ k lt before takes. elim (below_same_or (k + a) (t + b) (omega (arith, before))) [
      | inl less ↦ others k lt (λ e. omega (arith, e, less)) ∙ s.done k lt less takes
      | inr same ↦ here k lt same ∙ ap (λ y. taking y (h k)) (s.rest k lt (omega (arith, same)))
    ];
    rest = λ k lt after. others k lt (λ e. omega (arith, e, after)) ∙ s.rest k lt (omega (arith, after));
  }

  pub ends : (up : Bool) (h gives : ℕ → X) (m a b t : ℕ) (old new : List Y) → IsSteppedTo taking none blank up h m a b t old new →
      m + a ≤ t + b → length old ≡ m → ((k : ℕ) → k < m → h k ≡ gives (step_place up m k)) → IsTakenIn taking none blank gives old new
  ends up h gives m a b t old new s all len is = record {
    len = s.len;
    each = λ j lt.
        (let inside : j < m = omega (arith, lt, len) in
        let back = place_place up m j inside in
        let there = place_inside up m j inside in
        subst (λ (i : ℕ). taking (get_or old i blank) none ≡ get_or old i blank → get_or new i blank ≡ taking (get_or old i blank) (gives i)) back
        (λ takes. s.done (step_place up m j) there (omega (arith, there, all)) takes
        ∙ ap (taking (get_or old (step_place up m (step_place up m j)) blank)) (is (step_place up m j) there)));
  }

module _ {X : Type 0} (both : X → X → X) (none : X) where
  module _ (assoc : (a b c : X) → both (both a b) c ≡ both a (both b c)) (comm : (a b : X) → both a b ≡ both b a) where
    -- what is gathered at the step of a next value is the hull of the fronts that are passed there
    pub gathers : (up twin : Bool) (front : X → ℤ → X) (hulls : List X) (value next_value : ℕ → ℤ) (n m a b k : ℕ) → length hulls ≡ n → k < m →
        Leads up twin value n next_value m a b →
        gathered both none up (λ i. front (get_or hulls i none) (value i)) n (min (k + a - b) n)
        ≡ passed_hull both none up twin front hulls value (next_value (step_place up m k))
    gathers up twin front hulls value next_value n m a b k len lt leads =
        sym (gathered_total both none assoc comm (λ i. front (get_or hulls i none) (value i)) up
        (λ i. passes up twin (value i) (next_value (step_place up m k))) n (min (k + a - b) n) (grind arith)
        (λ i li. leads i k li lt ∙ cut_same i n k a b li))
        ∙ ap (total both none (λ i. passes up twin (value i) (next_value (step_place up m k))) (λ i. front (get_or hulls i none) (value i))) (sym len)

    pub takes_more : (up : Bool) (f : ℕ → X) (n t : ℕ) (run result : X) → (t < n → result ≡ both run (f (step_place up n t))) → (n ≤ t → result ≡ run) →
        run ≡ gathered both none up f n (min t n) → result ≡ gathered both none up f n (min (t + 1) n)
    unfolding gathered
    takes_more up f n t run result there beyond is = elim (below_or_not t n) [
      | inl lt ↦ (let e : min t n ≡ t = grind arith in let e' : min (t + 1) n ≡ suc t = grind arith in
          there lt ∙ ap (λ x. both x (f (step_place up n t))) (is ∙ ap (gathered both none up f n) e) ∙ ap (gathered both none up f n) (sym e'))
      | inr le ↦ (let e : min t n ≡ min (t + 1) n = grind arith in beyond le ∙ is ∙ ap (gathered both none up f n) e)
    ]

  -- what is gathered begins as nothing, and stays so until the first value is passed
  pub starts : (up : Bool) (f : ℕ → X) (n : ℕ) (run : X) → run ≡ none → run ≡ gathered both none up f n (min 0 n)
  unfolding gathered
  starts up f n run is = let e : zero ≡ min 0 n = grind arith in is ∙ ap (gathered both none up f n) e

  pub early : (up : Bool) (f : ℕ → X) (n k a b : ℕ) → k + a < b → gathered both none up f n (min (k + a - b) n) ≡ none
  unfolding gathered
  early up f n k a b lt = let e : min (k + a - b) n ≡ zero = grind arith in ap (gathered both none up f n) e

  pub same_step : (up : Bool) (f : ℕ → X) (n k a b t : ℕ) (run : X) → run ≡ gathered both none up f n (min t n) → k + a ≡ t + b →
      run ≡ gathered both none up f n (min (k + a - b) n)
  same_step up f n k a b t run is e = let same : min t n ≡ min (k + a - b) n = grind arith in is ∙ ap (gathered both none up f n) same

-- where a sweep is at step t: what its running hull and its column are
pub record IsAt {X Y : Type 0} (both : X → X → X) (taking : Y → X → Y) (none : X) (blank : Y) (up : Bool) (front closing : X → ℤ → X) (hulls : List X)
    (value next_value : ℕ → ℤ) (n m a b t : ℕ) (run : X) (old new : List Y) : Type 0 where
  pub run_is : run ≡ gathered both none up (λ i. front (get_or hulls i none) (value i)) n (min t n)
  pub column : IsSteppedTo taking none blank up
      (λ k. closing (gathered both none up (λ i. front (get_or hulls i none) (value i)) n (min (k + a - b) n)) (next_value (step_place up m k))) m a b t old new

module _ {X Y : Type 0} (both : X → X → X) (taking : Y → X → Y) (none : X) (blank : Y) (assoc : (a b c : X) → both (both a b) c ≡ both a (both b c))
    (comm : (a b : X) → both a b ≡ both b a) (idem : (a : X) → both a a ≡ a) (up twin : Bool) (front closing : X → ℤ → X) (hulls : List X)
    (value next_value : ℕ → ℤ) (n m a b : ℕ) where
  pub at_begin : ((w : ℤ) → closing none w ≡ none) → (run : X) (old : List Y) → run ≡ none →
      IsAt both taking none blank up front closing hulls value next_value n m a b 0 run old old
  at_begin closes run old is = record {
    run_is = starts both none up _ n run is;
    column = begins taking none blank up _ m a b old
        (λ k lt before.
        ap (λ x. closing x (next_value (step_place up m k))) (early both none up (λ i. front (get_or hulls i none) (value i)) n k a b before)
        ∙ closes (next_value (step_place up m k)));
  }

  pub at_takes : (t : ℕ) (run : X) (old new : List Y) → IsAt both taking none blank up front closing hulls value next_value n m a b t run old new →
      both run none ≡ run
  at_takes t run old new at =
      subst (λ x. both x none ≡ x) (sym at.run_is)
      (gathered_takes both none assoc comm (λ i. front (get_or hulls i none) (value i)) up n (min t n) (idem none))

  pub at_step : (t : ℕ) (run run' : X) (old next next' : List Y) →
      IsAt both taking none blank up front closing hulls value next_value n m a b t run old next →
      (t < n → run' ≡ both run (front (get_or hulls (step_place up n t) none) (value (step_place up n t)))) → (n ≤ t → run' ≡ run) → length next' ≡ length next →
      ((k : ℕ) → k < m → k + a ≡ t + b →
      get_or next' (step_place up m k) blank ≡ taking (get_or next (step_place up m k) blank) (closing run (next_value (step_place up m k)))) →
      ((k : ℕ) → k < m → k + a ≢ t + b → get_or next' (step_place up m k) blank ≡ get_or next (step_place up m k) blank) →
      IsAt both taking none blank up front closing hulls value next_value n m a b (t + 1) run' old next'
  at_step t run run' old next next' at there beyond len here others = record {
    run_is = takes_more both none assoc comm up (λ i. front (get_or hulls i none) (value i)) n t run run' there beyond at.run_is;
    column = steps taking none blank up _ m a b t old next next' at.column len
        (λ k lt e. here k lt e
        ∙ ap (λ x. taking (get_or next (step_place up m k) blank) (closing x (next_value (step_place up m k))))
        (same_step both none up (λ i. front (get_or hulls i none) (value i)) n k a b t run at.run_is e))
        others;
  }

  pub at_end : (t : ℕ) (run : X) (old new : List Y) → IsAt both taking none blank up front closing hulls value next_value n m a b t run old new →
      m + a ≤ t + b →
      length old ≡ m → length hulls ≡ n → Leads up twin value n next_value m a b →
      IsTakenIn taking none blank (λ j. closing (passed_hull both none up twin front hulls value (next_value j)) (next_value j)) old new
  at_end t run old new at all len same leads =
      ends taking none blank up _ (λ j. closing (passed_hull both none up twin front hulls value (next_value j)) (next_value j)) m a b t old new
      at.column all len
      (λ k lt. ap (λ x. closing x (next_value (step_place up m k)))
      (gathers both none assoc comm up twin front hulls value next_value n m a b k same lt leads))
