-- What a sweep makes of a column of hulls.
use Rattle.std.specs.Ordering.{int_eq}
use Rattle.std.specs.Prelude.{◌≡◌, ℕ, zero, suc, ◌+◌, ◌-◌, ◌<◌, ◌≤◌, Bool, true, false, cond, ℤ, pos, ◌+ℤ◌, ◌-ℤ◌, int_lt, int_le, nat_lt, List, length, get_or}
use Rattle.ts_base.specs.declared.letter.Letter.{Letter}
use Rattle.ts_hull.specs.Sweeps.{compares}

-- what the f i join to, of those i below n that pass a test
unfoldable pub total : {X : Type 0} → (X → X → X) → X → (ℕ → Bool) → (ℕ → X) → ℕ → X
total both none test f zero = none
total both none test f (suc n) = cond (test n) (both (total both none test f n) (f n)) (total both none test f n)

-- a value is passed at a next value by a sweep up, on `<`, or else down, on `>`: an equal one too with a twin
abbrev pub passes : Bool → Bool → ℤ → ℤ → Bool
passes true false v w = int_lt v w
passes true true v w = int_le v w
passes false false v w = int_lt w v
passes false true v w = int_le w v

-- the bound of what is passed at w: that value too with a twin
abbrev pub bound_of : Bool → Bool → ℤ → ℤ
bound_of true true w = w +ℤ pos 1
bound_of true false w = w
bound_of false true w = w -ℤ pos 1
bound_of false false w = w

-- the hull of the fronts of the values that are passed at a next value w
abbrev pub passed_hull : {X : Type 0} → (X → X → X) → X → Bool → Bool → (X → ℤ → X) → List X → (ℕ → ℤ) → ℤ → X
passed_hull both none up twin front hulls value w =
    total both none (λ i. passes up twin (value i) w) (λ i. front (get_or hulls i none) (value i)) (length hulls)

-- the front of the value that is equal to a next value w
abbrev pub equal_hull : {X : Type 0} → (X → X → X) → X → (X → ℤ → X) → List X → (ℕ → ℤ) → ℤ → X
equal_hull both none front hulls value w =
    total both none (λ i. int_eq (value i) w) (λ i. front (get_or hulls i none) (value i)) (length hulls)

-- the hull of the fronts of the values that compare with a next value w as a letter says, or are equal to it where
-- there is a twin
abbrev pub met_hull : {X : Type 0} → (X → X → X) → X → Letter → Bool → (X → ℤ → X) → List X → (ℕ → ℤ) → ℤ → X
met_hull both none l twin front hulls value w =
    total both none (λ i. compares l twin (value i) w) (λ i. front (get_or hulls i none) (value i)) (length hulls)

-- each item of a column has taken in what there is for its place (an item that stays as it is with nothing, as all do)
pub record IsTakenIn {X Y : Type 0} (taking : Y → X → Y) (none : X) (blank : Y) (h : ℕ → X)
    (old new : List Y) : Type 0 where
  pub len : length new ≡ length old
  pub each : (j : ℕ) → j < length old → taking (get_or old j blank) none ≡ get_or old j blank →
      get_or new j blank ≡ taking (get_or old j blank) (h j)

-- the place that comes at step k of n: from the first, or else from the last
abbrev pub step_place : Bool → ℕ → ℕ → ℕ
step_place true n k = k
step_place false n k = n - suc k

-- what the first k steps of a sweep over n values join to
unfoldable pub gathered : {X : Type 0} → (X → X → X) → X → Bool → (ℕ → X) → ℕ → ℕ → X
gathered both none up f n zero = none
gathered both none up f n (suc k) = both (gathered both none up f n k) (f (step_place up n k))

-- at step k of the next values, those of the values are passed whose step is below k + ahead - behind
abbrev pub Leads : Bool → Bool → (ℕ → ℤ) → ℕ → (ℕ → ℤ) → ℕ → ℕ → ℕ → Type 0
Leads up twin value n next_value m ahead behind =
    (i k : ℕ) → i < n → k < m → passes up twin (value (step_place up n i)) (next_value (step_place up m k))
    ≡ nat_lt (i + behind) (k + ahead)

-- of the m items, those whose step comes before step t have taken in what there is for their step
pub record IsSteppedTo {X Y : Type 0} (taking : Y → X → Y) (none : X) (blank : Y) (up : Bool) (h : ℕ → X)
    (m ahead behind t : ℕ) (old new : List Y) : Type 0 where
  pub len : length new ≡ length old
  pub done : (k : ℕ) → k < m → k + ahead < t + behind → taking (get_or old (step_place up m k) blank) none
      ≡ get_or old (step_place up m k) blank →
      get_or new (step_place up m k) blank ≡ taking (get_or old (step_place up m k) blank) (h k)
  pub rest : (k : ℕ) → k < m → t + behind ≤ k + ahead → get_or new (step_place up m k) blank
      ≡ get_or old (step_place up m k) blank
