-- A sweep that is said in another way.
use Rattle.std.proofs.Common.{◌≡◌, ℕ, zero, suc, ◌<◌, Bool, true, false, cond, ℤ, List, length, get_or, refl, sym, ap, ◌∙◌, arith}
use Rattle.std.specs.Ordering.{int_eq}
use Rattle.ts_base.specs.declared.letter.Letter.{Letter}
use Rattle.ts_base.specs.declared.letter.Letter.TheVariants.{Less, Equal, Greater}
use Rattle.ts_hull.specs.Sweeps.{compares}
use Rattle.ts_hull.proofs.Letters.{equal_is}
use Rattle.ts_sweep.specs.Sweeps.{total, passes, passed_hull, equal_hull, met_hull, IsTakenIn}
use Rattle.ts_sweep.proofs.Entries.{passes_is}

module _ {X : Type 0} (both : X → X → X) (none : X) where
  pub total_as : (test test' : ℕ → Bool) (f f' : ℕ → X) (n : ℕ) → ((i : ℕ) → i < n → test i ≡ test' i) → ((i : ℕ) → i < n → f i ≡ f' i) →
      total both none test f n ≡ total both none test' f' n
  unfolding total
  total_as test test' f f' zero t s = refl
  total_as test test' f f' (suc n) t s =
      ap (λ b. cond b (both (total both none test f n) (f n)) (total both none test f n)) (t n (omega arith))
      ∙ ap (λ x. cond (test' n) (both x (f n)) x) (total_as test test' f f' n (λ i lt. t i (omega (arith, lt))) (λ i lt. s i (omega (arith, lt))))
      ∙ ap (λ y. cond (test' n) (both (total both none test' f' n) y) (total both none test' f' n)) (s n (omega arith))

  module _ {Y : Type 0} (taking : Y → X → Y) (blank : Y) where
    pub taken_as : (h k : ℕ → X) (old new : List Y) → IsTakenIn taking none blank h old new → ((j : ℕ) → j < length old → h j ≡ k j) →
        IsTakenIn taking none blank k old new
    taken_as h k old new is same = record {
      len = is.len;
      each = λ j lt takes. is.each j lt takes ∙ ap (taking (get_or old j blank)) (same j lt);
    }

    -- a sweep over values that are the same takes in the same
    pub runs_as : (up twin : Bool) (front closing : X → ℤ → X) (hulls : List X) (value value' next next' : ℕ → ℤ) (old new : List Y) →
        ((i : ℕ) → i < length hulls → value i ≡ value' i) → ((j : ℕ) → j < length old → next j ≡ next' j) →
        IsTakenIn taking none blank (λ j. closing (passed_hull both none up twin front hulls value (next j)) (next j)) old new →
        IsTakenIn taking none blank (λ j. closing (passed_hull both none up twin front hulls value' (next' j)) (next' j)) old new
    runs_as up twin front closing hulls value value' next next' old new same next_same is =
        taken_as (λ j. closing (passed_hull both none up twin front hulls value (next j)) (next j))
        (λ j. closing (passed_hull both none up twin front hulls value' (next' j)) (next' j)) old new is
        (λ j lt. ap (λ w. closing (passed_hull both none up twin front hulls value w) w) (next_same j lt)
        ∙ ap (λ x. closing x (next' j))
        (total_as (λ i. passes up twin (value i) (next' j)) (λ i. passes up twin (value' i) (next' j)) (λ i. front (get_or hulls i none) (value i))
        (λ i. front (get_or hulls i none) (value' i)) (length hulls) (λ i less. ap (λ v. passes up twin v (next' j)) (same i less))
        (λ i less. ap (front (get_or hulls i none)) (same i less))))

    -- a sweep whose test decides alike takes in the same
    tests_as : (test test' : ℤ → ℤ → Bool) (front closing : X → ℤ → X) (hulls : List X) (value next : ℕ → ℤ) (old new : List Y) →
        ((v w : ℤ) → test v w ≡ test' v w) →
        IsTakenIn taking none blank
        (λ j. closing (total both none (λ i. test (value i) (next j)) (λ i. front (get_or hulls i none) (value i)) (length hulls)) (next j)) old new →
        IsTakenIn taking none blank
        (λ j. closing (total both none (λ i. test' (value i) (next j)) (λ i. front (get_or hulls i none) (value i)) (length hulls)) (next j)) old new
    tests_as test test' front closing hulls value next old new alike is =
        taken_as (λ j. closing (total both none (λ i. test (value i) (next j)) (λ i. front (get_or hulls i none) (value i)) (length hulls)) (next j))
        (λ j. closing (total both none (λ i. test' (value i) (next j)) (λ i. front (get_or hulls i none) (value i)) (length hulls)) (next j)) old new is
        (λ j lt. ap (λ x. closing x (next j))
        (total_as (λ i. test (value i) (next j)) (λ i. test' (value i) (next j)) (λ i. front (get_or hulls i none) (value i))
        (λ i. front (get_or hulls i none) (value i)) (length hulls) (λ i less. alike (value i) (next j)) (λ i less. refl)))

    pub less_met : (l : Letter) (twin : Bool) (front closing : X → ℤ → X) (hulls : List X) (value next : ℕ → ℤ) (old new : List Y) → l ≡ Less →
        IsTakenIn taking none blank (λ j. closing (passed_hull both none true twin front hulls value (next j)) (next j)) old new →
        IsTakenIn taking none blank (λ j. closing (met_hull both none l twin front hulls value (next j)) (next j)) old new
    less_met l twin front closing hulls value next old new e is =
        tests_as (passes true twin) (compares l twin) front closing hulls value next old new
        (λ v w. passes_is true twin v w ∙ ap (λ k. compares k twin v w) (sym e)) is

    pub greater_met : (l : Letter) (twin : Bool) (front closing : X → ℤ → X) (hulls : List X) (value next : ℕ → ℤ) (old new : List Y) → l ≡ Greater →
        IsTakenIn taking none blank (λ j. closing (passed_hull both none false twin front hulls value (next j)) (next j)) old new →
        IsTakenIn taking none blank (λ j. closing (met_hull both none l twin front hulls value (next j)) (next j)) old new
    greater_met l twin front closing hulls value next old new e is =
        tests_as (passes false twin) (compares l twin) front closing hulls value next old new
        (λ v w. passes_is false twin v w ∙ ap (λ k. compares k twin v w) (sym e)) is

    pub equal_met : (l : Letter) (twin : Bool) (front closing : X → ℤ → X) (hulls : List X) (value next : ℕ → ℤ) (old new : List Y) → l ≡ Equal →
        twin ≡ false → IsTakenIn taking none blank (λ j. closing (equal_hull both none front hulls value (next j)) (next j)) old new →
        IsTakenIn taking none blank (λ j. closing (met_hull both none l twin front hulls value (next j)) (next j)) old new
    equal_met l twin front closing hulls value next old new e alone is =
        tests_as int_eq (compares l twin) front closing hulls value next old new
        (λ v w. sym (equal_is v w) ∙ sym (ap (λ k. compares k twin v w) e ∙ ap (λ b. compares Equal b v w) alone)) is
