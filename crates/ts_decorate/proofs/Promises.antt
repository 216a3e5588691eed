-- The promise of a mark holds of the aggregate of ranges: a greatest width is at least 0, a least one at most the series.
use Rattle.std.specs.Prelude.{◌≡◌, ℕ, ◌≤◌, true, ℤ, pos, int_le, List, [], ◌∷◌, length, map, refl}
use Rattle.std.specs.List.{AllByRecursion, fold}
use Rattle.std.proofs.Common.{arith}
use Rattle.std.proofs.lemmas.Int.{ints}
use Rattle.ts_base.specs.declared.range.Range.{Range}
use Rattle.ts_pattern.specs.declared.name.Aggregator.{Aggregator}
use Rattle.ts_pattern.specs.declared.name.Aggregator.TheVariants.{Sum, Max as MaxOf, Min as MinOf}
use Rattle.ts_pattern.specs.declared.name.Feature.{Feature}
use Rattle.ts_pattern.specs.declared.name.Feature.TheVariants.{One, Width, Surf, Max as MaxFeature, Min as MinFeature, Range as RangeFeature}
use Rattle.ts_pattern.specs.FeatureValue.{cells_of, feature_value}
use Rattle.ts_pattern.specs.TermValue.{combine, aggregate_of_ranges}
use Rattle.ts_transducer.specs.Inside.{IsInside}
use Rattle.ts_automaton.specs.AutomatonRun.{IsInMark}
use Rattle.ts_decorate.specs.Decoration.{mark_of}
use Rattle.ts_decorate.proofs.Features.{cells_count}

max_least : (x y : ℤ) → int_le (pos 0) x ≡ true → int_le (pos 0) (combine MaxOf x y) ≡ true
max_least x y h = grind (arith, ints)

min_most : (m x y : ℤ) → int_le x m ≡ true → int_le (combine MinOf x y) m ≡ true
min_most m x y h = grind (arith, ints)

maxes_least : (ys : List ℤ) (x : ℤ) → int_le (pos 0) x ≡ true → int_le (pos 0) (fold (combine MaxOf) x ys) ≡ true
maxes_least [] x h = h
maxes_least (y ∷ ys) x h = maxes_least ys (combine MaxOf x y) (max_least x y h)

mins_most : (m : ℤ) (ys : List ℤ) (x : ℤ) → int_le x m ≡ true → int_le (fold (combine MinOf) x ys) m ≡ true
mins_most m [] x h = h
mins_most m (y ∷ ys) x h = mins_most m ys (combine MinOf x y) (min_most m x y h)

count_least : (n : ℕ) → int_le (pos 0) (pos n) ≡ true
count_least n = grind (arith, ints)

count_most : (m n : ℕ) → m ≤ n → int_le (pos m) (pos n) ≡ true
count_most m n h = grind (arith, ints)

greatest_width : (rs : List Range) (xs : List ℤ) → IsInMark (mark_of MaxOf Width) (length xs) (aggregate_of_ranges MaxOf Width rs xs)
greatest_width [] xs = refl
greatest_width (r ∷ rs) xs =
    maxes_least (map (λ r. feature_value Width r xs) rs) (feature_value Width r xs) (count_least (length (cells_of r xs)))

least_width : (rs : List Range) (xs : List ℤ) → AllByRecursion (IsInside (length xs)) rs →
    IsInMark (mark_of MinOf Width) (length xs) (aggregate_of_ranges MinOf Width rs xs)
least_width [] xs h = count_most (length xs) (length xs) (omega arith)
least_width (r ∷ rs) xs h =
    let n = cells_count r xs h.0 in
    let first = h.0.0 in
    let last = h.0.2 in
    mins_most (pos (length xs)) (map (λ r. feature_value Width r xs) rs) (feature_value Width r xs)
    (count_most (length (cells_of r xs)) (length xs) (omega (arith, n, first, last)))

pub aggregate_in_mark : (g : Aggregator) (f : Feature) (rs : List Range) (xs : List ℤ) → AllByRecursion (IsInside (length xs)) rs →
    IsInMark (mark_of g f) (length xs) (aggregate_of_ranges g f rs xs)
aggregate_in_mark Sum One rs xs h = tt
aggregate_in_mark Sum Width rs xs h = tt
aggregate_in_mark Sum Surf rs xs h = tt
aggregate_in_mark Sum MaxFeature rs xs h = tt
aggregate_in_mark Sum MinFeature rs xs h = tt
aggregate_in_mark Sum RangeFeature rs xs h = tt
aggregate_in_mark MaxOf One rs xs h = tt
aggregate_in_mark MaxOf Width rs xs h = greatest_width rs xs
aggregate_in_mark MaxOf Surf rs xs h = tt
aggregate_in_mark MaxOf MaxFeature rs xs h = tt
aggregate_in_mark MaxOf MinFeature rs xs h = tt
aggregate_in_mark MaxOf RangeFeature rs xs h = tt
aggregate_in_mark MinOf One rs xs h = tt
aggregate_in_mark MinOf Width rs xs h = least_width rs xs h
aggregate_in_mark MinOf Surf rs xs h = tt
aggregate_in_mark MinOf MaxFeature rs xs h = tt
aggregate_in_mark MinOf MinFeature rs xs h = tt
aggregate_in_mark MinOf RangeFeature rs xs h = tt
