-- Folds with the exact operators of a term are features of ranges and their aggregate.
use Rattle.std.specs.Prelude.{◌≡◌, ℕ, ◌-◌, ◌≤◌, ℤ, pos, ◌+ℤ◌, ◌-ℤ◌, List, [], ◌∷◌, length, take, drop, map, fold, Option, None, Some, refl}
use Rattle.std.specs.List.{AllByRecursion}
use Rattle.std.specs.Int.{int_max, int_min}
use Rattle.std.proofs.Common.{sym, ◌∙◌, ap, arith, length-drop}
use Rattle.std.proofs.lemmas.Int.{ints}
use Rattle.std.proofs.lemmas.List.{take-map, drop-map, length-take-le}
use Rattle.ts_base.specs.declared.ext.Ext.{Ext}
use Rattle.ts_base.specs.declared.ext.Ext.TheVariants.{Int}
use Rattle.ts_base.specs.declared.op.Op.{Op}
use Rattle.ts_base.specs.declared.op.Op.TheVariants.{Add, Max, Min}
use Rattle.ts_base.specs.declared.range.Range.{Range}
use Rattle.ts_base.specs.Numbers.{ext_max, ext_min}
use Rattle.ts_base.specs.Operators.{constant_value, int_op}
use Rattle.ts_pattern.specs.declared.name.Aggregator.{Aggregator}
use Rattle.ts_pattern.specs.declared.name.Aggregator.TheVariants.{Sum, Max as MaxOf, Min as MinOf}
use Rattle.ts_pattern.specs.declared.name.Feature.{Feature}
use Rattle.ts_pattern.specs.declared.name.Feature.TheVariants.{One, Width, Surf, Max as MaxFeature, Min as MinFeature, Range as RangeFeature}
use Rattle.ts_pattern.specs.Arithmetic.{cell_fold, less_fold, cell_op, cell_value, neutral_value, range_op, default_value, worth_of}
use Rattle.ts_pattern.specs.FeatureValue.{cells_of, over, feature_of_cells, feature_value}
use Rattle.ts_pattern.specs.Folded.{taken_away}
use Rattle.ts_pattern.specs.TermValue.{combine, or_none, aggregate, value_of_none, aggregate_of_ranges}
use Rattle.ts_pattern.proofs.CallerLemmas.{features_are_folds}
use Rattle.ts_transducer.specs.Inside.{IsInside}
use Rattle.ts_automaton.specs.AutomatonRun.{under_mark}
use Rattle.ts_decorate.specs.Decoration.{mark_of}
use Rattle.ts_decorate.specs.Rows.{phi_by, neutral_by, read_by}
use Rattle.ts_decorate.proofs.Folds.{items_of}
use Rattle.ts_decorate.proofs.Exact.{exact_op, exact_difference, exact_operator, exact}
use Rattle.ts_decorate.proofs.Registers.{value_read, ranges_value}

max_is : (x y : ℤ) → ext_max (Int x) (Int y) ≡ Int (int_max x y)
max_is x y = grind (arith, ints)

min_is : (x y : ℤ) → ext_min (Int x) (Int y) ≡ Int (int_min x y)
min_is x y = grind (arith, ints)

-- numbers joined by an exact operator
int_is : (o : Op) (x y : ℤ) → exact_op o (Int x) (Int y) ≡ Int (int_op o x y)
int_is Add x y = refl
int_is Max x y = max_is x y
int_is Min x y = min_is x y

ints_are : (o : Op) (xs : List ℤ) (x : ℤ) → fold (exact_op o) (Int x) (map Int xs) ≡ Int (fold (int_op o) x xs)
ints_are o [] x = refl
ints_are o (y ∷ ys) x = ap (λ u. fold (exact_op o) u (map Int ys)) (int_is o x y) ∙ ints_are o ys (int_op o x y)

cells_are : (f : Feature) (xs : List ℤ) → map (cell_value f) xs ≡ map Int (map (worth_of (cell_fold f).worth) xs)
cells_are f [] = refl
cells_are f (x ∷ xs) = ap (λ es. cell_value f x ∷ es) (cells_are f xs)

zero_left : (x : ℤ) → pos 0 +ℤ x ≡ x
zero_left x = omega (arith, ints)

-- beside what a cell is worth the neutral constant changes nothing, beside a feature the default doesn't
neutral_left : (f : Feature) (x : ℤ) → exact_op (cell_op f) (neutral_value f) (cell_value f x) ≡ cell_value f x
neutral_left One x = refl
neutral_left Width x = refl
neutral_left Surf x = ap Int (zero_left x)
neutral_left MaxFeature x = refl
neutral_left MinFeature x = refl
neutral_left RangeFeature x = refl

default_left : (g : Aggregator) (x : ℤ) → exact_op (range_op g) (default_value g) (Int x) ≡ Int x
default_left Sum x = ap Int (zero_left x)
default_left MaxOf x = refl
default_left MinOf x = refl

some_same : (x y : ℤ) → ◌≡◌ {A = Option ℤ} (Some x) (Some y) → x ≡ y
some_same x y e = cc

-- the greatest, the least or whatever else joins the cells of a range with a cell, as its row says
whole_is : (f : Feature) (x : ℤ) (xs : List ℤ) →
    fold (exact_op (cell_op f)) (neutral_value f) (map (cell_value f) (x ∷ xs))
    ≡ Int (fold (int_op (cell_op f)) (worth_of (cell_fold f).worth x) (map (worth_of (cell_fold f).worth) xs))
whole_is f x xs =
    let w = (cell_fold f).worth in
    ap (λ u. fold (exact_op (cell_op f)) u (map (cell_value f) xs)) (neutral_left f x)
    ∙ ap (λ es. fold (exact_op (cell_op f)) (cell_value f x) es) (cells_are f xs)
    ∙ ints_are (cell_op f) (map (worth_of w) xs) (worth_of w x)

less_nothing : (x : ℤ) → x -ℤ pos 0 ≡ x
less_nothing x = omega (arith, ints)

-- what is read of a number and of the half that is taken away
abbrev IsLess : Feature → Type 0
IsLess f = (w x : ℤ) (xs : List ℤ) →
    read_by exact_operator (less_fold f) (Int w)
    (fold (λ u v. phi_by exact_operator (less_fold f) u v) (constant_value (neutral_by (less_fold f))) (map (cell_value f) (x ∷ xs)))
    ≡ Int (w -ℤ taken_away (less_fold f) (x ∷ xs))

less_is : (f : Feature) → IsLess f
less_is One w x xs = ap Int (sym (less_nothing w))
less_is Width w x xs = ap Int (sym (less_nothing w))
less_is Surf w x xs = ap Int (sym (less_nothing w))
less_is MaxFeature w x xs = ap Int (sym (less_nothing w))
less_is MinFeature w x xs = ap Int (sym (less_nothing w))
less_is RangeFeature w x xs = ap (exact_difference (Int w)) (whole_is MinFeature x xs)

-- of a range with a cell
abbrev halves_read : Feature → List ℤ → Ext
halves_read f cells =
    read_by exact_operator (less_fold f) (fold (exact_op (cell_op f)) (neutral_value f) (map (cell_value f) cells))
    (fold (λ u v. phi_by exact_operator (less_fold f) u v) (constant_value (neutral_by (less_fold f))) (map (cell_value f) cells))

pub feature_is : (f : Feature) (x : ℤ) (xs : List ℤ) → halves_read f (x ∷ xs) ≡ Int (feature_of_cells f (x ∷ xs))
feature_is f x xs =
    let w = (cell_fold f).worth in
    let joined = fold (int_op (cell_op f)) (worth_of w x) (map (worth_of w) xs) in
    let less = fold (λ u v. phi_by exact_operator (less_fold f) u v) (constant_value (neutral_by (less_fold f))) (map (cell_value f) (x ∷ xs)) in
    ap (λ u. read_by exact_operator (less_fold f) u less) (whole_is f x xs)
    ∙ less_is f joined x xs
    ∙ ap Int (some_same (joined -ℤ taken_away (less_fold f) (x ∷ xs)) (feature_of_cells f (x ∷ xs)) (features_are_folds f x xs))

some_cells : (f : Feature) (cells : List ℤ) → 1 ≤ length cells → halves_read f cells ≡ Int (feature_of_cells f cells)
some_cells f [] h = absurd (omega (arith, h))
some_cells f (x ∷ xs) h = feature_is f x xs

-- the cells of a range inside the series
pub cells_count : (r : Range) (xs : List ℤ) → IsInside (length xs) r → length (cells_of r xs) ≡ r.last - (r.first - 1)
cells_count r xs h =
    let first = h.0 in
    let last = h.2 in
    let d = length-drop (r.first - 1) xs in
    length-take-le (r.last - (r.first - 1)) (drop (r.first - 1) xs) (omega arith)

-- the items of a range are the worth of its cells
items_are : (f : Feature) (r : Range) (xs : List ℤ) → items_of (map (cell_value f) xs) r.first r.last ≡ map (cell_value f) (cells_of r xs)
items_are f r xs =
    let n = r.last - (r.first - 1) in
    ap (take n) (drop-map (cell_value f) (r.first - 1) xs) ∙ take-map (cell_value f) n (drop (r.first - 1) xs)

pub range_is : (g : Aggregator) (f : Feature) (r : Range) (xs : List ℤ) → IsInside (length xs) r →
    value_read (exact g f) (map (cell_value f) xs) r ≡ Int (feature_value f r xs)
range_is g f r xs h =
    let first = h.0 in
    let some = h.1 in
    let count = cells_count r xs h in
    let low = constant_value (neutral_by (less_fold f)) in
    ap (λ ys. read_by exact_operator (less_fold f) (fold (exact_op (cell_op f)) (neutral_value f) ys)
    (fold (λ u v. phi_by exact_operator (less_fold f) u v) low ys)) (items_are f r xs)
    ∙ some_cells f (cells_of r xs) (omega arith)

features_are : (g : Aggregator) (f : Feature) (rs : List Range) (xs : List ℤ) → AllByRecursion (IsInside (length xs)) rs →
    map (value_read (exact g f) (map (cell_value f) xs)) rs ≡ map Int (map (λ r. feature_value f r xs) rs)
features_are g f [] xs h = refl
features_are g f (r ∷ rs) xs h =
    ap (λ e. e ∷ map (value_read (exact g f) (map (cell_value f) xs)) rs) (range_is g f r xs h.0)
    ∙ ap (λ es. Int (feature_value f r xs) ∷ es) (features_are g f rs xs h.1)

-- numbers joined from the default on
joined : (g : Aggregator) (zs : List ℤ) → fold (exact_op (range_op g)) (default_value g) (map Int zs) ≡ aggregate g (default_value g) zs
joined g [] = refl
joined g (z ∷ zs) = ap (λ u. fold (exact_op (range_op g)) u (map Int zs)) (default_left g z) ∙ ints_are (range_op g) zs z

-- the default is turned into the value for none by the mark
mark_is : (g : Aggregator) (f : Feature) (n : ℕ) (o : Option ℤ) → under_mark (mark_of g f) n (or_none (default_value g) o) ≡ or_none (value_of_none g f n) o
mark_is Sum One n o = refl
mark_is Sum Width n o = refl
mark_is Sum Surf n o = refl
mark_is Sum MaxFeature n o = refl
mark_is Sum MinFeature n o = refl
mark_is Sum RangeFeature n o = refl
mark_is MaxOf One n o = refl
mark_is MaxOf Width n None = refl
mark_is MaxOf Width n (Some z) = refl
mark_is MaxOf Surf n o = refl
mark_is MaxOf MaxFeature n o = refl
mark_is MaxOf MinFeature n o = refl
mark_is MaxOf RangeFeature n o = refl
mark_is MinOf One n o = refl
mark_is MinOf Width n None = refl
mark_is MinOf Width n (Some z) = refl
mark_is MinOf Surf n o = refl
mark_is MinOf MaxFeature n o = refl
mark_is MinOf MinFeature n o = refl
mark_is MinOf RangeFeature n o = refl

-- under the mark the fold over the ranges is their aggregate
pub aggregate_is : (g : Aggregator) (f : Feature) (rs : List Range) (xs : List ℤ) → AllByRecursion (IsInside (length xs)) rs →
    under_mark (mark_of g f) (length xs) (ranges_value (exact g f) (map (cell_value f) xs) rs) ≡ aggregate_of_ranges g f rs xs
aggregate_is g f rs xs h =
    let zs = map (λ r. feature_value f r xs) rs in
    ap (λ es. under_mark (mark_of g f) (length xs) (fold (exact_op (range_op g)) (default_value g) es)) (features_are g f rs xs h)
    ∙ ap (λ e. under_mark (mark_of g f) (length xs) e) (joined g zs)
    ∙ mark_is g f (length xs) (over (combine g) zs)
