-- The features of cells are what their rows make of them.
use Rattle.std.specs.Prelude.{◌≡◌, ℕ, suc, ◌+◌, ℤ, pos, ◌+ℤ◌, ◌-ℤ◌, List, [], ◌∷◌, length, map, fold, Option, Some, option_map, refl}
use Rattle.std.specs.Int.{int_max, int_min}
use Rattle.std.proofs.Common.{◌∙◌, ap, arith}
use Rattle.std.proofs.lemmas.Int.{ints}
use Rattle.ts_pattern.specs.declared.arithmetic.Worth.TheVariants.{Unit as UnitWorth, Cell}
use Rattle.ts_pattern.specs.declared.name.Feature.{Feature}
use Rattle.ts_pattern.specs.declared.name.Feature.TheVariants.{One, Width, Surf, Max, Min, Range}
use Rattle.ts_pattern.specs.Arithmetic.{worth_of}
use Rattle.ts_pattern.specs.FeatureValue.{feature_of_cells}
use Rattle.ts_pattern.specs.Folded.{folded_by}

cells_same : (xs : List ℤ) → map (worth_of Cell) xs ≡ xs
cells_same [] = refl
cells_same (x ∷ xs) = ap (λ ys. x ∷ ys) (cells_same xs)

ones : (xs : List ℤ) → fold int_max (pos 1) (map (worth_of UnitWorth) xs) ≡ pos 1
ones [] = refl
ones (x ∷ xs) = ones xs

counts : (xs : List ℤ) (n : ℕ) → fold ◌+ℤ◌ (pos n) (map (worth_of UnitWorth) xs) ≡ pos (n + length xs)
counts [] n = ap pos (let e : n ≡ n + 0 = omega arith in e)
counts (x ∷ xs) n = counts xs (n + 1) ∙ ap pos (let e : n + 1 + length xs ≡ n + suc (length xs) = omega arith in e)

less_nothing : (x : ℤ) → x -ℤ pos 0 ≡ x
less_nothing x = omega (arith, ints)

-- where nothing is taken away
alone : (o : Option ℤ) (x : ℤ) → o ≡ Some x → option_map (λ y. y -ℤ pos 0) o ≡ Some x
alone o x h = ap (λ (v : Option ℤ). option_map (λ y. y -ℤ pos 0) v) h ∙ ap Some (less_nothing x)

pub features_are_folds : (f : Feature) (x : ℤ) (xs : List ℤ) → folded_by f (x ∷ xs) ≡ Some (feature_of_cells f (x ∷ xs))
features_are_folds One x xs = alone _ (pos 1) (ap Some (ones xs))
features_are_folds Width x xs =
    alone _ (pos (suc (length xs))) (ap Some (counts xs 1 ∙ ap pos (let e : 1 + length xs ≡ suc (length xs) = omega arith in e)))
features_are_folds Surf x xs =
    alone _ (fold ◌+ℤ◌ (pos 0) (x ∷ xs))
    (ap (λ ys. Some (fold ◌+ℤ◌ x ys)) (cells_same xs) ∙ ap (λ u. Some (fold ◌+ℤ◌ u xs)) (let e : x ≡ pos 0 +ℤ x = omega (arith, ints) in e))
features_are_folds Max x xs = alone _ (fold int_max x xs) (ap (λ ys. Some (fold int_max x ys)) (cells_same xs))
features_are_folds Min x xs = alone _ (fold int_min x xs) (ap (λ ys. Some (fold int_min x ys)) (cells_same xs))
features_are_folds Range x xs =
    ap (λ ys. Some (fold int_max x ys -ℤ fold int_min x (map (worth_of Cell) xs))) (cells_same xs)
    ∙ ap (λ ys. Some (fold int_max x xs -ℤ fold int_min x ys)) (cells_same xs)
