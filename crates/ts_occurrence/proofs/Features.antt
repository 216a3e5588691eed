-- The feature of an e-range is what its rows make of its cells.
use Rattle.std.specs.Prelude.{◌≡◌, ◌≤◌, ℤ, ◌-ℤ◌, List, [], ◌∷◌, length, Option, None, Some, option_map}
use Rattle.std.proofs.Common.{◌∙◌, ap, arith}
use Rattle.ts_pattern.specs.declared.arithmetic.CellFold.{CellFold}
use Rattle.ts_pattern.specs.declared.name.Feature.{Feature}
use Rattle.ts_pattern.specs.Arithmetic.{cell_fold, less_fold}
use Rattle.ts_pattern.specs.FeatureValue.{or_zero, feature_of_cells}
use Rattle.ts_pattern.specs.Folded.{joined_by, taken_away}
use Rattle.ts_pattern.proofs.FeatureFolds.{features_are_folds}

less_some : (o : Option ℤ) (less x : ℤ) → option_map (λ y. y -ℤ less) o ≡ Some x → or_zero o -ℤ less ≡ x
less_some None less x h = cc
less_some (Some y) less x h = cc

pub feature_is : (f : Feature) (row : CellFold) (second : Option CellFold) (cells : List ℤ) (whole less : ℤ) → row ≡ cell_fold f → second ≡ less_fold f →
    1 ≤ length cells → whole ≡ or_zero (joined_by row cells) → less ≡ taken_away second cells → whole -ℤ less ≡ feature_of_cells f cells
feature_is f row second [] whole less e i some h k = absurd (omega arith)
feature_is f row second (x ∷ xs) whole less e i some h k =
    ap (λ z. z -ℤ less) (h ∙ ap (λ (r : CellFold). or_zero (joined_by r (x ∷ xs))) e)
    ∙ ap (λ z. or_zero (joined_by (cell_fold f) (x ∷ xs)) -ℤ z) (k ∙ ap (λ (r : Option CellFold). taken_away r (x ∷ xs)) i)
    ∙ less_some (joined_by (cell_fold f) (x ∷ xs)) (taken_away (less_fold f) (x ∷ xs)) (feature_of_cells f (x ∷ xs)) (features_are_folds f x xs)
