-- Trees: a split with a tree for each side, a drop with a tree for what is left, or a line that ends.
use Rattle.std.specs.Prelude.{◌≢◌, ℕ, ◌+◌, ℤ, List, [], ◌∷◌, ◌++◌, Contains}
use Rattle.ts_certificate.specs.declared.certificate.TreeLine.{TreeLine}
use Rattle.ts_certificate.specs.declared.certificate.TreeLine.TheVariants.{Split, Remove, No, Worse, Yes, Unsearched}
use Rattle.ts_domain.specs.Kept.{values_without}
use Rattle.ts_model.specs.ModelParts.{ModelParts}
use Rattle.ts_filter.specs.Boxes.{Box, HasCell, values_at, low_side, high_side, without}
use Rattle.ts_filter.specs.RefutedWorseDrop.{Spans, IsDrop}
use Rattle.ts_filter.specs.Rules.{Head, IsSplit, KeepsRule}

pub data Tree : Type 0 where
  Leaf : TreeLine → Tree
  Drop : ℕ → ℤ → ℕ → Tree → Tree
  Fork : ℕ → ℤ → Tree → Tree → Tree

-- the lines of a tree, those of the lower side first
abbrev pub tree_lines : Tree → List TreeLine
tree_lines (Leaf l) = l ∷ []
tree_lines (Drop k v j t) = Remove k v j ∷ tree_lines t
tree_lines (Fork k t lower upper) = Split k t ∷ (tree_lines lower ++ tree_lines upper)

-- the number of `yes` lines after this one
abbrev pub reported_by : TreeLine → ℕ → ℕ
reported_by (Split k t) reported = reported
reported_by (Remove k v j) reported = reported
reported_by (No j p) reported = reported
reported_by (Worse p) reported = reported
reported_by Yes reported = reported + 1
reported_by Unsearched reported = reported

-- the number of `yes` lines after the tree
abbrev pub reported_after : Tree → ℕ → ℕ
reported_after (Leaf l) reported = reported_by l reported
reported_after (Drop k v j t) reported = reported_after t reported
reported_after (Fork k t lower upper) reported = reported_after upper (reported_after lower reported)

-- the line ends its box
abbrev pub IsLeafLine : TreeLine → Type 0
IsLeafLine (Split k t) = ⊥
IsLeafLine (Remove k v j) = ⊥
IsLeafLine (No j p) = Unit {0}
IsLeafLine (Worse p) = Unit {0}
IsLeafLine Yes = Unit {0}
IsLeafLine Unsearched = Unit {0}

-- a tree for the box, each of whose lines keeps its rule
abbrev pub Fits : ModelParts → Spans → Head → ℕ → Box → Tree → Type 0
Fits m s h reported b (Leaf l) = IsLeafLine l × KeepsRule m s h reported b l
Fits m s h reported b (Drop k v j t) = IsDrop m.requirements s k v j b × Fits m s h reported (without k v b) t
Fits m s h reported b (Fork k t lower upper) =
    IsSplit k t b × Fits m s h reported (low_side k t b) lower
    × Fits m s h (reported_after lower reported) (high_side k t b) upper

-- v is a value of cell k, and not its only one
pub record Removes (k : ℕ) (v : ℤ) (b : Box) : Type 0 where
  pub cell : HasCell k b
  pub there : Contains (values_at k b) v
  pub leaves : values_without v (values_at k b) ≢ []

-- each split of a tree has two sides with values, and each drop removes a value of its cell and leaves one
abbrev pub IsFormed : Box → Tree → Type 0
IsFormed b (Leaf l) = IsLeafLine l
IsFormed b (Drop k v j t) = Removes k v b × IsFormed (without k v b) t
IsFormed b (Fork k t lower upper) =
    IsSplit k t b × IsFormed (low_side k t b) lower × IsFormed (high_side k t b) upper
