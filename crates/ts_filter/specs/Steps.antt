-- The lines of a tree one after another, on the boxes that wait.
use Rattle.std.specs.Prelude.{◌≡◌, ℕ, List, [], ◌∷◌, ◌++◌}
use Rattle.ts_certificate.specs.declared.certificate.TreeLine.{TreeLine}
use Rattle.ts_certificate.specs.declared.certificate.TreeLine.TheVariants.{Split, Remove, No, Worse, Yes, Unsearched}
use Rattle.ts_model.specs.ModelParts.{ModelParts}
use Rattle.ts_filter.specs.Boxes.{Box, low_side, high_side, without}
use Rattle.ts_filter.specs.RefutedWorseDrop.{Spans}
use Rattle.ts_filter.specs.Rules.{Head, KeepsRule}
use Rattle.ts_filter.specs.Tree.{reported_by}

-- the boxes that wait in place of the line's box, the one to be treated next first
abbrev pub made_by : TreeLine → Box → List Box
made_by (Split k t) b = low_side k t b ∷ high_side k t b ∷ []
made_by (Remove k v j) b = without k v b ∷ []
made_by (No j p) b = []
made_by (Worse p) b = []
made_by Yes b = []
made_by Unsearched b = []

-- from the boxes that wait and the `yes` lines so far, lines that keep their rules lead to those boxes and that number
abbrev pub Steps : ModelParts → Spans → Head → List Box → ℕ → List TreeLine → List Box → ℕ → Type 0
Steps m s h waiting reported [] left after = (waiting ≡ left) × (reported ≡ after)
Steps m s h [] reported (l ∷ ls) left after = ⊥
Steps m s h (b ∷ waiting) reported (l ∷ ls) left after =
    KeepsRule m s h reported b l × Steps m s h (made_by l b ++ waiting) (reported_by l reported) ls left after

abbrev pub opened_by : TreeLine → Box → List Box → List Box
opened_by (Split k t) b opens = opens
opened_by (Remove k v j) b opens = opens
opened_by (No j p) b opens = opens
opened_by (Worse p) b opens = opens
opened_by Yes b opens = opens
opened_by Unsearched b opens = b ∷ opens

-- the boxes of the `open` lines
abbrev pub open_boxes : List Box → List TreeLine → List Box
open_boxes waiting [] = []
open_boxes [] (l ∷ ls) = []
open_boxes (b ∷ waiting) (l ∷ ls) = opened_by l b (open_boxes (made_by l b ++ waiting) ls)
