-- How the trail keeps the earlier boxes: each step has the place of the cell that was changed, and its set before or
-- the number that it lost.
use Rattle.std.specs.Prelude.{◌<◌, ℤ, List, [], ◌∷◌, length, get_or, set, Contains}
use Rattle.ts_base.specs.Limits.{too_many}
use Rattle.ts_domain.specs.declared.boxed.Step.{Step}
use Rattle.ts_domain.specs.declared.boxed.Back.{Back}
use Rattle.ts_domain.specs.declared.boxed.Back.TheVariants.{Whole, One}
use Rattle.ts_domain.specs.BoxSeries.{IsBox}
use Rattle.ts_domain.specs.Marks.{put_back}
use Rattle.ts_domain.specs.Values.{IsDomain, WithinLimits}

-- the set before a change that left these values
abbrev pub before : Back → List ℤ → List ℤ
before (Whole old) values = old
before (One v node) values = put_back v values

-- a domain stood before, or a number is put back that isn't there
abbrev pub BackFits : Back → List ℤ → Type 0
BackFits (Whole old) values = IsDomain old
BackFits (One v node) values = WithinLimits v × (Contains values v → ⊥)

-- the box before a step, by the box after it
abbrev pub box_before : Step → List (List ℤ) → List (List ℤ)
box_before s cells = set cells s.cell (before s.back (get_or cells s.cell []))

-- the first of the boxes that the steps lead back to, the oldest step first
unfoldable pub first_box : List Step → List (List ℤ) → List (List ℤ)
first_box [] cells = cells
first_box (s ∷ later) cells = box_before s (first_box later cells)

-- the boxes before the present one, the oldest first
unfoldable pub earlier_boxes : List Step → List (List ℤ) → List (List (List ℤ))
earlier_boxes [] cells = []
earlier_boxes (s ∷ later) cells = first_box (s ∷ later) cells ∷ earlier_boxes later cells

-- each step is at a cell and leads back to a domain, and the cells have domains
unfoldable pub StepsFit : List Step → List (List ℤ) → Type 0
StepsFit [] cells = (length cells < too_many) × IsBox cells
StepsFit (s ∷ later) cells =
    (s.cell < length cells) × BackFits s.back (get_or (first_box later cells) s.cell []) × StepsFit later cells
