-- The model of `sample N`: N cells of six values each; peaks no wider than 3 are to be as few as possible.
use Rattle.std.specs.Prelude.{ℕ, zero, suc, ◌+◌, ◌*◌, ◌%◌, ℤ, pos, List, [], ◌∷◌, codes, Option, None, Some}
use Rattle.ts_base.specs.declared.ext.Ext.TheVariants.{Int}
use Rattle.ts_pattern.specs.declared.name.Aggregator.TheVariants.{Sum, Max}
use Rattle.ts_pattern.specs.declared.name.Feature.TheVariants.{One, Width}
use Rattle.ts_pattern.specs.declared.name.PatternId.TheVariants.{Peak}
use Rattle.ts_model.specs.declared.model.Window.{Window}
use Rattle.ts_model.specs.declared.model.Op.TheVariants.{AtMost}
use Rattle.ts_model.specs.ModelParts.{ModelParts}

-- the least value of cell k
abbrev pub least_of : ℕ → ℕ
least_of k = 7 * k % 10

abbrev pub six_from : ℕ → List ℤ
six_from l = pos l ∷ pos (l + 1) ∷ pos (l + 2) ∷ pos (l + 3) ∷ pos (l + 4) ∷ pos (l + 5) ∷ []

-- n cells from cell k on
abbrev pub cells_from : ℕ → ℕ → List (List ℤ)
cells_from k zero = []
cells_from k (suc n) = six_from (least_of k) ∷ cells_from (k + 1) n

-- `c = count peak`, `w = max width peak`, `w <= 3`, and the objective `c`
abbrev pub sample_stated : ℕ → ModelParts
sample_stated n = record {
  cells = cells_from 1 n;
  terms = (codes "c", record { aggregator = Sum; feature = One; pattern = Peak; window = None })
      ∷ (codes "w", record { aggregator = Max; feature = Width; pattern = Peak; window = None })
      ∷ [];
  requirements = record { term = 1; op = AtMost; bound = Int (pos 3) } ∷ [];
  objective = Some 0;
}

-- the windows of the two terms, each of which looks at all cells
abbrev pub no_windows : List (Option Window)
no_windows = None ∷ None ∷ []
