-- Plateaus: a rise and a fall, with at most a level part between; mirrored, plains (Global Constraint Catalog,
-- Volume II).
use Rattle.std.specs.Prelude.{ℕ, [], ◌∷◌}
use Rattle.ts_base.specs.declared.letter.Letter.TheVariants.{Less, Greater}
use Rattle.ts_base.specs.declared.range.Kind.TheVariants.{Idle, Pending}
use Rattle.ts_transducer.specs.declared.row.Phase.TheVariants.{Out, OutR, MaybeB, FoundE}
use Rattle.ts_pattern.specs.declared.plan.Tag.TheVariants.{Due, InD, Loose}
use Rattle.ts_seed.specs.Table.{Table, row, at, join}

-- the states, in the order of the rows
abbrev s : ℕ
s = 0

abbrev r : ℕ
r = 1

abbrev t : ℕ
t = 2

-- plateau, <=*>; mirrored, plain.
abbrev pub plateau : Table
plateau =
    record {
      rows =
          row Idle (Out, r) (Out, s) (Out, s)
          ∷ row Idle (Out, r) (MaybeB, t) (FoundE, s)
          ∷ row Pending (OutR, r) (MaybeB, t) (FoundE, s)
          ∷ [];
      residuals =
          (0, Less)
          ∷ (1, Greater)
          ∷ [];
      configurations =
          at s []
          ∷ at r ((1, Due) ∷ [])
          ∷ at t ((1, InD) ∷ [])
          ∷ at s ((2, Loose) ∷ [])
          ∷ [];
      joins =
          join r r
          ∷ join r t
          ∷ join t r
          ∷ join t t
          ∷ [];
    }
