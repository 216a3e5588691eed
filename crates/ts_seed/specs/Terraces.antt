-- Terraces and proper plateaus: a level part of at least one sign between two others (Global Constraint Catalog,
-- Volume II).
use Rattle.std.specs.Prelude.{ℕ, [], ◌∷◌}
use Rattle.ts_base.specs.declared.letter.Letter.TheVariants.{Less, Equal, Greater}
use Rattle.ts_base.specs.declared.range.Kind.TheVariants.{Idle, Pending}
use Rattle.ts_transducer.specs.declared.row.Phase.TheVariants.{Out, OutR, MaybeB, FoundE}
use Rattle.ts_pattern.specs.declared.plan.Tag.TheVariants.{Due, InD, Loose}
use Rattle.ts_seed.specs.Table.{Table, row, at, join}

-- the states, in the order of the rows
abbrev s : ℕ
s = 0

abbrev r : ℕ
r = 1

abbrev t : ℕ
t = 2

-- increasing_terrace, <=+<; mirrored, decreasing_terrace.
abbrev pub increasing_terrace : Table
increasing_terrace =
    record {
      rows =
          row Idle (Out, r) (Out, s) (Out, s)
          ∷ row Idle (Out, r) (MaybeB, t) (Out, s)
          ∷ row Pending (FoundE, r) (MaybeB, t) (OutR, s)
          ∷ [];
      residuals =
          (0, Less)
          ∷ (1, Equal)
          ∷ (2, Less)
          ∷ [];
      configurations =
          at s []
          ∷ at r ((1, Due) ∷ [])
          ∷ at t ((2, InD) ∷ [])
          ∷ at r ((3, Loose) ∷ (1, Due) ∷ [])
          ∷ [];
      joins =
          join r t
          ∷ join t r
          ∷ join t t
          ∷ [];
    }

-- proper_plateau, <=+>; mirrored, proper_plain.
abbrev pub proper_plateau : Table
proper_plateau =
    record {
      rows =
          row Idle (Out, r) (Out, s) (Out, s)
          ∷ row Idle (Out, r) (MaybeB, t) (Out, s)
          ∷ row Pending (OutR, r) (MaybeB, t) (FoundE, s)
          ∷ [];
      residuals =
          (0, Less)
          ∷ (1, Equal)
          ∷ (2, Greater)
          ∷ [];
      configurations =
          at s []
          ∷ at r ((1, Due) ∷ [])
          ∷ at t ((2, InD) ∷ [])
          ∷ at s ((3, Loose) ∷ [])
          ∷ [];
      joins =
          join r t
          ∷ join t r
          ∷ join t t
          ∷ [];
    }
