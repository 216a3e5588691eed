-- Dips on a rise; mirrored, bumps on a fall (Global Constraint Catalog, Volume II).
use Rattle.std.specs.Prelude.{ℕ, [], ◌∷◌}
use Rattle.ts_base.specs.declared.letter.Letter.TheVariants.{Less, Greater}
use Rattle.ts_base.specs.declared.range.Kind.TheVariants.{Idle, Pending}
use Rattle.ts_transducer.specs.declared.row.Phase.TheVariants.{Out, OutR, MaybeB, FoundE}
use Rattle.ts_pattern.specs.declared.plan.Tag.TheVariants.{Young, Due, InD, Loose}
use Rattle.ts_seed.specs.Table.{Table, row, at}

-- the states, in the order of the rows
abbrev s : ℕ
s = 0

abbrev a : ℕ
a = 1

abbrev b : ℕ
b = 2

abbrev c : ℕ
c = 3

abbrev d : ℕ
d = 4

-- dip_on_increasing_sequence, <<><<; mirrored, bump_on_decreasing_sequence.
abbrev pub dip_on_increasing_sequence : Table
dip_on_increasing_sequence =
    record {
      rows =
          row Idle (Out, a) (Out, s) (Out, s)
          ∷ row Idle (Out, b) (Out, s) (Out, s)
          ∷ row Idle (Out, b) (Out, s) (MaybeB, c)
          ∷ row Pending (MaybeB, d) (OutR, s) (OutR, s)
          ∷ row Pending (FoundE, b) (OutR, s) (OutR, s)
          ∷ [];
      residuals =
          (0, Less)
          ∷ (1, Less)
          ∷ (2, Greater)
          ∷ (3, Less)
          ∷ (4, Less)
          ∷ [];
      configurations =
          at s []
          ∷ at a ((1, Young 1) ∷ [])
          ∷ at b ((2, Due) ∷ (1, Young 1) ∷ [])
          ∷ at c ((3, InD) ∷ [])
          ∷ at d ((4, InD) ∷ (1, Young 1) ∷ [])
          ∷ at b ((5, Loose) ∷ (2, Due) ∷ (1, Young 1) ∷ [])
          ∷ [];
      joins = [];
    }
