-- Steps and sequences: one sign, or a run of signs that rise or stay; mirrored, those that fall (Global Constraint
-- Catalog, Volume II).
use Rattle.std.specs.Prelude.{ℕ, [], ◌∷◌}
use Rattle.ts_base.specs.declared.letter.Letter.TheVariants.{Less, Equal}
use Rattle.ts_base.specs.declared.range.Kind.TheVariants.{Idle, Held}
use Rattle.ts_transducer.specs.declared.row.Phase.TheVariants.{Out, OutA, MaybeA, Found, FoundE, Inside}
use Rattle.ts_pattern.specs.declared.plan.Tag.TheVariants.{InC, Loose}
use Rattle.ts_seed.specs.Table.{Table, row, at, join}

-- the states, in the order of the rows
abbrev s : ℕ
s = 0

abbrev t : ℕ
t = 1

-- increasing, <; mirrored, decreasing.
abbrev pub increasing : Table
increasing =
    record {
      rows =
          row Idle (FoundE, s) (Out, s) (Out, s)
          ∷ [];
      residuals =
          (0, Less)
          ∷ [];
      configurations =
          at s []
          ∷ at s ((1, Loose) ∷ [])
          ∷ [];
      joins = [];
    }

-- steady, =.
abbrev pub steady : Table
steady =
    record {
      rows =
          row Idle (Out, s) (FoundE, s) (Out, s)
          ∷ [];
      residuals =
          (0, Equal)
          ∷ [];
      configurations =
          at s []
          ∷ at s ((1, Loose) ∷ [])
          ∷ [];
      joins = [];
    }

-- increasing_sequence, <(<|=)*<|<; mirrored, decreasing_sequence.
abbrev pub increasing_sequence : Table
increasing_sequence =
    record {
      rows =
          row Idle (Found, t) (Out, s) (Out, s)
          ∷ row Held (Inside, t) (MaybeA, t) (OutA, s)
          ∷ [];
      residuals =
          (0, Less)
          ∷ (1, Equal)
          ∷ [];
      configurations =
          at s []
          ∷ at t ((1, InC) ∷ [])
          ∷ at t ((2, InC) ∷ [])
          ∷ [];
      joins =
          join t t
          ∷ [];
    }

-- strictly_increasing_sequence, <+; mirrored, strictly_decreasing_sequence.
abbrev pub strictly_increasing_sequence : Table
strictly_increasing_sequence =
    record {
      rows =
          row Idle (Found, t) (Out, s) (Out, s)
          ∷ row Held (Inside, t) (OutA, s) (OutA, s)
          ∷ [];
      residuals =
          (0, Less)
          ∷ [];
      configurations =
          at s []
          ∷ at t ((1, InC) ∷ [])
          ∷ [];
      joins =
          join t t
          ∷ [];
    }

-- steady_sequence, =+.
abbrev pub steady_sequence : Table
steady_sequence =
    record {
      rows =
          row Idle (Out, s) (Found, t) (Out, s)
          ∷ row Held (OutA, s) (Inside, t) (OutA, s)
          ∷ [];
      residuals =
          (0, Equal)
          ∷ [];
      configurations =
          at s []
          ∷ at t ((1, InC) ∷ [])
          ∷ [];
      joins =
          join t t
          ∷ [];
    }
