-- Inflexions and peaks: where a series turns (Global Constraint Catalog, Volume II).
use Rattle.std.specs.Prelude.{ℕ, [], ◌∷◌}
use Rattle.ts_base.specs.declared.letter.Letter.TheVariants.{Less, Equal, Greater}
use Rattle.ts_base.specs.declared.range.Kind.TheVariants.{Idle, Pending, Held}
use Rattle.ts_transducer.specs.declared.row.Phase.TheVariants.{Out, OutA, MaybeB, MaybeA, Found, FoundE, Inside}
use Rattle.ts_pattern.specs.declared.plan.Tag.TheVariants.{Due, InD, InC, Loose}
use Rattle.ts_seed.specs.Table.{Table, row, at, join}

-- the states, in the order of the rows
abbrev s : ℕ
s = 0

abbrev r : ℕ
r = 1

abbrev t : ℕ
t = 2

-- inflexion, <(<|=)*>|>(>|=)*<.
abbrev pub inflexion : Table
inflexion =
    record {
      rows =
          row Idle (Out, r) (Out, s) (Out, t)
          ∷ row Pending (MaybeB, r) (MaybeB, r) (FoundE, t)
          ∷ row Pending (FoundE, r) (MaybeB, t) (MaybeB, t)
          ∷ [];
      residuals =
          (0, Less)
          ∷ (0, Greater)
          ∷ (1, Greater)
          ∷ [];
      configurations =
          at s []
          ∷ at r ((1, Due) ∷ [])
          ∷ at t ((2, Due) ∷ [])
          ∷ at r ((1, InD) ∷ [])
          ∷ at t ((3, Loose) ∷ (2, Due) ∷ [])
          ∷ at r ((3, Loose) ∷ (1, Due) ∷ [])
          ∷ at t ((2, InD) ∷ [])
          ∷ [];
      joins = [];
    }

-- peak, <(=|<)*(>|=)*>; mirrored, valley.
abbrev pub peak : Table
peak =
    record {
      rows =
          row Idle (Out, r) (Out, s) (Out, s)
          ∷ row Pending (MaybeB, r) (MaybeB, r) (Found, t)
          ∷ row Held (OutA, r) (MaybeA, t) (Inside, t)
          ∷ [];
      residuals =
          (0, Less)
          ∷ (1, Equal)
          ∷ (1, Greater)
          ∷ (3, Equal)
          ∷ [];
      configurations =
          at s []
          ∷ at r ((1, Due) ∷ [])
          ∷ at r ((1, InD) ∷ [])
          ∷ at r ((2, InD) ∷ [])
          ∷ at t ((3, InC) ∷ [])
          ∷ at t ((4, InC) ∷ [])
          ∷ [];
      joins =
          join r r
          ∷ join r t
          ∷ join t r
          ∷ [];
    }
