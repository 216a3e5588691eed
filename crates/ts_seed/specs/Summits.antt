-- Summits: a rise up to the last sign before the top, and a fall from the first sign after it; mirrored, gorges
-- (Global Constraint Catalog, Volume II).
use Rattle.std.specs.Prelude.{ℕ, [], ◌∷◌}
use Rattle.ts_base.specs.declared.letter.Letter.TheVariants.{Less, Equal, Greater}
use Rattle.ts_base.specs.declared.range.Kind.TheVariants.{Idle, Pending, Held}
use Rattle.ts_transducer.specs.declared.row.Phase.TheVariants.{Out, OutR, OutA, MaybeB, MaybeA, Found, Inside}
use Rattle.ts_pattern.specs.declared.plan.Tag.TheVariants.{Due, InD, InC, Loose}
use Rattle.ts_seed.specs.Table.{Table, row, at, join}

-- the states, in the order of the rows
abbrev s : ℕ
s = 0

abbrev r : ℕ
r = 1

abbrev u : ℕ
u = 2

abbrev t : ℕ
t = 3

-- summit, (<|<(=|<)*<)(>|>(=|>)*>); mirrored, gorge.
abbrev pub summit : Table
summit =
    record {
      rows =
          row Idle (Out, r) (Out, s) (Out, s)
          ∷ row Pending (MaybeB, r) (MaybeB, u) (Found, t)
          ∷ row Pending (MaybeB, r) (MaybeB, u) (OutR, s)
          ∷ row Held (OutA, r) (MaybeA, t) (Inside, t)
          ∷ [];
      residuals =
          (0, Less)
          ∷ (1, Equal)
          ∷ (1, Greater)
          ∷ (2, Less)
          ∷ (3, Equal)
          ∷ [];
      configurations =
          at s []
          ∷ at r ((1, Due) ∷ [])
          ∷ at r ((1, InD) ∷ [])
          ∷ at u ((2, InD) ∷ [])
          ∷ at t ((3, InC) ∷ [])
          ∷ at r ((4, InD) ∷ (1, Due) ∷ [])
          ∷ at t ((5, InC) ∷ [])
          ∷ at r ((4, InD) ∷ (1, Loose) ∷ [])
          ∷ [];
      joins =
          join r r
          ∷ join r t
          ∷ join u t
          ∷ join t r
          ∷ join t u
          ∷ [];
    }
