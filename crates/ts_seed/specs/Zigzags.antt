-- Zigzags: at least three signs, in turn rising and falling (Global Constraint Catalog, Volume II).
use Rattle.std.specs.Prelude.{ℕ, [], ◌∷◌}
use Rattle.ts_base.specs.declared.letter.Letter.TheVariants.{Less, Greater}
use Rattle.ts_base.specs.declared.range.Kind.TheVariants.{Idle, Pending, Held}
use Rattle.ts_transducer.specs.declared.row.Phase.TheVariants.{Out, OutR, OutA, MaybeB, Found, Inside}
use Rattle.ts_pattern.specs.declared.plan.Tag.TheVariants.{Due, InD, InC, Loose}
use Rattle.ts_seed.specs.Table.{Table, row, at, join}

-- the states, in the order of the rows
abbrev s : ℕ
s = 0

abbrev a : ℕ
a = 1

abbrev b : ℕ
b = 2

abbrev c : ℕ
c = 3

abbrev d : ℕ
d = 4

abbrev e : ℕ
e = 5

abbrev f : ℕ
f = 6

-- zigzag, (<>)+(<|<>)|(><)+(>|><).
abbrev pub zigzag : Table
zigzag =
    record {
      rows =
          row Idle (Out, a) (Out, s) (Out, b)
          ∷ row Idle (Out, a) (Out, s) (MaybeB, c)
          ∷ row Idle (MaybeB, d) (Out, s) (Out, b)
          ∷ row Pending (Found, e) (OutR, s) (OutR, b)
          ∷ row Pending (OutR, a) (OutR, s) (Found, f)
          ∷ row Held (OutA, a) (OutA, s) (Inside, f)
          ∷ row Held (Inside, e) (OutA, s) (OutA, b)
          ∷ [];
      residuals =
          (0, Less)
          ∷ (0, Greater)
          ∷ (1, Greater)
          ∷ (2, Less)
          ∷ (3, Less)
          ∷ (4, Greater)
          ∷ (5, Greater)
          ∷ (6, Less)
          ∷ [];
      configurations =
          at s []
          ∷ at a ((1, Due) ∷ [])
          ∷ at b ((2, Due) ∷ [])
          ∷ at c ((3, InD) ∷ (2, Due) ∷ [])
          ∷ at d ((4, InD) ∷ (1, Due) ∷ [])
          ∷ at e ((5, InC) ∷ (4, Loose) ∷ (1, Due) ∷ [])
          ∷ at f ((6, InC) ∷ (3, Loose) ∷ (2, Due) ∷ [])
          ∷ at f ((7, InC) ∷ (6, Loose) ∷ (3, Loose) ∷ (2, Due) ∷ [])
          ∷ at e ((8, InC) ∷ (5, Loose) ∷ (4, Loose) ∷ (1, Due) ∷ [])
          ∷ at e ((5, InC) ∷ (8, Loose) ∷ (4, Loose) ∷ (1, Due) ∷ [])
          ∷ at f ((6, InC) ∷ (7, Loose) ∷ (3, Loose) ∷ (2, Due) ∷ [])
          ∷ [];
      joins =
          join a d
          ∷ join a e
          ∷ join b c
          ∷ join b f
          ∷ join c b
          ∷ join c c
          ∷ join c f
          ∷ join d a
          ∷ join d d
          ∷ join d e
          ∷ join e a
          ∷ join e d
          ∷ join e e
          ∷ join f b
          ∷ join f c
          ∷ join f f
          ∷ [];
    }
