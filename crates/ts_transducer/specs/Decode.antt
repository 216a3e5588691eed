-- The ranges that a transducer makes of a signature by the phase letters of its moves (Global Constraint Catalog,
-- Volume II). A start d and a range c may be kept; both are empty at first. a is 1 where the last cell of an occurrence
-- is left out, else 0.
use Rattle.std.specs.Prelude.{ℕ, zero, suc, ◌+◌, ◌-◌, List, [], ◌∷◌, ◌++◌, Option, None, Some}
use Rattle.std.specs.Option.{option_to_list}
use Rattle.ts_base.specs.declared.letter.Letter.{Letter}
use Rattle.ts_base.specs.declared.letter.Letter.TheVariants.{Less, Equal, Greater}
use Rattle.ts_base.specs.declared.range.Range.{Range}
use Rattle.ts_base.specs.declared.range.Kind.TheVariants.{Idle}
use Rattle.ts_transducer.specs.declared.row.Phase.{Phase}
use Rattle.ts_transducer.specs.declared.row.Phase.TheVariants.{Out, OutR, OutA, MaybeB, MaybeA, Found, FoundE, Inside}
use Rattle.ts_transducer.specs.declared.row.Arrow.{Arrow}
use Rattle.ts_transducer.specs.declared.row.Row.{Row}

-- the start that is kept, or the sign k now read
abbrev pub begins : ℕ → Option ℕ → ℕ
begins k None = k
begins k (Some d) = d

-- the range that is held, if any, with a new end
abbrev pub ends_at : ℕ → Option Range → Option Range
ends_at e None = None
ends_at e (Some c) = Some (record { first = c.first; last = e })

-- d after sign k
abbrev pub start_after : Phase → ℕ → Option ℕ → Option ℕ
start_after Out k d = d
start_after OutR k d = None
start_after OutA k d = None
start_after MaybeB k d = Some (begins k d)
start_after MaybeA k d = d
start_after Found k d = None
start_after FoundE k d = None
start_after Inside k d = d

-- c after sign k
abbrev pub held_after : Phase → ℕ → ℕ → Option ℕ → Option Range → Option Range
held_after Out a k d c = c
held_after OutR a k d c = c
held_after OutA a k d c = None
held_after MaybeB a k d c = c
held_after MaybeA a k d c = c
held_after Found a k d c = Some (record { first = begins k d; last = k + 1 - a })
held_after FoundE a k d c = c
held_after Inside a k d c = ends_at (k + 1 - a) c

-- the range emitted at sign k
abbrev pub emitted_at : Phase → ℕ → ℕ → Option ℕ → Option Range → Option Range
emitted_at Out a k d c = None
emitted_at OutR a k d c = None
emitted_at OutA a k d c = c
emitted_at MaybeB a k d c = None
emitted_at MaybeA a k d c = None
emitted_at Found a k d c = None
emitted_at FoundE a k d c = Some (record { first = begins k d; last = k + 1 - a })
emitted_at Inside a k d c = None

-- a move that does nothing and leads to the start
abbrev pub resting_arrow : Arrow
resting_arrow = record { phase = Out; next = 0 }

-- a row that stays at the start and does nothing
abbrev pub resting_row : Row
resting_row = record { kind = Idle; less = resting_arrow; equal = resting_arrow; greater = resting_arrow }

-- the row of a state; one that rests where there is none
abbrev pub row_at : List Row → ℕ → Row
row_at [] q = resting_row
row_at (r ∷ rows) zero = r
row_at (r ∷ rows) (suc q) = row_at rows q

-- the move of a row on a letter
abbrev pub arrow_on : Letter → Row → Arrow
arrow_on Less r = r.less
arrow_on Equal r = r.equal
arrow_on Greater r = r.greater

-- the move of the state q on a letter
abbrev pub arrow_at : List Row → ℕ → Letter → Arrow
arrow_at rows q l = arrow_on l (row_at rows q)

-- what is emitted by the signs w, from the state q, after k signs
abbrev pub decode_from : List Row → ℕ → ℕ → ℕ → Option ℕ → Option Range → List Letter → List Range
decode_from rows a k q d c [] = option_to_list c
decode_from rows a k q d c (l ∷ w) =
    option_to_list (emitted_at (arrow_at rows q l).phase a (k + 1) d c)
    ++ decode_from rows a (k + 1) (arrow_at rows q l).next
    (start_after (arrow_at rows q l).phase (k + 1) d)
    (held_after (arrow_at rows q l).phase a (k + 1) d c)
    w

-- the ranges emitted over a whole signature, the one emitted at the end among them
abbrev pub decode : List Row → ℕ → List Letter → List Range
decode rows a w = decode_from rows a 0 0 None None w
