-- What the decoder keeps after k signs: by the kind of its state, and where in the series. d is the start that it keeps
-- and c the range that it holds; a is 1 where the last cell of an occurrence is left out, else 0.
use Rattle.std.specs.Prelude.{◌≡◌, ℕ, ◌+◌, ◌-◌, ◌≤◌, List, Option, None, Some, IfSome}
use Rattle.ts_base.specs.declared.letter.Letter.{Letter}
use Rattle.ts_base.specs.declared.range.Range.{Range}
use Rattle.ts_base.specs.declared.range.Kind.{Kind}
use Rattle.ts_base.specs.declared.range.Kind.TheVariants.{Idle, Pending, Held}
use Rattle.ts_transducer.specs.declared.row.Phase.{Phase}
use Rattle.ts_transducer.specs.declared.row.Row.{Row}
use Rattle.ts_transducer.specs.Decode.{start_after, held_after, emitted_at, row_at, arrow_at}
use Rattle.ts_transducer.specs.Inside.{IsInside}

-- an Idle state keeps nothing, a Pending one perhaps a start, a Held one a range and no start
abbrev pub KindHolds : Kind → Option ℕ → Option Range → Type 0
KindHolds Idle d c = (d ≡ None) × (c ≡ None)
KindHolds Pending d c = c ≡ None
KindHolds Held d c = (d ≡ None) × ((r : Range) × (c ≡ Some r))

-- the start is a sign that was read, and the range lies in the cells that these signs reach
pub record ArePlaced (a k : ℕ) (d : Option ℕ) (c : Option Range) : Type 0 where
  pub start : IfSome d (λ s. (1 ≤ s) × (s ≤ k))
  pub range : IfSome c (λ r. IsInside (k + 1 - a) r)

-- a move of the rows keeps what the kinds of its states say
abbrev pub MoveKeepsKinds : List Row → ℕ → Type 0
MoveKeepsKinds rows a =
    (k q : ℕ) (l : Letter) (d : Option ℕ) (c : Option Range) →
    KindHolds (row_at rows q).kind d c →
    KindHolds (row_at rows (arrow_at rows q l).next).kind
    (start_after (arrow_at rows q l).phase k d)
    (held_after (arrow_at rows q l).phase a k d c)

-- a sign with any phase letter keeps the places, and what is emitted at it lies in the cells that the signs reach
abbrev pub SignKeepsPlaces : ℕ → Type 0
SignKeepsPlaces a =
    (f : Phase) (k : ℕ) (d : Option ℕ) (c : Option Range) →
    ArePlaced a k d c →
    ArePlaced a (k + 1) (start_after f (k + 1) d) (held_after f a (k + 1) d c)
    × IfSome (emitted_at f a (k + 1) d c) (λ r. IsInside (k + 1 + 1 - a) r)
