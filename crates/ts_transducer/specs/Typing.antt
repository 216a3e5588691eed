-- Which moves a transducer may have, by the kinds of their states and their phase letter.
-- An Idle state keeps nothing, a Pending one perhaps a start, a Held one a range that may still grow.
use Rattle.std.specs.Prelude.{Bool, true, false, ◌&&◌, List, [], ◌∷◌, Option, None, Some, slice_get}
use Rattle.std.specs.List.{list_all}
use Rattle.ts_base.specs.declared.range.Kind.{Kind}
use Rattle.ts_base.specs.declared.range.Kind.TheVariants.{Idle, Pending, Held}
use Rattle.ts_transducer.specs.declared.row.Phase.{Phase}
use Rattle.ts_transducer.specs.declared.row.Phase.TheVariants.{Out, OutR, OutA, MaybeB, MaybeA, Found, FoundE, Inside}
use Rattle.ts_transducer.specs.declared.row.Arrow.{Arrow}
use Rattle.ts_transducer.specs.declared.row.Row.{Row}

abbrev pub is_idle : Kind → Bool
is_idle Idle = true
is_idle k = false

abbrev pub is_pending : Kind → Bool
is_pending Pending = true
is_pending k = false

abbrev pub is_held : Kind → Bool
is_held Held = true
is_held k = false

-- no range is held
abbrev pub is_free : Kind → Bool
is_free Held = false
is_free k = true

-- from, letter, to
abbrev pub may_move : Kind → Phase → Kind → Bool
may_move k Out k' = is_idle k && is_free k'
may_move k OutR k' = is_pending k && is_free k'
may_move k OutA k' = is_held k && is_free k'
may_move k MaybeB k' = is_free k && is_pending k'
may_move k MaybeA k' = is_held k && is_held k'
may_move k Found k' = is_free k && is_held k'
may_move k FoundE k' = is_free k && is_free k'
may_move k Inside k' = is_held k && is_held k'

-- the state that the move leads to exists, and its kind fits
abbrev pub leads_well : Kind → Phase → Option Row → Bool
leads_well k f None = false
leads_well k f (Some r) = may_move k f r.kind

abbrev pub arrow_is_typed : List Row → Kind → Arrow → Bool
arrow_is_typed rows k m = leads_well k m.phase (slice_get rows m.next)

abbrev pub row_is_typed : List Row → Row → Bool
row_is_typed rows r =
    arrow_is_typed rows r.kind r.less && arrow_is_typed rows r.kind r.equal && arrow_is_typed rows r.kind r.greater

-- there is a first row, and it is Idle
abbrev pub starts_idle : List Row → Bool
starts_idle [] = false
starts_idle (r ∷ rows) = is_idle r.kind

-- the rows are those of a transducer
abbrev pub is_typed : List Row → Bool
is_typed rows = starts_idle rows && list_all (λ r. row_is_typed rows r) rows
