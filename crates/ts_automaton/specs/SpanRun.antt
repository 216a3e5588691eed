-- Moves and finish expressions on a hull: a span for each register, or none at all.
use Rattle.std.specs.Prelude.{false, ◌≡◌, ◌<◌, ◌⊎◌, ℕ, ℤ, Bool, ◌&&◌, length, if◌then◌else◌}
use Rattle.ts_base.specs.declared.ext.Ext.{Ext}
use Rattle.ts_base.specs.declared.span.Span.{Span}
use Rattle.ts_base.specs.Spans.{none_span, one_span, has_some, Holds, span_hull}
use Rattle.ts_automaton.specs.declared.kind.RegKind.{RegKind}
use Rattle.ts_automaton.specs.declared.state.Mark.{Mark}
use Rattle.ts_automaton.specs.declared.regs.HullAt.{HullAt}
use Rattle.ts_automaton.specs.Registers.{EachOf, each, map_each, Each, spans_of, spans}
use Rattle.ts_automaton.specs.Kinds.{SpanHasKind}
use Rattle.ts_automaton.specs.Typing.{kinds_at}
use Rattle.ts_automaton.specs.Body.{Body, Move}
use Rattle.ts_automaton.specs.AutomatonRun.{Standing, move_between, registers_after, under_mark, finish_value}

-- the one form of a hull that holds no registers
abbrev pub none_hull : EachOf Span
none_hull = each none_span none_span none_span none_span none_span

-- each of its spans holds a number
unfoldable pub has_registers : EachOf Span → Bool
has_registers h = has_some h.c && has_some h.e && has_some h.d && has_some h.f && has_some h.r

-- the hull of one list of registers
abbrev pub one_hull : EachOf Ext → EachOf Span
one_hull s = map_each one_span s

-- registers that lie in the hull
abbrev pub HoldsRegs : EachOf Span → EachOf Ext → Type 0
HoldsRegs h s = Each Holds h s

-- it is none, or each span has the kind of its register
abbrev pub HullHasKinds : EachOf RegKind → EachOf Span → Type 0
HullHasKinds k h = (has_registers h ≡ false) ⊎ Each SpanHasKind k h

-- what contracts see of a state with a hull
abbrev pub hull_standing : HullAt → Standing Span
hull_standing at = record { state = at.state; regs = spans_of at.hull }

-- the state exists, and the hull is none or has the kinds that the registers have there
pub record HullStands (b : Body) (s : Standing Span) : Type 0 where
  pub exists : s.state < length b.states
  pub kinds : HullHasKinds (kinds_at b s.state) s.regs

-- the new spans of a move; none stays none
abbrev pub moved_hull : EachOf Span → ℤ → ℤ → Move → EachOf Span
moved_hull h x y m = if has_registers h then registers_after spans h x y m else none_hull

-- the step on a hull
abbrev pub span_step : Body → Standing Span → ℤ → ℤ → Standing Span
span_step b s x y =
    let m = move_between b s.state x y in
    record { state = m.next; regs = moved_hull s.regs x y m }

-- the finish span before the mark
abbrev pub finished_span : Body → EachOf Span → Span
finished_span b h = if has_registers h then finish_value spans b h else none_span

-- a mark on both ends, and the hull of the two; none stays none
abbrev pub marked_span : Mark → ℕ → Span → Span
marked_span k n s =
    if has_some s then span_hull (one_span (under_mark k n s.lo)) (one_span (under_mark k n s.hi)) else none_span

abbrev pub finish_span_of : Body → Standing Span → ℕ → Span
finish_span_of b s n = marked_span b.mark n (finished_span b s.regs)
