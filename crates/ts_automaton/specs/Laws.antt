-- What the layers above know of runs over numbers and over spans.
use Rattle.std.specs.Prelude.{◌≡◌, ◌<◌, ℕ, ℤ, pos, IsTrue, false, length}
use Rattle.ts_base.specs.declared.ext.Ext.{Ext}
use Rattle.ts_base.specs.declared.ext.Ext.TheVariants.{Int}
use Rattle.ts_base.specs.declared.span.Span.{Span}
use Rattle.ts_base.specs.Spans.{none_span, one_span, Holds}
use Rattle.ts_automaton.specs.declared.state.Mark.{Mark}
use Rattle.ts_automaton.specs.Registers.{EachOf, numbers, spans, Takes, TakesAll}
use Rattle.ts_automaton.specs.Kinds.{Fits, SpansFit}
use Rattle.ts_automaton.specs.Body.{Body}
use Rattle.ts_automaton.specs.Typing.{is_automaton}
use Rattle.ts_automaton.specs.AutomatonRun.{Standing, Stands, start_of, step_of, move_between, finish_value, finish_of, under_mark, IsInMark}
use Rattle.ts_automaton.specs.SpanRun.{none_hull, has_registers, one_hull, HoldsRegs, HullStands, span_step, finished_span, finish_span_of, marked_span}

abbrev pub standing_with : {A : Type 0} → ℕ → EachOf A → Standing A
standing_with q s = record { state = q; regs = s }

-- the step on a hull leads to the same state, and holds the step of any registers in the hull
abbrev pub StepsHold : Type 0
StepsHold = (b : Body) (q : ℕ) (s : EachOf Ext) (h : EachOf Span) (x y : ℤ) → HoldsRegs h s →
    (span_step b (standing_with q h) x y).state ≡ (step_of b (standing_with q s) x y).state
    × HoldsRegs (span_step b (standing_with q h) x y).regs (step_of b (standing_with q s) x y).regs

-- before the mark, the finish span of a hull holds the finish value of any registers in it
abbrev pub FinishesHold : Type 0
FinishesHold = (b : Body) (s : EachOf Ext) (h : EachOf Span) → HoldsRegs h s →
    Holds (finished_span b h) (finish_value numbers b s)

-- a marked span holds the marked value of each number in the span, where that keeps the promise of the mark
abbrev pub MarksHold : Type 0
MarksHold = (k : Mark) (n : ℕ) (s : Span) (e : Ext) → Holds s e → IsInMark k n (under_mark k n e) →
    Holds (marked_span k n s) (under_mark k n e)

-- the step on a hull of single registers gives the hull of the one step of these
abbrev pub StepsStaySingle : Type 0
StepsStaySingle = (b : Body) (q : ℕ) (s : EachOf Ext) (x y : ℤ) →
    let t = step_of b (standing_with q s) x y in
    span_step b (standing_with q (one_hull s)) x y ≡ standing_with t.state (one_hull t.regs)

-- under the mark, the finish span of single registers is that of the one answer
abbrev pub FinishesStaySingle : Type 0
FinishesStaySingle = (b : Body) (q : ℕ) (s : EachOf Ext) (n : ℕ) →
    finish_span_of b (standing_with q (one_hull s)) n ≡ one_span (finish_of b (standing_with q s) n)

-- on a hull that is none both are none
abbrev pub NonesStay : Type 0
NonesStay = (b : Body) (q : ℕ) (h : EachOf Span) → has_registers h ≡ false →
    ((x y : ℤ) → (span_step b (standing_with q h) x y).regs ≡ none_hull)
    × ((n : ℕ) → finish_span_of b (standing_with q h) n ≡ none_span)

-- in an automaton the registers, and the spans of a hull, have the kinds of their state: at the start, after each step,
-- and where numbers become single spans
pub record KeepsKinds (b : Body) : Type 0 where
  pub start : Stands b (start_of b)
  pub step : (s : Standing Ext) → Stands b s → (x y : ℤ) → Stands b (step_of b s x y)
  pub single : (s : Standing Ext) → Stands b s → HullStands b (standing_with s.state (one_hull s.regs))
  pub span_step : (s : Standing Span) → HullStands b s → (x y : ℤ) → HullStands b (span_step b s x y)

abbrev pub KindsAreKept : Type 0
KindsAreKept = (b : Body) → IsTrue (is_automaton b) → KeepsKinds b

-- where they have these kinds, no operator meets an operand that it doesn't take
pub record MeetsOperands (b : Body) : Type 0 where
  pub step : (s : Standing Ext) → Stands b s → (x y : ℤ) →
      TakesAll Fits numbers s.regs x y (move_between b s.state x y).to
  pub finish : (s : Standing Ext) → Stands b s → Takes Fits numbers s.regs (pos 0) (pos 0) b.finish
  pub span_step : (s : Standing Span) → HullStands b s → IsTrue (has_registers s.regs) → (x y : ℤ) →
      TakesAll SpansFit spans s.regs x y (move_between b s.state x y).to
  pub finish_span : (s : Standing Span) → HullStands b s → IsTrue (has_registers s.regs) →
      Takes SpansFit spans s.regs (pos 0) (pos 0) b.finish

abbrev pub OperandsFit : Type 0
OperandsFit = (b : Body) → IsTrue (is_automaton b) → MeetsOperands b

-- E and F are 0, and hold 0 alone
abbrev pub AreZero : EachOf Ext → Type 0
AreZero s = (s.e ≡ Int (pos 0)) × (s.f ≡ Int (pos 0))

abbrev pub HoldZero : EachOf Span → Type 0
HoldZero h = (h.e ≡ one_span (Int (pos 0))) × (h.f ≡ one_span (Int (pos 0)))

-- in a narrow automaton they are 0 at the start and after each step, and hold 0 alone after a step on a hull that isn't
-- none
pub record KeepsZero (b : Body) : Type 0 where
  pub start : AreZero b.start
  pub step : (s : Standing Ext) → s.state < length b.states → (x y : ℤ) → AreZero (step_of b s x y).regs
  pub span_step : (s : Standing Span) → s.state < length b.states → IsTrue (has_registers s.regs) → (x y : ℤ) →
      HoldZero (span_step b s x y).regs

abbrev pub NarrowRests : Type 0
NarrowRests = (b : Body) → IsTrue (is_automaton b) → b.wide ≡ false → KeepsZero b
