-- What the layers above know of glued values.
use Rattle.std.specs.Prelude.{◌≡◌, ◌≤◌, ℕ, ℤ, List, length, false, IsTrue, ◌⊎◌, Some}
use Rattle.ts_base.specs.declared.ext.Ext.{Ext}
use Rattle.ts_base.specs.declared.span.Span.{Span}
use Rattle.ts_base.specs.SpanLayer.{IsWithin}
use Rattle.ts_base.specs.Spans.{none_span, one_span, Holds}
use Rattle.ts_automaton.specs.declared.state.Mark.TheVariants.{Same}
use Rattle.ts_automaton.specs.Registers.{EachOf, Each, numbers, spans}
use Rattle.ts_automaton.specs.Kinds.{Fits, SpansFit}
use Rattle.ts_automaton.specs.Typing.{is_automaton}
use Rattle.ts_automaton.specs.AutomatonRun.{Standing, Stands, start_of, finish_of, answer, IsInMark, AreCellValues}
use Rattle.ts_automaton.specs.SpanRun.{has_registers, one_hull, HoldsRegs, HullStands, finish_span_of}
use Rattle.ts_automaton.specs.Laws.{standing_with}
use Rattle.ts_glue.specs.declared.machine.Machine.{Machine}
use Rattle.ts_glue.specs.Pairs.{Pair}
use Rattle.ts_glue.specs.Machines.{pair_of}
use Rattle.ts_glue.specs.Glue.{GlueTakes, glue_of}
use Rattle.ts_glue.specs.Glued.{glue_at, glued_value, glue_span_at, glued_span, Glued, LocalUpTo}
use Rattle.ts_glue.specs.Rules.{keeps_rules, IsGluing}

-- a machine that can be split keeps what is asked of its pair
abbrev pub MachinesKeepRules : Type 0
MachinesKeepRules = (m : Machine) (p : Pair) → pair_of m ≡ Some p → IsGluing p

-- where the law holds of the series of at most n cells, the glued value at every cell of each is the forward answer
abbrev pub LocalIsAnswer : Type 0
LocalIsAnswer =
    (n : ℕ) (p : Pair) → LocalUpTo n p → (xs : List ℤ) → length xs ≤ n → AreCellValues xs →
    (k : ℕ) → 1 ≤ k → k ≤ length xs → Glued p xs k ≡ answer p.forward xs

-- before the mark, a glued span holds the glued value of any registers in the two hulls
abbrev pub GluedSpansHold : Type 0
GluedSpansHold =
    (p : Pair) (q r : ℕ) (h i : EachOf Span) (s t : EachOf Ext) (x : ℤ) → HoldsRegs h s → HoldsRegs i t →
    Holds (glue_span_at p (standing_with q h) (standing_with r i) x)
    (glue_at numbers p (standing_with q s) (standing_with r t) x)

-- under the mark too, where the glued value keeps the promise of the mark
abbrev pub MarkedSpansHold : Type 0
MarkedSpansHold =
    (p : Pair) (q r : ℕ) (h i : EachOf Span) (s t : EachOf Ext) (x : ℤ) (n : ℕ) → HoldsRegs h s → HoldsRegs i t →
    let e = glued_value p (standing_with q s) (standing_with r t) x n in
    IsInMark p.forward.mark n e → Holds (glued_span p (standing_with q h) (standing_with r i) x n) e

-- a glued span is none where a hull is none
abbrev pub NoneGluesToNone : Type 0
NoneGluesToNone =
    (p : Pair) (left right : Standing Span) (x : ℤ) (n : ℕ) →
    (has_registers left.regs ≡ false) ⊎ (has_registers right.regs ≡ false) → glued_span p left right x n ≡ none_span

-- the hulls of single registers give the span of the one glued value
abbrev pub GluedStaysSingle : Type 0
GluedStaysSingle =
    (p : Pair) (q r : ℕ) (s t : EachOf Ext) (x : ℤ) (n : ℕ) →
    glued_span p (standing_with q (one_hull s)) (standing_with r (one_hull t)) x n
    ≡ one_span (glued_value p (standing_with q s) (standing_with r t) x n)

-- at the last cell, where the reverse run stands at its start, the glued form is the finish form: of values, of spans
abbrev pub StartGluesToFinish : Type 0
StartGluesToFinish =
    (p : Pair) → IsTrue (keeps_rules p) → (q : ℕ) (s : EachOf Ext) (x : ℤ) (n : ℕ) →
    glued_value p (standing_with q s) (start_of p.reverse) x n ≡ finish_of p.forward (standing_with q s) n

abbrev pub TwoFormsAgree : Type 0
TwoFormsAgree =
    (p : Pair) → IsTrue (keeps_rules p) → (q : ℕ) (h : EachOf Span) (x : ℤ) (n : ℕ) →
    glued_span p (standing_with q h) (standing_with 0 (one_hull p.reverse.start)) x n
    ≡ finish_span_of p.forward (standing_with q h) n

-- before the mark, hulls that hold more give a glued span that holds more
abbrev pub GluedSpansGrow : Type 0
GluedSpansGrow =
    (p : Pair) (q r : ℕ) (h i wider_h wider_i : EachOf Span) (x : ℤ) →
    Each IsWithin h wider_h → Each IsWithin i wider_i →
    IsWithin
    (glue_span_at p (standing_with q h) (standing_with r i) x)
    (glue_span_at p (standing_with q wider_h) (standing_with r wider_i) x)

-- under the mark that changes nothing too (one that turns an infinite end into a number may narrow a span)
abbrev pub UnmarkedSpansGrow : Type 0
UnmarkedSpansGrow =
    (p : Pair) → p.forward.mark ≡ Same → (q r : ℕ) (h i wider_h wider_i : EachOf Span) (x : ℤ) (n : ℕ) →
    Each IsWithin h wider_h → Each IsWithin i wider_i →
    IsWithin
    (glued_span p (standing_with q h) (standing_with r i) x n)
    (glued_span p (standing_with q wider_h) (standing_with r wider_i) x n)

-- where the registers have the kinds of the two states, no operator in the glued value meets an operand that it doesn't
-- take
pub record MeetsOperands (p : Pair) : Type 0 where
  pub fit : (left right : Standing Ext) → Stands p.forward left → Stands p.reverse right → (x : ℤ) →
      GlueTakes Fits numbers left.regs right.regs (glue_of p left.state right.state x)
  pub spans_fit : (left right : Standing Span) → HullStands p.forward left → HullStands p.reverse right →
      IsTrue (has_registers left.regs) → IsTrue (has_registers right.regs) → (x : ℤ) →
      GlueTakes SpansFit spans left.regs right.regs (glue_of p left.state right.state x)

abbrev pub OperandsFit : Type 0
OperandsFit =
    (p : Pair) → IsTrue (keeps_rules p) → IsTrue (is_automaton p.forward) → IsTrue (is_automaton p.reverse) →
    MeetsOperands p
