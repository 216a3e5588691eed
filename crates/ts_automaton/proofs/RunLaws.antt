-- Laws of runs over numbers and over spans, for the layers above.
use Rattle.std.proofs.Common.{◌≡◌, ℕ, true, false, cond, ℤ, pos, refl, sym, ◌∙◌, ap, subst, inr}
use Rattle.std.specs.Prelude.{IsTrue}
use Rattle.ts_base.specs.declared.ext.Ext.{Ext}
use Rattle.ts_base.specs.declared.ext.Ext.TheVariants.{NegInf, Int as Number, PosInf}
use Rattle.ts_base.specs.declared.span.Span.{Span}
use Rattle.ts_base.specs.Numbers.{ext_le, ext_max, ext_min}
use Rattle.ts_base.specs.Spans.{none_span, one_span, Holds, span_hull}
use Rattle.ts_base.proofs.Order.{le_trans, max_right, min_left}
use Rattle.ts_base.proofs.SpanLaws.{holds_some, holds_one, one_some, hull_left, hull_right}
use Rattle.ts_base.specs.Signature.{letter_of}
use Rattle.ts_automaton.specs.declared.kind.RegKind.{RegKind}
use Rattle.ts_automaton.specs.declared.state.Mark.{Mark}
use Rattle.ts_automaton.specs.declared.state.Mark.TheVariants.{Same, Zero, Cells}
use Rattle.ts_automaton.specs.Differences.{span_op}
use Rattle.ts_automaton.specs.Formula.{Formula}
use Rattle.ts_automaton.specs.Registers.{EachOf, each, Each, numbers, spans, value_in}
use Rattle.ts_automaton.specs.Kinds.{HasKind, SpanHasKind, Fits}
use Rattle.ts_automaton.specs.Body.{Body, Move}
use Rattle.ts_automaton.specs.Typing.{kinds_at}
use Rattle.ts_automaton.specs.AutomatonRun.{Standing, Stands, registers_after, finish_value, under_mark, IsInMark, move_between}
use Rattle.ts_automaton.specs.SpanRun.{none_hull, has_registers, one_hull, HoldsRegs, HullStands, moved_hull, marked_span}
use Rattle.ts_automaton.specs.Laws.{StepsHold, FinishesHold, MarksHold, StepsStaySingle, FinishesStaySingle, NonesStay, KindsAreKept, OperandsFit}
use Rattle.ts_automaton.proofs.Evaluation.{value_related}
use Rattle.ts_automaton.proofs.Five.{some_registers}
use Rattle.ts_automaton.proofs.OperatorLaws.{op_holds, op_one}
use Rattle.ts_automaton.proofs.KindLaws.{numbers_typed}
use Rattle.ts_automaton.proofs.StepLaws.{start_stands, stands_after, hull_stands_after, move_takes, finish_takes, hull_takes, hull_finish_takes}

-- the span of an expression holds its value
pub value_holds : (f : Formula) (s : EachOf Ext) (h : EachOf Span) (x y : ℤ) → HoldsRegs h s → Holds (value_in spans h x y f) (value_in numbers s x y f)
value_holds f s h x y k =
    value_related numbers spans (λ e t. Holds t e) holds_one (λ o a a' t t' p q. op_holds o t t' a a' p q) f s h x y x y
    (holds_one (Number x)) (holds_one (Number y)) (k.0, k.1, k.2, k.3, k.4)

pub holds_registers : (h : EachOf Span) (s : EachOf Ext) → HoldsRegs h s → has_registers h ≡ true
holds_registers h s k =
    some_registers h
    (holds_some h.c s.c k.0, holds_some h.e s.e k.1, holds_some h.d s.d k.2, holds_some h.f s.f k.3, holds_some h.r s.r k.4)

moved_holds : (m : Move) (s : EachOf Ext) (h : EachOf Span) (x y : ℤ) → HoldsRegs h s → HoldsRegs (moved_hull h x y m) (registers_after numbers s x y m)
moved_holds m s h x y k =
    subst (λ v. HoldsRegs (cond v (registers_after spans h x y m) none_hull) (registers_after numbers s x y m)) (sym (holds_registers h s k)) (
      value_holds m.to.c s h x y k,
      value_holds m.to.e s h x y k,
      value_holds m.to.d s h x y k,
      value_holds m.to.f s h x y k,
      value_holds m.to.r s h x y k,
    )

pub steps_hold : StepsHold
steps_hold b q s h x y k = (refl, moved_holds (move_between b q x y) s h x y k)

pub finishes_hold : FinishesHold
finishes_hold b s h k =
    subst (λ v. Holds (cond v (finish_value spans b h) none_span) (finish_value numbers b s)) (sym (holds_registers h s k))
    (value_holds b.finish s h (pos 0) (pos 0) k)

-- the span of an expression over single registers is single
pub value_single : (f : Formula) (s : EachOf Ext) (x y : ℤ) → value_in spans (one_hull s) x y f ≡ one_span (value_in numbers s x y f)
value_single f s x y =
    value_related numbers spans (λ e t. t ≡ one_span e) (λ e. refl)
    (λ o a a' t t' p q. ap (λ z. span_op o z t') p ∙ ap (span_op o (one_span a)) q ∙ op_one o a a')
    f s (one_hull s) x y x y refl refl (refl, refl, refl, refl, refl)

pub one_registers : (s : EachOf Ext) → has_registers (one_hull s) ≡ true
one_registers s = holds_registers (one_hull s) s (holds_one s.c, holds_one s.e, holds_one s.d, holds_one s.f, holds_one s.r)

each_same : (s t : EachOf Span) → s.c ≡ t.c → s.e ≡ t.e → s.d ≡ t.d → s.f ≡ t.f → s.r ≡ t.r → s ≡ t
each_same s t p q u v w =
    ap (λ z. each z s.e s.d s.f s.r) p ∙ ap (λ z. each t.c z s.d s.f s.r) q ∙ ap (λ z. each t.c t.e z s.f s.r) u ∙ ap (λ z. each t.c t.e t.d z s.r) v
    ∙ ap (each t.c t.e t.d t.f) w

pub steps_stay_single : StepsStaySingle
steps_stay_single b q s x y =
    let m = move_between b q x y in
    ap (λ v. record { state = m.next; regs = cond v (registers_after spans (one_hull s) x y m) none_hull }) (one_registers s)
    ∙ ap (λ g. record { state = m.next; regs = g })
    (each_same (registers_after spans (one_hull s) x y m) (one_hull (registers_after numbers s x y m)) (value_single m.to.c s x y)
    (value_single m.to.e s x y) (value_single m.to.d s x y) (value_single m.to.f s x y) (value_single m.to.r s x y))

hull_single : (e : Ext) → span_hull (one_span e) (one_span e) ≡ one_span e
hull_single e =
    ap (λ v. cond v (cond v (record { lo = ext_min e e; hi = ext_max e e }) (one_span e)) (cond v (one_span e) none_span)) (one_some e)
    ∙ elim (ext_le e e) as (λ v. record { lo = cond v e e; hi = cond v e e } ≡ one_span e) [ true ↦ refl | false ↦ refl ]

pub mark_single : (k : Mark) (n : ℕ) (e : Ext) → marked_span k n (one_span e) ≡ one_span (under_mark k n e)
mark_single k n e = ap (λ v. cond v (span_hull (one_span (under_mark k n e)) (one_span (under_mark k n e))) none_span) (one_some e) ∙
    hull_single (under_mark k n e)

pub finishes_stay_single : FinishesStaySingle
finishes_stay_single b q s n =
    ap (λ v. marked_span b.mark n (cond v (finish_value spans b (one_hull s)) none_span)) (one_registers s)
    ∙ ap (marked_span b.mark n) (value_single b.finish s (pos 0) (pos 0)) ∙ mark_single b.mark n (finish_value numbers b s)

pub nones_stay : NonesStay
nones_stay b q h e = (
  (λ x y. ap (λ v. cond v (registers_after spans h x y (move_between b q x y)) none_hull) e),
  (λ n. ap (λ v. marked_span b.mark n (cond v (finish_value spans b h) none_span)) e),
)

one_kinds : (k : EachOf RegKind) (s : EachOf Ext) → Each HasKind k s → Each SpanHasKind k (one_hull s)
one_kinds k s h = (
  (one_some s.c, h.0, h.0),
  (one_some s.e, h.1, h.1),
  (one_some s.d, h.2, h.2),
  (one_some s.f, h.3, h.3),
  (one_some s.r, h.4, h.4),
)

pub single_stands : (b : Body) (s : Standing Ext) → Stands b s → HullStands b (record { state = s.state; regs = one_hull s.regs })
single_stands b s h = record { exists = h.exists; kinds = inr (one_kinds (kinds_at b s.state) s.regs h.kinds) }

pub kinds_are_kept : KindsAreKept
kinds_are_kept b a = record {
  start = start_stands b a;
  step = λ s h x y. stands_after b a s h (letter_of x y) (move_between b s.state x y) refl x y _ refl;
  single = single_stands b;
  span_step = λ s h x y. hull_stands_after b a s h (letter_of x y) (move_between b s.state x y) refl x y _ refl;
}

pub operands_fit : OperandsFit
operands_fit b a = record {
  step = λ s h x y. move_takes numbers HasKind Fits numbers_typed b a s.state (letter_of x y) h.exists s.regs h.kinds (move_between b s.state x y) refl x y;
  finish = λ s h. finish_takes numbers HasKind Fits numbers_typed b a s.state s.regs h.kinds b.finish refl;
  span_step = λ s h t x y. hull_takes b a s h (letter_of x y) (move_between b s.state x y) refl x y t;
  finish_span = λ s h t. hull_finish_takes b a s h t b.finish refl;
}

-- marks

le_top : (a : Ext) → IsTrue (ext_le a PosInf)
le_top NegInf = refl
le_top (Number x) = refl
le_top PosInf = refl

between : (a b e : Ext) → IsTrue (ext_le a e) → IsTrue (ext_le e b) → Holds (span_hull (one_span a) (one_span b)) e
between a b e p q =
    let i = one_some a in let j = one_some b in rw (i, j) (le_trans (ext_min a b) a e (min_left a b) p, le_trans e b (ext_max a b) q (max_right a b))

zero_holds : (n : ℕ) (lo hi v : Ext) → IsTrue (ext_le lo v) → IsTrue (ext_le v hi) → IsInMark Zero n (under_mark Zero n v) →
    Holds (span_hull (one_span (under_mark Zero n lo)) (one_span (under_mark Zero n hi))) (under_mark Zero n v)
zero_holds n NegInf hi NegInf h k i = hull_left (one_span (Number (pos 0))) (one_span (under_mark Zero n hi)) (Number (pos 0)) (holds_one (Number (pos 0)))
zero_holds n NegInf (Number w) (Number x) h k i = between (Number (pos 0)) (Number w) (Number x) i k
zero_holds n NegInf PosInf (Number x) h k i = between (Number (pos 0)) PosInf (Number x) i refl
zero_holds n (Number z) (Number w) (Number x) h k i = between (Number z) (Number w) (Number x) h k
zero_holds n (Number z) PosInf (Number x) h k i = between (Number z) PosInf (Number x) h refl
zero_holds n lo PosInf PosInf h k i = between (under_mark Zero n lo) PosInf PosInf (le_top (under_mark Zero n lo)) refl
zero_holds n (Number z) hi NegInf h k i = cc
zero_holds n PosInf hi NegInf h k i = cc
zero_holds n lo NegInf (Number x) h k i = cc
zero_holds n PosInf hi (Number x) h k i = cc
zero_holds n lo NegInf PosInf h k i = cc
zero_holds n lo (Number w) PosInf h k i = cc

cells_hold : (n : ℕ) (lo hi v : Ext) → IsTrue (ext_le lo v) → IsTrue (ext_le v hi) → IsInMark Cells n (under_mark Cells n v) →
    Holds (span_hull (one_span (under_mark Cells n lo)) (one_span (under_mark Cells n hi))) (under_mark Cells n v)
cells_hold n lo PosInf PosInf h k i = hull_right (one_span (under_mark Cells n lo)) (one_span (Number (pos n))) (Number (pos n)) (holds_one (Number (pos n)))
cells_hold n NegInf (Number w) (Number x) h k i = between NegInf (Number w) (Number x) refl k
cells_hold n (Number z) (Number w) (Number x) h k i = between (Number z) (Number w) (Number x) h k
cells_hold n NegInf PosInf (Number x) h k i = between NegInf (Number (pos n)) (Number x) refl i
cells_hold n (Number z) PosInf (Number x) h k i = between (Number z) (Number (pos n)) (Number x) h i
cells_hold n NegInf hi NegInf h k i = between NegInf (under_mark Cells n hi) NegInf refl refl
cells_hold n (Number z) hi NegInf h k i = cc
cells_hold n PosInf hi NegInf h k i = cc
cells_hold n lo NegInf (Number x) h k i = cc
cells_hold n PosInf hi (Number x) h k i = cc
cells_hold n lo NegInf PosInf h k i = cc
cells_hold n lo (Number w) PosInf h k i = cc

pub marks_hold : MarksHold
marks_hold Zero n s e h i =
    subst (λ v. Holds (cond v (span_hull (one_span (under_mark Zero n s.lo)) (one_span (under_mark Zero n s.hi))) none_span) (under_mark Zero n e))
    (sym (holds_some s e h)) (zero_holds n s.lo s.hi e h.0 h.1 i)
marks_hold Cells n s e h i =
    subst (λ v. Holds (cond v (span_hull (one_span (under_mark Cells n s.lo)) (one_span (under_mark Cells n s.hi))) none_span) (under_mark Cells n e))
    (sym (holds_some s e h)) (cells_hold n s.lo s.hi e h.0 h.1 i)
marks_hold Same n s e h i =
    subst (λ v. Holds (cond v (span_hull (one_span s.lo) (one_span s.hi)) none_span) e) (sym (holds_some s e h)) (between s.lo s.hi e h.0 h.1)
