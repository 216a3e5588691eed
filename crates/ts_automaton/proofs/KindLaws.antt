-- Typing is right about values: numbers and spans of a kind, and what operators make of them.
use Rattle.std.proofs.Common.{◌≡◌, true, false, cond, refl, sym, subst}
use Rattle.std.specs.Prelude.{IsTrue, int_le, is_some, Some}
use Rattle.ts_base.specs.declared.ext.Ext.{Ext}
use Rattle.ts_base.specs.declared.ext.Ext.TheVariants.{NegInf, Int as Number, PosInf}
use Rattle.ts_base.specs.declared.span.Span.{Span}
use Rattle.ts_base.proofs.Order.{le_refl}
use Rattle.ts_base.proofs.SpanLaws.{lifted_ends}
use Rattle.ts_automaton.specs.declared.kind.RegKind.{RegKind}
use Rattle.ts_automaton.specs.declared.expr.Operator.{Operator}
use Rattle.ts_automaton.specs.declared.expr.Operator.TheVariants.{Fold, Sub}
use Rattle.ts_base.specs.declared.op.Op.TheVariants.{Add, Max, Min}
use Rattle.ts_automaton.specs.Differences.{number_op, span_op}
use Rattle.ts_automaton.specs.Registers.{Values, numbers, spans, ext_op}
use Rattle.ts_automaton.specs.Kinds.{kind_of, is_within, HasKind, SpanHasKind, op_kind, Fits, SpansFit}
pub use Rattle.ts_automaton.proofs.OperatorLaws.{op_mono}
use Rattle.ts_automaton.proofs.OperatorLaws.{difference_mono, difference_ends}
use Rattle.ts_automaton.proofs.Tables.{within_refl, within_trans, narrower, made_kind, within_any, made_within}

-- values of a kind: an operator that takes two kinds takes their values, and makes a value of its kind
pub record TypedValues {A : Type 0} (m : Values A) (Has : RegKind → A → Type 0) (P : Operator → A → A → Type 0) : Type 0 where
  pub constant : (e : Ext) → Has (kind_of e) (m.constant e)
  pub taken : (o : Operator) (j k : RegKind) (a b : A) → IsTrue (is_some (op_kind o j k)) → Has j a → Has k b → P o a b
  pub made : (o : Operator) (j k i : RegKind) (a b : A) → op_kind o j k ≡ Some i → Has j a → Has k b → Has i (m.join o a b)
  pub widened : (j k : RegKind) (a : A) → IsTrue (is_within j k) → Has j a → Has k a

kind_made : (o : Operator) (a b : Ext) → kind_of (number_op o a b) ≡ made_kind o (kind_of a) (kind_of b)
kind_made (Fold Add) NegInf b = refl
kind_made (Fold Add) (Number x) NegInf = refl
kind_made (Fold Add) (Number x) (Number y) = refl
kind_made (Fold Add) (Number x) PosInf = refl
kind_made (Fold Add) PosInf NegInf = refl
kind_made (Fold Add) PosInf (Number y) = refl
kind_made (Fold Add) PosInf PosInf = refl
kind_made (Fold Max) NegInf b = refl
kind_made (Fold Max) (Number x) NegInf = refl
kind_made (Fold Max) (Number x) (Number y) =
    elim (int_le x y) as (λ v. kind_of (cond v (Number y) (Number x)) ≡ kind_of (Number x)) [ true ↦ refl | false ↦ refl ]
kind_made (Fold Max) (Number x) PosInf = refl
kind_made (Fold Max) PosInf NegInf = refl
kind_made (Fold Max) PosInf (Number y) = refl
kind_made (Fold Max) PosInf PosInf = refl
kind_made (Fold Min) NegInf b = refl
kind_made (Fold Min) (Number x) NegInf = refl
kind_made (Fold Min) (Number x) (Number y) =
    elim (int_le x y) as (λ v. kind_of (cond v (Number x) (Number y)) ≡ kind_of (Number x)) [ true ↦ refl | false ↦ refl ]
kind_made (Fold Min) (Number x) PosInf = refl
kind_made (Fold Min) PosInf NegInf = refl
kind_made (Fold Min) PosInf (Number y) = refl
kind_made (Fold Min) PosInf PosInf = refl
kind_made Sub NegInf b = refl
kind_made Sub (Number x) NegInf = refl
kind_made Sub (Number x) (Number y) = refl
kind_made Sub (Number x) PosInf = refl
kind_made Sub PosInf NegInf = refl
kind_made Sub PosInf (Number y) = refl
kind_made Sub PosInf PosInf = refl

made_number : (o : Operator) (j k i : RegKind) (a b : Ext) → op_kind o j k ≡ Some i → HasKind j a → HasKind k b → HasKind i (number_op o a b)
made_number o j k i a b e h g =
    subst (λ l. IsTrue (is_within l i)) (sym (kind_made o a b))
    (subst (λ u. IsTrue (within_any (made_kind o (kind_of a) (kind_of b)) u)) e (made_within o j k (kind_of a) (kind_of b) h g))

pub numbers_typed : TypedValues numbers HasKind Fits
numbers_typed = record {
  constant = λ e. within_refl (kind_of e);
  taken = λ o j k a b t h g. narrower o j k (kind_of a) (kind_of b) t h g;
  made = made_number;
  widened = λ j k a w h. within_trans (kind_of a) j k h w;
}

made_span : (o : Operator) (j k i : RegKind) (s t : Span) → op_kind o j k ≡ Some i → SpanHasKind j s → SpanHasKind k t → SpanHasKind i (span_op o s t)
made_span (Fold o) j k i s t e h g =
    subst (SpanHasKind i) (sym (lifted_ends (ext_op o) s t h.0 g.0))
    (op_mono o s.lo s.hi t.lo t.hi h.0 g.0, made_number (Fold o) j k i s.lo t.lo e h.1 g.1, made_number (Fold o) j k i s.hi t.hi e h.2 g.2)
made_span Sub j k i s t e h g =
    subst (SpanHasKind i) (sym (difference_ends s t h.0 g.0))
    (difference_mono s.lo s.hi t.lo t.hi h.0 g.0, made_number Sub j k i s.lo t.hi e h.1 g.2, made_number Sub j k i s.hi t.lo e h.2 g.1)

taken_spans : (o : Operator) (j k : RegKind) (s t : Span) → IsTrue (is_some (op_kind o j k)) → SpanHasKind j s → SpanHasKind k t → SpansFit o s t
taken_spans (Fold o) j k s t p h g =
    (h.0, g.0, narrower (Fold o) j k (kind_of s.lo) (kind_of t.lo) p h.1 g.1, narrower (Fold o) j k (kind_of s.hi) (kind_of t.hi) p h.2 g.2)
taken_spans Sub j k s t p h g =
    (h.0, g.0, narrower Sub j k (kind_of s.lo) (kind_of t.hi) p h.1 g.2, narrower Sub j k (kind_of s.hi) (kind_of t.lo) p h.2 g.1)

pub spans_typed : TypedValues spans SpanHasKind SpansFit
spans_typed = record {
  constant = λ e. (le_refl e, within_refl (kind_of e), within_refl (kind_of e));
  taken = taken_spans;
  made = made_span;
  widened = λ j k s w h. (h.0, within_trans (kind_of s.lo) j k h.1 w, within_trans (kind_of s.hi) j k h.2 w);
}
