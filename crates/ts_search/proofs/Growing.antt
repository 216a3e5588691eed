-- What a span shows of a requirement on a box, the spans of the boxes inside it show too. The mark `zero` makes 0 of an infinite end, so under it this holds of
-- spans above a bound that is at least 0.
use Rattle.std.proofs.Common.{◌≡◌, ℕ, ℤ, pos, ◌≤ℤ◌, Bool, true, false, cond, List, refl, sym, subst, arith}
use Rattle.std.proofs.lemmas.Int.{ints}
use Rattle.std.specs.Prelude.{IfSome, IsTrue}
use Rattle.ts_base.specs.declared.ext.Ext.{Ext}
use Rattle.ts_base.specs.declared.ext.Ext.TheVariants.{Int as Number, NegInf, PosInf}
use Rattle.ts_base.specs.declared.span.Span.{Span}
use Rattle.ts_base.specs.Numbers.{ext_le}
use Rattle.ts_base.specs.SpanLayer.{IsWithin}
use Rattle.ts_base.specs.Spans.{Holds, has_some, none_span, one_span, span_hull}
use Rattle.ts_base.proofs.Order.{le_antisym, le_refl, le_trans}
use Rattle.ts_base.proofs.SpanLaws.{hull_least, hull_left, holds_one, holds_some, none_empty}
use Rattle.ts_automaton.specs.declared.state.Mark.TheVariants.{Zero}
use Rattle.ts_automaton.specs.AutomatonRun.{under_mark}
use Rattle.ts_automaton.specs.SpanRun.{marked_span}
use Rattle.ts_domain.specs.Boxes.{IsInside}
use Rattle.ts_bound.specs.TermSpans.{Automata, term_span}
use Rattle.ts_bound.proofs.Growth.{term_in_inside}

-- under `zero`, the spans whose numbers all are at least b, which is above 0

abbrev pub from_number : ℤ → Span
from_number b = record { lo = Number b; hi = PosInf }

top : (e : Ext) → IsTrue (ext_le e PosInf)
top NegInf = refl
top (Number x) = refl
top PosInf = refl

unmark : (b : ℤ) (n : ℕ) (e : Ext) → pos 1 ≤ℤ b → IsTrue (ext_le (Number b) (under_mark Zero n e)) → IsTrue (ext_le (Number b) e)
unmark b n NegInf one h = absurd (never b one h)
  where
    never : (b : ℤ) → pos 1 ≤ℤ b → IsTrue (ext_le (Number b) (Number (pos 0))) → ⊥
    never b one h = grind (arith, ints)
unmark b n (Number x) one h = h
unmark b n PosInf one h = h

mark_on : (b : ℤ) (n : ℕ) (e : Ext) → IsTrue (ext_le (Number b) e) → IsTrue (ext_le (Number b) (under_mark Zero n e))
mark_on b n NegInf h = absurd (let z : ◌≡◌ {A = Bool} false true = h in cc)
mark_on b n (Number x) h = h
mark_on b n PosInf h = h

one_in : (e : Ext) (h : Span) → Holds h e → IsWithin (one_span e) h
one_in e h p x q = subst (λ z. Holds h z) (le_antisym e x q.0 q.1) p

zero_keeps : (b : ℤ) → pos 1 ≤ℤ b → (n : ℕ) (s t : Span) → IsWithin s t → IsWithin (marked_span Zero n t) (from_number b) →
    IsWithin (marked_span Zero n s) (from_number b)
zero_keeps b one n s t w all = go (has_some s) refl
  where
    f : Ext → Ext
    f = under_mark Zero n

    -- the lower end of the larger span is at least b
    low : has_some t ≡ true → IsTrue (ext_le (Number b) t.lo)
    low some =
        unmark b n t.lo one
        (all (f t.lo) (subst (λ z. Holds (cond z (span_hull (one_span (f t.lo)) (one_span (f t.hi))) none_span) (f t.lo)) (sym some)
        (hull_left (one_span (f t.lo)) (one_span (f t.hi)) (f t.lo) (holds_one (f t.lo))))).0

    end : (e : Ext) → Holds s e → Holds (from_number b) (f e)
    end e p =
        let q = w e p in
        (mark_on b n e (le_trans (Number b) t.lo e (low (holds_some t e q)) q.0), top (f e))

    go : (v : Bool) → has_some s ≡ v → IsWithin (cond v (span_hull (one_span (f s.lo)) (one_span (f s.hi))) none_span) (from_number b)
    go true i =
        hull_least (one_span (f s.lo)) (one_span (f s.hi)) (from_number b)
        (one_in (f s.lo) (from_number b) (end s.lo (le_refl s.lo, i)))
        (one_in (f s.hi) (from_number b) (end s.hi (i, le_refl s.hi)))
    go false i = λ e p. absurd (none_empty e p)

pub above_inside : (b : ℤ) → pos 1 ≤ℤ b → (m : Automata) → m.forward.mark ≡ Zero → IfSome m.pair (λ p. p.forward ≡ m.forward) →
    (cells wider : List (List ℤ)) → IsInside cells wider → (k : ℕ) → IsWithin (term_span m k wider) (from_number b) →
    IsWithin (term_span m k cells) (from_number b)
above_inside b one m is pair cells wider a k all = term_in_inside Zero (from_number b) (zero_keeps b one) m is pair cells wider a k all
