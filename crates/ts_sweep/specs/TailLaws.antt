-- The laws of tails.
-- Lemmas, no definitions: they are here since ghost members of impls cite them.
use Rattle.std.proofs.Common.{◌≡◌, ℕ, ◌+◌, ◌≤◌, ℤ, pos, neg_ℤ, Bool, true, false, sym, subst, arith}
use Rattle.std.specs.Int.{int_max}
use Rattle.std.proofs.lemmas.Int.{ints}
use Rattle.ts_base.specs.declared.ext.Ext.TheVariants.{Int}
use Rattle.ts_base.specs.declared.span.Span.{Span}
use Rattle.ts_base.specs.Spans.{one_span}
use Rattle.ts_base.specs.declared.op.Op.{Op}
use Rattle.ts_automaton.specs.declared.expr.Operator.{Operator}
use Rattle.ts_automaton.specs.declared.expr.Operator.TheVariants.{Fold}
use Rattle.ts_automaton.specs.Registers.{ext_op}
use Rattle.ts_hull.specs.Sealed.{by_ends, sealed_op}
use Rattle.ts_sweep.specs.declared.packed.Ends.{Ends}
use Rattle.ts_sweep.specs.Small.{IsSmall}
use Rattle.ts_sweep.specs.Fronts.{Serves}
use Rattle.ts_sweep.specs.FrontLaws.{small_number, number_ends_of, number_within}
use Rattle.ts_sweep.specs.Packed.{ends, IsWithin, AreWithin, max_ends}
use Rattle.ts_sweep.specs.Sides.{Sides, BothEnds, UpperEnds, LowerEnds, IsEndsOf, read_ends}

max_same : (i : ℕ) (x y : ℤ) → IsWithin i x → IsWithin i y → IsWithin i (int_max x y)
max_same i x y h k =
    let a = h.0 in let b = h.1 in let c = k.0 in let d = k.1 in (grind (arith, ints), grind (arith, ints))

pub tail_both : (a b : Ends) → AreWithin 9 a → AreWithin 9 b → AreWithin 9 (max_ends a b)
tail_both a b p q = (max_same 9 a.below b.below p.0 q.0, max_same 9 a.above b.above p.1 q.1)

wider : (i : ℕ) (x : ℤ) → i ≤ 9 → IsWithin i x → IsWithin 9 x
wider i x le h = let a = h.0 in let b = h.1 in (omega (arith, ints, le, a), omega (arith, ints, le, b))

pub ends_wider : (i : ℕ) (e : Ends) → i ≤ 9 → AreWithin i e → AreWithin 9 e
ends_wider i e le h = (wider i e.below le h.0, wider i e.above le h.1)

pub tail_front : (adds : Bool) (i : ℕ) (F : Bool → Type 0) (e : Ends) → (i ≤ 9 → F true → AreWithin i e) → i ≤ 9 →
    F adds → adds ≡ true → AreWithin 9 e
tail_front adds i F e within le h added = ends_wider i e le (within le (subst F added h))

pub tail_loose : (adds : Bool) (F : Bool → Type 0) → (F true → F false) → F adds → F false
tail_loose true F l h = l h
tail_loose false F l h = h

pub tail_packs : (s : Sides) (adds : Bool) (joined : Ends → Ends → Ends) (op : Operator) (fold : Op) (e : Ends)
    (t : Span)
    (y : ℤ) → op ≡ Fold fold →
    ((s : Sides) (i j : ℕ) (a b : Ends) (t u : Span) → Serves s op → i + j ≤ 10 →
    (adds ≡ true → AreWithin i a × AreWithin j b) → IsEndsOf s a t → IsEndsOf s b u →
    IsEndsOf s (joined a b) (sealed_op op t u)) → IsEndsOf s e t → (adds ≡ true → AreWithin 9 e) → IsSmall y →
    IsEndsOf s (joined e (ends (neg_ℤ y) y)) (by_ends (ext_op fold) t (one_span (Int y)))
tail_packs s adds joined op fold e t y is packs p h small =
    subst (λ o. IsEndsOf s (joined e (ends (neg_ℤ y) y)) (sealed_op o t (one_span (Int y)))) is
    (packs s 9 1 e (ends (neg_ℤ y) y) t (one_span (Int y)) (subst (Serves s) (sym is) tt) (omega arith)
    (λ added. (h added, number_within y (small_number y small))) p
    (number_ends_of s y (small_number y small)))

-- ends that may be closed may be so as they are read

no_within : IsWithin 9 (pos 0)
no_within = (grind (arith, ints), grind (arith, ints))

pub tail_read : (s : Sides) (e : Ends) → AreWithin 9 e → AreWithin 9 (read_ends s e)
tail_read BothEnds e h = h
tail_read UpperEnds e h = (no_within, h.1)
tail_read LowerEnds e h = (h.0, no_within)
