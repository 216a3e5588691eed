-- Operators of expressions on numbers and on spans: a span holds every result, and single numbers stay single. When two
-- operators are the same.
use Rattle.std.proofs.Common.{◌≡◌, ℤ, ◌+ℤ◌, ◌-ℤ◌, neg_ℤ, Bool, true, false, cond, IsTrue, int_le, refl, ◌∙◌, ◌&&◌, ap, arith}
use Rattle.std.proofs.lemmas.Int.{ints}
use Rattle.ts_base.specs.declared.ext.Ext.{Ext}
use Rattle.ts_base.specs.declared.ext.Ext.TheVariants.{NegInf, Int, PosInf}
use Rattle.ts_base.specs.declared.span.Span.{Span}
use Rattle.ts_base.specs.declared.op.Op.{Op}
use Rattle.ts_base.specs.declared.op.Op.TheVariants.{Add, Max, Min}
use Rattle.ts_base.specs.Numbers.{clamp, ext_le, ext_plus}
use Rattle.ts_base.specs.SpanLayer.{IsWithin}
use Rattle.ts_base.specs.Spans.{none_span, one_span, has_some, Holds}
use Rattle.ts_base.proofs.Order.{le_refl, le_trans}
use Rattle.ts_base.proofs.SpanLaws.{holds_some, one_some, none_empty, lifted_holds, lifted_one, lifted_within, max_mono, min_mono, plus_mono}
use Rattle.ts_automaton.specs.declared.expr.Operator.{Operator}
use Rattle.ts_automaton.specs.declared.expr.Operator.TheVariants.{Fold, Sub}
use Rattle.ts_automaton.specs.Differences.{difference, difference_span, number_op, span_op}
use Rattle.ts_automaton.specs.Formula.{is_same_op}
use Rattle.ts_automaton.specs.Registers.{ext_op}

pub same_op_is : (o p : Op) → is_same_op o p ≡ true → o ≡ p
same_op_is Add Add h = refl
same_op_is Add Max h = cc
same_op_is Add Min h = cc
same_op_is Max Add h = cc
same_op_is Max Max h = refl
same_op_is Max Min h = cc
same_op_is Min Add h = cc
same_op_is Min Max h = cc
same_op_is Min Min h = refl

pub op_mono : (o : Op) (a b c d : Ext) → IsTrue (ext_le a b) → IsTrue (ext_le c d) → IsTrue (ext_le (ext_op o a c) (ext_op o b d))
op_mono Add = plus_mono
op_mono Max = max_mono
op_mono Min = min_mono

clamp_mono : (x y : ℤ) → IsTrue (int_le x y) → IsTrue (int_le (clamp x) (clamp y))
clamp_mono x y p = grind (arith, ints)

-- a difference grows with the first, and falls with the second
pub difference_mono : (a b c d : Ext) → IsTrue (ext_le a b) → IsTrue (ext_le c d) → IsTrue (ext_le (difference a d) (difference b c))
difference_mono NegInf b c d p q = refl
difference_mono (Int x) b c PosInf p q = refl
difference_mono PosInf b c PosInf p q = refl
difference_mono (Int x) (Int y) (Int z) (Int w) p q = clamp_mono (x -ℤ w) (y -ℤ z) (grind (arith, ints))
difference_mono (Int x) (Int y) NegInf (Int w) p q = refl
difference_mono (Int x) (Int y) NegInf NegInf p q = refl
difference_mono (Int x) PosInf (Int z) (Int w) p q = refl
difference_mono (Int x) PosInf NegInf (Int w) p q = refl
difference_mono (Int x) PosInf NegInf NegInf p q = refl
difference_mono PosInf PosInf (Int z) (Int w) p q = refl
difference_mono PosInf PosInf NegInf (Int w) p q = refl
difference_mono PosInf PosInf NegInf NegInf p q = refl
difference_mono (Int x) NegInf c d p q = grind arith
difference_mono PosInf NegInf c d p q = grind arith
difference_mono PosInf (Int y) c d p q = grind arith
difference_mono a b (Int z) NegInf p q = grind arith
difference_mono a b PosInf NegInf p q = grind arith
difference_mono a b PosInf (Int w) p q = grind arith

-- a difference is the sum with the negated second: packed ends have both lower ends negated, so nothing else is computed there
abbrev pub negated : Ext → Ext
negated NegInf = PosInf
negated (Int x) = Int (neg_ℤ x)
negated PosInf = NegInf

pub difference_is_sum : (a b : Ext) → difference a b ≡ ext_plus a (negated b)
difference_is_sum NegInf b = refl
difference_is_sum (Int x) NegInf = refl
difference_is_sum (Int x) (Int y) = let e : x -ℤ y ≡ x +ℤ neg_ℤ y = omega (arith, ints) in ap (λ z. Int (clamp z)) e
difference_is_sum (Int x) PosInf = refl
difference_is_sum PosInf NegInf = refl
difference_is_sum PosInf (Int y) = refl
difference_is_sum PosInf PosInf = refl

pub difference_holds : (s t : Span) (a b : Ext) → Holds s a → Holds t b → Holds (difference_span s t) (difference a b)
difference_holds s t a b h k =
    let i = holds_some s a h in
    let j = holds_some t b k in
    rw (i, j) (difference_mono s.lo a b t.hi h.0 k.1, difference_mono a s.hi t.lo b h.1 k.0)

-- the ends of the difference of two spans that hold a number
pub difference_ends : (s t : Span) → has_some s ≡ true → has_some t ≡ true →
    difference_span s t ≡ record { lo = difference s.lo t.hi; hi = difference s.hi t.lo }
difference_ends s t p q =
    ap (λ v. cond (v && has_some t) (record { lo = difference s.lo t.hi; hi = difference s.hi t.lo }) none_span) p
    ∙ ap (λ v. cond v (record { lo = difference s.lo t.hi; hi = difference s.hi t.lo }) none_span) q

difference_one : (a b : Ext) → difference_span (one_span a) (one_span b) ≡ one_span (difference a b)
difference_one a b = rw (one_some a, one_some b) refl

-- the difference of wider spans is wider
difference_within : (s t u v : Span) → IsWithin s u → IsWithin t v → IsWithin (difference_span s t) (difference_span u v)
difference_within s t u v p q e = go (has_some s) (has_some t) refl refl
  where
    go : (a b : Bool) → has_some s ≡ a → has_some t ≡ b →
        Holds (cond (a && b) (record { lo = difference s.lo t.hi; hi = difference s.hi t.lo }) none_span) e → Holds (difference_span u v) e
    go true true i j h =
        let low = p s.lo (le_refl s.lo, i) in
        let high = p s.hi (i, le_refl s.hi) in
        let second_low = q t.lo (le_refl t.lo, j) in
        let second_high = q t.hi (j, le_refl t.hi) in
        let some = holds_some u s.lo low in
        let second_some = holds_some v t.lo second_low in
        let lower = difference_mono u.lo s.lo t.hi v.hi low.0 second_high.1 in
        let upper = difference_mono s.hi u.hi v.lo t.lo high.1 second_low.0 in
        rw (some, second_some)
        (le_trans (difference u.lo v.hi) (difference s.lo t.hi) e lower h.0, le_trans e (difference s.hi t.lo) (difference u.hi v.lo) h.1 upper)
    go true false i j h = elim (none_empty e h) [ ]
    go false true i j h = elim (none_empty e h) [ ]
    go false false i j h = elim (none_empty e h) [ ]

-- of every operator
pub op_holds : (o : Operator) (s t : Span) (a b : Ext) → Holds s a → Holds t b → Holds (span_op o s t) (number_op o a b)
op_holds (Fold o) s t a b h k = lifted_holds (ext_op o) (op_mono o) s t a b h k
op_holds Sub s t a b h k = difference_holds s t a b h k

pub op_one : (o : Operator) (a b : Ext) → span_op o (one_span a) (one_span b) ≡ one_span (number_op o a b)
op_one (Fold o) a b = lifted_one (ext_op o) a b
op_one Sub a b = difference_one a b

pub op_within : (o : Operator) (s t u v : Span) → IsWithin s u → IsWithin t v → IsWithin (span_op o s t) (span_op o u v)
op_within (Fold o) s t u v p q = lifted_within (ext_op o) (op_mono o) s t u v p q
op_within Sub s t u v p q = difference_within s t u v p q
