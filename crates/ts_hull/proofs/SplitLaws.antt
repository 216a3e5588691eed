-- A split expression is its front, closed by the next cell; and the hull of the closed is the closed hull.
use Rattle.std.proofs.Common.{◌≡◌, ℕ, zero, suc, ◌+◌, ◌*◌, ◌≤◌, Bool, true, false, cond, not, ◌&&◌, ℤ, pos, neg_ℤ, ◌+ℤ◌, ◌≤ℤ◌, refl, sym, ◌∙◌, ap, subst, arith}
use Rattle.std.specs.Prelude.{min, nat_le}
use Rattle.std.proofs.lemmas.Bool.{and_parts, leb-true, not_from_false}
use Rattle.std.proofs.lemmas.Int.{ints, clamps}
use Rattle.ts_base.specs.declared.ext.Ext.{Ext}
use Rattle.ts_base.specs.declared.ext.Ext.TheVariants.{NegInf, Int, PosInf}
use Rattle.ts_base.specs.declared.span.Span.{Span}
use Rattle.ts_base.specs.Numbers.{ext_le, ext_max, ext_min, ext_plus, clamp}
use Rattle.ts_base.specs.Spans.{none_span, one_span, has_some}
use Rattle.ts_base.proofs.Order.{le_refl}
use Rattle.ts_base.proofs.SpanLaws.{one_some}
use Rattle.ts_automaton.specs.declared.expr.Atom.{Atom}
use Rattle.ts_automaton.specs.declared.expr.Atom.TheVariants.{C, E, D, F, R, This, Next, Zero, Unit as UnitAtom, NegInf as LowAtom, PosInf as HighAtom}
use Rattle.ts_automaton.specs.declared.expr.Operator.{Operator}
use Rattle.ts_automaton.specs.declared.expr.Operator.TheVariants.{Fold, Sub}
use Rattle.ts_automaton.specs.Differences.{difference, span_op}
use Rattle.ts_base.specs.declared.op.Op.{Op}
use Rattle.ts_base.specs.declared.op.Op.TheVariants.{Add, Max, Min}
use Rattle.ts_automaton.specs.declared.regs.Hull.{Hull}
use Rattle.ts_automaton.specs.Formula.{Formula, Leaf, Join, is_same_op}
use Rattle.ts_automaton.specs.Registers.{EachOf, map_each, ext_op, spans, spans_of, atom_in, value_in}
use Rattle.ts_automaton.specs.Body.{Move}
use Rattle.ts_automaton.specs.AutomatonRun.{registers_after}
use Rattle.ts_automaton.specs.SpanRun.{none_hull}
use Rattle.ts_automaton.proofs.Five.{five_parts, five_true}
use Rattle.ts_automaton.proofs.OperatorLaws.{op_mono, negated, difference_is_sum, same_op_is}
use Rattle.ts_hull.specs.Hulls.{hull_of, none, hull_of_both}
use Rattle.ts_hull.specs.Sealed.{span_from, least_span, by_ends, less_span, sealed_op, sealed_spans, span_in, some_hull, after_move}
use Rattle.ts_hull.specs.Splits.{is_next_word, is_front, operands, Split, FrontOf, TailOf, ByPairs, is_double, tail_of, split_formula, is_swept, front_span, closed_span}
use Rattle.ts_hull.specs.Cuts.{Cut, cut_of, all_swept, front_hull, closed_hull}
use Rattle.ts_hull.specs.Smalls.{small_int, small, small_span, small_hull}
use Rattle.ts_hull.specs.Sweeps.{total}
use Rattle.ts_hull.proofs.HullLaws.{same_hull}
use Rattle.ts_hull.proofs.SpanHulls.{both_is, max_assoc, min_assoc, lifted_both, lifted_none_left, lifted_none_right, hull_through, hull_neither}

-- sizes in steps of 10^16

abbrev pub IsSized : ℕ → Ext → Type 0
IsSized n NegInf = Unit {0}
IsSized n (Int x) = (neg_ℤ (pos (n * 10000000000000000)) ≤ℤ x) × (x ≤ℤ pos (n * 10000000000000000))
IsSized n PosInf = Unit {0}

held_within : (n : ℕ) (x : ℤ) → IsSized n (Int x) → IsSized n (Int (clamp x))
held_within n x h = (omega (arith, ints, clamps), omega (arith, ints, clamps))

sum_within : (n m : ℕ) (x y : ℤ) → IsSized n (Int x) → IsSized m (Int y) → IsSized (n + m) (Int (x +ℤ y))
sum_within n m x y h k = (omega (arith, ints), omega (arith, ints))

same_within : (n m : ℕ) (x : ℤ) → n ≤ m → IsSized n (Int x) → IsSized m (Int x)
same_within n m x l h = (omega (arith, ints), omega (arith, ints))

held_same : (x : ℤ) → IsSized 10 (Int x) → clamp x ≡ x
held_same x h = omega (arith, ints, clamps)

pub small_within : (x : ℤ) → small_int x ≡ true → IsSized 1 (Int x)
small_within x h = (grind (arith, ints), grind (arith, ints))

ext_more : (n m : ℕ) (e : Ext) → n ≤ m → IsSized n e → IsSized m e
ext_more n m NegInf l h = tt
ext_more n m (Int x) l h = same_within n m x l h
ext_more n m PosInf l h = tt

plus_within : (n m : ℕ) (a b : Ext) → IsSized n a → IsSized m b → IsSized (n + m) (ext_plus a b)
plus_within n m NegInf b h k = tt
plus_within n m (Int x) NegInf h k = tt
plus_within n m (Int x) (Int y) h k = held_within (n + m) (x +ℤ y) (sum_within n m x y h k)
plus_within n m (Int x) PosInf h k = tt
plus_within n m PosInf NegInf h k = tt
plus_within n m PosInf (Int y) h k = tt
plus_within n m PosInf PosInf h k = tt

max_within : (n m : ℕ) (a b : Ext) → IsSized n a → IsSized m b → IsSized (n + m) (ext_max a b)
max_within n m a b h k = elim (ext_le a b) as (λ t. IsSized (n + m) (cond t b a))
    [ true ↦ ext_more m (n + m) b (omega arith) k | false ↦ ext_more n (n + m) a (omega arith) h ]

min_within : (n m : ℕ) (a b : Ext) → IsSized n a → IsSized m b → IsSized (n + m) (ext_min a b)
min_within n m a b h k = elim (ext_le a b) as (λ t. IsSized (n + m) (cond t a b))
    [ true ↦ ext_more n (n + m) a (omega arith) h | false ↦ ext_more m (n + m) b (omega arith) k ]

op_within : (o : Op) (n m : ℕ) (a b : Ext) → IsSized n a → IsSized m b → IsSized (n + m) (ext_op o a b)
op_within Add n m a b h k = plus_within n m a b h k
op_within Max n m a b h k = max_within n m a b h k
op_within Min n m a b h k = min_within n m a b h k

negated_within : (n : ℕ) (e : Ext) → IsSized n e → IsSized n (negated e)
negated_within n NegInf h = tt
negated_within n (Int x) h = (omega (arith, ints), omega (arith, ints))
negated_within n PosInf h = tt

difference_within : (n m : ℕ) (a b : Ext) → IsSized n a → IsSized m b → IsSized (n + m) (difference a b)
difference_within n m a b h k = subst (IsSized (n + m)) (sym (difference_is_sum a b)) (plus_within n m a (negated b) h (negated_within m b k))

abbrev pub SpanSized : ℕ → Span → Type 0
SpanSized n s = IsSized n s.lo × IsSized n s.hi

abbrev pub HullSized : ℕ → Hull → Type 0
HullSized n h = SpanSized n h.c × SpanSized n h.e × SpanSized n h.d × SpanSized n h.f × SpanSized n h.r

lifted_within : (o : Op) (n m : ℕ) (s t : Span) → SpanSized n s → SpanSized m t → SpanSized (n + m) (by_ends (ext_op o) s t)
unfolding by_ends
lifted_within o n m s t h k =
    elim (has_some s && has_some t) as (λ v. SpanSized (n + m) (cond v (span_from (ext_op o s.lo t.lo) (ext_op o s.hi t.hi)) none_span)) [
      | true ↦ (op_within o n m s.lo t.lo h.0 k.0, op_within o n m s.hi t.hi h.1 k.1)
      | false ↦ (tt, tt)
    ]

less_within : (n m : ℕ) (s t : Span) → SpanSized n s → SpanSized m t → SpanSized (n + m) (less_span s t)
unfolding less_span
less_within n m s t h k =
    elim (has_some s && has_some t) as (λ v. SpanSized (n + m) (cond v (span_from (difference s.lo t.hi) (difference s.hi t.lo)) none_span)) [
      | true ↦ (difference_within n m s.lo t.hi h.0 k.1, difference_within n m s.hi t.lo h.1 k.0)
      | false ↦ (tt, tt)
    ]

joined_within : (o : Operator) (n m : ℕ) (s t : Span) → SpanSized n s → SpanSized m t → SpanSized (n + m) (sealed_op o s t)
joined_within (Fold o) n m s t h k = lifted_within o n m s t h k
joined_within Sub n m s t h k = less_within n m s t h k

word_within : (w : Atom) (h : Hull) (x y : ℤ) → HullSized 1 h → IsSized 1 (Int x) → IsSized 1 (Int y) → SpanSized 1 (span_in (Leaf w) h x y)
word_within C h x y a b c = a.0
word_within E h x y a b c = a.1
word_within D h x y a b c = a.2
word_within F h x y a b c = a.3
word_within R h x y a b c = a.4
word_within This h x y a b c = (b, b)
word_within Next h x y a b c = (c, c)
word_within Zero h x y a b c = let k : IsSized 1 (Int (pos 0)) = (omega (arith, ints), omega (arith, ints)) in (k, k)
word_within UnitAtom h x y a b c = let k : IsSized 1 (Int (pos 1)) = (omega (arith, ints), omega (arith, ints)) in (k, k)
word_within LowAtom h x y a b c = (tt, tt)
word_within HighAtom h x y a b c = (tt, tt)

span_same : (n m : ℕ) (s : Span) → n ≡ m → SpanSized n s → SpanSized m s
span_same n m s e h = (ext_more n m s.lo (omega arith) h.0, ext_more n m s.hi (omega arith) h.1)

-- as many steps as operands
eval_within : (e : Formula) (h : Hull) (x y : ℤ) → HullSized 1 h → IsSized 1 (Int x) → IsSized 1 (Int y) → operands e ≤ 10 →
    SpanSized (operands e) (span_in e h x y)
eval_within (Leaf w) h x y a b c d = word_within w h x y a b c
eval_within (Join o e f) h x y a b c d =
    span_same (operands e + operands f) (min (operands e + operands f) 255) (sealed_op o (span_in e h x y) (span_in f h x y)) (omega arith)
    (joined_within o (operands e) (operands f) (span_in e h x y) (span_in f h x y) (eval_within e h x y a b c (omega arith))
    (eval_within f h x y a b c (omega arith)))

-- a sum below the clamp may be taken in any order
plus_regroup : (n m : ℕ) (a b y : Ext) → IsSized n a → IsSized m b → IsSized 1 y → n + m ≤ 9 → ext_plus a (ext_plus b y) ≡ ext_plus (ext_plus a b) y
plus_regroup n m NegInf b y h k l e = refl
plus_regroup n m (Int x) NegInf y h k l e = refl
plus_regroup n m (Int x) (Int z) NegInf h k l e = refl
plus_regroup n m (Int x) (Int z) PosInf h k l e = refl
plus_regroup n m (Int x) PosInf NegInf h k l e = refl
plus_regroup n m (Int x) PosInf (Int w) h k l e = refl
plus_regroup n m (Int x) PosInf PosInf h k l e = refl
plus_regroup n m PosInf NegInf y h k l e = refl
plus_regroup n m PosInf (Int z) NegInf h k l e = refl
plus_regroup n m PosInf (Int z) (Int w) h k l e = refl
plus_regroup n m PosInf (Int z) PosInf h k l e = refl
plus_regroup n m PosInf PosInf NegInf h k l e = refl
plus_regroup n m PosInf PosInf (Int w) h k l e = refl
plus_regroup n m PosInf PosInf PosInf h k l e = refl
plus_regroup n m (Int x) (Int z) (Int w) h k l e = ap Int (numbers n m x z w h k l e)
  where
    numbers : (n m : ℕ) (x z w : ℤ) → IsSized n (Int x) → IsSized m (Int z) → IsSized 1 (Int w) → n + m ≤ 9 →
        clamp (x +ℤ clamp (z +ℤ w)) ≡ clamp (clamp (x +ℤ z) +ℤ w)
    numbers n m x z w h k l e =
        ap (λ t. clamp (x +ℤ t)) (held_same (z +ℤ w) (same_within (m + 1) 10 (z +ℤ w) (omega arith) (sum_within m 1 z w k l)))
        ∙ ap clamp (let r : x +ℤ (z +ℤ w) ≡ (x +ℤ z) +ℤ w = omega (arith, ints) in r)
        ∙ sym (ap (λ t. clamp (t +ℤ w)) (held_same (x +ℤ z) (same_within (n + m) 10 (x +ℤ z) (omega arith) (sum_within n m x z h k))))

op_regroup : (o : Op) (n m : ℕ) (a b y : Ext) → IsSized n a → IsSized m b → IsSized 1 y → n + m ≤ 9 → ext_op o a (ext_op o b y) ≡ ext_op o (ext_op o a b) y
op_regroup Add n m a b y h k l e = plus_regroup n m a b y h k l e
op_regroup Max n m a b y h k l e = sym (max_assoc a b y)
op_regroup Min n m a b y h k l e = sym (min_assoc a b y)

-- the operator before the next cell moves to the fronts
span_regroup : (o : Op) (n m : ℕ) (s t : Span) (y : Ext) → SpanSized n s → SpanSized m t → IsSized 1 y → n + m ≤ 9 →
    by_ends (ext_op o) s (by_ends (ext_op o) t (one_span y)) ≡ by_ends (ext_op o) (by_ends (ext_op o) s t) (one_span y)
span_regroup o n m s t y h k l e = go (has_some s) (has_some t) refl refl
  where
    go : (a b : Bool) → has_some s ≡ a → has_some t ≡ b → by_ends (ext_op o) s (by_ends (ext_op o) t (one_span y)) ≡ by_ends (ext_op o)
        (by_ends (ext_op o) s t) (one_span y)
    go true true p q =
        ap (by_ends (ext_op o) s) (lifted_both (ext_op o) t (one_span y) q (one_some y))
        ∙ lifted_both (ext_op o) s (span_from (ext_op o t.lo y) (ext_op o t.hi y)) p (op_mono o t.lo t.hi y y q (le_refl y))
        ∙ ap (λ z. span_from z (ext_op o s.hi (ext_op o t.hi y))) (op_regroup o n m s.lo t.lo y h.0 k.0 l e)
        ∙ ap (span_from (ext_op o (ext_op o s.lo t.lo) y)) (op_regroup o n m s.hi t.hi y h.1 k.1 l e)
        ∙ sym (ap (λ z. by_ends (ext_op o) z (one_span y)) (lifted_both (ext_op o) s t p q)
        ∙ lifted_both (ext_op o) (span_from (ext_op o s.lo t.lo) (ext_op o s.hi t.hi)) (one_span y) (op_mono o s.lo s.hi t.lo t.hi p q) (one_some y))
    go true false p q =
        ap (by_ends (ext_op o) s) (lifted_none_left (ext_op o) t (one_span y) q) ∙ lifted_none_right (ext_op o) s none_span refl
        ∙ sym (ap (λ z. by_ends (ext_op o) z (one_span y)) (lifted_none_right (ext_op o) s t q) ∙ lifted_none_left (ext_op o) none_span (one_span y) refl)
    go false b p q =
        lifted_none_left (ext_op o) s (by_ends (ext_op o) t (one_span y)) p
        ∙ sym (ap (λ z. by_ends (ext_op o) z (one_span y)) (lifted_none_left (ext_op o) s t p) ∙ lifted_none_left (ext_op o) none_span (one_span y) refl)

-- tests

next_word : (a : Atom) → is_next_word a ≡ true → a ≡ Next
next_word C h = cc
next_word E h = cc
next_word D h = cc
next_word F h = cc
next_word R h = cc
next_word This h = cc
next_word Next h = refl
next_word Zero h = cc
next_word UnitAtom h = cc
next_word LowAtom h = cc
next_word HighAtom h = cc

-- a front doesn't read the next cell
pub front_word : (a : Atom) (h : Hull) (x y : ℤ) → not (is_next_word a) ≡ true → span_in (Leaf a) h x y ≡ span_in (Leaf a) h x (pos 0)
front_word C h x y f = refl
front_word E h x y f = refl
front_word D h x y f = refl
front_word F h x y f = refl
front_word R h x y f = refl
front_word This h x y f = refl
front_word Next h x y f = cc
front_word Zero h x y f = refl
front_word UnitAtom h x y f = refl
front_word LowAtom h x y f = refl
front_word HighAtom h x y f = refl

pub front_same : (e : Formula) (h : Hull) (x y : ℤ) → is_front e ≡ true → span_in e h x y ≡ span_in e h x (pos 0)
front_same (Leaf a) h x y f = front_word a h x y f
front_same (Join o a b) h x y f =
    let both = and_parts (is_front a) (is_front b) f in
    ap (λ z. sealed_op o z (span_in b h x y)) (front_same a h x y both.0) ∙ ap (sealed_op o (span_in a h x (pos 0))) (front_same b h x y both.1)

double_is : (o p : Op) (e f r : Formula) (h : Hull) (x y : ℤ) → HullSized 1 h → IsSized 1 (Int x) → IsSized 1 (Int y) → is_double o p e f r ≡ true →
    span_in (Join (Fold o) e (Join (Fold p) f r)) h x y ≡ by_ends (ext_op o) (span_in (Join (Fold o) e f) h x (pos 0)) (one_span (Int y))
double_is o p e f (Join q g k) h x y a b c d = let s = and_parts (is_same_op o p) false d in cc
double_is o p e f (Leaf w) h x y a b c d =
    let few_and = is_front f && nat_le (operands e + operands f) 7 in
    let s = and_parts (is_same_op o p) (is_next_word w && (is_front e && few_and)) d in
    let n = and_parts (is_next_word w) (is_front e && few_and) s.1 in
    let t = and_parts (is_front e) few_and n.1 in
    let u = and_parts (is_front f) (nat_le (operands e + operands f) 7) t.1 in
    let few : operands e + operands f ≤ 7 = leb-true (operands e + operands f) 7 u.1 in
    ap (λ z. span_in (Join (Fold o) e (Join (Fold p) f (Leaf z))) h x y) (next_word w n.0)
    ∙ ap (λ z. by_ends (ext_op o) (span_in e h x y) (by_ends (ext_op z) (span_in f h x y) (one_span (Int y)))) (sym (same_op_is o p s.0))
    ∙ span_regroup o (operands e) (operands f) (span_in e h x y) (span_in f h x y) (Int y) (eval_within e h x y a b c (omega (arith, few)))
    (eval_within f h x y a b c (omega (arith, few))) c (omega (arith, few))
    ∙ ap (λ z. by_ends (ext_op o) (by_ends (ext_op o) z (span_in f h x y)) (one_span (Int y))) (front_same e h x y t.0)
    ∙ ap (λ z. by_ends (ext_op o) (by_ends (ext_op o) (span_in e h x (pos 0)) z) (one_span (Int y))) (front_same f h x y u.0)

tail_is : (o : Op) (e r : Formula) (h : Hull) (x y : ℤ) → HullSized 1 h → IsSized 1 (Int x) → IsSized 1 (Int y) → is_swept (tail_of o e r) ≡ true →
    span_in (Join (Fold o) e r) h x y ≡ closed_span (tail_of o e r) (front_span (tail_of o e r) h x) y
tail_is o e (Leaf w) h x y a b c d = go (is_next_word w && is_front e) refl d
  where
    go : (t : Bool) → (is_next_word w && is_front e) ≡ t → is_swept (cond t (TailOf o e) ByPairs) ≡ true →
        span_in (Join (Fold o) e (Leaf w)) h x y ≡ closed_span (cond t (TailOf o e) ByPairs) (front_span (cond t (TailOf o e) ByPairs) h x) y
    go true f d =
        let p = and_parts (is_next_word w) (is_front e) f in
        ap (λ z. span_in (Join (Fold o) e (Leaf z)) h x y) (next_word w p.0) ∙ ap (λ z. by_ends (ext_op o) z (one_span (Int y))) (front_same e h x y p.1)
    go false f d = cc
tail_is o e (Join (Fold p) f r) h x y a b c d = go (is_double o p e f r) refl d
  where
    both : Formula
    both = Join (Fold o) e f

    go : (t : Bool) → is_double o p e f r ≡ t → is_swept (cond t (TailOf o both) ByPairs) ≡ true →
        span_in (Join (Fold o) e (Join (Fold p) f r)) h x y
        ≡ closed_span (cond t (TailOf o both) ByPairs) (front_span (cond t (TailOf o both) ByPairs) h x) y
    go true g d = double_is o p e f r h x y a b c g
    go false g d = cc
tail_is o e (Join Sub f r) h x y a b c d = cc

-- the whole expression, if the next cell doesn't stand in it, or else what isn't a front
abbrev IsSplitAs : Formula → Split → Hull → ℤ → ℤ → Type 0
IsSplitAs e p h x y = span_in e h x y ≡ closed_span p (front_span p h x) y

split_is : (e : Formula) (h : Hull) (x y : ℤ) → HullSized 1 h → IsSized 1 (Int x) → IsSized 1 (Int y) → is_swept (split_formula e) ≡ true →
    IsSplitAs e (split_formula e) h x y
split_is (Leaf w) h x y a b c d = go (is_next_word w) refl d
  where
    go : (t : Bool) → is_next_word w ≡ t → is_swept (cond t ByPairs (FrontOf (Leaf w))) ≡ true → IsSplitAs (Leaf w) (cond t ByPairs (FrontOf (Leaf w))) h x y
    go true f d = cc
    go false f d = front_word w h x y (not_from_false (is_next_word w) f)
split_is (Join (Fold o) e r) h x y a b c d = go (is_front e && is_front r) refl d
  where
    whole : Formula
    whole = Join (Fold o) e r

    go : (t : Bool) → (is_front e && is_front r) ≡ t → is_swept (cond t (FrontOf whole) (tail_of o e r)) ≡ true →
        IsSplitAs whole (cond t (FrontOf whole) (tail_of o e r)) h x y
    go true f d = front_same whole h x y f
    go false f d = tail_is o e r h x y a b c d
split_is (Join Sub e r) h x y a b c d = go (is_front e && is_front r) refl d
  where
    whole : Formula
    whole = Join Sub e r

    go : (t : Bool) → (is_front e && is_front r) ≡ t → is_swept (cond t (FrontOf whole) ByPairs) ≡ true →
        IsSplitAs whole (cond t (FrontOf whole) ByPairs) h x y
    go true f d = front_same whole h x y f
    go false f d = cc

-- closing commutes with the hull, and leaves none
closed_through : (p : Split) (s t : Span) (y : ℤ) → closed_span p (least_span s t) y ≡ least_span (closed_span p s y) (closed_span p t y)
closed_through (FrontOf e) s t y = refl
closed_through (TailOf o e) s t y = hull_through (ext_op o) (op_mono o) s t (Int y)
closed_through ByPairs s t y = sym (hull_neither none_span none_span refl refl)

closed_none : (p : Split) (y : ℤ) → closed_span p none_span y ≡ none_span
closed_none (FrontOf e) y = refl
closed_none (TailOf o e) y = lifted_none_left (ext_op o) none_span (one_span (Int y)) refl
closed_none ByPairs y = refl

pub closed_hull_none : (k : Cut) (y : ℤ) → closed_hull k none y ≡ none
unfolding closed_hull
closed_hull_none k y = same_hull (closed_none k.c y) (closed_none k.e y) (closed_none k.d y) (closed_none k.f y) (closed_none k.r y)

pub closed_hull_through : (k : Cut) (h i : Hull) (y : ℤ) → closed_hull k (hull_of_both h i) y ≡ hull_of_both (closed_hull k h y) (closed_hull k i y)
unfolding closed_hull
closed_hull_through k h i y =
    ap (λ z. closed_hull k z y) (both_is h i)
    ∙ same_hull (closed_through k.c h.c i.c y) (closed_through k.e h.e i.e y) (closed_through k.d h.d i.d y) (closed_through k.f h.f i.f y)
    (closed_through k.r h.r i.r y)
    ∙ sym (both_is (closed_hull k h y) (closed_hull k i y))

pub total_closed : (n : ℕ) (k : Cut) (f : ℕ → Hull) (y : ℤ) → total n (λ i. closed_hull k (f i) y) ≡ closed_hull k (total n f) y
unfolding total
total_closed zero k f y = sym (closed_hull_none k y)
total_closed (suc n) k f y = ap (λ z. hull_of_both z (closed_hull k (f n) y)) (total_closed n k f y) ∙ sym (closed_hull_through k (total n f) (f n) y)

-- a move on a hull, by whether registers lie in it

op_same : (o : Operator) (s t : Span) → span_op o s t ≡ sealed_op o s t
unfolding by_ends less_span
op_same (Fold o) s t = refl
op_same Sub s t = refl

word_same : (a : Atom) (s : EachOf Span) (x y : ℤ) → atom_in spans s x y a ≡ atom_in sealed_spans s x y a
word_same C s x y = refl
word_same E s x y = refl
word_same D s x y = refl
word_same F s x y = refl
word_same R s x y = refl
word_same This s x y = refl
word_same Next s x y = refl
word_same Zero s x y = refl
word_same UnitAtom s x y = refl
word_same LowAtom s x y = refl
word_same HighAtom s x y = refl

value_same : (f : Formula) (s : EachOf Span) (x y : ℤ) → value_in spans s x y f ≡ value_in sealed_spans s x y f
value_same (Leaf a) s x y = word_same a s x y
value_same (Join o f g) s x y =
    ap (λ z. span_op o z (value_in spans s x y g)) (value_same f s x y)
    ∙ ap (span_op o (value_in sealed_spans s x y f)) (value_same g s x y)
    ∙ op_same o (value_in sealed_spans s x y f) (value_in sealed_spans s x y g)

-- what the expressions of a move make of a hull
abbrev pub hull_after : Move → Hull → ℤ → ℤ → Hull
hull_after m h x y = hull_of (map_each (λ f. span_in f h x y) m.to)

pub after_is : (m : Move) (h : Hull) (x y : ℤ) (t : Bool) → some_hull h ≡ t → after_move m h x y ≡ cond t (hull_after m h x y) none
unfolding after_move
after_is m h x y true e =
    ap (λ v. hull_of (cond v (registers_after spans (spans_of h) x y m) none_hull)) e
    ∙ same_hull (value_same m.to.c (spans_of h) x y) (value_same m.to.e (spans_of h) x y) (value_same m.to.d (spans_of h) x y)
    (value_same m.to.f (spans_of h) x y) (value_same m.to.r (spans_of h) x y)
after_is m h x y false e = ap (λ v. hull_of (cond v (registers_after spans (spans_of h) x y m) none_hull)) e

-- a swept move is its fronts, closed by the next cell
pub moved_is : (m : Move) (h : Hull) (x y : ℤ) → all_swept (cut_of m) ≡ true → HullSized 1 h → IsSized 1 (Int x) → IsSized 1 (Int y) →
    after_move m h x y ≡ closed_hull (cut_of m) (front_hull (cut_of m) h x) y
unfolding closed_hull front_hull
moved_is m h x y s a b c = go (some_hull h) refl
  where
    begun : Hull
    begun = hull_of (map_each (λ p. front_span p h x) (cut_of m))

    by_case : (t : Bool) → cond t (hull_after m h x y) none ≡ closed_hull (cut_of m) (cond t begun none) y
    by_case true =
        let k = cut_of m in
        let p = five_parts (is_swept k.c) (is_swept k.e) (is_swept k.d) (is_swept k.f) (is_swept k.r) s in
        same_hull (split_is m.to.c h x y a b c p.0) (split_is m.to.e h x y a b c p.1) (split_is m.to.d h x y a b c p.2) (split_is m.to.f h x y a b c p.3)
        (split_is m.to.r h x y a b c p.4)
    by_case false = sym (closed_hull_none (cut_of m) y)

    go : (t : Bool) → some_hull h ≡ t → after_move m h x y ≡ closed_hull (cut_of m) (front_hull (cut_of m) h x) y
    go t e = after_is m h x y t e ∙ by_case t ∙ sym (ap (λ v. closed_hull (cut_of m) (cond v begun none) y) e)

-- the guard
pub ext_small : (e : Ext) → small e ≡ true → IsSized 1 e
ext_small NegInf h = tt
ext_small (Int x) h = small_within x h
ext_small PosInf h = tt

span_small : (s : Span) → small_span s ≡ true → SpanSized 1 s
span_small s h = let p = and_parts (small s.lo) (small s.hi) h in (ext_small s.lo p.0, ext_small s.hi p.1)

-- each span of a small hull is small
abbrev pub AreSmallSpans : Hull → Type 0
AreSmallSpans h =
    (small_span h.c ≡ true) × (small_span h.e ≡ true) × (small_span h.d ≡ true) × (small_span h.f ≡ true) × (small_span h.r ≡ true)

pub small_spans : (h : Hull) → small_hull h ≡ true → AreSmallSpans h
unfolding small_hull
small_spans h e = five_parts (small_span h.c) (small_span h.e) (small_span h.d) (small_span h.f) (small_span h.r) e

pub spans_small : (h : Hull) → AreSmallSpans h → small_hull h ≡ true
unfolding small_hull
spans_small h s = five_true (small_span h.c) (small_span h.e) (small_span h.d) (small_span h.f) (small_span h.r) s.0 s.1 s.2 s.3 s.4

pub hull_small : (h : Hull) → small_hull h ≡ true → HullSized 1 h
hull_small h e =
    let s = small_spans h e in (span_small h.c s.0, span_small h.e s.1, span_small h.d s.2, span_small h.f s.3, span_small h.r s.4)
