-- Spans hold the results of what they hold. For crates above: all that is `pub` here.
use Rattle.std.proofs.Common.{◌≡◌, ◌∙◌, ◌&&◌, ◌↔◌, Bool, true, false, cond, IsTrue, ℤ, ◌+ℤ◌, int_le, refl, ap, arith}
use Rattle.std.proofs.lemmas.Bool.{both_ways}
use Rattle.std.proofs.lemmas.Int.{ints}
use Rattle.ts_base.specs.declared.ext.Ext.{Ext}
use Rattle.ts_base.specs.declared.ext.Ext.TheVariants.{NegInf, Int, PosInf}
use Rattle.ts_base.specs.declared.span.Span.{Span}
use Rattle.ts_base.specs.Numbers.{ext_max, ext_min, ext_plus, clamp}
use Rattle.ts_base.specs.Orders.{IsMonotone}
use Rattle.ts_base.specs.Spans.{none_span, one_span, has_some, Holds, end_by_end, span_hull}
use Rattle.ts_base.specs.SpanLayer.{IsWithin, IsEndByEnd, IsLeastHull}
use Rattle.ts_base.proofs.Order.{le_refl, le_trans, max_left, max_right, max_least, min_left, min_right, min_greatest}

-- operations on numbers are monotone
pub max_mono : IsMonotone ext_max
max_mono a b c d p q = max_least a c (ext_max b d) (le_trans a b _ p (max_left b d)) (le_trans c d _ q (max_right b d))

pub min_mono : IsMonotone ext_min
min_mono a b c d p q = min_greatest b d (ext_min a c) (le_trans _ a b (min_left a c) p) (le_trans _ c d (min_right a c) q)

clamp_mono : (x y : ℤ) → IsTrue (int_le x y) → IsTrue (int_le (clamp x) (clamp y))
clamp_mono x y p = grind (arith, ints)

pub plus_mono : IsMonotone ext_plus
plus_mono NegInf b c d p q = refl
plus_mono (Int x) b NegInf d p q = refl
plus_mono PosInf b NegInf d p q = refl
plus_mono (Int x) (Int y) (Int z) (Int w) p q = clamp_mono (x +ℤ z) (y +ℤ w) (grind (arith, ints))
plus_mono (Int x) (Int y) (Int z) PosInf p q = refl
plus_mono (Int x) (Int y) PosInf PosInf p q = refl
plus_mono (Int x) PosInf (Int z) (Int w) p q = refl
plus_mono (Int x) PosInf (Int z) PosInf p q = refl
plus_mono (Int x) PosInf PosInf PosInf p q = refl
plus_mono PosInf PosInf (Int z) (Int w) p q = refl
plus_mono PosInf PosInf (Int z) PosInf p q = refl
plus_mono PosInf PosInf PosInf PosInf p q = refl
plus_mono (Int x) NegInf c d p q = grind arith
plus_mono PosInf NegInf c d p q = grind arith
plus_mono PosInf (Int y) c d p q = grind arith
plus_mono a b (Int z) NegInf p q = grind arith
plus_mono a b PosInf NegInf p q = grind arith
plus_mono a b PosInf (Int w) p q = grind arith

-- what holds a number isn't none
pub holds_some : (s : Span) (e : Ext) → Holds s e → has_some s ≡ true
holds_some s e h = le_trans s.lo e s.hi h.0 h.1

pub one_some : (e : Ext) → has_some (one_span e) ≡ true
one_some e = le_refl e

pub holds_one : (e : Ext) → Holds (one_span e) e
holds_one e = (le_refl e, le_refl e)

-- none where no number is held, and nowhere else
pub none_held : (s : Span) → (has_some s ≡ false) ↔ ((e : Ext) → Holds s e → ⊥)
none_held s = (λ none e h. both_ways (has_some s) none (holds_some s e h), back (has_some s) refl)
  where
    back : (v : Bool) → has_some s ≡ v → ((e : Ext) → Holds s e → ⊥) → v ≡ false
    back true some none = elim (none s.lo (le_refl s.lo, some)) [ ]
    back false some none = refl

pub none_empty : (e : Ext) → Holds none_span e → ⊥
none_empty NegInf h = grind arith
none_empty (Int x) h = grind arith
none_empty PosInf h = grind arith

pub lifted_holds : (op : Ext → Ext → Ext) → IsMonotone op → (s t : Span) (a b : Ext) → Holds s a → Holds t b →
    Holds (end_by_end op s t) (op a b)
lifted_holds op m s t a b h k =
    let i = holds_some s a h in
    let j = holds_some t b k in
    rw (i, j) (m s.lo a t.lo b h.0 k.0, m a s.hi b t.hi h.1 k.1)

-- the ends of what is made of two spans that hold a number
pub lifted_ends : (op : Ext → Ext → Ext) (s t : Span) → has_some s ≡ true → has_some t ≡ true →
    end_by_end op s t ≡ record { lo = op s.lo t.lo; hi = op s.hi t.hi }
lifted_ends op s t p q =
    ap (λ v. cond (v && has_some t) (record { lo = op s.lo t.lo; hi = op s.hi t.hi }) none_span) p
    ∙ ap (λ v. cond v (record { lo = op s.lo t.lo; hi = op s.hi t.hi }) none_span) q

-- single numbers stay single
pub lifted_one : (op : Ext → Ext → Ext) (a b : Ext) → end_by_end op (one_span a) (one_span b) ≡ one_span (op a b)
lifted_one op a b = rw (one_some a, one_some b) refl

pub hull_left : (s t : Span) (e : Ext) → Holds s e → Holds (span_hull s t) e
hull_left s t e h = let i = holds_some s e h in rw i (go (has_some t))
  where
    go : (v : Bool) → Holds (cond v (record { lo = ext_min s.lo t.lo; hi = ext_max s.hi t.hi }) s) e
    go true = (le_trans _ s.lo e (min_left s.lo t.lo) h.0, le_trans e s.hi _ h.1 (max_left s.hi t.hi))
    go false = h

pub hull_right : (s t : Span) (e : Ext) → Holds t e → Holds (span_hull s t) e
hull_right s t e h = let i = holds_some t e h in rw i (go (has_some s))
  where
    go : (v : Bool) → Holds (cond v (record { lo = ext_min s.lo t.lo; hi = ext_max s.hi t.hi }) t) e
    go true = (le_trans _ t.lo e (min_right s.lo t.lo) h.0, le_trans e t.hi _ h.1 (max_right s.hi t.hi))
    go false = h

-- what the hull says of the ends, by whether each operand holds a number
abbrev hull_of : Bool → Bool → Span → Span → Span
hull_of a b s t = cond a (cond b (record { lo = ext_min s.lo t.lo; hi = ext_max s.hi t.hi }) s) (cond b t none_span)

pub hull_least : (s t u : Span) → IsWithin s u → IsWithin t u → IsWithin (span_hull s t) u
hull_least s t u p q e = go (has_some s) (has_some t) refl refl
  where
    go : (a b : Bool) → has_some s ≡ a → has_some t ≡ b → Holds (hull_of a b s t) e → Holds u e
    go true true i j h =
        let low = min_greatest s.lo t.lo u.lo (p s.lo (le_refl s.lo, i)).0 (q t.lo (le_refl t.lo, j)).0 in
        let high = max_least s.hi t.hi u.hi (p s.hi (i, le_refl s.hi)).1 (q t.hi (j, le_refl t.hi)).1 in
        (le_trans u.lo _ e low h.0, le_trans e _ u.hi h.1 high)
    go true false i j h = p e h
    go false true i j h = q e h
    go false false i j h = elim (none_empty e h) [ ]

pub hull_is_least : IsLeastHull span_hull
hull_is_least = record {
  first = hull_left;
  second = hull_right;
  least = hull_least;
  none_first = λ s t i j. rw (i, j) refl;
  none_second = λ s t i j. rw (i, j) refl;
  none_both = λ s t i j. rw (i, j) refl;
}

module _ (op : Ext → Ext → Ext) (m : IsMonotone op) where
  abbrev ends_of : Bool → Bool → Span → Span → Span
  ends_of a b s t = cond (a && b) (record { lo = op s.lo t.lo; hi = op s.hi t.hi }) none_span

  no_second : (a : Bool) (s t : Span) → ends_of a false s t ≡ none_span
  no_second true s t = refl
  no_second false s t = refl

  pub lifted_within : (s t u v : Span) → IsWithin s u → IsWithin t v → IsWithin (end_by_end op s t) (end_by_end op u v)
  lifted_within s t u v p q e = go (has_some s) (has_some t) refl refl
    where
      go : (a b : Bool) → has_some s ≡ a → has_some t ≡ b → Holds (ends_of a b s t) e → Holds (end_by_end op u v) e
      go true true i j h =
          let low = p s.lo (le_refl s.lo, i) in
          let high = p s.hi (i, le_refl s.hi) in
          let second_low = q t.lo (le_refl t.lo, j) in
          let second_high = q t.hi (j, le_refl t.hi) in
          let some = holds_some u s.lo low in
          let second_some = holds_some v t.lo second_low in
          let lower = m u.lo s.lo v.lo t.lo low.0 second_low.0 in
          let upper = m s.hi u.hi t.hi v.hi high.1 second_high.1 in
          rw (some, second_some)
          (le_trans (op u.lo v.lo) (op s.lo t.lo) e lower h.0, le_trans e (op s.hi t.hi) (op u.hi v.hi) h.1 upper)
      go true false i j h = elim (none_empty e h) [ ]
      go false true i j h = elim (none_empty e h) [ ]
      go false false i j h = elim (none_empty e h) [ ]

  pub end_by_end_law : IsEndByEnd op (end_by_end op)
  end_by_end_law = record {
    ends = λ s t i j. rw (i, j) refl;
    some = λ s t i j. rw (i, j) (m s.lo s.hi t.lo t.hi i j);
    none_first = λ s t i. rw i refl;
    none_second = λ s t j. ap (λ v. ends_of (has_some s) v s t) j ∙ no_second (has_some s) s t;
    holds = lifted_holds op m;
    monotone = lifted_within;
  }
