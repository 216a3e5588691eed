-- The hull of several hulls: what it leaves unchanged.
use Rattle.std.proofs.Common.{◌≡◌, Bool, true, false, cond, refl, ap}
use Rattle.ts_base.specs.declared.span.Span.{Span}
use Rattle.ts_base.specs.Numbers.{ext_max, ext_min}
use Rattle.ts_base.specs.Spans.{none_span, has_some, span_hull}
use Rattle.ts_base.proofs.Order.{le_trans, min_left, max_left}
use Rattle.ts_automaton.specs.declared.regs.Hull.{Hull}
use Rattle.ts_automaton.specs.Registers.{each}
use Rattle.ts_hull.specs.Hulls.{hull_of, none, hull_of_both}

-- a span that is no number, or one in its only form: it takes none in unchanged
abbrev pub IsCanonical : Span → Type 0
IsCanonical s = span_hull s none_span ≡ s

pub some_canonical : (s : Span) → has_some s ≡ true → IsCanonical s
some_canonical s h = ap (λ b. cond b s none_span) h

pub hull_canonical : (s t : Span) → IsCanonical (span_hull s t)
hull_canonical s t = go (has_some s) (has_some t) refl refl
  where
    go : (a b : Bool) → has_some s ≡ a → has_some t ≡ b →
        IsCanonical (cond a (cond b (record { lo = ext_min s.lo t.lo; hi = ext_max s.hi t.hi }) s) (cond b t none_span))
    go true true e f =
        some_canonical (record { lo = ext_min s.lo t.lo; hi = ext_max s.hi t.hi })
        (le_trans (ext_min s.lo t.lo) s.lo _ (min_left s.lo t.lo) (le_trans s.lo s.hi _ e (max_left s.hi t.hi)))
    go true false e f = some_canonical s e
    go false true e f = some_canonical t f
    go false false e f = refl

pub same_hull : {c e d f r c' e' d' f' r' : Span} → c ≡ c' → e ≡ e' → d ≡ d' → f ≡ f' → r ≡ r' →
    hull_of (each c e d f r) ≡ hull_of (each c' e' d' f' r')
same_hull p q s t u = cc

-- a hull that joined with none stays as it is
abbrev pub TakesNone : Hull → Type 0
TakesNone h = hull_of_both h none ≡ h

pub both_takes_none : (h k : Hull) → TakesNone (hull_of_both h k)
unfolding hull_of_both
both_takes_none h k =
    same_hull (hull_canonical h.c k.c) (hull_canonical h.e k.e) (hull_canonical h.d k.d) (hull_canonical h.f k.f) (hull_canonical h.r k.r)

pub none_takes_none : TakesNone none
unfolding hull_of_both
none_takes_none = refl
