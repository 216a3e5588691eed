-- The hull that lanes stand for, by the ends of its registers.
use Rattle.std.proofs.Common.{◌≡◌, Bool, true, false, cond, ℤ, pos, List, length, refl, ◌∙◌}
use Rattle.ts_base.specs.declared.ext.Ext.TheVariants.{Int}
use Rattle.ts_base.specs.declared.span.Span.{Span}
use Rattle.ts_base.specs.Spans.{has_some, none_span, one_span}
use Rattle.ts_automaton.specs.declared.regs.Hull.{Hull}
use Rattle.ts_hull.specs.Sealed.{hull_with}
use Rattle.ts_hull.proofs.HullLaws.{same_hull}
use Rattle.ts_sweep.specs.declared.packed.Name.{Name}
use Rattle.ts_sweep.specs.declared.packed.Name.TheVariants.{C, E, D, F, R}
use Rattle.ts_sweep.specs.Packed.{ends_span, ends_in, is_wide, place_in, span_in_lanes, name_ends, hull_by, unpacked}

-- the span between the ends of a register
abbrev pub between_ends : List ℤ → Name → Span
between_ends xs name = ends_span (name_ends xs name)

abbrev SpanIs : Bool → List ℤ → Name → Type 0
SpanIs wide xs name = ends_span (ends_in xs (place_in wide name)) ≡ span_in_lanes xs (place_in wide name)

wide_e : (wide : Bool) (xs : List ℤ) → wide ≡ true → SpanIs wide xs E
wide_e true xs h = refl
wide_e false xs h = cc

wide_f : (wide : Bool) (xs : List ℤ) → wide ≡ true → SpanIs wide xs F
wide_f true xs h = refl
wide_f false xs h = cc

pub wide_unpacked : (xs : List ℤ) (h : Hull) → is_wide (length xs) ≡ true → h ≡ hull_by (between_ends xs) → h ≡ unpacked xs
unfolding unpacked
wide_unpacked xs h wide is =
    is ∙ same_hull {c = between_ends xs C} {d = between_ends xs D} {r = between_ends xs R} refl (wide_e (is_wide (length xs)) xs wide) refl
    (wide_f (is_wide (length xs)) xs wide) refl

abbrev pub at_rest : Span → Span
at_rest c = cond (has_some c) (one_span (Int (pos 0))) none_span

narrow_e : (wide : Bool) (xs : List ℤ) → wide ≡ false → at_rest (between_ends xs C) ≡ span_in_lanes xs (place_in wide E)
narrow_e true xs h = cc
narrow_e false xs h = refl

narrow_f : (wide : Bool) (xs : List ℤ) → wide ≡ false → at_rest (between_ends xs C) ≡ span_in_lanes xs (place_in wide F)
narrow_f true xs h = cc
narrow_f false xs h = refl

pub narrow_unpacked : (xs : List ℤ) (h : Hull) → is_wide (length xs) ≡ false →
    h ≡ hull_with (between_ends xs C) (at_rest (between_ends xs C)) (between_ends xs D) (at_rest (between_ends xs C)) (between_ends xs R) → h ≡ unpacked xs
unfolding unpacked
narrow_unpacked xs h narrow is =
    is ∙ same_hull {c = between_ends xs C} {d = between_ends xs D} {r = between_ends xs R} refl (narrow_e (is_wide (length xs)) xs narrow) refl
    (narrow_f (is_wide (length xs)) xs narrow) refl
