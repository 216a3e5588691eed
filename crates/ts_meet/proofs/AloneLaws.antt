-- A span that is taken into nothing is the whole hull.
use Rattle.std.proofs.Common.{◌≡◌, ℕ, Bool, true, false, cond, refl}
use Rattle.ts_base.specs.declared.span.Span.{Span}
use Rattle.ts_base.specs.Spans.{has_some, none_span, one_span, span_hull}
use Rattle.ts_automaton.specs.AutomatonRun.{under_mark}
use Rattle.ts_automaton.specs.SpanRun.{marked_span}
use Rattle.ts_automaton.specs.declared.state.Mark.{Mark}
use Rattle.ts_hull.proofs.HullLaws.{hull_canonical}

pub marked_alone : (k : Mark) (n : ℕ) (s : Span) → span_hull none_span (marked_span k n s) ≡ marked_span k n s
marked_alone k n s = go (has_some s)
  where
    both : Span
    both = span_hull (one_span (under_mark k n s.lo)) (one_span (under_mark k n s.hi))

    go : (b : Bool) → span_hull none_span (cond b both none_span) ≡ cond b both none_span
    go true = hull_canonical (one_span (under_mark k n s.lo)) (one_span (under_mark k n s.hi))
    go false = refl
