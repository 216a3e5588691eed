-- A span as far as what is asked of it needs.
use Rattle.std.specs.Prelude.{◌≡◌, ◌≤ℤ◌, MatchOption, Option, None, Some}
use Rattle.ts_base.specs.declared.span.Span.{Span}
use Rattle.ts_sweep.specs.declared.packed.Ends.{Ends}
use Rattle.ts_sweep.specs.Packed.{IsPackOf}
use Rattle.ts_base.specs.SpanLayer.{IsWithin}
use Rattle.ts_meet.specs.Sides.{StandFor}

-- the answer to a question: the whole span, which doesn't have what is asked; none where that has it
abbrev pub IsAnswer : (Span → Type 0) → Span → Option Span → Type 0
IsAnswer Excluded whole None = Excluded whole → ⊥
IsAnswer Excluded whole (Some s) = (s ≡ whole) × Excluded whole

-- the ends of the span, in lanes, are those given or farther out
pub record Reaches (given : Ends) (s : Span) : Type 0 where
  pub ends : Ends
  pub packs : IsPackOf ends s
  pub below : given.below ≤ℤ ends.below
  pub above : given.above ≤ℤ ends.above

-- a span that reaches these ends has what is asked
abbrev pub AreEnough : (Span → Type 0) → Ends → Type 0
AreEnough Excluded given = (s : Span) → Reaches given s → Excluded s → ⊥

-- ends that stand for the whole hull; none where some are given, and a part of it reaches them
abbrev pub IsHullUntil : Option Ends → Span → Option Ends → Type 0
IsHullUntil enough whole None = MatchOption enough ⊥ (λ given. (part : Span) × IsWithin part whole × Reaches given part)
IsHullUntil enough whole (Some e) = StandFor e whole
