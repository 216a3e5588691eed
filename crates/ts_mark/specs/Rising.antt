-- Ranges that rise in both ends, as the occurrences of a pattern do.
use Rattle.std.specs.Prelude.{◌<◌, List, [], ◌∷◌}
use Rattle.ts_base.specs.declared.range.Range.{Range}

abbrev pub RiseAfter : Range → List Range → Type 0
RiseAfter r [] = Unit {0}
RiseAfter r (s ∷ ss) = (r.first < s.first) × (r.last < s.last) × RiseAfter s ss

-- each begins and ends after the one before
abbrev pub AreRising : List Range → Type 0
AreRising [] = Unit {0}
AreRising (r ∷ rs) = RiseAfter r rs
