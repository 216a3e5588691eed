-- Expressions in strictly rising order.
use Rattle.std.specs.Prelude.{◌≡◌, List, [], ◌∷◌}
use Rattle.std.specs.declared.cmp.Ordering.TheVariants.{Less as Before}
use Rattle.ts_regex.specs.Shape.{Shape}
use Rattle.ts_regex.specs.NormalForm.{shape_cmp}

-- each comes before the next
abbrev pub AreRising : List Shape → Type 0
AreRising [] = Unit {0}
AreRising (r ∷ []) = Unit {0}
AreRising (r ∷ s ∷ ss) = (shape_cmp r s ≡ Before) × AreRising (s ∷ ss)
