-- What operators make of ends.
use Rattle.std.specs.Prelude.{◌+ℤ◌}
use Rattle.std.specs.Int.{int_max, int_min}
use Rattle.ts_sweep.specs.declared.packed.Ends.{Ends}
use Rattle.ts_sweep.specs.Packed.{ends}

abbrev pub sum_of_ends : Ends → Ends → Ends
sum_of_ends a b = ends (a.below +ℤ b.below) (a.above +ℤ b.above)

-- the ends of what is taken away: its lower end is the negated upper one
abbrev pub crossed : Ends → Ends
crossed e = ends e.above e.below

abbrev pub greater_of_ends : Ends → Ends → Ends
greater_of_ends a b = ends (int_min a.below b.below) (int_max a.above b.above)

abbrev pub lesser_of_ends : Ends → Ends → Ends
lesser_of_ends a b = ends (int_max a.below b.below) (int_min a.above b.above)
