-- The expressions of a move, each split.
use Rattle.std.specs.Prelude.{Bool, cond, ℤ}
use Rattle.ts_automaton.specs.declared.regs.Hull.{Hull}
use Rattle.ts_automaton.specs.Body.{Move}
use Rattle.ts_automaton.specs.Registers.{EachOf, map_each}
use Rattle.ts_automaton.specs.Typing.{each_is}
use Rattle.ts_hull.specs.Hulls.{hull_of, none}
use Rattle.ts_hull.specs.Sealed.{hull_with, some_hull}
use Rattle.ts_hull.specs.Splits.{Split, FrontOf, is_front, split_formula, is_swept, is_whole, front_span, closed_span}

-- a split for each register
abbrev pub Cut : Type 0
Cut = EachOf Split

abbrev pub cut_of : Move → Cut
cut_of m = map_each split_formula m.to

abbrev pub all_swept : Cut → Bool
all_swept k = each_is is_swept k

abbrev pub all_whole : Cut → Bool
all_whole k = each_is is_whole k

-- the next cell stands in no expression of a move, which is then split so
abbrev pub is_front_move : Move → Bool
is_front_move m = each_is is_front m.to

abbrev pub whole_cut : Move → Cut
whole_cut m = map_each FrontOf m.to

-- the fronts on a hull, and what the next cell y makes of the hull of fronts
unfoldable pub front_hull : Cut → Hull → ℤ → Hull
front_hull k h x = cond (some_hull h) (hull_of (map_each (λ p. front_span p h x) k)) none

unfoldable pub closed_hull : Cut → Hull → ℤ → Hull
closed_hull k h y =
    hull_with (closed_span k.c h.c y) (closed_span k.e h.e y) (closed_span k.d h.d y) (closed_span k.f h.f y)
    (closed_span k.r h.r y)
