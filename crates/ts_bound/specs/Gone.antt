-- Values that a cell has lost.
use Rattle.std.specs.Prelude.{◌≡◌, ℤ, List, Option, None, Some}
use Rattle.std.specs.List.{remove_range}
use Rattle.ts_bound.specs.declared.gone.Gone.{Gone}

-- the values that are there now are the earlier ones without those that are gone; where it isn't known which are gone,
-- nothing is said
abbrev pub AreLost : Option Gone → List ℤ → List ℤ → Type 0
AreLost None before now = Unit {0}
AreLost (Some g) before now = now ≡ remove_range before g.from g.to
