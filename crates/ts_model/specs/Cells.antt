-- The domains of the cells while lines are read, as rising lists, and what is kept beside them.
use Rattle.std.specs.Prelude.{◌≡◌, ℕ, ◌+◌, ◌-◌, ◌≤◌, ℤ, Bool, true, false, ◌&&◌, List, [], map, if◌then◌else◌, nat_lt, get_or, length, Option, Some, None, Result, Ok, Err}
use Rattle.std.specs.List.{AllByRecursion}
use Rattle.ts_base.specs.Limits.{most_cells, most_domain_values}
use Rattle.ts_model.specs.declared.cells.Own.{Own}
use Rattle.ts_model.specs.declared.cells.Cells.{Cells}
use Rattle.ts_model.specs.declared.error.ModelKind.{ModelKind}
use Rattle.ts_model.specs.declared.error.ModelKind.TheVariants.{Limit}
use Rattle.ts_model.specs.ModelParts.{total_of}

-- the domain of a cell: its own one if it was set after the common one
abbrev pub in_force : ℕ → List ℤ → Option Own → List ℤ
in_force turn common None = common
in_force turn common (Some own) = if nat_lt turn own.turn then own.domain else common

abbrev pub domains : Cells → List (List ℤ)
domains c = map (in_force c.common_turn c.common) c.own.items

-- the cells, if all domains together keep their limit
abbrev pub within_total : Bool → List (List ℤ) → Result (List (List ℤ)) ModelKind
within_total limited cells = if limited && nat_lt most_domain_values (total_of cells) then Err Limit else Ok cells

-- how many values all domains have, where the one at a place has this many from now on
abbrev pub total_set : List (List ℤ) → ℕ → ℕ → ℕ
total_set cells place size = total_of cells - length (get_or cells place []) + size

-- the total is this number, where it has a limit
abbrev pub IsTotal : Bool → ℕ → ℕ → Type 0
IsTotal false total n = Unit {0}
IsTotal true total n = (total ≡ n) × (total ≤ most_domain_values)

-- it was set at this turn or before
abbrev pub IsOlder : ℕ → Option Own → Type 0
IsOlder turn None = Unit {0}
IsOlder turn (Some own) = own.turn ≤ turn

-- what is kept beside the domains
pub record IsKept (c : Cells) : Type 0 where
  pub total : IsTotal c.limited c.total (total_of (domains c))
  pub own : AllByRecursion (IsOlder c.turn) c.own.items
  pub common : c.common_turn ≤ c.turn
  pub few : length c.own.items ≤ most_cells
