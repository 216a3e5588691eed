-- What every model that was read keeps: its numbers of cells and terms exist, and the limits of its need.
use Rattle.std.specs.Prelude.{◌≡◌, ◌<◌, ◌≤◌, true, length, IfSome, IsSome}
use Rattle.std.specs.List.{AllByRecursion}
use Rattle.ts_base.specs.Windows.{LooksInside}
use Rattle.ts_base.specs.Limits.{most_cells, most_domain_values, most_requirements, most_terms}
use Rattle.ts_domain.specs.BoxSeries.{IsBox}
use Rattle.ts_model.specs.declared.model.Need.{Need}
use Rattle.ts_model.specs.ModelParts.{ModelParts, is_bound, total_of}
use Rattle.ts_model.specs.ModelReading.{needs_lists, needs_objective}

-- there are 1 to 512 cells, each term that is named by its number stands, and each window lies in the cells
pub record IsWhole (m : ModelParts) : Type 0 where
  pub some : 1 ≤ length m.cells
  pub few : length m.cells ≤ most_cells
  pub windows : AllByRecursion (λ t. LooksInside (length m.cells) t.1.window) m.terms
  pub requirements : AllByRecursion (λ r. r.term < length m.terms) m.requirements
  pub objective : IfSome m.objective (λ t. t < length m.terms)

-- each cell has a non-empty set of values from -1,000,000 to 1,000,000, and the other limits of the need are kept
pub record KeepsLimits (need : Need) (m : ModelParts) : Type 0 where
  pub box : IsBox m.cells
  pub total : needs_lists need ≡ true → total_of m.cells ≤ most_domain_values
  pub terms : length m.terms ≤ most_terms
  pub requirements : length m.requirements ≤ most_requirements
  pub bounds : AllByRecursion (λ r. is_bound r.bound ≡ true) m.requirements
  pub objective : needs_objective need ≡ true → IsSome m.objective
