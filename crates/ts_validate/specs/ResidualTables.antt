-- The residuals of a plan in a table of expressions.
use Rattle.std.specs.Prelude.{List}
use Rattle.ts_regex.specs.Shape.{Shape}
use Rattle.ts_forms.specs.Tables.{shapes, IsTable, AreThere, forms_at}
use Rattle.ts_validate.specs.declared.residuals.Residuals.{Residuals}

abbrev pub residuals_of : Residuals → List Shape
residuals_of x = forms_at (shapes x.forms) x.numbers.items

-- the table is one, and has each of the residuals
pub record IsSound (x : Residuals) : Type 0 where
  pub table : IsTable x.forms
  pub there : AreThere (shapes x.forms) x.numbers.items
