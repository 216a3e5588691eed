-- The program of a model: the machine of each of its terms, over the cells that the term looks at, in the order of the
-- text.
use Rattle.std.specs.Prelude.{◌≡◌, List, map, Option, None}
use Rattle.std.specs.List.{AllByRecursion}
use Rattle.ts_base.specs.declared.range.Range.{Range}
use Rattle.ts_pattern.specs.declared.term.Term.{Term}
use Rattle.ts_glue.specs.declared.machine.Machine.{Machine}
use Rattle.ts_glue.specs.Machines.{window_of}
use Rattle.ts_model.specs.declared.model.Model.{Model}
use Rattle.ts_model.specs.Views.{terms_in}
use Rattle.ts_compile.specs.declared.program.Program.{Program}

abbrev pub machines_of : Program → List Machine
machines_of p = p.machines.items

abbrev pub terms_of : Model → List Term
terms_of m = map (λ e. e.1.term) (terms_in m)

abbrev pub windows_of : Model → List (Option Range)
windows_of m = map (λ e. e.1.window) (terms_in m)

-- the terms are those of the model, and the machines have their windows; that the machines are those of the terms is
-- kept by the type
pub record IsProgramOf (p : Program) (m : Model) : Type 0 where
  pub terms : p.terms.items ≡ terms_of m
  pub windows : map window_of (machines_of p) ≡ windows_of m

-- no machine has a window
abbrev pub LooksAtAll : Program → Type 0
LooksAtAll p = AllByRecursion (λ m. window_of m ≡ None) (machines_of p)
