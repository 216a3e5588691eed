-- The tables of a program's machines are those of the model's terms.
use Rattle.std.proofs.Common.{◌≡◌, List, map, ◌∙◌, ap}
use Rattle.ts_bound.specs.TermSpans.{Automata, automata_of}
use Rattle.ts_glue.specs.declared.machine.Machine.{Machine}
use Rattle.ts_model.specs.declared.model.Model.{Model}
use Rattle.ts_model.specs.Promise.{IsWhole}
use Rattle.ts_model.specs.Views.{model_parts}
use Rattle.ts_compile.specs.declared.program.Program.{Program}
use Rattle.ts_compile.specs.Programs.{IsProgramOf, machines_of}
use Rattle.ts_spans.proofs.OfProgram.{machines_are}
use Rattle.ts_checker.specs.Subjects.{AreTables}

pub tables_are : (tables : List Automata) (machines : List Machine) (p : Program) (m : Model) → tables ≡ map automata_of machines →
    machines ≡ machines_of p → IsProgramOf p m → IsWhole (model_parts m) → AreTables (model_parts m) tables
tables_are tables machines p m is given program whole = record {
  machines = is ∙ ap (map automata_of) given ∙ machines_are p m program;
  whole = whole;
}
