-- What a machine of a term answers over the cells that the term looks at.
use Rattle.std.proofs.Common.{◌≡◌, false, None, List, [], ◌∷◌, map, ◌∙◌, arith, String, Global}
use Rattle.std.specs.List.{AllByRecursion}
use Rattle.ts_base.specs.Limits.{IsCellValue}
use Rattle.ts_base.proofs.WindowLaws.{each_looked, few_looked, some_looked}
use Rattle.ts_automaton.specs.Body.{Body}
use Rattle.ts_glue.specs.declared.machine.Machine.{Machine}
use Rattle.ts_glue.specs.Machines.{window_of}
use Rattle.ts_glue.specs.Pairs.{Pair}
use Rattle.ts_model.specs.declared.model.Model.{Model}
use Rattle.ts_model.specs.declared.model.ModelTerm.{ModelTerm}
use Rattle.ts_model.specs.TermValue.{has_window}
use Rattle.ts_model.specs.Views.{model_parts, terms_in}
use Rattle.ts_model.proofs.TermWindows.{any_window, none_windowed}
use Rattle.ts_compile.specs.declared.program.Program.{Program}
use Rattle.ts_compile.specs.Programs.{IsProgramOf, LooksAtAll, machines_of}
use Rattle.ts_compile.specs.Compiled.{AnswersOver, AnswersTerm, GluesOver, GluesTerm}

pub answers_over : (b : Body) (t : ModelTerm) → AnswersTerm b t.term → AnswersOver b t
answers_over b t h xs some few inside cells =
    let fewer = few_looked t.window xs inside in
    h _ (some_looked t.window xs some inside) (omega (arith, fewer, few)) (each_looked IsCellValue t.window xs cells)

pub glues_over : (p : Pair) (t : ModelTerm) → GluesTerm p t.term → GluesOver p t
glues_over p t h xs few inside cells k from to =
    let fewer = few_looked t.window xs inside in
    h _ (omega (arith, fewer, few)) (each_looked IsCellValue t.window xs cells) k from to

-- where no term has a window, no machine has one

windows_none : (ms : List Machine) (es : List (String Global × ModelTerm)) → map window_of ms ≡ map (λ e. e.1.window) es → any_window es ≡ false →
    AllByRecursion (λ m. window_of m ≡ None) ms
windows_none [] es e none = tt
windows_none (m ∷ ms) [] e none = cc
windows_none (m ∷ ms) (x ∷ es) e none =
    let first : window_of m ≡ x.1.window = cc in
    let rest : map window_of ms ≡ map (λ e. e.1.window) es = cc in
    let whole = none_windowed x es none in
    (first ∙ whole.0, windows_none ms es rest whole.1)

pub looks_at_all : (p : Program) (m : Model) → IsProgramOf p m → has_window (model_parts m) ≡ false → LooksAtAll p
looks_at_all p m is none = windows_none (machines_of p) (terms_in m) is.windows none
