use Rattle.std.proofs.Common.{◌≡◌, ◌∙◌, ap, map}
use Rattle.std.proofs.lemmas.Result.{IfOk-weaker}
use Rattle.ts_bound.specs.TermSpans.{automata_of}
use Rattle.ts_model.specs.Views.{model_parts}
use Rattle.ts_spans.specs.Machines.{automata_in}
use Rattle.ts_spans.proofs.OfProgram.{machines_are}
use Rattle.ts_search.proofs.problem.tables_of.Goals as goal

-- the machines of the program are those of the model's terms
pub returns : goal.returns
returns c =
    IfOk-weaker c.new.result (λ t. t.machines ≡ map automata_of c.machines.result.now) (λ t. t.machines ≡ automata_in (model_parts c.args.m.now))
    (λ t h. h ∙ ap (map automata_of) c.machines.ensures ∙ machines_are c.args.p.now c.args.m.now c.requires) c.new.ensures
