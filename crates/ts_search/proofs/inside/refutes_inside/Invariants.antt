use Rattle.ts_model.specs.Views.{model_parts}
use Rattle.ts_spans.specs.Machines.{automata_in}
use Rattle.ts_search.proofs.Narrower.{ShowUpTo}
use Rattle.ts_search.proofs.inside.refutes_inside.Given as goal

-- the requirements so far show it
abbrev pub invariant-loop-i : goal.invariant-loop-i
invariant-loop-i l = ShowUpTo (automata_in (model_parts l.problem.model.now)) l.problem.model.now.requirements.items l.i
