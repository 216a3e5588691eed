use Rattle.ts_model.specs.Views.{model_parts}
use Rattle.ts_spans.specs.Machines.{spans_in}
use Rattle.ts_checker.specs.Standings.{stand_of}
use Rattle.ts_checker.proofs.LineSteps.{as_tree, may_as_tree}
use Rattle.ts_checker.proofs.lines.keeps_line.Goals as goal

pub returns-in-Tree-clause-keeps : goal.returns-in-Tree-clause-keeps
returns-in-Tree-clause-keeps c =
    as_tree (model_parts c.args.model.now) (spans_in (model_parts c.args.model.now)) (stand_of c.args.standing.now) c.args.line.now _ c.keeps_tree.result
    c.in-Tree.is
    c.keeps_tree.ensures.keeps

pub returns-in-Tree-clause-may : goal.returns-in-Tree-clause-may
returns-in-Tree-clause-may c = may_as_tree c.keeps_tree.new.standing c.args.line.now _ c.keeps_tree.result c.in-Tree.is c.keeps_tree.ensures.may
