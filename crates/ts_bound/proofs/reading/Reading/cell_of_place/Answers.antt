use Rattle.std.proofs.Common.{ap, ◌∙◌, ◌+◌, ◌-◌}
use Rattle.ts_bound.specs.Looks.{last_looked}
use Rattle.ts_bound.proofs.CellsRead.{read_backward, read_forward}
use Rattle.ts_bound.proofs.reading.Reading.cell_of_place.Goals as goal

pub returns-in-FromFirst-clause-cell : goal.returns-in-FromFirst-clause-cell
returns-in-FromFirst-clause-cell c =
    let r = c.args.self in
    let there = read_forward r.direction r.window r.cells.now.present c.args.i (c.ends-first.result.0 + c.args.i) c.in-FromFirst.is r.looks c.requires
    (ap (λ first. first + c.args.i) c.ends-first.ensures.first) in
    (there.0, there.1)

pub returns-in-FromFirst-clause-values : goal.returns-in-FromFirst-clause-values
returns-in-FromFirst-clause-values c =
    let r = c.args.self in
    (read_forward r.direction r.window r.cells.now.present c.args.i (c.ends-first.result.0 + c.args.i) c.in-FromFirst.is r.looks c.requires
    (ap (λ first. first + c.args.i) c.ends-first.ensures.first)).2

pub returns-in-FromLast-clause-cell : goal.returns-in-FromLast-clause-cell
returns-in-FromLast-clause-cell c =
    let r = c.args.self in
    let there = read_backward r.direction r.window r.cells.now.present c.args.i (c.ends-first.result.1 - c.args.i) c.in-FromLast.is r.looks c.requires
    (ap (λ last. last - c.args.i) (c.ends-first.ensures.last ∙ ap (last_looked r.window) c.cells.ensures.count)) in
    (there.0, there.1)

pub returns-in-FromLast-clause-values : goal.returns-in-FromLast-clause-values
returns-in-FromLast-clause-values c =
    let r = c.args.self in
    (read_backward r.direction r.window r.cells.now.present c.args.i (c.ends-first.result.1 - c.args.i) c.in-FromLast.is r.looks c.requires
    (ap (λ last. last - c.args.i) (c.ends-first.ensures.last ∙ ap (last_looked r.window) c.cells.ensures.count))).2
