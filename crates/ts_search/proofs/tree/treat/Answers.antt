use Rattle.std.proofs.Common.{◌∙◌, ap}
use Rattle.std.proofs.lemmas.Result.{on_ok_weaker}
use Rattle.ts_frontier.specs.Forms.{form}
use Rattle.ts_search.specs.LineOf.{TheBest}
use Rattle.ts_search.specs.Turns.{found_after}
use Rattle.ts_search.specs.Views.{contest_of, find_of, search_of}
use Rattle.ts_search.proofs.Paced.{first_ahead, solve_paced}
use Rattle.ts_search.proofs.CodeTurns.{first_makes, present_part}
use Rattle.ts_search.proofs.tree.treat.Goals as goal

-- the present box is the first that waits, which is inside the model's
pub line-requires-clause-asked : goal.line-requires-clause-asked
line-requires-clause-asked c = record {
  posed = c.requires.posed;
  part = present_part (search_of c.args.contest.now.problem).model.cells c.args.tree.now.frontier.boxes c.advance.new.self.boxes
      c.present-cells.result.now.present c.requires.parts c.in_ok-advance.ensures.same c.present-cells.ensures;
  tables = c.requires.tables;
}

pub found_now-requires-clause-part : goal.found_now-requires-clause-part
found_now-requires-clause-part c =
    present_part (search_of c.args.contest.now.problem).model.cells c.args.tree.now.frontier.boxes c.advance.new.self.boxes c.present.result.now.present
    c.requires.parts c.in_ok-advance.ensures.same c.present.ensures

pub follow-requires-clause-fits : goal.follow-requires-clause-fits
follow-requires-clause-fits c =
    first_makes (TheBest (contest_of c.args.contest.now) (find_of c.args.tree.now.found)) c.args.tree.now.frontier.boxes
    c.advance.new.self.boxes c.present-cells.result.now.present c.in_ok-line.line c.requires.parts c.in_ok-advance.ensures.same c.present-cells.ensures
    c.in_ok-line.ensures.line

pub line-requires-clause-ahead : goal.line-requires-clause-ahead
line-requires-clause-ahead c =
    first_ahead (TheBest (contest_of c.args.contest.now) (find_of c.args.tree.now.found)) c.args.pace.now.ahead c.args.tree.now.frontier.boxes
    c.advance.new.self.boxes c.present-cells.result.now.present c.requires.paced.ahead c.in_ok-advance.ensures.same c.present-cells.ensures

pub returns-clause-paced : goal.returns-clause-paced
returns-clause-paced c =
    let s = contest_of c.args.contest.now in
    let found = find_of c.args.tree.now.found in
    on_ok_weaker c.follow.result
    (λ boxes. solve_paced c.present-cells.result.now.present c.present.result.now.present c.advance.new.self.boxes c.follow.new.frontier.boxes c.in_ok-line.line
    c.present-cells.ensures c.present.ensures boxes s found _ c.args.pace.now c.line.new.self c.pass.new.self
    c.requires.paced.inside c.line.ensures.leaps c.pass.ensures.leaps c.in_ok-line.ensures.ahead c.pass.ensures.ahead c.in_ok-line.ensures.line
    (c.in_ok-tree.ensures ∙ ap (λ z. found_after s (find_of z) (form c.present.result.now.present) c.in_ok-line.line) c.take-found.ensures.value))
    c.follow.ensures.ok
