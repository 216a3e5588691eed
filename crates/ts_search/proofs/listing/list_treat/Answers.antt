use Rattle.std.proofs.Common.{◌≡◌, ℤ, ◌++◌, map, Vec, Global}
use Rattle.std.proofs.lemmas.Result.{IfOk-weaker, on_ok_weaker}
use Rattle.ts_filter.specs.Steps.{made_by}
use Rattle.ts_frontier.specs.Waiting.{first, rest}
use Rattle.ts_search.specs.LineOf.{TheFirst}
use Rattle.ts_search.specs.Turns.{ListState, list_turn_on}
use Rattle.ts_search.specs.Views.{list_state_of, search_of}
use Rattle.ts_search.proofs.Paced.{first_ahead, listing_paced}
use Rattle.ts_search.proofs.CodeTurns.{list_turned, first_makes, present_part}
use Rattle.ts_search.proofs.listing.list_treat.Goals as goal

pub line-requires-clause-asked : goal.line-requires-clause-asked
line-requires-clause-asked c = record {
  posed = c.requires.posed;
  part = present_part (search_of c.args.problem.now).model.cells c.args.tree.now.frontier.boxes c.advance.new.self.boxes
      c.present-cells.result.now.present c.requires.parts c.in_ok-advance.ensures.same c.present-cells.ensures;
  tables = c.requires.tables;
}

pub follow-requires-clause-fits : goal.follow-requires-clause-fits
follow-requires-clause-fits c =
    first_makes (TheFirst (search_of c.args.problem.now)) c.args.tree.now.frontier.boxes c.advance.new.self.boxes
    c.present-cells.result.now.present c.in_ok-line.line c.requires.parts c.in_ok-advance.ensures.same c.present-cells.ensures c.in_ok-line.ensures.line

pub returns-clause-turn : goal.returns-clause-turn
returns-clause-turn c =
    let s = search_of c.args.problem.now in
    let old = list_state_of c.args.tree.now in
    let new : ListState = record {
      lines = c.push.new.self.items;
      pending = c.follow.new.frontier.boxes;
      listed = map (λ (x : Vec ℤ Global). x.items) c.listed_now.new.listed.items;
    } in
    IfOk-weaker c.follow.result
    (λ z. c.follow.new.frontier.boxes ≡ made_by c.in_ok-line.line (first c.advance.new.self.boxes) ++ rest c.advance.new.self.boxes)
    (λ z. new ≡ list_turn_on s old old.pending)
    (λ z boxes. list_turned s old new.lines c.advance.new.self.boxes new.pending new.listed c.present-cells.result.now.present
    c.present.result.now.present c.in_ok-line.line c.in_ok-advance.ensures.same c.present-cells.ensures
    c.in_ok-line.ensures.line c.in_ok-push.ensures.items c.present.ensures c.in_ok-listed_now.ensures boxes)
    c.follow.ensures.ok

pub line-requires-clause-ahead : goal.line-requires-clause-ahead
line-requires-clause-ahead c =
    first_ahead (TheFirst (search_of c.args.problem.now)) c.args.pace.now.ahead c.args.tree.now.frontier.boxes c.advance.new.self.boxes
    c.present-cells.result.now.present c.requires.paced.ahead c.in_ok-advance.ensures.same c.present-cells.ensures

pub returns-clause-paced : goal.returns-clause-paced
returns-clause-paced c =
    let s = search_of c.args.problem.now in
    on_ok_weaker c.follow.result
    (λ boxes. listing_paced c.present-cells.result.now.present c.present.result.now.present c.advance.new.self.boxes c.follow.new.frontier.boxes
    c.in_ok-line.line c.present-cells.ensures c.present.ensures boxes s c.args.pace.now c.line.new.self c.pass.new.self
    c.requires.paced.inside c.line.ensures.leaps c.pass.ensures.leaps c.in_ok-line.ensures.ahead c.pass.ensures.ahead c.in_ok-line.ensures.line)
    c.follow.ensures.ok
