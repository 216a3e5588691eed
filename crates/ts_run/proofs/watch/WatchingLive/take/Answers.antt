use Rattle.std.proofs.Common.{length, sym, ◌++◌, ◌∙◌, rules}
use Rattle.std.proofs.lemmas.Bool.{eqb-true}
use Rattle.ts_model.proofs.LinePieces.{first_is_part}
use Rattle.ts_run.proofs.ReadingSteps.{on_err_of}
use Rattle.ts_run.proofs.WatchSteps.{all_adds, all_came, all_open, few_come, last_adds, last_ends, lines_left, none_eaten, one_eaten}
use Rattle.ts_run.proofs.watch.WatchingLive.take.Goals as goal

pub loop-rest-init : goal.loop-rest-init
loop-rest-init c = none_eaten c.args.piece.now c.args.text.now.items c.args.self.now.stage

pub take_part-requires-clause-part : goal.take_part-requires-clause-part
take_part-requires-clause-part c = first_is_part c.loop-rest.rest.now c.first_line.result.0.now _ c.first_line.ensures.cut

pub take_part-requires-clause-some : goal.take_part-requires-clause-some
take_part-requires-clause-some c =
    let some = c.requires.some in
    let eaten = c.loop-rest.invariant in (
      some.0 ++ eaten.done,
      eaten.came some.0 some.1,
      few_come c.args.piece.now c.loop-rest.rest.now c.first_line.result.0.now c.first_line.result.1.now c.args.text.now.items c.loop-rest.text.items
          c.args.self.now.stage c.loop-rest.self.stage eaten c.first_line.ensures.parts some.0 some.2,
    )

-- the part is taken, and the stream goes on
pub loop-rest-preserved : goal.loop-rest-preserved
loop-rest-preserved c =
    one_eaten c.args.piece.now c.loop-rest.rest.now c.first_line.result.0.now c.first_line.result.1.now c.args.text.now.items c.loop-rest.text.items
    c.args.self.now.stage c.loop-rest.self.stage c.loop-rest.invariant c.first_line.ensures.parts c.take_part.new.text.items c.take_part.new.self.stage
    c.in_ok-status.ensures.put (c.in_ok-status.ensures.goes_on (search rules))

-- the part ends the stream

pub returns-in-Some-clause-put : goal.returns-in-Some-clause-put
returns-in-Some-clause-put c = λ bytes h.
    last_adds c.args.piece.now c.loop-rest.rest.now c.first_line.result.0.now c.first_line.result.1.now c.args.text.now.items c.loop-rest.text.items
    c.args.self.now.stage c.loop-rest.self.stage c.loop-rest.invariant c.first_line.ensures.parts c.take_part.new.text.items c.in-Some.status
    c.in_ok-status.ensures.put (λ b k. c.in_ok-status.ensures.ended b k ∙ c.in-Some.is) bytes h

pub returns-in-Some-clause-ended : goal.returns-in-Some-clause-ended
returns-in-Some-clause-ended c = λ bytes h.
    last_ends c.args.piece.now c.loop-rest.rest.now c.first_line.result.0.now c.first_line.result.1.now c.args.text.now.items c.loop-rest.text.items
    c.args.self.now.stage c.loop-rest.self.stage c.loop-rest.invariant c.first_line.ensures.parts c.take_part.new.text.items c.in-Some.status
    c.in_ok-status.ensures.put (λ b k. c.in_ok-status.ensures.ended b k ∙ c.in-Some.is) bytes h

-- there is no memory for the part

pub returns-in_err-status-clause-lines : goal.returns-in_err-status-clause-lines
returns-in_err-status-clause-lines c =
    on_err_of c.from_residual.result
    (λ bytes h.
    lines_left c.args.piece.now c.loop-rest.rest.now c.args.text.now.items c.loop-rest.text.items c.take_part.new.text.items c.args.self.now.stage
    c.loop-rest.self.stage c.loop-rest.invariant c.in_err-status.ensures.kept bytes h)

-- all parts are taken

pub returns-clause-put : goal.returns-clause-put
returns-clause-put c =
    all_adds c.args.piece.now c.loop-rest.rest.now c.args.text.now.items c.loop-rest.text.items c.args.self.now.stage c.loop-rest.self.stage
    c.loop-rest.invariant (eqb-true (length c.loop-rest.rest.now) 0 (sym c.is_empty.ensures ∙ c.loop-rest-test.false))

pub returns-clause-ended : goal.returns-clause-ended
returns-clause-ended c =
    all_open c.args.piece.now c.loop-rest.rest.now c.args.text.now.items c.loop-rest.text.items c.args.self.now.stage c.loop-rest.self.stage
    c.loop-rest.invariant (eqb-true (length c.loop-rest.rest.now) 0 (sym c.is_empty.ensures ∙ c.loop-rest-test.false))

pub returns-clause-goes_on : goal.returns-clause-goes_on
returns-clause-goes_on c = λ none.
    all_came c.args.piece.now c.loop-rest.rest.now c.args.text.now.items c.loop-rest.text.items c.args.self.now.stage c.loop-rest.self.stage
    c.loop-rest.invariant (eqb-true (length c.loop-rest.rest.now) 0 (sym c.is_empty.ensures ∙ c.loop-rest-test.false))
