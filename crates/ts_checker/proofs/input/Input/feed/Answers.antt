use Rattle.std.proofs.Common.{length, sym, ◌++◌, ◌∙◌}
use Rattle.std.proofs.lemmas.Bool.{eqb-true}
use Rattle.ts_checker.proofs.InputLaws.{all_eaten, none_eaten, one_eaten, room_left}
use Rattle.ts_model.proofs.LinePieces.{first_is_part}
use Rattle.ts_checker.proofs.JudgingLaws.{on_err}
use Rattle.ts_checker.proofs.input.Input.feed.Goals as goal

pub loop-rest-init : goal.loop-rest-init
loop-rest-init c = none_eaten c.args.piece.now c.args.self.now

pub feed_part-requires-clause-part : goal.feed_part-requires-clause-part
feed_part-requires-clause-part c = first_is_part c.loop-rest.rest.now c.first_line.result.0.now _ c.first_line.ensures.cut

pub feed_part-requires-clause-room : goal.feed_part-requires-clause-room
feed_part-requires-clause-room c =
    let some = c.requires in
    let eaten = c.loop-rest.invariant in (
      some.0 ++ eaten.done,
      eaten.taken some.0 some.1,
      room_left some.0 eaten.done c.args.piece.now c.loop-rest.rest.now c.first_line.result.0.now c.first_line.result.1.now eaten.parts
          c.first_line.ensures.parts some.2,
    )

pub loop-rest-preserved : goal.loop-rest-preserved
loop-rest-preserved c =
    one_eaten c.args.piece.now c.loop-rest.rest.now c.first_line.result.0.now c.first_line.result.1.now c.args.self.now c.loop-rest.self
    c.feed_part.new.self c.loop-rest.invariant c.first_line.ensures.parts c.in_ok-feed_part.ensures.taken c.in_ok-feed_part.ensures.stays

pub returns-clause-taken : goal.returns-clause-taken
returns-clause-taken c =
    all_eaten c.args.piece.now c.loop-rest.rest.now c.args.self.now c.loop-rest.self c.loop-rest.invariant
    (eqb-true (length c.loop-rest.rest.now) 0 (sym c.is_empty.ensures ∙ c.loop-rest-test.false))

pub returns-in_err-feed_part-clause-unrefused : goal.returns-in_err-feed_part-clause-unrefused
returns-in_err-feed_part-clause-unrefused c =
    on_err c.from_residual.result (c.loop-rest.invariant.stays c.in_err-feed_part.ensures.unrefused)
