use Rattle.std.proofs.Common.{arith}
use Rattle.ts_base.proofs.Taking.{gave_kept, gave_piece, gave_within, one_past}
use Rattle.ts_base.proofs.read_write.take_all.Goals as goal

pub returns-in_err-more-clause-gave : goal.returns-in_err-more-clause-gave
returns-in_err-more-clause-gave g c =
    gave_kept g.I.Intake.took c.args.limit (g.S.Source.left c.args.source.now) c.loop-buffer.spare (g.S.Source.left c.loop-buffer.source)
    (g.S.Source.left c.read_front.new.source) c.loop-buffer.intake c.loop-buffer.invariant.taken c.in_err-more.ensures.kept

pub returns-then-more-eq0-clause-gave : goal.returns-then-more-eq0-clause-gave
returns-then-more-eq0-clause-gave g c =
    gave_piece g.I.Intake.took c.args.limit (g.S.Source.left c.args.source.now) c.loop-buffer.spare (g.S.Source.left c.loop-buffer.source)
    (g.S.Source.left c.read_front.new.source) c.loop-buffer.intake c.loop-buffer.invariant.taken c.in_ok-more.more c.read_front.new.buffer
    (omega (arith, c.in_ok-more.ensures.within, c.in_ok-more.ensures.size, c.min-room.ensures)) c.in_ok-more.ensures.gave
    (omega (arith, c.in_ok-more.ensures.within, c.min-room.ensures))

pub returns-then-more-spare-clause-one_more : goal.returns-then-more-spare-clause-one_more
returns-then-more-spare-clause-one_more g c =
    λ _. one_past g.I.Intake.took c.args.limit (g.S.Source.left c.args.source.now) c.loop-buffer.spare (g.S.Source.left c.loop-buffer.source)
    (g.S.Source.left c.read_front.new.source) c.loop-buffer.intake c.loop-buffer.invariant.taken c.in_ok-more.more c.read_front.new.buffer
    (omega (arith, c.in_ok-more.ensures.within, c.in_ok-more.ensures.size, c.min-room.ensures)) c.in_ok-more.ensures.gave
    (omega (arith, c.if-more-spare.true)) (omega (arith, c.in_ok-more.ensures.within, c.min-room.ensures))

pub returns-then-more-spare-clause-gave : goal.returns-then-more-spare-clause-gave
returns-then-more-spare-clause-gave g c =
    gave_piece g.I.Intake.took c.args.limit (g.S.Source.left c.args.source.now) c.loop-buffer.spare (g.S.Source.left c.loop-buffer.source)
    (g.S.Source.left c.read_front.new.source) c.loop-buffer.intake c.loop-buffer.invariant.taken c.in_ok-more.more c.read_front.new.buffer
    (omega (arith, c.in_ok-more.ensures.within, c.in_ok-more.ensures.size, c.min-room.ensures)) c.in_ok-more.ensures.gave
    (omega (arith, c.in_ok-more.ensures.within, c.min-room.ensures))

pub returns-in_err-take-clause-gave : goal.returns-in_err-take-clause-gave
returns-in_err-take-clause-gave g c =
    gave_piece g.I.Intake.took c.args.limit (g.S.Source.left c.args.source.now) c.loop-buffer.spare (g.S.Source.left c.loop-buffer.source)
    (g.S.Source.left c.read_front.new.source) c.loop-buffer.intake c.loop-buffer.invariant.taken c.in_ok-more.more c.read_front.new.buffer
    (omega (arith, c.in_ok-more.ensures.within, c.in_ok-more.ensures.size, c.min-room.ensures)) c.in_ok-more.ensures.gave
    (omega (arith, c.in_ok-more.ensures.within, c.min-room.ensures))

pub returns-in_err-take-clause-want : goal.returns-in_err-take-clause-want
returns-in_err-take-clause-want g c =
    λ _. gave_within g.I.Intake.took c.args.limit (g.S.Source.left c.args.source.now) c.loop-buffer.spare (g.S.Source.left c.loop-buffer.source)
    (g.S.Source.left c.read_front.new.source) c.loop-buffer.intake c.loop-buffer.invariant.taken c.in_ok-more.more c.read_front.new.buffer
    (omega (arith, c.in_ok-more.ensures.within, c.in_ok-more.ensures.size, c.min-room.ensures)) c.in_ok-more.ensures.gave
    (omega (arith, c.if-more-spare.false))
