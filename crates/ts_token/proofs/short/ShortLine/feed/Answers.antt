use Rattle.std.proofs.Common.{arith}
use Rattle.ts_token.proofs.ShortLaws.{takes_none, takes_next, takes_all, takes_first, on_err}
use Rattle.ts_token.proofs.short.ShortLine.feed.Goals as goal

pub loop-byte-init : goal.loop-byte-init
loop-byte-init c = takes_none c.args.self.now

pub loop-byte-preserved : goal.loop-byte-preserved
loop-byte-preserved c =
    takes_next c.args.self.now c.loop-byte.self c.take.new.self c.args.bytes.now c.loop-byte.byte-index (omega arith) c.loop-byte.invariant
    c.in_ok-take.ensures.taken

pub returns-clause-taken : goal.returns-clause-taken
returns-clause-taken c = takes_all c.args.self.now c.loop-byte.self c.args.bytes.now c.loop-byte.byte-index (omega arith) c.loop-byte.invariant

pub returns-in_err-take-clause-first : goal.returns-in_err-take-clause-first
returns-in_err-take-clause-first c =
    on_err _ (
    takes_first c.args.self.now c.loop-byte.self c.take.new.self c.args.bytes.now c.loop-byte.byte-index c.loop-byte.invariant c.in_err-take.ensures.none)
