use Rattle.std.proofs.Common.{refl, arith}
use Rattle.ts_filter.proofs.MeetingLaws.{as_many, one_forgotten}
use Rattle.ts_filter.proofs.meeting.forget_all.Goals as goal

pub loop-term-preserved : goal.loop-term-preserved
loop-term-preserved c =
    let long = as_many c.args.each.now.items c.loop-term.each.items c.loop-term.invariant.machines in
    one_forgotten c.args.each.now.items c.loop-term.each.items _ c.loop-term.term c.index_mut.result.now c.forget.new.self c.loop-term.invariant
    (omega (arith, c.loop-term-test.true, c.len-term-end.ensures, long)) c.index_mut.ensures.value c.forget.ensures.machine c.forget.ensures.known refl
