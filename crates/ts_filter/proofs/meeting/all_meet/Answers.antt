use Rattle.std.proofs.Common.{refl, arith}
use Rattle.ts_filter.proofs.MeetingLaws.{all_met, as_many, looks_next, one_met}
use Rattle.ts_filter.proofs.meeting.all_meet.Goals as goal

pub meet_others-requires-clause-looks : goal.meet_others-requires-clause-looks
meet_others-requires-clause-looks c =
    let long = as_many c.args.each.now.items c.loop-term.each.items c.loop-term.invariant.machines in
    looks_next c.args.seen.now c.args.cells.now.present c.args.each.now.items c.loop-term.each.items c.loop-term.term c.index_mut.result.now
    c.loop-term.invariant (omega (arith, c.loop-term-test.true, c.len-term-end.ensures, long)) c.index_mut.ensures.value c.requires.looks

pub loop-term-preserved : goal.loop-term-preserved
loop-term-preserved c =
    let long = as_many c.args.each.now.items c.loop-term.each.items c.loop-term.invariant.machines in
    one_met c.args.seen.now c.args.cells.now.present c.args.each.now.items c.loop-term.each.items c.loop-term.term c.index_mut.result.now
    c.loop-term.invariant (omega (arith, c.loop-term-test.true, c.len-term-end.ensures, long)) c.index_mut.ensures.value _ c.meet_others.new.self
    c.meet_others.ensures.machine c.meet_others.ensures.known refl

pub returns-clause-known : goal.returns-clause-known
returns-clause-known c =
    all_met c.args.seen.now c.args.cells.now.present c.args.each.now.items c.loop-term.each.items c.loop-term.term c.loop-term.invariant
    (omega (arith, c.loop-term-test.false, c.len-term-end.ensures))
