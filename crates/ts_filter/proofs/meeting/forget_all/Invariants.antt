use Rattle.ts_filter.proofs.MeetingLaws.{AreForgotten}
use Rattle.ts_filter.proofs.meeting.forget_all.Given as goal

abbrev pub invariant-loop-term : goal.invariant-loop-term
invariant-loop-term l = AreForgotten l.fn.each.items l.each.items l.term
