use Rattle.ts_filter.proofs.MeetingLaws.{HaveMet}
use Rattle.ts_filter.proofs.meeting.all_meet.Given as goal

abbrev pub invariant-loop-term : goal.invariant-loop-term
invariant-loop-term l = HaveMet l.seen l.cells.present l.fn.each.items l.each.items l.term
