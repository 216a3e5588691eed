use Rattle.std.proofs.Common.{subst, sym}
use Rattle.ts_filter.specs.Boxes.{Box}
use Rattle.ts_filter.specs.Tables.{AreRowsOfEach}
use Rattle.ts_filter.proofs.meeting.meet.Goals as goal

pub returns-in-Ok-clause-known : goal.returns-in-Ok-clause-known
returns-in-Ok-clause-known c =
    let seen = subst (λ (z : Box). AreRowsOfEach z c.args.each.now.items) (sym c.as_slice-2.ensures.value) c.requires.known in
    subst (λ (z : Box). AreRowsOfEach z c.all_meet.new.each.items) (sym c.in-Ok.ensures) (c.all_meet.ensures.known seen)
