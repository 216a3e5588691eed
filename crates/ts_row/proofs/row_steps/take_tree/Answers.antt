use Rattle.std.specs.Prelude.{MatchOption}
use Rattle.std.proofs.Common.{◌≡◌, false, subst}
use Rattle.ts_automaton.specs.Body.{move_of}
use Rattle.ts_hull.specs.Cuts.{all_swept, cut_of}
use Rattle.ts_row.proofs.Equals.{moved_equal}
use Rattle.ts_row.proofs.row_steps.take_tree.Goals as goal
use Rattle.ts_sweep.specs.AnyParts.{AreReadingsOf}

pub returns-in-Equal-default-clause-moved : goal.returns-in-Equal-default-clause-moved
returns-in-Equal-default-clause-moved g c =
    λ is. moved_equal _ c.args.t.now c.args.m.on (move_of c.args.m.turn.now) _ _ c.in-Equal-default.is-0 (c.take_equal.ensures.taken is)

pub take_swept-requires-clause-read : goal.take_swept-requires-clause-read
take_swept-requires-clause-read g c =
    let m = move_of c.args.m.turn.now in
    subst (λ o. MatchOption o (all_swept (cut_of m) ≡ false) (AreReadingsOf m)) c.in_default-Some.is-1 c.requires.plan.readings
