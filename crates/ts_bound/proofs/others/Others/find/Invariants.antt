use Rattle.ts_bound.proofs.OthersLaws.{AreFound}
use Rattle.ts_bound.proofs.others.Others.find.Given as goal

abbrev pub invariant-loop-at : goal.invariant-loop-at
invariant-loop-at l = AreFound l.self.each.items l.seen l.cells.present l.at
