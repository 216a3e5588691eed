use Rattle.ts_validate.proofs.Knowing.{AreKnown}
use Rattle.ts_validate.proofs.knowledge.know_all.Given as goal

abbrev pub invariant-loop-i : goal.invariant-loop-i
invariant-loop-i l = AreKnown l.residuals l.listed l.i l.table.items
