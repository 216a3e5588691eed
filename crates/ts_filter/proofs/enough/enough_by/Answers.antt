use Rattle.std.proofs.Common.{sym, subst}
use Rattle.ts_base.specs.declared.ext.Ext.TheVariants.{Int}
use Rattle.ts_meet.specs.Asked.{AreEnough}
use Rattle.ts_filter.specs.Excluded.{Refutes}
use Rattle.ts_filter.proofs.EnoughEnds.{above_passed, at_least_passed}
use Rattle.ts_filter.proofs.enough.enough_by.Goals as goal

pub returns-in-AtLeast : goal.returns-in-AtLeast
returns-in-AtLeast c =
    subst (λ o. AreEnough (Refutes o (Int c.args.b)) c.enough_above.result) (sym c.in-AtLeast.is)
    (at_least_passed c.args.b c.enough_above.result c.requires c.enough_above.ensures)

pub returns-in-Above : goal.returns-in-Above
returns-in-Above c =
    subst (λ o. AreEnough (Refutes o (Int c.args.b)) c.enough_above-in-Above.result) (sym c.in-Above.is)
    (above_passed c.args.b c.enough_above-in-Above.result c.requires c.enough_above-in-Above.ensures)
