use Rattle.std.proofs.Common.{subst}
use Rattle.ts_meet.specs.Settled.{IsSettled}
use Rattle.ts_meet.proofs.Asking.{settled_has}
use Rattle.ts_meet.proofs.settled.settled_to.Goals as goal

pub returns-in-Some-clause-settled : goal.returns-in-Some-clause-settled
returns-in-Some-clause-settled g c p h i first last x =
    let asked = c.args.asked in let left = c.args.left.now in let right = c.args.right.now in
    settled_has (g.Q.Asked.excluded asked) (g.met.Q.Asked.of_part asked) g.row.N p left right i c.args.cells c.in-Some.enough c.in-Some.ensures
    (subst (λ e. IsSettled g.row.N e p left right c.args.cells i) c.of.ensures (c.settled_by.ensures.settled p h i first last)) x
