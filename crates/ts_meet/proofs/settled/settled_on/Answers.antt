use Rattle.std.proofs.Common.{sym, subst, w64}
use Rattle.std.proofs.lemmas.Int.{to_z-of_z}
use Rattle.ts_meet.specs.declared.lane.End.TheVariants.{Below, Above}
use Rattle.ts_meet.specs.Ends.{end_alone}
use Rattle.ts_meet.specs.Settled.{IsSettled}
use Rattle.ts_meet.proofs.settled.settled_on.Goals as goal

pub returns-in-Below-clause-settled : goal.returns-in-Below-clause-settled
returns-in-Below-clause-settled g c p h i first last =
    let left = c.args.left.now in let right = c.args.right.now in
    subst (λ k. IsSettled g.row.N (end_alone k c.args.given) p left right c.args.cells i) (sym c.in-Below.is)
    (subst (λ z. IsSettled g.row.N (end_alone Below z) p left right c.args.cells i) (to_z-of_z w64 c.args.given c.ranges.given)
    (c.settled_in.ensures.settled p h i first last))

pub returns-in-Above-clause-settled : goal.returns-in-Above-clause-settled
returns-in-Above-clause-settled g c p h i first last =
    let left = c.args.left.now in let right = c.args.right.now in
    subst (λ k. IsSettled g.row.N (end_alone k c.args.given) p left right c.args.cells i) (sym c.in-Above.is)
    (subst (λ z. IsSettled g.row.N (end_alone Above z) p left right c.args.cells i) (to_z-of_z w64 c.args.given c.ranges.given)
    (c.settled_in-in-Above.ensures.settled p h i first last))
