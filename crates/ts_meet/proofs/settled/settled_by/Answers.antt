use mir.Val.{SFits}
use Rattle.std.proofs.Common.{sym, subst, w64, rules}
use Rattle.std.proofs.lemmas.Int.{to_z-of_z}
use Rattle.ts_meet.specs.Ends.{end_alone, needed_ends}
use Rattle.ts_meet.specs.Settled.{IsSettled}
use Rattle.ts_meet.proofs.settled.settled_by.Goals as goal

pub returns-in-Both-clause-settled : goal.returns-in-Both-clause-settled
returns-in-Both-clause-settled g c p h i first last =
    subst (λ n. IsSettled g.row.N (needed_ends n) p c.args.left.now c.args.right.now c.args.cells i) (sym c.in-Both.is)
    (c.settled_in.ensures.settled p h i first last)

pub returns-in-One-clause-settled : goal.returns-in-One-clause-settled
returns-in-One-clause-settled g c p h i first last =
    let fits : SFits w64 c.in-One.x = search rules in
    let left = c.args.left.now in let right = c.args.right.now in
    subst (λ n. IsSettled g.row.N (needed_ends n) p left right c.args.cells i) (sym c.in-One.is)
    (subst (λ z. IsSettled g.row.N (end_alone c.in-One.end z) p left right c.args.cells i) (to_z-of_z w64 c.in-One.x fits)
    (c.settled_on.ensures.settled p h i first last))
