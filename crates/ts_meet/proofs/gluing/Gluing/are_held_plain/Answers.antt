use Rattle.ts_meet.specs.Sides.{ends_in}
use Rattle.ts_meet.proofs.Watched.{answers_plain}
use Rattle.ts_meet.proofs.gluing.Gluing.are_held_plain.Goals as goal

pub returns : goal.returns
returns c is =
    let f = c.args.self in let p = c.is_side_held.ensures f.wide c.if-not-is_side_held.false in let q = c.is_side_held-2.ensures f.wide is in
    let results = c.are_results_plain.ensures c.if-not-are_results_plain.false in
    (answers_plain f (ends_in c.args.left) (ends_in c.args.right) c.requires results p.0 q.0, p.1, q.1)
