use mir.Val.{SFits}
use Rattle.std.proofs.Common.{w64, subst, rules}
use Rattle.ts_meet.specs.Peaks.{IsHeldBy}
use Rattle.ts_meet.specs.Sides.{ends_in}
use Rattle.ts_meet.proofs.Gluings.{near_held, unheld_answer}
use Rattle.ts_meet.proofs.gluing.Gluing.answer_held.Goals as goal

pub held-requires : goal.held-requires
held-requires c =
    let f = c.args.self in
    near_held f.wide f.result (ends_in c.args.side) c.requires.some (subst (λ h. IsHeldBy f.wide f.result h c.args.side.c) c.if-held.true c.requires.held)
    c.requires.takes

pub returns-else-held : goal.returns-else-held
returns-else-held c =
    let low : SFits w64 c.args.side.r.below = search rules in let high : SFits w64 c.args.side.r.above = search rules in let f = c.args.self in
    unheld_answer f.wide f.result (ends_in c.args.side) low high c.requires.some.4
    (subst (λ h. IsHeldBy f.wide f.result h c.args.side.c) c.if-held.false c.requires.held)
