use Rattle.ts_meet.proofs.along.asked_along.Goals as goal

pub returns : goal.returns
returns g c p h = c.answered.ensures c.enough.result _ c.enough.ensures (c.hull_along-hull.ensures p h)
