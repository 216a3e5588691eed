use Rattle.std.proofs.Common.{◌≡◌, ◌⊎◌, false, length, sym, ◌∙◌, subst, rules}
use Rattle.ts_sweep.specs.Sides.{BothEnds, sides}
use Rattle.ts_meet.proofs.Watched.{held_taken}
use Rattle.ts_meet.proofs.along.along_width.Goals as goal

pub along_held-requires : goal.along_held-requires
along_held-requires g c =
    let given = c.requires in let a = c.args in let made = c.apart-gluing.ensures in let arm = c.in-Some-Some in
    let result = made.parts.1 ∙ c.numbered.ensures in
    let alone = subst (λ w. (sides g.row.N ≡ BothEnds) ⊎ (w ≡ false)) (given.width ∙ sym made.parts.0) given.alone in
    let taken = held_taken g.row.N arm.here arm.there c.apart-gluing.result a.first a.second _ _ a.left.now a.right.now a.from
    (length a.values.now) made.apart arm.is-0 arm.is-1 c.held-here.ensures c.held-there.ensures given.first given.second in
    (search rules, ((made.apart, result, made.parts.0), (given.registers, (alone, (given.left, (given.right, (given.values, taken)))))))
