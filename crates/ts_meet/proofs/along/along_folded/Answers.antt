use Rattle.std.proofs.Common.{◌≡◌, ◌⊎◌, false, length, sym, ◌∙◌, subst, rules}
use Rattle.ts_sweep.specs.Sides.{BothEnds, sides}
use Rattle.ts_meet.proofs.Watched.{all_taken}
use Rattle.ts_meet.proofs.along.along_folded.Goals as goal

pub along_glued-requires-then-gluing : goal.along_glued-requires-then-gluing
along_glued-requires-then-gluing g c =
    let given = c.requires in let a = c.args in let made = c.joined-gluing.ensures in
    let result = made.operators.0 ∙ c.numbered.ensures in let fold = made.operators.1 ∙ c.numbered-2.ensures in
    let alone = subst (λ w. (sides g.row.N ≡ BothEnds) ⊎ (w ≡ false)) (sym made.wide) given.alone in
    let taken = all_taken g.row.N c.joined-gluing.result a.first a.second a.left.now a.right.now a.from (length a.values.now)
    (λ x y u v. c.is_plain_within.ensures x y c.if-not-is_plain_within.false u v) given.first given.second in
    (search rules, ((made.joins, result, fold, made.wide ∙ given.width, c.if-gluing.true), (given.registers, (alone, (given.left, (given.right, (given.values, taken)))))))

pub along_glued-requires-else-gluing : goal.along_glued-requires-else-gluing
along_glued-requires-else-gluing g c =
    let given = c.requires in let a = c.args in let made = c.joined-gluing.ensures in
    let result = made.operators.0 ∙ c.numbered.ensures in let fold = made.operators.1 ∙ c.numbered-2.ensures in
    let alone = subst (λ w. (sides g.row.N ≡ BothEnds) ⊎ (w ≡ false)) (sym made.wide) given.alone in
    let taken = all_taken g.row.N c.joined-gluing.result a.first a.second a.left.now a.right.now a.from (length a.values.now)
    (λ x y u v. c.is_plain_within.ensures x y c.if-not-is_plain_within.false u v) given.first given.second in
    (search rules, ((made.joins, result, fold, made.wide ∙ given.width, c.if-gluing.false), (given.registers, (alone, (given.left, (given.right, (given.values, taken)))))))

pub returns-then-gluing : goal.returns-then-gluing
returns-then-gluing g c p h joins =
    c.along_glued-then-gluing.ensures p c.args.q c.args.r h (c.joined-gluing.ensures.value p h joins)

pub returns-else-gluing : goal.returns-else-gluing
returns-else-gluing g c p h joins =
    c.along_glued-else-gluing.ensures p c.args.q c.args.r h (c.joined-gluing.ensures.value p h joins)
