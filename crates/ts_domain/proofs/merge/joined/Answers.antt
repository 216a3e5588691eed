use Rattle.std.proofs.Common.{pos, ap, ◌∙◌, arith}
use Rattle.std.proofs.lemmas.Int.{ints}
use Rattle.ts_domain.proofs.Joins.{joining_none, joining_grown, joining_more, joined_ranges, joined_numbers, last_within, next_within, max_is}
use Rattle.ts_domain.proofs.merge.joined.Goals as goal
use Rattle.ts_domain.proofs.merge.joined.Goals.{then-next-last, else-next-last+in_ok-push}

pub loop-next-init : goal.loop-next-init
loop-next-init c = joining_none c.args.sorted.now _ _ c.requires.some c.requires.sorted c.in_ok-ranges.ensures.items

pub overflow_add-last : goal.overflow_add-last
overflow_add-last c = let l = last_within c.args.sorted.now _ _ _ c.loop-next.invariant in omega (arith, ints, l.0, l.1)

pub loop-next-preserved : goal.loop-next-preserved
loop-next-preserved c =
    let l = last_within c.args.sorted.now _ _ _ c.loop-next.invariant in
    let n = next_within c.args.sorted.now _ _ _ (record { low = pos 0; high = pos 0 }) c.loop-next.invariant c.loop-next-test.true in
    elim c.if-next-last.branch [
      | then-next-last w ↦ joining_grown c.args.sorted.now c.loop-next.ranges.items c.if-next-last.ranges.items c.loop-next.last c.if-next-last.last
          c.loop-next.next-index (record { low = pos 0; high = pos 0 }) c.loop-next-test.true c.loop-next.invariant
          (let t = w.if-next-last.true in grind (arith, ints)) (ap (λ v. v.items) w.ranges-is) (ap (λ r. r.low) w.last-is)
          (max_is c.loop-next.last.high _ w.max.result c.if-next-last.last.high l.0 l.1 n.2 n.3 (record { sfits = w.max.type_inv })
          w.max.ensures.value (ap (λ r. r.high) w.last-is))
      | else-next-last+in_ok-push w ↦ joining_more c.args.sorted.now c.loop-next.ranges.items c.if-next-last.ranges.items c.loop-next.last
          c.if-next-last.last c.loop-next.next-index (record { low = pos 0; high = pos 0 }) c.loop-next-test.true c.loop-next.invariant
          (let t = w.if-next-last.false in grind (arith, ints)) (ap (λ v. v.items) w.ranges-is ∙ w.in_ok-push.ensures.ok) w.last-is
    ]

pub returns-clause-union : goal.returns-clause-union
returns-clause-union c = joined_numbers c.args.sorted.now _ _ _ _ c.loop-next.invariant c.in_ok-push-2.ensures.ok c.loop-next-test.false

pub returns-clause-apart : goal.returns-clause-apart
returns-clause-apart c = joined_ranges c.args.sorted.now _ _ _ _ c.loop-next.invariant c.in_ok-push-2.ensures.ok
