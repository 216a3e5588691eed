use Rattle.std.proofs.Common.{ap, arith, length}
use Rattle.ts_token.proofs.words.count_words.Goals as goal

pub overflow_add-count : goal.overflow_add-count
overflow_add-count c =
    let next = c.in-Some.ensures.some in
    let kept = c.loop-next.invariant in omega (arith, next.shorter, kept.few, c.requires)

pub loop-next-preserved : goal.loop-next-preserved
loop-next-preserved c =
    let next = c.in-Some.ensures.some in
    let kept = c.loop-next.invariant in
    record {
      count = omega (arith, kept.count, ap length next.words);
      place = omega (arith, next.place, kept.place);
      few = omega (arith, kept.few, next.shorter);
    }
