use Rattle.std.proofs.Common.{arith}
use Rattle.std.proofs.lemmas.Option.{slice_get_within}
use Rattle.ts_filter.proofs.CourseLaws.{less_before, no_less}
use Rattle.ts_filter.proofs.courses.least_before.Goals as goal

pub loop-i-init : goal.loop-i-init
loop-i-init c = record { least = λ i d l at. absurd (omega (arith, l)); greatest = λ m le all. le }

pub loop-i-preserved : goal.loop-i-preserved
loop-i-preserved c =
    let all = c.args.courses.now in let i = c.loop-i.i in let least = c.loop-i.least in record {
      least = less_before all i least c.min-least.result _ c.loop-i-test.true c.min-least.ensures c.loop-i.invariant.least;
      greatest = λ m le from.
          no_less all i least c.min-least.result m _ c.loop-i-test.true c.min-least.ensures from (c.loop-i.invariant.greatest m le from);
    }

pub returns-clause-least : goal.returns-clause-least
returns-clause-least c = λ i d at.
    c.loop-i.invariant.least i d
    (let there = slice_get_within c.args.courses.now i d at in let over = c.loop-i-test.false in omega (arith, there, over)) at
