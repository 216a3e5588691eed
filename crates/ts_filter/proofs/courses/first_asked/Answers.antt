use Rattle.std.proofs.Common.{◌+◌, option_map, arith}
use Rattle.ts_filter.proofs.CourseLaws.{nothing_passed, passed_more}
use Rattle.ts_filter.proofs.courses.first_asked.Goals as goal

pub loop-before-init : goal.loop-before-init
loop-before-init c = record {
  passed = nothing_passed (option_map (λ t. t.now) c.args.kept) c.args.cells.now.present c.args.from c.args.to;
  from = omega arith;
}

pub is_asked-requires : goal.is_asked-requires
is_asked-requires c =
    let from = c.loop-before.invariant.from in let below = c.loop-before-test.true in
    c.requires (c.loop-before.before + 1) (omega (arith, from)) (omega (arith, below))

pub loop-before-preserved : goal.loop-before-preserved
loop-before-preserved c =
    let from = c.loop-before.invariant.from in record {
      passed = passed_more (option_map (λ t. t.now) c.args.kept) c.args.cells.now.present c.args.from c.args.to c.loop-before.before
          c.loop-before.invariant.passed (c.is_asked.ensures c.if-is_asked.false);
      from = omega (arith, from);
    }

pub returns-clause-passed : goal.returns-clause-passed
returns-clause-passed c = λ k l within le.
    c.loop-before.invariant.passed k l within (let over = c.loop-before-test.false in omega (arith, over, within))
