use Rattle.std.proofs.Common.{◌∙◌, ◌-◌, refl, sym, arith}
use Rattle.ts_user.proofs.OutlineLaws.{outline_more, not_outlined, all_outlined}
use Rattle.ts_user.proofs.outline.is_expression.Goals as goal

pub returns-in-None : goal.returns-in-None
returns-in-None c =
    let inside = c.loop-left.invariant.inside in
    not_outlined c.args.word.now c.loop-left.left (c.loop-left.left - 1) c.loop-left.outline c.loop-left-test.true (omega (arith, inside)) refl
    c.loop-left.invariant.read (sym c.in-None.ensures.exact)

pub loop-left-preserved : goal.loop-left-preserved
loop-left-preserved c =
    let inside = c.loop-left.invariant.inside in
    let some = c.loop-left-test.true in
    let more = c.in-Some.ensures.one_more in
    record {
      inside = omega (arith, inside, some, more);
      read =
          outline_more c.args.word.now c.loop-left.left (c.loop-left.left - 1) c.loop-left.outline c.in-Some.more some (omega (arith, inside)) refl
          c.loop-left.invariant.read (sym c.in-Some.ensures.exact);
    }

pub returns : goal.returns
returns c =
    c.is_whole.ensures ∙ all_outlined c.args.word.now c.loop-left.left c.loop-left.outline c.loop-left-test.false c.loop-left.invariant.read
