use Rattle.std.proofs.Common.{◌≡◌, ◌<◌, ◌≤◌, length, ◌∙◌, sym, subst, arith}
use Rattle.std.proofs.lemmas.List.{length-set}
use Rattle.ts_glue.specs.declared.shape.Shape.TheVariants.{Apart}
use Rattle.ts_glue.specs.Pairs.{pair, table_view}
use Rattle.ts_glue.specs.Shapes.{shape_of}
use Rattle.ts_glue.proofs.Calls.{filled_more}
use Rattle.ts_glue.proofs.shape.row_of.Goals as goal

pub loop-r-preserved : goal.loop-r-preserved
loop-r-preserved c =
    let p = pair c.args.forward.now c.args.reverse.now (table_view c.args.table.now) in
    let long = c.loop-r.invariant.0 in let few = c.states-r-end.ensures.few in let below = c.loop-r-test.true in (
      length-set c.loop-r.row c.loop-r.r c.shape_of.result ∙ long,
      filled_more (λ i s. s ≡ shape_of p c.args.q i) c.loop-r.row c.loop-r.r c.shape_of.result Apart (omega (arith, long, few, below))
          c.loop-r.invariant.1 c.shape_of.ensures,
    )
