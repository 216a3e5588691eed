use Rattle.ts_domain.proofs.Trails.{begun, begun_fit, begun_boxes}
use Rattle.ts_domain.proofs.boxed.Boxed.new.Goals as goal

pub invariant_of-result : goal.invariant_of-result
invariant_of-result c =
    begun_fit c.new.result.items _ c.args.cells.now c.new.ensures.items
    (begun _ c.args.cells.now _ c.loop-domain.invariant.copied c.loop-domain-test.false) c.requires c.loop-domain.invariant.domains

pub returns : goal.returns
returns c = begun_boxes c.new.result.items _ c.args.cells.now c.new.ensures.items
    (begun _ c.args.cells.now _ c.loop-domain.invariant.copied c.loop-domain-test.false)
