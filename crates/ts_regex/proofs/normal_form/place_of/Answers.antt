use Rattle.ts_regex.specs.Shape.{shape_of}
use Rattle.std.proofs.Common.{arith}
use Rattle.ts_regex.proofs.Members.{before_member, same_member, after_member}
use Rattle.ts_regex.proofs.normal_form.place_of.Goals as goal

pub returns-in-Less : goal.returns-in-Less
returns-in-Less c = (
  omega arith,
  before_member (shape_of c.args.r.now) c.args.found.now c.loop-k.k c.index-found-k.result c.loop-k-test.true c.index-found-k.is
      c.loop-k.invariant c.in-Less.ensures,
)

pub returns-in-Equal : goal.returns-in-Equal
returns-in-Equal c =
    same_member (shape_of c.args.r.now) c.args.found.now c.loop-k.k c.index-found-k.result c.loop-k-test.true c.index-found-k.is c.loop-k.invariant
    c.in-Equal.ensures

pub loop-k-preserved : goal.loop-k-preserved
loop-k-preserved c =
    after_member (shape_of c.args.r.now) c.args.found.now c.loop-k.k c.index-found-k.result c.loop-k-test.true c.index-found-k.is c.loop-k.invariant
    c.in-Greater.ensures
