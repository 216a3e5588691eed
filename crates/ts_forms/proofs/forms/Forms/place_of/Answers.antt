use Rattle.std.proofs.Common.{arith}
use Rattle.ts_forms.specs.Nodes.{form_at}
use Rattle.ts_forms.specs.Tables.{shapes}
use Rattle.ts_forms.proofs.Members.{before_member, same_member, after_member}
use Rattle.ts_forms.proofs.forms.Forms.place_of.Goals as goal

pub returns-in-Less : goal.returns-in-Less
returns-in-Less c = (
  omega arith,
  before_member (λ z. form_at (shapes c.args.self.now) z) (form_at (shapes c.args.self.now) c.args.i) c.args.found.now c.loop-k.k _
      c.loop-k-test.true c.loop-k.invariant c.in-Less.ensures,
)

pub returns-in-Equal : goal.returns-in-Equal
returns-in-Equal c =
    same_member (λ z. form_at (shapes c.args.self.now) z) (form_at (shapes c.args.self.now) c.args.i) c.args.found.now c.loop-k.k _
    c.loop-k-test.true c.loop-k.invariant c.in-Equal.ensures

pub loop-k-preserved : goal.loop-k-preserved
loop-k-preserved c =
    after_member (λ z. form_at (shapes c.args.self.now) z) (form_at (shapes c.args.self.now) c.args.i) c.args.found.now c.loop-k.k _
    c.loop-k-test.true c.loop-k.invariant c.in-Greater.ensures
