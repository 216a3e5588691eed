use Rattle.std.proofs.Common.{◌≡◌, ◌≤ℤ◌, pos, nat_eq, not, get_or, rules, arith, ◌∙◌}
use Rattle.ts_sweep.specs.Lanes.{least, some_lanes}
use Rattle.ts_sweep.specs.Sides.{sides}
use Rattle.ts_sweep.specs.SidesLaws.{some_by}
use Rattle.ts_sweep.proofs.packed.has_some.Goals as goal

pub returns-then-this-gt0 : goal.returns-then-this-gt0
returns-then-this-gt0 g c =
    let first : least ≤ℤ get_or c.args.at 0 (pos 0) = search rules in
    search rules ∙ some_by (sides g.row.N) c.args.at first
