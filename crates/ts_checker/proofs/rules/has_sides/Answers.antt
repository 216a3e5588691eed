use Rattle.std.proofs.Common.{◌≤ℤ◌, ◌<ℤ◌, rules, w64}
use Rattle.std.proofs.lemmas.Int.{to_z-of_z}
use mir.Val.{SFits}
use Rattle.ts_checker.proofs.Cells.{none_below, sides_told}
use Rattle.ts_checker.proofs.rules.has_sides.Goals as goal

pub returns-then-ends-t : goal.returns-then-ends-t
returns-then-ends-t c =
    let ends = c.ends-ends in
    let reached : ends.result.low ≤ℤ c.args.t = search rules in
    let fits : SFits w64 ends.result.high = search rules in
    sides_told c.args.domain.now ends.result.low ends.result.high c.args.t _ _ (to_z-of_z w64 c.args.t c.ranges.t) (to_z-of_z w64 ends.result.high fits)
    reached ends.ensures.low ends.ensures.high ends.ensures.all

pub returns-else-ends-t : goal.returns-else-ends-t
returns-else-ends-t c =
    let ends = c.ends-ends in
    let less : c.args.t <ℤ ends.result.low = search rules in
    let fits : SFits w64 ends.result.low = search rules in
    none_below c.args.domain.now ends.result.low c.args.t _ _ (to_z-of_z w64 ends.result.low fits) (to_z-of_z w64 c.args.t c.ranges.t) less
    ends.ensures.low (λ v h. (ends.ensures.all v h).0)
