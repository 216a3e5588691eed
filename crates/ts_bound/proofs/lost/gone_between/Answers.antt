use Rattle.std.proofs.Common.{◌+◌, ◌-◌, drop, length, arith}
use Rattle.std.proofs.lemmas.List.{length-drop}
use Rattle.ts_bound.proofs.PackedStacks.{rest_same}
use Rattle.ts_bound.proofs.WithoutValues.{lost_between}
use Rattle.ts_bound.proofs.lost.gone_between.Goals as goal

pub returns : goal.returns
returns c =
    let before = c.args.before.now in let now = c.args.now.now in let from = c.same_up_to-from.result in
    let to = from + (length before - length now) in
    let long = length-drop to before in let long' = length-drop from now in
    lost_between before now from to c.same_up_to-from.ensures.same
    (rest_same (drop to before) (drop from now) (length before - to) (length now - from) c.ne.result c.ne.ensures c.if-ne.false (omega (arith, long))
    (omega (arith, long')))
