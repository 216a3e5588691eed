use Rattle.std.proofs.Common.{◌∙◌, sym, rules, arith}
use Rattle.ts_bound.proofs.CellLists.{run_more, run_none}
use Rattle.ts_bound.proofs.cell_values.take_run.Goals as goal

pub loop-i-init : goal.loop-i-init
loop-i-init c =
    let long = c.reserve.ensures.len ∙ c.clear.ensures.len in let room = c.in_ok-reserve.ensures.ok in (
      c.reserve.ensures.items ∙ c.clear.ensures.items ∙ sym (run_none _),
      long,
      omega (arith, long, room),
    )

pub loop-i-preserved : goal.loop-i-preserved
loop-i-preserved c =
    let long = c.push_reserved.ensures.len in let same = c.push_reserved.ensures.capacity in let room = c.loop-i.invariant.2 in
    let here = c.loop-i.invariant.1 in (
      run_more _ c.loop-i.i c.loop-i.values.items _ _ c.push_reserved.ensures.items c.loop-i.invariant.0 (search rules),
      omega (arith, long, here),
      omega (arith, same, room),
    )
