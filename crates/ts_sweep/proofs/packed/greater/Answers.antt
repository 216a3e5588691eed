use Rattle.std.proofs.Common.{arith, sym, ◌≡◌}
use Rattle.ts_sweep.proofs.Greater.{greater_is}
use Rattle.ts_sweep.proofs.packed.greater.Goals as goal

pub returns : goal.returns
returns g c =
    let i = c.loop-k.invariant in
    let e : c.loop-k.k ≡ g.row.N = omega arith in
    greater_is _ _ _ _ i.2 i.1 i.0 (rw (sym e) i.3)
