use Rattle.std.proofs.Common.{◌≡◌, sym, ap, arith}
use Rattle.ts_sweep.proofs.CoverLaws.{turned_is}
use Rattle.ts_sweep.proofs.cover.turned.Goals as goal

pub returns : goal.returns
returns g c =
    let i = c.loop-k.invariant in
    let e : c.loop-k.k ≡ g.row.N = omega arith in
    ap (λ xs. record { at = xs }) (turned_is _ _ _ i.1 i.0 (rw (sym e) i.2))
