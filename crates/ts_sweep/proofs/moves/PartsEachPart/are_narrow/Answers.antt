use Rattle.std.proofs.Common.{◌&&◌}
use Rattle.std.proofs.lemmas.Bool.{and_parts}
use Rattle.ts_sweep.proofs.moves.PartsEachPart.are_narrow.Goals as goal

pub returns : goal.returns
returns g c =
    λ is s. (let p = and_parts (c.is_narrow.result && c.is_narrow-2.result) c.is_narrow-3.result is in
    let q = and_parts c.is_narrow.result c.is_narrow-2.result p.0 in
    (c.is_narrow.ensures q.0 s, (c.is_narrow-2.ensures q.1 s, (c.is_narrow-3.ensures p.1 s, tt))))
