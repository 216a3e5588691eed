use Rattle.ts_automaton.proofs.Five.{five_parts}
use Rattle.ts_sweep.specs.Moves.{fits_by}
use Rattle.ts_sweep.specs.MoveLaws.{by_names}
use Rattle.ts_sweep.proofs.moves.PartsEachPart.are_fit.Goals as goal

pub returns : goal.returns
returns g c =
    let parts = c.args.self in
    λ is xs bounded. (let all = five_parts c.is_fit.result c.is_fit-2.result c.is_fit-3.result c.is_fit-4.result c.is_fit-5.result is in
    by_names (λ k. fits_by (g.C.Part.fit parts.c) (g.E.Part.fit parts.e) (g.D.Part.fit parts.d) (g.F.Part.fit parts.f) (g.R.Part.fit parts.r) k xs)
    (c.is_fit.ensures all.0 xs bounded) (c.is_fit-2.ensures all.1 xs bounded) (c.is_fit-3.ensures all.2 xs bounded)
    (c.is_fit-4.ensures all.3 xs bounded) (c.is_fit-5.ensures all.4 xs bounded))
