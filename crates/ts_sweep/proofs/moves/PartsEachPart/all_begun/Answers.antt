use Rattle.ts_sweep.specs.declared.packed.Name.TheVariants.{C, E, D, F, R}
use Rattle.ts_sweep.specs.MoveLaws.{wide_of}
use Rattle.ts_sweep.specs.Packed.{is_wide}
use Rattle.ts_sweep.proofs.moves.PartsEachPart.all_begun.Goals as goal

pub begun-c-requires-clause-fit : goal.begun-c-requires-clause-fit
begun-c-requires-clause-fit g c = c.requires.fit C

pub begun_beside-e-requires-clause-fit : goal.begun_beside-e-requires-clause-fit
begun_beside-e-requires-clause-fit g c = wide_of (is_wide g.H.Packed.count) 1 _ (c.requires.fit E)

pub begun-d-requires-clause-fit : goal.begun-d-requires-clause-fit
begun-d-requires-clause-fit g c = c.requires.fit D

pub begun_beside-f-requires-clause-fit : goal.begun_beside-f-requires-clause-fit
begun_beside-f-requires-clause-fit g c = wide_of (is_wide g.H.Packed.count) 3 _ (c.requires.fit F)

pub begun-r-requires-clause-fit : goal.begun-r-requires-clause-fit
begun-r-requires-clause-fit g c = c.requires.fit R
