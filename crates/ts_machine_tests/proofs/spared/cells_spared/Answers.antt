use Rattle.std.proofs.Common.{◌∙◌, sym, subst, arith}
use Rattle.ts_witness.specs.KnownValues.{AreBeside}
use Rattle.ts_machine_tests.proofs.spared.cells_spared.Goals as goal

pub loop-k-init : goal.loop-k-init
loop-k-init c = record {
  witness = c.holds.ensures.witness;
  series = c.holds.ensures.series ∙ c.in_ok-witness.ensures.series;
  cells = c.in_ok-spared.ensures.cells;
  spared = c.in_ok-spared.ensures.spared c.args.r.now;
  beside = c.in_ok-spared.ensures.beside c.args.series.items;
  few = omega arith;
}

pub keeps_up_to-limit-requires-clause-beside : goal.keeps_up_to-limit-requires-clause-beside
keeps_up_to-limit-requires-clause-beside c =
    subst (λ y. AreBeside c.args.m.now y c.loop-k.spared) (sym c.loop-k.invariant.series) c.loop-k.invariant.beside
