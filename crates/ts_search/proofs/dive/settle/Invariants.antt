use Rattle.std.proofs.Common.{◌≡◌}
use Rattle.ts_model.specs.ModelParts.{total_of}
use Rattle.ts_search.specs.Drops.{after_drops}
use Rattle.ts_search.specs.Posed.{MayAsk}
use Rattle.ts_search.specs.Shown.{AreShown}
use Rattle.ts_search.specs.Views.{search_of}
use Rattle.ts_search.proofs.dive.settle.Given as goal

-- the drops that are left are those of the first box
abbrev pub invariant-loop-alloc : goal.invariant-loop-alloc
invariant-loop-alloc l = record {
  machines : l.tables.machines ≡ l.fn.tables.machines;
  shown : AreShown l.problem l.witnesses l.cells.present;
  asked : MayAsk l.problem l.tables l.cells.present;
  same : after_drops (search_of l.problem).model (search_of l.problem).spans l.cells.present
      ≡ after_drops (search_of l.problem).model (search_of l.problem).spans l.fn.cells.present;
}

abbrev pub decreases-loop-alloc : goal.decreases-loop-alloc
decreases-loop-alloc l = total_of l.cells.present
