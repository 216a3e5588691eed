-- What is asked of a model and its spans, for a search to be right.
use Rattle.ts_domain.specs.BoxSeries.{IsBox}
use Rattle.ts_model.specs.Promise.{IsWhole}
use Rattle.ts_model.specs.ModelParts.{ModelParts}
use Rattle.ts_filter.specs.Laws.{HoldsValues, TellsSingles}
use Rattle.ts_filter.specs.RefutedWorseDrop.{Spans}

-- the model is whole and has a box; a term's span at a usable cell holds its value on each series of the box, and on a
-- box of one series, at the last cell, that value alone
pub record AreRight (m : ModelParts) (s : Spans) : Type 0 where
  pub whole : IsWhole m
  pub box : IsBox m.cells
  pub holds : HoldsValues m s
  pub single : TellsSingles m s
