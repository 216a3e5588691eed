use Rattle.ts_base.specs.Numbers.{ext_plus, ext_max, ext_min}
use Rattle.ts_base.proofs.SpanLaws.{end_by_end_law, plus_mono, max_mono, min_mono}
use Rattle.ts_base.proofs.laws.spans_hold_results.Goals as goal

pub returns-clause-plus : goal.returns-clause-plus
returns-clause-plus c = end_by_end_law ext_plus plus_mono

pub returns-clause-greatest : goal.returns-clause-greatest
returns-clause-greatest c = end_by_end_law ext_max max_mono

pub returns-clause-least : goal.returns-clause-least
returns-clause-least c = end_by_end_law ext_min min_mono
