-- What no number of a span does: meet a comparison with a bound, or count for a bar.
use Rattle.std.specs.Prelude.{◌≡◌, Bool, false, not}
use Rattle.ts_base.specs.declared.ext.Ext.{Ext}
use Rattle.ts_base.specs.declared.goal.Goal.{Goal}
use Rattle.ts_base.specs.declared.span.Span.{Span}
use Rattle.ts_base.specs.Spans.{Holds}
use Rattle.ts_model.specs.declared.model.Op.{Op}
use Rattle.ts_model.specs.Compares.{compares}
use Rattle.ts_model.specs.FirstBest.{is_better}
use Rattle.ts_filter.specs.declared.bar.Bar.{Bar}
use Rattle.ts_filter.specs.declared.bar.Bar.TheVariants.{Better, AsGood}

-- no number of the span meets the comparison with the bound
abbrev pub Refutes : Op → Ext → Span → Type 0
Refutes op bound s = (v : Ext) → Holds s v → compares op bound v ≡ false

-- v is better than the bar's number, or at least as good
abbrev pub counts : Goal → Bar → Ext → Bool
counts goal (Better w) v = is_better goal v w
counts goal (AsGood w) v = not (is_better goal w v)

-- no number of the span counts for the bar
abbrev pub Cuts : Goal → Bar → Span → Type 0
Cuts goal bar s = (v : Ext) → Holds s v → counts goal bar v ≡ false
