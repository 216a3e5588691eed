-- What no number of a span does, by the ends of the span.
use Rattle.std.specs.Prelude.{Bool, not, ◌&&◌, ◌||◌}
use Rattle.ts_base.specs.declared.ext.Ext.{Ext}
use Rattle.ts_base.specs.declared.goal.Goal.{Goal}
use Rattle.ts_base.specs.declared.goal.Goal.TheVariants.{Maximise, Minimise}
use Rattle.ts_base.specs.declared.span.Span.{Span}
use Rattle.ts_base.specs.Numbers.{ext_le}
use Rattle.ts_base.specs.Spans.{has_some}
use Rattle.ts_model.specs.declared.model.Op.{Op}
use Rattle.ts_model.specs.declared.model.Op.TheVariants.{Equal, Unequal, AtMost, AtLeast, Below, Above}
use Rattle.ts_filter.specs.declared.bar.Bar.{Bar}
use Rattle.ts_filter.specs.Excluded.{counts}

-- a is less than b
abbrev pub ext_lt : Ext → Ext → Bool
ext_lt a b = not (ext_le b a)

-- no number between the ends meets the comparison with the bound
abbrev pub ends_refute : Op → Ext → Ext → Ext → Bool
ends_refute Equal b lo hi = ext_lt b lo || ext_lt hi b
ends_refute Unequal b lo hi = ext_le b lo && ext_le hi b
ends_refute AtMost b lo hi = ext_lt b lo
ends_refute AtLeast b lo hi = ext_lt hi b
ends_refute Below b lo hi = ext_le b lo
ends_refute Above b lo hi = ext_le hi b

abbrev pub refutes : Op → Ext → Span → Bool
refutes op bound s = not (has_some s) || ends_refute op bound s.lo s.hi

-- the better one of a span's ends
abbrev pub best_end : Goal → Span → Ext
best_end Maximise s = s.hi
best_end Minimise s = s.lo

abbrev pub cuts : Goal → Bar → Span → Bool
cuts goal bar s = not (has_some s) || not (counts goal bar (best_end goal s))
