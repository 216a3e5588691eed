-- The value of a term of a model on a series: that of its three names on the cells that it looks at. Where nothing
-- occurs in them, it is they that are counted.
use Rattle.std.specs.Prelude.{ℤ, Bool, is_some, List}
use Rattle.std.specs.List.{list_any}
use Rattle.ts_base.specs.declared.ext.Ext.{Ext}
use Rattle.ts_base.specs.Windows.{looked_at}
use Rattle.ts_pattern.specs.TermValue.{value_of}
use Rattle.ts_model.specs.ModelParts.{ModelParts, StatedTerm}

-- the cells of a series that the term looks at
abbrev pub cells_seen : StatedTerm → List ℤ → List ℤ
cells_seen t xs = looked_at t.window xs

abbrev pub stated_value : StatedTerm → List ℤ → Ext
stated_value t xs = value_of t.aggregator t.feature t.pattern (cells_seen t xs)

-- a term of the model looks at some of the cells alone
abbrev pub has_window : ModelParts → Bool
has_window m = list_any (λ t. is_some t.1.window) m.terms
