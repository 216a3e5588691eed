-- The value of a term on a series: its aggregator over the features of all occurrences, and a value of its own where
-- there is none (Global Constraint Catalog, Volume II: aggregators).
use Rattle.std.specs.Prelude.{ℕ, ℤ, pos, List, map, length, Option, None, Some}
use Rattle.ts_base.specs.declared.ext.Ext.{Ext}
use Rattle.ts_base.specs.declared.ext.Ext.TheVariants.{Int}
use Rattle.ts_base.specs.declared.range.Range.{Range}
use Rattle.ts_base.specs.Operators.{int_op}
use Rattle.ts_base.specs.Signature.{signature_of}
use Rattle.ts_pattern.specs.declared.name.Aggregator.{Aggregator}
use Rattle.ts_pattern.specs.declared.name.Aggregator.TheVariants.{Max, Min}
use Rattle.ts_pattern.specs.declared.name.Feature.{Feature}
use Rattle.ts_pattern.specs.declared.name.Feature.TheVariants.{Width}
use Rattle.ts_pattern.specs.declared.name.PatternId.{PatternId}
use Rattle.ts_pattern.specs.declared.term.Term.{Term}
use Rattle.ts_pattern.specs.PatternTable.{pattern_shape, pattern_b, pattern_a}
use Rattle.ts_pattern.specs.AllOccurrences.{occurrence_ranges}
use Rattle.ts_pattern.specs.Arithmetic.{range_op, default_value}
use Rattle.ts_pattern.specs.FeatureValue.{over, feature_value}

-- what joins two features
abbrev pub combine : Aggregator → ℤ → ℤ → ℤ
combine g = int_op (range_op g)

-- the value without an occurrence, in a series of n cells: the greatest width is 0, the least one n
abbrev pub value_of_none : Aggregator → Feature → ℕ → Ext
value_of_none Max Width n = Int (pos 0)
value_of_none Min Width n = Int (pos n)
value_of_none g f n = default_value g

-- a number, or in its place the value for none
abbrev pub or_none : Ext → Option ℤ → Ext
or_none none_value None = none_value
or_none none_value (Some x) = Int x

-- the aggregate of the features, each a whole number
abbrev pub aggregate : Aggregator → Ext → List ℤ → Ext
aggregate g none_value values = or_none none_value (over (combine g) values)

-- of the e-ranges of all occurrences
abbrev pub aggregate_of_ranges : Aggregator → Feature → List Range → List ℤ → Ext
aggregate_of_ranges g f ranges xs =
    aggregate g (value_of_none g f (length xs)) (map (λ r. feature_value f r xs) ranges)

unfoldable pub value_of : Aggregator → Feature → PatternId → List ℤ → Ext
value_of g f id xs =
    aggregate_of_ranges g f (occurrence_ranges (pattern_shape id) (pattern_b id) (pattern_a id) (signature_of xs)) xs

abbrev pub term_value : Term → List ℤ → Ext
term_value t xs = value_of t.aggregator t.feature t.pattern xs
