-- The names of patterns, features and aggregators (Global Constraint Catalog, Volume II), and which pairs of an
-- aggregator and a feature make a term.
use Rattle.std.specs.Prelude.{ℕ, List, [], ◌∷◌, Bool, true, false, codes}
use Rattle.ts_pattern.specs.declared.name.PatternId.{PatternId}
use Rattle.ts_pattern.specs.declared.name.PatternId.TheVariants.{Increasing, Decreasing, Steady, IncreasingSequence, DecreasingSequence, StrictlyIncreasingSequence, StrictlyDecreasingSequence, SteadySequence, IncreasingTerrace, DecreasingTerrace, Inflexion, Peak, Valley, Plateau, Plain, ProperPlateau, ProperPlain, Summit, Gorge, Zigzag, DipOnIncreasingSequence, BumpOnDecreasingSequence}
use Rattle.ts_pattern.specs.declared.name.Feature.{Feature}
use Rattle.ts_pattern.specs.declared.name.Feature.TheVariants.{One, Width, Surf, Max as MaxFeature, Min as MinFeature, Range}
use Rattle.ts_pattern.specs.declared.name.Aggregator.{Aggregator}
use Rattle.ts_pattern.specs.declared.name.Aggregator.TheVariants.{Sum, Max, Min}

abbrev pub pattern_name : PatternId → List ℕ
pattern_name Increasing = codes "increasing"
pattern_name Decreasing = codes "decreasing"
pattern_name Steady = codes "steady"
pattern_name IncreasingSequence = codes "increasing_sequence"
pattern_name DecreasingSequence = codes "decreasing_sequence"
pattern_name StrictlyIncreasingSequence = codes "strictly_increasing_sequence"
pattern_name StrictlyDecreasingSequence = codes "strictly_decreasing_sequence"
pattern_name SteadySequence = codes "steady_sequence"
pattern_name IncreasingTerrace = codes "increasing_terrace"
pattern_name DecreasingTerrace = codes "decreasing_terrace"
pattern_name Inflexion = codes "inflexion"
pattern_name Peak = codes "peak"
pattern_name Valley = codes "valley"
pattern_name Plateau = codes "plateau"
pattern_name Plain = codes "plain"
pattern_name ProperPlateau = codes "proper_plateau"
pattern_name ProperPlain = codes "proper_plain"
pattern_name Summit = codes "summit"
pattern_name Gorge = codes "gorge"
pattern_name Zigzag = codes "zigzag"
pattern_name DipOnIncreasingSequence = codes "dip_on_increasing_sequence"
pattern_name BumpOnDecreasingSequence = codes "bump_on_decreasing_sequence"

-- the patterns in their order
abbrev pub all_patterns : List PatternId
all_patterns =
    Increasing ∷ Decreasing ∷ Steady
    ∷ IncreasingSequence ∷ DecreasingSequence ∷ StrictlyIncreasingSequence ∷ StrictlyDecreasingSequence ∷ SteadySequence
    ∷ IncreasingTerrace ∷ DecreasingTerrace ∷ Inflexion ∷ Peak ∷ Valley ∷ Plateau ∷ Plain ∷ ProperPlateau ∷ ProperPlain
    ∷ Summit ∷ Gorge ∷ Zigzag ∷ DipOnIncreasingSequence ∷ BumpOnDecreasingSequence ∷ []

abbrev pub feature_name : Feature → List ℕ
feature_name One = codes "one"
feature_name Width = codes "width"
feature_name Surf = codes "surf"
feature_name MaxFeature = codes "max"
feature_name MinFeature = codes "min"
feature_name Range = codes "range"

abbrev pub aggregator_name : Aggregator → List ℕ
aggregator_name Sum = codes "sum"
aggregator_name Max = codes "max"
aggregator_name Min = codes "min"

-- the features in their order
abbrev pub all_features : List Feature
all_features = One ∷ Width ∷ Surf ∷ MaxFeature ∷ MinFeature ∷ Range ∷ []

-- the aggregators in their order
abbrev pub all_aggregators : List Aggregator
all_aggregators = Sum ∷ Max ∷ Min ∷ []

-- the feature `one` goes with `sum` alone
abbrev pub is_pair : Aggregator → Feature → Bool
is_pair Sum f = true
is_pair g One = false
is_pair g f = true
