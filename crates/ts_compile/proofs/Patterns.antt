-- The tests on the tables of each pattern that has a partner.
use Rattle.std.specs.Prelude.{◌≡◌, ℕ, Bool, true, ◌&&◌, nat_eq, List, length, nat_le, refl, Option, Some, None}
use Rattle.std.specs.List.{list_any}
use Rattle.std.proofs.Common.{subst}
use Rattle.std.proofs.lemmas.Bool.{and_parts}
use Rattle.ts_base.specs.declared.range.Join.{Join}
use Rattle.ts_pattern.specs.declared.name.Aggregator.{Aggregator}
use Rattle.ts_pattern.specs.declared.name.Aggregator.TheVariants.{Sum, Max as MaxOf, Min as MinOf}
use Rattle.ts_pattern.specs.declared.name.Feature.{Feature}
use Rattle.ts_pattern.specs.declared.name.Feature.TheVariants.{One, Width, Surf, Max as MaxFeature, Min as MinFeature, Range}
use Rattle.ts_pattern.specs.declared.name.PatternId.{PatternId}
use Rattle.ts_pattern.specs.declared.name.PatternId.TheVariants.{Increasing, Decreasing, Steady, IncreasingSequence, DecreasingSequence, StrictlyIncreasingSequence, StrictlyDecreasingSequence, SteadySequence, IncreasingTerrace, DecreasingTerrace, Inflexion, Peak, Valley, Plateau, Plain, ProperPlateau, ProperPlain, Summit, Gorge, Zigzag, DipOnIncreasingSequence, BumpOnDecreasingSequence}
use Rattle.ts_pattern.specs.PatternTable.{pattern_a}
use Rattle.ts_seed.specs.SeedTable.{seed_table}
use Rattle.ts_glue.specs.Rules.{keeps_rules}
use Rattle.ts_compile.specs.TermPairs.{pair_by}
use Rattle.ts_compile.proofs.Tests.{are_fitting}

-- one occurrence goes on between the two states
abbrev pub is_pair : List Join → ℕ → ℕ → Bool
is_pair js q r = list_any (λ j. nat_eq j.forward q && nat_eq j.reverse r) js

-- a test of all terms
abbrev pub on_features : (Feature → Bool) → Bool
on_features p = p One && (p Width && (p Surf && (p MaxFeature && (p MinFeature && p Range))))

abbrev pub on_terms : (Aggregator → Feature → Bool) → Bool
on_terms p = on_features (p Sum) && (on_features (p MaxOf) && on_features (p MinOf))

-- what is tested of a pattern beside its partner: the tables fit, they have few rows, and the pair of each term keeps
-- the rules

abbrev pub tables_fit : PatternId → PatternId → Bool
tables_fit id p = are_fitting (pattern_a id) (is_pair (seed_table id).joins) (seed_table id).rows (seed_table p).rows

abbrev pub has_few_rows : PatternId → Bool
has_few_rows id = nat_le (length (seed_table id).rows) 8

abbrev pub terms_keep_rules : PatternId → PatternId → Bool
terms_keep_rules id p = on_terms (λ g f. keeps_rules (pair_by id p g f))

abbrev pub are_tested : PatternId → PatternId → Bool
are_tested id p = tables_fit id p && (has_few_rows id && (has_few_rows p && terms_keep_rules id p))

abbrev pub with_partner : PatternId → Option PatternId → Bool
with_partner id None = true
with_partner id (Some p) = are_tested id p

-- 528 triples of a forward state, a letter and a reverse state, 147 of them of zigzags; each pair under all terms
all_tested : (id : PatternId) → with_partner id (seed_table id).partner ≡ true
all_tested Increasing = refl
all_tested Decreasing = refl
all_tested Steady = refl
all_tested IncreasingSequence = refl
all_tested DecreasingSequence = refl
all_tested StrictlyIncreasingSequence = refl
all_tested StrictlyDecreasingSequence = refl
all_tested SteadySequence = refl
all_tested IncreasingTerrace = refl
all_tested DecreasingTerrace = refl
all_tested Inflexion = refl
all_tested Peak = refl
all_tested Valley = refl
all_tested Plateau = refl
all_tested Plain = refl
all_tested ProperPlateau = refl
all_tested ProperPlain = refl
all_tested Summit = refl
all_tested Gorge = refl
all_tested Zigzag = refl
all_tested DipOnIncreasingSequence = refl
all_tested BumpOnDecreasingSequence = refl

pub tested : (id p : PatternId) → (seed_table id).partner ≡ Some p →
    (tables_fit id p ≡ true) × (has_few_rows id ≡ true) × (has_few_rows p ≡ true) × (terms_keep_rules id p ≡ true)
tested id p h =
    let all = subst (λ z. with_partner id z ≡ true) h (all_tested id) in
    let x = and_parts (tables_fit id p) (has_few_rows id && (has_few_rows p && terms_keep_rules id p)) all in
    let y = and_parts (has_few_rows id) (has_few_rows p && terms_keep_rules id p) x.1 in
    let z = and_parts (has_few_rows p) (terms_keep_rules id p) y.1 in
    (x.0, y.0, z.0, z.1)

-- what a test of all terms says of one

feature_is : (p : Feature → Bool) → on_features p ≡ true → (f : Feature) → p f ≡ true
feature_is p h f =
    let x = and_parts _ _ h in
    let y = and_parts _ _ x.1 in
    let z = and_parts _ _ y.1 in
    let w = and_parts _ _ z.1 in
    let v = and_parts _ _ w.1 in
    elim f as (λ f. p f ≡ true) [ One ↦ x.0 | Width ↦ y.0 | Surf ↦ z.0 | MaxFeature ↦ w.0 | MinFeature ↦ v.0 | Range ↦ v.1 ]

pub term_is : (p : Aggregator → Feature → Bool) → on_terms p ≡ true → (g : Aggregator) (f : Feature) → p g f ≡ true
term_is p h g f =
    let x = and_parts _ _ h in
    let y = and_parts _ _ x.1 in
    elim g as (λ g. p g f ≡ true) [ Sum ↦ feature_is (p Sum) x.0 f | MaxOf ↦ feature_is (p MaxOf) y.0 f | MinOf ↦ feature_is (p MinOf) y.1 f ]
