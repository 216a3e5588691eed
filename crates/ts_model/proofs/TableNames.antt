-- What is found by its name, where no two names are the same.
use Rattle.std.proofs.Common.{◌≡◌, ◌↔◌, List, ℕ, Option, None, Some, refl, sym}
use Rattle.std.specs.List.{find}
use Rattle.std.specs.Str.{bytes_eq}
use Rattle.ts_pattern.specs.declared.name.Aggregator.{Aggregator}
use Rattle.ts_pattern.specs.declared.name.Aggregator.TheVariants.{Sum, Max, Min}
use Rattle.ts_pattern.specs.declared.name.Feature.{Feature}
use Rattle.ts_pattern.specs.declared.name.Feature.TheVariants.{One, Width, Surf, Max as MaxFeature, Min as MinFeature, Range}
use Rattle.ts_pattern.specs.declared.name.PatternId.{PatternId}
use Rattle.ts_pattern.specs.Names.{aggregator_name, all_aggregators, feature_name, all_features, pattern_name}
use Rattle.ts_pattern.proofs.CallerLemmas.{found_name, found_by_name}
use Rattle.ts_model.specs.Words.{aggregator_of, feature_of, pattern_of}

-- two options of which the same is known are one
same_by : {A : Type 0} (P : A → Type 0) (r s : Option A) → ((x : A) → (r ≡ Some x) ↔ P x) → ((x : A) → (s ≡ Some x) ↔ P x) → r ≡ s
same_by P None None f g = refl
same_by P (Some x) s f g = sym ((g x).1 ((f x).0 refl))
same_by P None (Some y) f g = (f y).1 ((g y).0 refl)

own_aggregator : (x : Aggregator) → find (λ y. bytes_eq (aggregator_name y) (aggregator_name x)) all_aggregators ≡ Some x
own_aggregator Sum = refl
own_aggregator Max = refl
own_aggregator Min = refl

own_feature : (x : Feature) → find (λ y. bytes_eq (feature_name y) (feature_name x)) all_features ≡ Some x
own_feature One = refl
own_feature Width = refl
own_feature Surf = refl
own_feature MaxFeature = refl
own_feature MinFeature = refl
own_feature Range = refl

pub aggregator_is : (word : List ℕ) (r : Option Aggregator) → ((x : Aggregator) → (r ≡ Some x) ↔ (aggregator_name x ≡ word)) → r ≡ aggregator_of word
unfolding aggregator_of
aggregator_is word r h = same_by (λ x. aggregator_name x ≡ word) r _ h (found_by_name aggregator_name all_aggregators own_aggregator word)

pub feature_is : (word : List ℕ) (r : Option Feature) → ((x : Feature) → (r ≡ Some x) ↔ (feature_name x ≡ word)) → r ≡ feature_of word
unfolding feature_of
feature_is word r h =
    same_by (λ x. feature_name x ≡ word) r _ h (found_by_name feature_name all_features own_feature word)

pub pattern_is : (word : List ℕ) (r : Option PatternId) → ((x : PatternId) → (r ≡ Some x) ↔ (pattern_name x ≡ word)) → r ≡ pattern_of word
unfolding pattern_of
pattern_is word r h = same_by (λ x. pattern_name x ≡ word) r _ h (found_name word)
