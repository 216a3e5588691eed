-- A word is found in the table of names exactly where it is a name.
use Rattle.std.specs.Prelude.{◌≡◌, ◌↔◌, List, [], ◌∷◌, ℕ, Bool, true, false, cond, Some, refl}
use Rattle.std.specs.List.{find}
use Rattle.std.specs.Str.{bytes_eq}
use Rattle.std.proofs.Common.{subst}
use Rattle.std.proofs.lemmas.Slice.Eq.{bytes_eq-Decides}
use Rattle.ts_pattern.specs.Names.{pattern_name, all_patterns}
use Rattle.ts_pattern.specs.declared.name.PatternId.{PatternId}
use Rattle.ts_pattern.specs.declared.name.PatternId.TheVariants.{Increasing, Decreasing, Steady, IncreasingSequence, DecreasingSequence, StrictlyIncreasingSequence, StrictlyDecreasingSequence, SteadySequence, IncreasingTerrace, DecreasingTerrace, Inflexion, Peak, Valley, Plateau, Plain, ProperPlateau, ProperPlain, Summit, Gorge, Zigzag, DipOnIncreasingSequence, BumpOnDecreasingSequence}

-- what is found passes the test
found_passes : {A : Type 0} (p : A → Bool) (xs : List A) (x : A) → find p xs ≡ Some x → p x ≡ true
found_passes p [] x h = cc
found_passes p (y ∷ ys) x h =
    elim (p y) as (λ b. p y ≡ b → cond b (Some y) (find p ys) ≡ Some x → p x ≡ true) [
      | true ↦ λ q e. let same : y ≡ x = cc in subst (λ z. p z ≡ true) same q
      | false ↦ λ q e. found_passes p ys x e
    ] refl h

-- no two names are the same
own_name : (id : PatternId) → find (λ x. bytes_eq (pattern_name x) (pattern_name id)) all_patterns ≡ Some id
own_name Increasing = refl
own_name Decreasing = refl
own_name Steady = refl
own_name IncreasingSequence = refl
own_name DecreasingSequence = refl
own_name StrictlyIncreasingSequence = refl
own_name StrictlyDecreasingSequence = refl
own_name SteadySequence = refl
own_name IncreasingTerrace = refl
own_name DecreasingTerrace = refl
own_name Inflexion = refl
own_name Peak = refl
own_name Valley = refl
own_name Plateau = refl
own_name Plain = refl
own_name ProperPlateau = refl
own_name ProperPlain = refl
own_name Summit = refl
own_name Gorge = refl
own_name Zigzag = refl
own_name DipOnIncreasingSequence = refl
own_name BumpOnDecreasingSequence = refl

-- what a search by name finds has that name, where each finds itself by its own
pub found_by_name : {A : Type 0} (name : A → List ℕ) (all : List A) → ((x : A) → find (λ y. bytes_eq (name y) (name x)) all ≡ Some x) →
    (word : List ℕ) (x : A) → (find (λ y. bytes_eq (name y) word) all ≡ Some x) ↔ (name x ≡ word)
found_by_name name all own word x = (
  λ h. (bytes_eq-Decides (name x) word).0 (found_passes (λ y. bytes_eq (name y) word) all x h),
  λ h. subst (λ w. find (λ y. bytes_eq (name y) w) all ≡ Some x) h (own x),
)

pub found_name : (word : List ℕ) (id : PatternId) → (find (λ x. bytes_eq (pattern_name x) word) all_patterns ≡ Some id) ↔ (pattern_name id ≡ word)
found_name word id = found_by_name pattern_name all_patterns own_name word id
