-- A pattern of the catalogue by its name.
use Rattle.std.proofs.Common.{◌≡◌, ◌↔◌, List, ℕ, Option, None, Some, refl, sym}
use Rattle.ts_pattern.specs.declared.name.PatternId.{PatternId}
use Rattle.ts_pattern.specs.Names.{pattern_name}
use Rattle.ts_pattern.proofs.CallerLemmas.{found_name}
use Rattle.ts_user.specs.Words.{pattern_of}

-- two options of which the same is known are one
same_by : {A : Type 0} (P : A → Type 0) (r s : Option A) → ((x : A) → (r ≡ Some x) ↔ P x) → ((x : A) → (s ≡ Some x) ↔ P x) → r ≡ s
same_by P None None f g = refl
same_by P (Some x) s f g = sym ((g x).1 ((f x).0 refl))
same_by P None (Some y) f g = (f y).1 ((g y).0 refl)

pub pattern_is : (word : List ℕ) (r : Option PatternId) → ((x : PatternId) → (r ≡ Some x) ↔ (pattern_name x ≡ word)) → r ≡ pattern_of word
unfolding pattern_of
pattern_is word r h = same_by (λ x. pattern_name x ≡ word) r _ h (found_name word)
