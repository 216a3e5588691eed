-- The laws of expressions that the crates above stand on, one for each call and test.
use Rattle.std.specs.Prelude.{◌≡◌, ◌↔◌, true, false, List, [], ◌∷◌, refl}
use Rattle.std.proofs.Common.{sym, subst}
use Rattle.std.specs.Ordering.{is_eq}
use Rattle.ts_base.specs.declared.letter.Letter.{Letter}
use Rattle.ts_regex.specs.Shape.{Shape}
use Rattle.ts_regex.specs.Language.{InLanguage}
use Rattle.ts_regex.specs.Derivative.{nullable, derivative, has_word, has_longer}
use Rattle.ts_regex.specs.NormalForm.{shape_cmp, same_shape, normal_form, residual}
use Rattle.ts_regex.specs.Membership.{is_word}
use Rattle.ts_regex.proofs.Booleans.{refuted}
use Rattle.ts_regex.proofs.Derivatives.{nullable_to, nullable_back, derivative_to, derivative_back, word_to, word_back, longer_to, longer_back}
use Rattle.ts_regex.proofs.NormalForms.{cmp_equal, cmp_itself, is_same, normal_to, normal_back}

pub nullable_law : (r : Shape) → (nullable r ≡ true) ↔ InLanguage r []
nullable_law r = (nullable_to r, nullable_back r)

pub derivative_law : (r : Shape) (l : Letter) (v : List Letter) → InLanguage (derivative r l) v ↔ InLanguage r (l ∷ v)
derivative_law r l v = (derivative_to r l v, derivative_back r l v)

pub normal_law : (r : Shape) (v : List Letter) → InLanguage (normal_form r) v ↔ InLanguage r v
normal_law r v = (normal_to r v, normal_back r v)

pub residual_law : (r : Shape) (l : Letter) (v : List Letter) → InLanguage (residual r l) v ↔ InLanguage r (l ∷ v)
residual_law r l v = (λ h. derivative_to r l v (normal_to (derivative r l) v h), λ h. normal_back (derivative r l) v (derivative_back r l v h))

pub has_word_law : (r : Shape) → (has_word r ≡ true) ↔ ((v : List Letter) × InLanguage r v)
has_word_law r = (word_to r, λ h. word_back r h.0 h.1)

pub no_word : (r : Shape) → has_word r ≡ false → (v : List Letter) → InLanguage r v → ⊥
no_word r q v h = refuted (has_word r) (word_back r v) q h

pub has_longer_law : (r : Shape) → (has_longer r ≡ true) ↔ ((l : Letter) × (v : List Letter) × InLanguage r (l ∷ v))
has_longer_law r = (longer_to r, λ h. longer_back r h.0 h.1 h.2)

pub no_longer : (r : Shape) → has_longer r ≡ false → (l : Letter) (v : List Letter) → InLanguage r (l ∷ v) → ⊥
no_longer r q l v h = refuted (has_longer r) (longer_back r l v) q h

pub same_law : (r s : Shape) → (same_shape r s ≡ true) ↔ (r ≡ s)
same_law r s = (λ q. cmp_equal r s (is_same (shape_cmp r s) q), λ q. subst (λ z. same_shape r z ≡ true) q (same_itself r))
  where
    same_itself : (r : Shape) → same_shape r r ≡ true
    same_itself r = subst (λ o. is_eq o ≡ true) (sym (cmp_itself r)) refl

pub is_word_to : (r : Shape) (w : List Letter) → is_word r w ≡ true → InLanguage r w
is_word_to r [] q = nullable_to r q
is_word_to r (l ∷ w) q = (residual_law r l w).0 (is_word_to (residual r l) w q)

pub is_word_back : (r : Shape) (w : List Letter) → InLanguage r w → is_word r w ≡ true
is_word_back r [] h = nullable_back r h
is_word_back r (l ∷ w) h = is_word_back (residual r l) w ((residual_law r l w).1 h)

pub is_word_law : (r : Shape) (w : List Letter) → (is_word r w ≡ true) ↔ InLanguage r w
is_word_law r w = (is_word_to r w, is_word_back r w)
