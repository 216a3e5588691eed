-- Lists of which each element, or some element, has a property.
use Rattle.std.specs.Prelude.{◌≡◌, ◌⊎◌, ℕ, zero, suc, Bool, true, false, cond, List, [], ◌∷◌, ◌++◌, length, slice_get, Some, refl}
use Rattle.std.specs.List.{filter, AllByRecursion}
use Rattle.std.proofs.Common.{inl, inr, ⊎_elim, ap}
use Rattle.std.proofs.lemmas.Option.{none-some, same_Some}
use Rattle.ts_pattern.specs.EachOf.{OneOf}

pub each_map : {A : Type 0} (p q : A → Type 0) → ((x : A) → p x → q x) → (es : List A) → AllByRecursion p es → AllByRecursion q es
each_map p q f [] h = tt
each_map p q f (x ∷ es) h = (f x h.0, each_map p q f es h.1)

pub each_and : {A : Type 0} (p q : A → Type 0) (es : List A) → AllByRecursion p es → AllByRecursion q es → AllByRecursion (λ x. p x × q x) es
each_and p q [] h k = tt
each_and p q (x ∷ es) h k = ((h.0, k.0), each_and p q es h.1 k.1)

pub each_filter : {A : Type 0} (p : A → Type 0) (q : A → Bool) (es : List A) → AllByRecursion p es → AllByRecursion p (filter q es)
each_filter p q [] h = tt
each_filter p q (e ∷ es) h =
    elim (q e) as (λ b. AllByRecursion p (cond b (e ∷ filter q es) (filter q es))) [ true ↦ (h.0, each_filter p q es h.1) | false ↦ each_filter p q es h.1 ]

pub each_push : {A : Type 0} (p : A → Type 0) (es : List A) (e : A) → AllByRecursion p es → p e → AllByRecursion p (es ++ e ∷ [])
each_push p [] e h k = (k, tt)
each_push p (x ∷ es) e h k = (h.0, each_push p es e h.1 k)

pub each_append : {A : Type 0} (p : A → Type 0) (xs ys : List A) → AllByRecursion p xs → AllByRecursion p ys → AllByRecursion p (xs ++ ys)
each_append p [] ys h k = k
each_append p (x ∷ xs) ys h k = (h.0, each_append p xs ys h.1 k)

pub each_left : {A : Type 0} (p : A → Type 0) (es fs : List A) → AllByRecursion p (es ++ fs) → AllByRecursion p es
each_left p [] fs h = tt
each_left p (x ∷ es) fs h = (h.0, each_left p es fs h.1)

pub one_left : {A : Type 0} (p : A → Type 0) (es fs : List A) → OneOf p es → OneOf p (es ++ fs)
one_left p [] fs h = absurd h
one_left p (x ∷ es) fs h = ⊎_elim (λ a. inl a) (λ a. inr (one_left p es fs a)) h

pub one_right : {A : Type 0} (p : A → Type 0) (es fs : List A) → OneOf p fs → OneOf p (es ++ fs)
one_right p [] fs h = h
one_right p (x ∷ es) fs h = inr (one_right p es fs h)

-- what stands in a list with one more element
pub front_or_last : {A : Type 0} (xs : List A) (y : A) (k : ℕ) (x : A) → slice_get (xs ++ y ∷ []) k ≡ Some x →
    (slice_get xs k ≡ Some x) ⊎ ((k ≡ length xs) × (y ≡ x))
front_or_last [] y zero x q = inr (refl, same_Some y x q)
front_or_last [] y (suc k) x q = absurd (none-some x q)
front_or_last (z ∷ xs) y zero x q = inl q
front_or_last (z ∷ xs) y (suc k) x q = ⊎_elim (λ h. inl h) (λ h. inr (ap (λ n. suc n) h.0, h.1)) (front_or_last xs y k x q)
