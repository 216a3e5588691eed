-- Lists of numbers: which of them a test leaves, and rising lists.
use Rattle.std.proofs.Common.{◌≡◌, ℕ, zero, suc, ◌<◌, ℤ, pos, ◌-ℤ◌, ◌≤ℤ◌, ◌<ℤ◌, ◌⊎◌, inl, inr, ◌↔◌, Bool, true, false, not, cond, ◌&&◌, List, [], ◌∷◌, ◌++◌, length, get_or}
use Rattle.std.proofs.Common.{refl, sym, ap, ◌∙◌, subst, arith}
use Rattle.std.proofs.lemmas.Int.{ints, by_lt_z}
use Rattle.std.proofs.lemmas.Bool.{both_ways}
use Rattle.std.proofs.lemmas.Bool.Decides.{Decides-int_eq}
use Rattle.std.specs.Prelude.{filter, int_le, int_lt, Contains}
use Rattle.std.specs.Ordering.{int_eq}
use Rattle.std.specs.List.{AllByRecursion}
use Rattle.ts_domain.specs.Values.{IsRising}

-- the first of a list, or one of the others
pub contains_cons : {A : Type 0} (x : A) (xs : List A) (v : A) → Contains (x ∷ xs) v ↔ ((x ≡ v) ⊎ Contains xs v)
contains_cons x xs v = (λ h. split h.0 h.1 h.2, λ w. elim w [ inl e ↦ (0, omega arith, e) | inr h ↦ (suc h.0, omega (arith, h.1), h.2) ])
  where
    split : (k : ℕ) → k < length (x ∷ xs) → get_or (x ∷ xs) k v ≡ v → (x ≡ v) ⊎ Contains xs v
    split zero below at = inl at
    split (suc k) below at = inr (k, omega (arith, below), at)

pub nothing_in : {A : Type 0} (v : A) → Contains [] v → ⊥
nothing_in v h = absurd (omega (arith, h.1))

-- a filter keeps exactly what passes its test
pub contains_filter : (test : ℤ → Bool) (xs : List ℤ) (v : ℤ) → Contains (filter test xs) v ↔ (Contains xs v × (test v ≡ true))
contains_filter test [] v = (λ h. absurd (omega (arith, h.1)), λ h. absurd (omega (arith, h.0.1)))
contains_filter test (x ∷ xs) v = by_test (contains_filter test xs v) (test x) refl
  where
    by_test : Contains (filter test xs) v ↔ (Contains xs v × (test v ≡ true)) → (b : Bool) → test x ≡ b →
        Contains (cond b (x ∷ filter test xs) (filter test xs)) v ↔ (Contains (x ∷ xs) v × (test v ≡ true))
    by_test rest true e = (
      λ h. elim ((contains_cons x (filter test xs) v).0 h) [
        | inl s ↦ ((contains_cons x xs v).1 (inl s), ap test (sym s) ∙ e)
        | inr t ↦ let r = rest.0 t in ((contains_cons x xs v).1 (inr r.0), r.1)
      ],
      λ h. (contains_cons x (filter test xs) v).1 (elim ((contains_cons x xs v).0 h.0) [ inl s ↦ inl s | inr t ↦ inr (rest.1 (t, h.1)) ]),
    )
    by_test rest false e = (
      λ h. let r = rest.0 h in ((contains_cons x xs v).1 (inr r.0), r.1),
      λ h. elim ((contains_cons x xs v).0 h.0) [ inl s ↦ absurd (both_ways (test x) e (ap test s ∙ h.1)) | inr t ↦ rest.1 (t, h.1) ],
    )

-- two tests that agree on the list leave the same
pub filter_alike : (f g : ℤ → Bool) (xs : List ℤ) → ((v : ℤ) → Contains xs v → f v ≡ g v) → filter f xs ≡ filter g xs
filter_alike f g [] h = refl
filter_alike f g (x ∷ xs) h =
    ap (λ b. cond b (x ∷ filter f xs) (filter f xs)) (h x ((contains_cons x xs x).1 (inl refl))) ∙
    ap (λ l. cond (g x) (x ∷ l) l) (filter_alike f g xs (λ v has. h v ((contains_cons x xs v).1 (inr has))))

pub filter_none : (f : ℤ → Bool) (xs : List ℤ) → ((v : ℤ) → Contains xs v → f v ≡ false) → filter f xs ≡ []
filter_none f [] h = refl
filter_none f (x ∷ xs) h =
    ap (λ b. cond b (x ∷ filter f xs) (filter f xs)) (h x ((contains_cons x xs x).1 (inl refl))) ∙
    filter_none f xs (λ v has. h v ((contains_cons x xs v).1 (inr has)))

pub pass_all : (f : ℤ → Bool) (xs : List ℤ) → ((v : ℤ) → Contains xs v → f v ≡ true) → filter f xs ≡ xs
pass_all f [] h = refl
pass_all f (x ∷ xs) h =
    ap (λ b. cond b (x ∷ filter f xs) (filter f xs)) (h x ((contains_cons x xs x).1 (inl refl))) ∙
    ap (λ l. x ∷ l) (pass_all f xs (λ v has. h v ((contains_cons x xs v).1 (inr has))))

pub filter_both : (f g : ℤ → Bool) (xs : List ℤ) → filter f (filter g xs) ≡ filter (λ v. g v && f v) xs
filter_both f g [] = refl
filter_both f g (x ∷ xs) =
    elim (g x) as (λ b. filter f (cond b (x ∷ filter g xs) (filter g xs)) ≡ cond (b && f x) (x ∷ filter (λ v. g v && f v) xs) (filter (λ v. g v && f v) xs)) [
      | true ↦ ap (λ l. cond (f x) (x ∷ l) l) (filter_both f g xs)
      | false ↦ filter_both f g xs
    ]

pub same_test : (a b : Bool) → (a ≡ true → b ≡ true) → (b ≡ true → a ≡ true) → a ≡ b
same_test true b there back = sym (there refl)
same_test false true there back = back refl
same_test false false there back = refl

-- a rising list
pub each_contains : (P : ℤ → Type 0) (xs : List ℤ) (v : ℤ) → AllByRecursion P xs → Contains xs v → P v
each_contains P [] v all has = absurd (nothing_in v has)
each_contains P (x ∷ xs) v all has = elim ((contains_cons x xs v).0 has) [ inl e ↦ subst P e all.0 | inr there ↦ each_contains P xs v all.1 there ]

pub each_from : (P : ℤ → Type 0) (xs : List ℤ) → ((v : ℤ) → Contains xs v → P v) → AllByRecursion P xs
each_from P [] h = tt
each_from P (x ∷ xs) h = (h x ((contains_cons x xs x).1 (inl refl)), each_from P xs (λ v has. h v ((contains_cons x xs v).1 (inr has))))

pub all_weaker : (P Q : ℤ → Type 0) → ((v : ℤ) → P v → Q v) → (xs : List ℤ) → AllByRecursion P xs → AllByRecursion Q xs
all_weaker P Q f [] a = tt
all_weaker P Q f (x ∷ xs) a = (f x a.0, all_weaker P Q f xs a.1)

pub each_filter : (P : ℤ → Type 0) (test : ℤ → Bool) (xs : List ℤ) → AllByRecursion P xs → AllByRecursion P (filter test xs)
each_filter P test [] h = tt
each_filter P test (x ∷ xs) h =
    elim (test x) as (λ b. AllByRecursion P (cond b (x ∷ filter test xs) (filter test xs)))
    [ true ↦ (h.0, each_filter P test xs h.1) | false ↦ each_filter P test xs h.1 ]

pub rising_filter : (test : ℤ → Bool) (xs : List ℤ) → IsRising xs → IsRising (filter test xs)
unfolding IsRising
rising_filter test [] h = tt
rising_filter test (x ∷ xs) h =
    elim (test x) as (λ b. IsRising (cond b (x ∷ filter test xs) (filter test xs)))
    [ true ↦ (each_filter (λ y. x <ℤ y) test xs h.0, rising_filter test xs h.1) | false ↦ rising_filter test xs h.1 ]

pub all_append : {A : Type 0} (P : A → Type 0) (xs ys : List A) → AllByRecursion P xs → AllByRecursion P ys → AllByRecursion P (xs ++ ys)
all_append P [] ys a b = b
all_append P (x ∷ xs) ys a b = (a.0, all_append P xs ys a.1 b)

-- one rising list after another one
pub rising_append : (xs ys : List ℤ) (m : ℤ) → IsRising xs → IsRising ys → AllByRecursion (λ v. v ≤ℤ m) xs → AllByRecursion (λ v. m <ℤ v) ys →
    IsRising (xs ++ ys)
unfolding IsRising
rising_append [] ys m a b low high = b
rising_append (x ∷ xs) ys m a b low high = (all_append (λ y. x <ℤ y) xs ys a.0 (beyond ys high), rising_append xs ys m a.1 b low.1 high)
  where
    beyond : (ys : List ℤ) → AllByRecursion (λ v. m <ℤ v) ys → AllByRecursion (λ y. x <ℤ y) ys
    beyond [] h = tt
    beyond (y ∷ ys) h = (omega (arith, ints, low.0, h.0), beyond ys h.1)

-- tests on numbers
pub le_true : (x y : ℤ) → x ≤ℤ y → int_le x y ≡ true
le_true x y h = grind (arith, ints)

pub true_le : (x y : ℤ) → int_le x y ≡ true → x ≤ℤ y
true_le x y h = grind (arith, ints)

pub lt_true : (x y : ℤ) → x <ℤ y → int_lt x y ≡ true
lt_true x y h = grind (arith, ints)

pub true_lt : (x y : ℤ) → int_lt x y ≡ true → x <ℤ y
true_lt x y h = grind (arith, ints)

pub le_false : (x y : ℤ) → y <ℤ x → int_le x y ≡ false
le_false x y h = grind (arith, ints)

pub lt_false : (x y : ℤ) → y ≤ℤ x → int_lt x y ≡ false
lt_false x y h = grind (arith, ints)

-- all but one number
abbrev pub other_than : ℤ → ℤ → Bool
other_than gone v = not (int_eq v gone)

pub differs : (gone v : ℤ) → (v ≡ gone → ⊥) → other_than gone v ≡ true
differs gone v n = by_test (int_eq v gone) refl
  where
    by_test : (b : Bool) → int_eq v gone ≡ b → not b ≡ true
    by_test true e = absurd (n ((Decides-int_eq v gone).0 e))
    by_test false e = refl

pub itself : (gone v : ℤ) → v ≡ gone → other_than gone v ≡ false
itself gone v e = ap not ((Decides-int_eq v gone).1 e)

-- a rising list without one number: what is below it, and what is above it
pub two_sides : (gone : ℤ) (xs : List ℤ) → IsRising xs →
    filter (other_than gone) xs ≡ filter (λ v. int_le v (gone -ℤ pos 1)) xs ++ filter (λ v. int_lt gone v) xs
unfolding IsRising
two_sides gone [] h = refl
two_sides gone (x ∷ xs) h =
    by_lt_z x gone (λ lt. below lt (two_sides gone xs h.1)) (λ ge. from ge)
  where
    low : ℤ → Bool
    low v = int_le v (gone -ℤ pos 1)

    high : ℤ → Bool
    high v = int_lt gone v

    below : x <ℤ gone → filter (other_than gone) xs ≡ filter (λ v. int_le v (gone -ℤ pos 1)) xs ++ filter (λ v. int_lt gone v) xs →
        filter (other_than gone) (x ∷ xs) ≡ filter (λ v. int_le v (gone -ℤ pos 1)) (x ∷ xs) ++ filter (λ v. int_lt gone v) (x ∷ xs)
    below lt rest =
        ap (λ b. cond b (x ∷ filter (other_than gone) xs) (filter (other_than gone) xs)) (differs gone x (λ e. not_itself x gone lt e)) ∙ ap (λ l. x ∷ l) rest ∙
        sym (ap (λ b. cond b (x ∷ filter (λ v. int_le v (gone -ℤ pos 1)) xs) (filter (λ v. int_le v (gone -ℤ pos 1)) xs) ++ filter (λ v. int_lt gone v)
        (x ∷ xs)) (le_true x (gone -ℤ pos 1) (omega (arith, ints, lt))) ∙
        ap (λ b. (x ∷ filter (λ v. int_le v (gone -ℤ pos 1)) xs) ++ cond b (x ∷ filter (λ v. int_lt gone v) xs) (filter (λ v. int_lt gone v) xs))
        (lt_false gone x (omega (arith, ints, lt))))
      where
        not_itself : (a b : ℤ) → a <ℤ b → a ≡ b → ⊥
        not_itself a b lt e = omega (arith, ints, lt, e)

    from : gone ≤ℤ x → filter (other_than gone) (x ∷ xs) ≡ filter (λ v. int_le v (gone -ℤ pos 1)) (x ∷ xs) ++ filter (λ v. int_lt gone v) (x ∷ xs)
    from ge =
        filter_alike (other_than gone) (λ v. int_lt gone v) (x ∷ xs) (λ v has. alike v (at_least v has)) ∙
        ap (λ l. l ++ filter (λ v. int_lt gone v) (x ∷ xs)) (sym
        (filter_none (λ v. int_le v (gone -ℤ pos 1)) (x ∷ xs) (λ v has. le_false v (gone -ℤ pos 1) (less v (at_least v has)))))
      where
        at_least : (v : ℤ) → Contains (x ∷ xs) v → gone ≤ℤ v
        at_least v has = elim ((contains_cons x xs v).0 has)
            [ inl e ↦ omega (arith, ints, ge, e) | inr there ↦ let later = each_contains (λ y. x <ℤ y) xs v h.0 there in omega (arith, ints, ge, later) ]

        less : (v : ℤ) → gone ≤ℤ v → (gone -ℤ pos 1) <ℤ v
        less v h = omega (arith, ints, h)

        above_itself : (v : ℤ) → gone <ℤ v → v ≡ gone → ⊥
        above_itself v lt e = omega (arith, ints, lt, e)

        alike : (v : ℤ) → gone ≤ℤ v → other_than gone v ≡ int_lt gone v
        alike v h = by_lt_z gone v (λ lt. differs gone v (λ e. above_itself v lt e) ∙ sym (lt_true gone v lt))
            (λ le. itself gone v (omega (arith, ints, h, le)) ∙ sym (lt_false gone v le))
