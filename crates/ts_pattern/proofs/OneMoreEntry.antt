-- The survivors of one more entry: what the letter leaves of it comes last, unless its residual has no word or stands already.
use Rattle.std.specs.Prelude.{◌≡◌, Bool, true, false, cond, not, ◌&&◌, ◌||◌, List, [], ◌∷◌, ◌++◌, refl}
use Rattle.std.specs.List.{filter, list_any}
use Rattle.std.proofs.Common.{sym, ◌∙◌, ap, append-nil}
use Rattle.std.proofs.lemmas.Bool.{false≢true}
use Rattle.std.proofs.lemmas.List.{map-append}
use Rattle.std.proofs.lemmas.List.Elements.{filter-append}
use Rattle.ts_base.specs.declared.letter.Letter.{Letter}
use Rattle.ts_regex.proofs.Laws.{same_law}
use Rattle.ts_pattern.specs.Entries.{Entry, Residuals, shapes, derive_entry, derive_entries, live_entries, without, keep, survivors, with_entry}

-- two residuals that are the same as a third one are the same
abbrev pub SameFollows : {R : Type 0} → Residuals R → Type 0
SameFollows {R} t = (x k d : R) → t.same x k ≡ true → t.same k d ≡ true → t.same x d ≡ true

any_without : {X R T : Type 0} (t : Residuals R) → SameFollows t → (x d : R) (ks : List (Entry X R T)) → list_any (λ k. t.same k.residual d) ks ≡ true →
    t.same x d || list_any (λ k. t.same k.residual d) (without t x ks) ≡ true
any_without t f x d [] h = absurd (false≢true h)
any_without {X} {R} {T} t f x d (k ∷ ks) h = go (t.same x k.residual) (t.same k.residual d) refl (list_any (λ k. t.same k.residual d) ks) (f x k.residual d)
    (any_without t f x d ks) h
  where
    three : (a b e : Bool) → b ≡ true → a || (b || e) ≡ true
    three true b e q = refl
    three false b e q = ap (λ z. z || e) q

    one_more : (a b e : Bool) → b ≡ false → a || e ≡ true → a || (b || e) ≡ true
    one_more a b e q h = ap (λ z. a || (z || e)) q ∙ h

    go : (a b : Bool) → t.same k.residual d ≡ b → (c : Bool) → (a ≡ true → t.same k.residual d ≡ true → t.same x d ≡ true) →
        (c ≡ true → t.same x d || list_any (λ (k : Entry X R T). t.same k.residual d) (without t x ks) ≡ true) → b || c ≡ true →
        t.same x d || list_any (λ (k : Entry X R T). t.same k.residual d) (cond (not a) (k ∷ without t x ks) (without t x ks)) ≡ true
    go true true e c g i h = ap (λ z. z || list_any (λ (k : Entry X R T). t.same k.residual d) (without t x ks)) (g refl e)
    go true false e c g i h = i h
    go false true e c g i h = three (t.same x d) (t.same k.residual d) (list_any (λ (k : Entry X R T). t.same k.residual d) (without t x ks)) e
    go false false e c g i h = one_more (t.same x d) (t.same k.residual d) (list_any (λ (k : Entry X R T). t.same k.residual d) (without t x ks)) e (i h)

any_filter : {A : Type 0} (p q : A → Bool) (xs : List A) → list_any p xs ≡ false → list_any p (filter q xs) ≡ false
any_filter p q [] h = h
any_filter p q (x ∷ xs) h = go (q x) (p x) refl h (any_filter p q xs)
  where
    go : (a b : Bool) → p x ≡ b → b || list_any p xs ≡ false → (list_any p xs ≡ false → list_any p (filter q xs) ≡ false) →
        list_any p (cond a (x ∷ filter q xs) (filter q xs)) ≡ false
    go a true e h i = absurd (false≢true (sym h))
    go true false e h i = ap (λ z. z || list_any p (filter q xs)) e ∙ i h
    go false false e h i = i h

keep_push : {X R T : Type 0} (t : Residuals R) → SameFollows t → (xs : List (Entry X R T)) (d : Entry X R T) →
    keep t (xs ++ d ∷ []) ≡ cond (list_any (λ k. t.same k.residual d.residual) (keep t xs)) (keep t xs) (keep t xs ++ d ∷ [])
keep_push t f [] d = refl
keep_push {X} {R} {T} t f (x ∷ xs) d =
    ap (λ z. x ∷ without t x.residual z) (keep_push t f xs d)
    ∙ go (list_any (λ k. t.same k.residual d.residual) (keep t xs)) (any_without t f x.residual d.residual (keep t xs))
    (any_filter (λ k. t.same k.residual d.residual) (λ k. not (t.same x.residual k.residual)) (keep t xs)) refl
  where
    go : (a : Bool) →
        (list_any (λ (k : Entry X R T). t.same k.residual d.residual) (keep t xs) ≡ true →
        t.same x.residual d.residual || list_any (λ (k : Entry X R T). t.same k.residual d.residual) (without t x.residual (keep t xs)) ≡ true) →
        (list_any (λ (k : Entry X R T). t.same k.residual d.residual) (keep t xs) ≡ false →
        list_any (λ (k : Entry X R T). t.same k.residual d.residual) (without t x.residual (keep t xs)) ≡ false) →
        list_any (λ (k : Entry X R T). t.same k.residual d.residual) (keep t xs) ≡ a →
        x ∷ without t x.residual (cond a (keep t xs) (keep t xs ++ d ∷ []))
        ≡ cond (t.same x.residual d.residual || list_any (λ (k : Entry X R T). t.same k.residual d.residual) (without t x.residual (keep t xs)))
        (x ∷ without t x.residual (keep t xs)) (x ∷ without t x.residual (keep t xs) ++ d ∷ [])
    go true some none e = ap (λ z. cond z (x ∷ without t x.residual (keep t xs)) (x ∷ without t x.residual (keep t xs) ++ d ∷ [])) (sym (some e))
    go false some none e =
        ap (λ z. x ∷ z) (filter-append (λ k. not (t.same x.residual k.residual)) (keep t xs) (d ∷ []))
        ∙ last (t.same x.residual d.residual) (without t x.residual (keep t xs))
        ∙ ap (λ z. cond (t.same x.residual d.residual || z) (x ∷ without t x.residual (keep t xs)) (x ∷ without t x.residual (keep t xs) ++ d ∷ []))
        (sym (none e))
      where
        last : (b : Bool) (ks : List (Entry X R T)) → x ∷ (ks ++ cond (not b) (d ∷ []) []) ≡ cond (b || false) (x ∷ ks) (x ∷ ks ++ d ∷ [])
        last true ks = ap (λ z. x ∷ z) (append-nil ks)
        last false ks = refl

pub survivors_push : {X R T : Type 0} (t : Residuals R) → SameFollows t → (l : Letter) (es : List (Entry X R T)) (e : Entry X R T) →
    survivors t l (es ++ e ∷ []) ≡ with_entry t (survivors t l es) (derive_entry t l e)
survivors_push {X} {R} {T} t f l es e =
    ap (λ z. keep t (live_entries t z)) (map-append (λ x. derive_entry t l x) es (e ∷ []))
    ∙ ap (λ z. keep t z) (filter-append (λ x. t.has_word x.residual) (derive_entries t l es) (derive_entry t l e ∷ []))
    ∙ go (t.has_word (t.next e.residual l)) (live_entries t (derive_entries t l es))
    (keep_push t f (live_entries t (derive_entries t l es)) (derive_entry t l e))
  where
    go : (a : Bool) (xs : List (Entry X R T)) →
        keep t (xs ++ derive_entry t l e ∷ []) ≡ cond (list_any (λ (k : Entry X R T). t.same k.residual (t.next e.residual l)) (keep t xs)) (keep t xs)
        (keep t xs ++ derive_entry t l e ∷ []) →
        keep t (xs ++ cond a (derive_entry t l e ∷ []) [])
        ≡ cond (a && not (list_any (λ (k : Entry X R T). t.same k.residual (t.next e.residual l)) (keep t xs))) (keep t xs ++ derive_entry t l e ∷ [])
        (keep t xs)
    go false xs h = ap (λ z. keep t z) (append-nil xs)
    go true xs h = h ∙ turned (list_any (λ (k : Entry X R T). t.same k.residual (t.next e.residual l)) (keep t xs)) (keep t xs)
        (keep t xs ++ derive_entry t l e ∷ [])
      where
        turned : (b : Bool) (ys zs : List (Entry X R T)) → cond b ys zs ≡ cond (not b) zs ys
        turned true ys zs = refl
        turned false ys zs = refl

-- equality of expressions follows from equality with a third one
pub shapes_follow : SameFollows shapes
shapes_follow x k d p q = (same_law x d).1 ((same_law x k).0 p ∙ (same_law k d).0 q)
