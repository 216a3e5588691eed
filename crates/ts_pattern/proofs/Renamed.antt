-- The step of entries asks for nothing but what their residuals' tests say: it goes through a change of the marks and
-- of the residuals that keeps the tests' answers.
use Rattle.std.specs.Prelude.{◌≡◌, Bool, true, false, cond, not, ◌&&◌, ◌||◌, List, [], ◌∷◌, map, refl}
use Rattle.std.specs.List.{list_any, AllByRecursion}
use Rattle.std.proofs.Common.{◌∙◌, ap}
use Rattle.ts_base.specs.declared.letter.Letter.{Letter}
use Rattle.ts_base.specs.declared.range.Kind.{Kind}
use Rattle.ts_transducer.specs.declared.row.Phase.{Phase}
use Rattle.ts_transducer.specs.Typing.{is_held}
use Rattle.ts_pattern.specs.declared.plan.Tag.{Tag}
use Rattle.ts_pattern.specs.Entries.{Entry, Residuals, derive_entry, derive_entries, live_entries, without, keep, survivors}
use Rattle.ts_pattern.specs.Closed.{is_due, is_ind, is_inc, tag_after, no_ind, retag_entries, implies, is_find, is_match, is_found_e, is_out_a, is_maybe_b, first_passes, acceptance_agrees, find_starts_right, early_find_ends, held_start_first, pending_keeps_start, entries_agree}
use Rattle.ts_pattern.proofs.Entries.{each_keep}

abbrev pub renamed : {X Y R S T : Type 0} → (X → Y) → (R → S) → Entry X R T → Entry Y S T
renamed f g e = record { mark = f e.mark; residual = g e.residual; tag = e.tag }

-- the two residuals' tests agree after the letter, and what is left has P
pub record NextAgrees {R S : Type 0} (t : Residuals R) (u : Residuals S) (g : R → S) (P : R → Type 0) (l : Letter) (r : R) : Type 0 where
  pub has : t.has_word (t.next r l) ≡ u.has_word (u.next (g r) l)
  pub value : t.has_word (t.next r l) ≡ true → g (t.next r l) ≡ u.next (g r) l
  pub left : t.has_word (t.next r l) ≡ true → P (t.next r l)

abbrev pub SameAgrees : {R S : Type 0} → Residuals R → Residuals S → (R → S) → (R → Type 0) → Type 0
SameAgrees {R} t u g P = (r s : R) → P r → P s → t.same r s ≡ u.same (g r) (g s)

cons_cond : {A : Type 0} (b c : Bool) (x y : A) (xs ys : List A) → b ≡ c → (b ≡ true → x ≡ y) → xs ≡ ys → cond b (x ∷ xs) xs ≡ cond c (y ∷ ys) ys
cons_cond true true x y xs ys q h e = ap (λ z. z ∷ xs) (h refl) ∙ ap (λ z. y ∷ z) e
cons_cond false false x y xs ys q h e = e
cons_cond true false x y xs ys q h e = cc
cons_cond false true x y xs ys q h e = cc

map_cond : {A B : Type 0} (f : A → B) (b : Bool) (x : A) (xs : List A) → map f (cond b (x ∷ xs) xs) ≡ cond b (f x ∷ map f xs) (map f xs)
map_cond f true x xs = refl
map_cond f false x xs = refl

alive_renamed : {X Y R S T : Type 0} (t : Residuals R) (u : Residuals S) (f : X → Y) (g : R → S) (P : R → Type 0) (l : Letter) (es : List (Entry X R T)) →
    AllByRecursion (λ e. NextAgrees t u g P l e.residual) es → map (λ e. renamed f g e) (live_entries t (derive_entries t l es)) ≡ live_entries u
    (derive_entries u l (map (λ e. renamed f g e) es))
alive_renamed t u f g P l [] h = refl
alive_renamed t u f g P l (e ∷ es) h =
    map_cond (λ e. renamed f g e) (t.has_word (t.next e.residual l)) (derive_entry t l e) (live_entries t (derive_entries t l es))
    ∙ cons_cond (t.has_word (t.next e.residual l)) (u.has_word (u.next (g e.residual) l)) (renamed f g (derive_entry t l e)) (derive_entry u l (renamed f g e))
    (map (λ e. renamed f g e) (live_entries t (derive_entries t l es))) (live_entries u (derive_entries u l (map (λ e. renamed f g e) es))) h.0.has
    (λ q. ap (λ z. record { mark = f e.mark; residual = z; tag = e.tag }) (h.0.value q)) (alive_renamed t u f g P l es h.1)

alive_left : {X R S T : Type 0} (t : Residuals R) (u : Residuals S) (g : R → S) (P : R → Type 0) (l : Letter) (es : List (Entry X R T)) →
    AllByRecursion (λ e. NextAgrees t u g P l e.residual) es → AllByRecursion (λ e. P e.residual) (live_entries t (derive_entries t l es))
alive_left t u g P l [] h = tt
alive_left t u g P l (e ∷ es) h = at P (t.has_word (t.next e.residual l)) (derive_entry t l e) (live_entries t (derive_entries t l es)) h.0.left
    (alive_left t u g P l es h.1)
  where
    at : {X R T : Type 0} (P : R → Type 0) (b : Bool) (e : Entry X R T) (es : List (Entry X R T)) → (b ≡ true → P e.residual) →
        AllByRecursion (λ e. P e.residual) es →
        AllByRecursion (λ e. P e.residual) (cond b (e ∷ es) es)
    at P true e es p h = (p refl, h)
    at P false e es p h = h

without_renamed : {X Y R S T : Type 0} (t : Residuals R) (u : Residuals S) (f : X → Y) (g : R → S) (P : R → Type 0) → SameAgrees t u g P → (r : R) → P r →
    (es : List (Entry X R T)) → AllByRecursion (λ e. P e.residual) es →
    map (λ e. renamed f g e) (without t r es) ≡ without u (g r) (map (λ e. renamed f g e) es)
without_renamed t u f g P s r p [] h = refl
without_renamed t u f g P s r p (e ∷ es) h =
    map_cond (λ e. renamed f g e) (not (t.same r e.residual)) e (without t r es)
    ∙ cons_cond (not (t.same r e.residual)) (not (u.same (g r) (g e.residual))) (renamed f g e) (renamed f g e) (map (λ e. renamed f g e) (without t r es))
    (without u (g r) (map (λ e. renamed f g e) es)) (ap (λ b. not b) (s r e.residual p h.0)) (λ q. refl) (without_renamed t u f g P s r p es h.1)

keep_renamed : {X Y R S T : Type 0} (t : Residuals R) (u : Residuals S) (f : X → Y) (g : R → S) (P : R → Type 0) → SameAgrees t u g P →
    (es : List (Entry X R T)) → AllByRecursion (λ e. P e.residual) es →
    map (λ e. renamed f g e) (keep t es) ≡ keep u (map (λ e. renamed f g e) es)
keep_renamed t u f g P s [] h = refl
keep_renamed t u f g P s (e ∷ es) h =
    ap (λ z. renamed f g e ∷ z) (without_renamed t u f g P s e.residual h.0 (keep t es) (each_keep t (λ e. P e.residual) es h.1)
    ∙ ap (λ z. without u (g e.residual) z) (keep_renamed t u f g P s es h.1))

pub survivors_renamed : {X Y R S T : Type 0} (t : Residuals R) (u : Residuals S) (f : X → Y) (g : R → S) (P : R → Type 0) → SameAgrees t u g P →
    (l : Letter) (es : List (Entry X R T)) →
    AllByRecursion (λ e. NextAgrees t u g P l e.residual) es → map (λ e. renamed f g e) (survivors t l es) ≡ survivors u l (map (λ e. renamed f g e) es)
survivors_renamed t u f g P s l es h =
    keep_renamed t u f g P s (live_entries t (derive_entries t l es)) (alive_left t u g P l es h) ∙ ap (λ z. keep u z) (alive_renamed t u f g P l es h)

pub survivors_left : {X R S T : Type 0} (t : Residuals R) (u : Residuals S) (g : R → S) (P : R → Type 0) (l : Letter) (es : List (Entry X R T)) →
    AllByRecursion (λ e. NextAgrees t u g P l e.residual) es → AllByRecursion (λ e. P e.residual) (survivors t l es)
survivors_left t u g P l es h = each_keep t (λ e. P e.residual) (live_entries t (derive_entries t l es)) (alive_left t u g P l es h)

pub retag_renamed : {X Y R S : Type 0} (f : X → Y) (g : R → S) (p : Phase) (free : Bool) (es : List (Entry X R Tag)) →
    map (λ e. renamed f g e) (retag_entries p free es) ≡ retag_entries p free (map (λ e. renamed f g e) es)
retag_renamed f g p free [] = refl
retag_renamed f g p free (e ∷ es) = ap (λ z. record { mark = f e.mark; residual = g e.residual; tag = tag_after p free e.tag } ∷ z)
    (retag_renamed f g p free es)

pub no_ind_renamed : {X Y R S : Type 0} (f : X → Y) (g : R → S) (es : List (Entry X R Tag)) → no_ind (map (λ e. renamed f g e) es) ≡ no_ind es
no_ind_renamed f g [] = refl
no_ind_renamed f g (e ∷ es) = ap (λ z. not (is_ind e.tag) && z) (no_ind_renamed f g es)

any_renamed : {A B : Type 0} (p : A → Bool) (q : B → Bool) (h : A → B) (xs : List A) → AllByRecursion (λ x. p x ≡ q (h x)) xs →
    list_any p xs ≡ list_any q (map h xs)
any_renamed p q h [] e = refl
any_renamed p q h (x ∷ xs) e = ap (λ z. z || list_any p xs) e.0 ∙ ap (λ z. q (h x) || z) (any_renamed p q h xs e.1)

first_renamed : {A B : Type 0} (p : A → Bool) (q : B → Bool) (h : A → B) (xs : List A) → AllByRecursion (λ x. p x ≡ q (h x)) xs →
    first_passes p xs ≡ first_passes q (map h xs)
first_renamed p q h [] e = refl
first_renamed p q h (x ∷ xs) e = e.0

each_same : {A : Type 0} (p : A → Bool) (xs : List A) → AllByRecursion (λ x. p x ≡ p x) xs
each_same p [] = tt
each_same p (x ∷ xs) = (refl, each_same p xs)

-- the tests on words agree
pub record WordsAgree {R S : Type 0} (t : Residuals R) (u : Residuals S) (g : R → S) (r : R) : Type 0 where
  pub nullable : t.nullable r ≡ u.nullable (g r)
  pub longer : t.has_longer r ≡ u.has_longer (g r)

pub agree_renamed : {X Y R S : Type 0} (t : Residuals R) (u : Residuals S) (f : X → Y) (g : R → S) (p : Phase) (k : Kind) (free : Bool)
    (es : List (Entry X R Tag)) →
    AllByRecursion (λ e. WordsAgree t u g e.residual) es → entries_agree t p k free es ≡ entries_agree u p k free (map (λ e. renamed f g e) es)
agree_renamed {X} {Y} {R} {S} t u f g p k free es h =
    let ren : Entry X R Tag → Entry Y S Tag = λ e. renamed f g e in
    let fs = map ren es in
    let nullable_any : list_any (λ (e : Entry X R Tag). t.nullable e.residual) es ≡ list_any (λ (e : Entry Y S Tag). u.nullable e.residual) fs =
    any_renamed (λ e. t.nullable e.residual) (λ e. u.nullable e.residual) ren es (words_nullable t u g es h) in
    let nullable_first : first_passes (λ (e : Entry X R Tag). t.nullable e.residual) es ≡ first_passes (λ (e : Entry Y S Tag). u.nullable e.residual) fs =
    first_renamed (λ e. t.nullable e.residual) (λ e. u.nullable e.residual) ren es (words_nullable t u g es h) in
    let a : acceptance_agrees t p es ≡ acceptance_agrees u p fs =
    ap (λ z. implies z (is_match p) && implies (is_match p) (first_passes (λ e. t.nullable e.residual) es)) nullable_any
    ∙ ap (λ z. implies (list_any (λ e. u.nullable e.residual) fs) (is_match p) && implies (is_match p) z) nullable_first in
    let b : find_starts_right p free es ≡ find_starts_right p free fs = ap (λ z. implies (is_find p) z)
    (first_renamed (λ e. is_ind e.tag || (is_due e.tag && free)) (λ e. is_ind e.tag || (is_due e.tag && free)) ren es
    (each_same (λ e. is_ind e.tag || (is_due e.tag && free)) es)) in
    let c : early_find_ends t p es ≡ early_find_ends u p fs = ap (λ z. implies (is_found_e p) z)
    (first_renamed (λ e. not (t.has_longer e.residual)) (λ e. not (u.has_longer e.residual)) ren es (words_longer t u g es h)) in
    let d : held_start_first p k free es ≡ held_start_first p k free fs =
    ap (λ z. implies (is_held k) z && implies (is_out_a p) (not (list_any (λ e. is_inc e.tag) es)))
    (first_renamed (λ e. is_inc (tag_after p free e.tag)) (λ e. is_inc (tag_after p free e.tag)) ren es
    (each_same (λ e. is_inc (tag_after p free e.tag)) es))
    ∙ ap (λ z. implies (is_held k) (first_passes (λ e. is_inc (tag_after p free e.tag)) fs) && implies (is_out_a p) (not z))
    (any_renamed (λ e. is_inc e.tag) (λ e. is_inc e.tag) ren es (each_same (λ e. is_inc e.tag) es)) in
    let i : pending_keeps_start p free es ≡ pending_keeps_start p free fs =
    ap (λ z. implies (is_maybe_b p) z) (any_renamed (λ e. is_ind (tag_after p free e.tag)) (λ e. is_ind (tag_after p free e.tag)) ren es
    (each_same (λ e. is_ind (tag_after p free e.tag)) es)) in
    five a b c d i
  where
    words_nullable : {X R S : Type 0} (t : Residuals R) (u : Residuals S) (g : R → S) (es : List (Entry X R Tag)) →
        AllByRecursion (λ e. WordsAgree t u g e.residual) es → AllByRecursion (λ e. t.nullable e.residual ≡ u.nullable (g e.residual)) es
    words_nullable t u g [] h = tt
    words_nullable t u g (e ∷ es) h = (h.0.nullable, words_nullable t u g es h.1)

    words_longer : {X R S : Type 0} (t : Residuals R) (u : Residuals S) (g : R → S) (es : List (Entry X R Tag)) →
        AllByRecursion (λ e. WordsAgree t u g e.residual) es →
        AllByRecursion (λ e. not (t.has_longer e.residual) ≡ not (u.has_longer (g e.residual))) es
    words_longer t u g [] h = tt
    words_longer t u g (e ∷ es) h = (ap (λ z. not z) h.0.longer, words_longer t u g es h.1)

    five : {a a' b b' c c' d d' i i' : Bool} → a ≡ a' → b ≡ b' → c ≡ c' → d ≡ d' → i ≡ i' → (a && (b && (c && (d && i)))) ≡ (a' && (b' && (c' && (d' && i'))))
    five p q r s t = cc
