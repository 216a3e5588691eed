-- The step by numbers stands for the step by the residuals themselves: it is listed at the same places, and meets the
-- same checks.
use Rattle.std.specs.Prelude.{◌≡◌, ◌⊎◌, ℕ, ◌<◌, ◌==◌, nat_le, Bool, true, false, cond, not, ◌&&◌, ◌||◌, List, [], ◌∷◌, ◌++◌, map, length, refl}
use Rattle.std.specs.List.{list_any, AllByRecursion}
use Rattle.std.proofs.Common.{sym, ◌∙◌, ap, subst, inl, inr, ⊎_elim}
use Rattle.std.proofs.lemmas.Bool.{and_parts, false_from_ne_true, false≢true}
use Rattle.std.proofs.lemmas.List.{map-append}
use Rattle.ts_base.specs.declared.letter.Letter.{Letter}
use Rattle.ts_regex.specs.Shape.{Shape}
use Rattle.ts_regex.specs.Derivative.{has_word}
use Rattle.ts_regex.specs.NormalForm.{residual, normal_form, same_shape}
use Rattle.ts_regex.proofs.Laws.{same_law}
use Rattle.ts_transducer.specs.declared.row.Phase.{Phase}
use Rattle.ts_transducer.specs.declared.row.Row.{Row}
use Rattle.ts_transducer.specs.Decode.{row_at}
use Rattle.ts_pattern.specs.declared.plan.Tag.{Tag}
use Rattle.ts_pattern.specs.EachOf.{OneOf}
use Rattle.ts_pattern.specs.Entries.{Entry, shapes, derive_entry, derive_entries, live_entries, without, keep, survivors}
use Rattle.ts_pattern.specs.Closed.{PlainConfiguration, Subject, first_tag, no_ind, retag_entries, with_start, move_of, entries_before, kept_entries, step_of, entries_agree, same_tag, same_live, same_configuration, step_listed}
use Rattle.ts_pattern.specs.Plans.{PlainPlan, shape_at, entry_value, configuration_value, subject}
use Rattle.ts_pattern.proofs.CallerLemmas.{shapes_right, NextAgrees, WordsAgree, survivors_renamed, survivors_left, retag_renamed, no_ind_renamed, agree_renamed, configuration_is}
use Rattle.ts_validate.specs.Numbers.{table_of, known_at, next_on, numbers, numbered_subject, all_listed}
use Rattle.ts_validate.proofs.Transfer.{IsListedNumber, numbers_same, numbers_agree, words_agree, unlisted}

-- each entry has the number of a residual
abbrev pub AreNumbers : {X : Type 0} → List Shape → List (Entry X ℕ Tag) → Type 0
AreNumbers rs es = AllByRecursion (λ e. IsListedNumber rs e.residual) es

abbrev pub HasNumbers : List Shape → PlainConfiguration ℕ → Type 0
HasNumbers rs x = AreNumbers rs x.live

abbrev valued_entries : List Shape → List (Entry (Unit {0}) ℕ Tag) → List (Entry (Unit {0}) Shape Tag)
valued_entries rs es = map (λ e. entry_value rs e) es

-- the entries before the step

numbers_before : (rs : List Shape) (b : ℕ) (es : List (Entry (Unit {0}) ℕ Tag)) → 0 < length rs → AreNumbers rs es → AreNumbers rs (with_start tt 0 b es)
numbers_before rs b [] q h = (q, tt)
numbers_before rs b (e ∷ es) q h = (h.0, numbers_before rs b es q h.1)

each_agrees : (rs : List Shape) (l : Letter) (es : List (Entry (Unit {0}) ℕ Tag)) → AreNumbers rs es → all_listed (table_of rs) l es ≡ true →
    AllByRecursion (λ e. NextAgrees (numbers (table_of rs)) shapes (λ i. shape_at rs i) (λ i. IsListedNumber rs i) l e.residual) es
each_agrees rs l [] h q = tt
each_agrees rs l (e ∷ es) h q =
    let k = and_parts (nat_le (next_on l (known_at (table_of rs) e.residual)) (length (table_of rs))) (all_listed (table_of rs) l es) q in
    (numbers_agree rs l e.residual h.0 k.0, each_agrees rs l es h.1 k.1)

each_words : (rs : List Shape) (es : List (Entry (Unit {0}) ℕ Tag)) → AreNumbers rs es →
    AllByRecursion (λ e. WordsAgree (numbers (table_of rs)) shapes (λ i. shape_at rs i) e.residual) es
each_words rs [] h = tt
each_words rs (e ∷ es) h = (words_agree rs e.residual h.0, each_words rs es h.1)

retag_numbers : (rs : List Shape) (f : Phase) (free : Bool) (es : List (Entry (Unit {0}) ℕ Tag)) → AreNumbers rs es → AreNumbers rs (retag_entries f free es)
retag_numbers rs f free [] h = tt
retag_numbers rs f free (e ∷ es) h = (h.0, retag_numbers rs f free es h.1)

same_live_valued : (rs : List Shape) (es fs : List (Entry (Unit {0}) ℕ Tag)) → AreNumbers rs es → AreNumbers rs fs →
    same_live (numbers (table_of rs)) es fs ≡ same_live shapes (valued_entries rs es) (valued_entries rs fs)
same_live_valued rs [] [] h k = refl
same_live_valued rs [] (f ∷ fs) h k = refl
same_live_valued rs (e ∷ es) [] h k = refl
same_live_valued rs (e ∷ es) (f ∷ fs) h k =
    ap (λ z. z && (same_tag e.tag f.tag && same_live (numbers (table_of rs)) es fs)) (numbers_same rs e.residual f.residual h.0 k.0)
    ∙ ap (λ z. same_shape (shape_at rs e.residual) (shape_at rs f.residual) && (same_tag e.tag f.tag && z)) (same_live_valued rs es fs h.1 k.1)

-- rows, the pattern's expression, its trim, and a plan of it whose residuals and configurations are these
pub record IsFor (p : Shape) (rs : List Shape) (xs : List (PlainConfiguration ℕ)) : Type 0 where
  pub some : 0 < length rs
  pub whole : shape_at rs 0 ≡ normal_form p
  pub numbers : AllByRecursion (HasNumbers rs) xs

abbrev pub plan_of : List Shape → List (PlainConfiguration ℕ) → PlainPlan
plan_of rs xs = record { residuals = rs; configurations = xs }

-- a plan against rows, by the numbers of its residuals and by the residuals themselves
abbrev pub by_number : List Row → ℕ → List Shape → List (PlainConfiguration ℕ) → Subject ℕ
by_number rows b rs xs = numbered_subject rows (table_of rs) b xs

abbrev pub by_value : List Row → Shape → ℕ → List Shape → List (PlainConfiguration ℕ) → Subject Shape
by_value rows p b rs xs = subject rows p b (plan_of rs xs)

-- each residual after the letter that has a word is listed, y is the step by numbers, and the entries of a step agree
abbrev pub is_listed_after : List Shape → ℕ → PlainConfiguration ℕ → Letter → Bool
is_listed_after rs b x l = all_listed (table_of rs) l (with_start tt 0 b x.live)

abbrev pub is_step : List Row → ℕ → List Shape → List (PlainConfiguration ℕ) → PlainConfiguration ℕ → Letter → PlainConfiguration ℕ → Bool
is_step rows b rs xs x l y = same_configuration (numbers (table_of rs)) y (step_of (by_number rows b rs xs) x l)

abbrev pub agrees : {R : Type 0} → Subject R → PlainConfiguration R → Letter → Bool
agrees s x l = entries_agree s.on (move_of s x l).phase (row_at s.rows (move_of s x l).next).kind (no_ind (entries_before s x)) (kept_entries s x l)

before_valued : (rs : List Shape) (p : Shape) (b : ℕ) (es : List (Entry (Unit {0}) ℕ Tag)) → shape_at rs 0 ≡ normal_form p →
    valued_entries rs (with_start tt 0 b es) ≡ with_start tt (normal_form p) b (valued_entries rs es)
before_valued rs p b es q =
    map-append (λ e. entry_value rs e) es (record { mark = tt; residual = 0; tag = first_tag b } ∷ [])
    ∙ ap (λ z. valued_entries rs es ++ record { mark = tt; residual = z; tag = first_tag b } ∷ []) q

free_valued : (rs : List Shape) (p : Shape) (b : ℕ) (es : List (Entry (Unit {0}) ℕ Tag)) → shape_at rs 0 ≡ normal_form p →
    no_ind (with_start tt 0 b es) ≡ no_ind (with_start tt (normal_form p) b (valued_entries rs es))
free_valued rs p b es q =
    sym (no_ind_renamed (λ (u : Unit {0}). u) (λ i. shape_at rs i) (with_start tt 0 b es)) ∙ ap (λ z. no_ind z) (before_valued rs p b es q)

kept_valued : (rs : List Shape) (p : Shape) (b : ℕ) (l : Letter) (es : List (Entry (Unit {0}) ℕ Tag)) → 0 < length rs → shape_at rs 0 ≡ normal_form p →
    AreNumbers rs es → all_listed (table_of rs) l (with_start tt 0 b es) ≡ true →
    valued_entries rs (survivors (numbers (table_of rs)) l (with_start tt 0 b es)) ≡ survivors shapes l (with_start tt (normal_form p) b (valued_entries rs es))
kept_valued rs p b l es s q h a =
    survivors_renamed (numbers (table_of rs)) shapes (λ (u : Unit {0}). u) (λ i. shape_at rs i) (λ i. IsListedNumber rs i)
    (numbers_same rs) l (with_start tt 0 b es)
    (each_agrees rs l (with_start tt 0 b es) (numbers_before rs b es s h) a)
    ∙ ap (λ z. survivors shapes l z) (before_valued rs p b es q)

stepped_valued : (rows : List Row) (p : Shape) (b : ℕ) (rs : List Shape) (xs : List (PlainConfiguration ℕ)) → IsFor p rs xs → (x : PlainConfiguration ℕ) →
    HasNumbers rs x → (l : Letter) → is_listed_after rs b x l ≡ true →
    configuration_value rs (step_of (by_number rows b rs xs) x l) ≡ step_of (by_value rows p b rs xs) (configuration_value rs x) l
stepped_valued rows p b rs xs i x h l a =
    let s : Subject ℕ = by_number rows b rs xs in
    ap (λ z. record { state = (move_of s x l).next; live = z })
    (retag_renamed (λ (u : Unit {0}). u) (λ i. shape_at rs i) (move_of s x l).phase (no_ind (entries_before s x)) (kept_entries s x l)
    ∙ ap (λ z. retag_entries (move_of s x l).phase z (valued_entries rs (kept_entries s x l))) (free_valued rs p b x.live i.whole)
    ∙ ap (λ z. retag_entries (move_of s x l).phase (no_ind (with_start tt (normal_form p) b (valued_entries rs x.live))) z)
    (kept_valued rs p b l x.live i.some i.whole h a))

pub agree_valued : (rows : List Row) (p : Shape) (b : ℕ) (rs : List Shape) (xs : List (PlainConfiguration ℕ)) → IsFor p rs xs → (x : PlainConfiguration ℕ) →
    HasNumbers rs x → (l : Letter) → is_listed_after rs b x l ≡ true →
    agrees (by_number rows b rs xs) x l
    ≡ agrees (by_value rows p b rs xs) (configuration_value rs x) l
agree_valued rows p b rs xs i x h l a =
    let s : Subject ℕ = by_number rows b rs xs in
    let left : AreNumbers rs (kept_entries s x l) = survivors_left (numbers (table_of rs)) shapes (λ i. shape_at rs i) (λ i. IsListedNumber rs i) l
    (entries_before s x)
    (each_agrees rs l (entries_before s x) (numbers_before rs b x.live i.some h) a) in
    agree_renamed (numbers (table_of rs)) shapes (λ (u : Unit {0}). u) (λ i. shape_at rs i) (move_of s x l).phase (row_at rows (move_of s x l).next).kind
    (no_ind (entries_before s x)) (kept_entries s x l) (each_words rs (kept_entries s x l) left)
    ∙ ap (λ z. entries_agree shapes (move_of s x l).phase (row_at rows (move_of s x l).next).kind z (valued_entries rs (kept_entries s x l)))
    (free_valued rs p b x.live i.whole)
    ∙ ap (λ z. entries_agree shapes (move_of s x l).phase (row_at rows (move_of s x l).next).kind
    (no_ind (with_start tt (normal_form p) b (valued_entries rs x.live))) z) (kept_valued rs p b l x.live i.some i.whole h a)

pub same_valued : (rows : List Row) (p : Shape) (b : ℕ) (rs : List Shape) (xs : List (PlainConfiguration ℕ)) → IsFor p rs xs → (x y : PlainConfiguration ℕ) →
    HasNumbers rs x → HasNumbers rs y → (l : Letter) → is_listed_after rs b x l ≡ true →
    is_step rows b rs xs x l y
    ≡ same_configuration shapes (configuration_value rs y) (step_of (by_value rows p b rs xs) (configuration_value rs x) l)
same_valued rows p b rs xs i x y h k l a =
    let s : Subject ℕ = by_number rows b rs xs in
    let left : AreNumbers rs (kept_entries s x l) = survivors_left (numbers (table_of rs)) shapes (λ i. shape_at rs i) (λ i. IsListedNumber rs i) l
    (entries_before s x)
    (each_agrees rs l (entries_before s x) (numbers_before rs b x.live i.some h) a) in
    ap (λ z. (y.state == (step_of s x l).state) && z)
    (same_live_valued rs y.live (step_of s x l).live k (retag_numbers rs (move_of s x l).phase (no_ind (entries_before s x)) (kept_entries s x l) left))
    ∙ ap (λ z. same_configuration shapes (configuration_value rs y) z) (stepped_valued rows p b rs xs i x h l a)

-- where a residual after the letter isn't listed, the step isn't

one_alive : (l : Letter) (d : Shape) (es : List (Entry (Unit {0}) Shape Tag)) → has_word d ≡ true → OneOf (λ e. residual e.residual l ≡ d) es →
    OneOf (λ e. e.residual ≡ d) (live_entries shapes (derive_entries shapes l es))
one_alive l d [] w h = h
one_alive l d (e ∷ es) w h =
    go (has_word (residual e.residual l)) refl (⊎_elim (λ q. inl q) (λ q. inr (one_alive l d es w q)) h)
  where
    go : (a : Bool) → has_word (residual e.residual l) ≡ a → (residual e.residual l ≡ d) ⊎ OneOf (λ e. e.residual ≡ d)
        (live_entries shapes (derive_entries shapes l es)) →
        OneOf (λ e. e.residual ≡ d)
        (cond a (derive_entry shapes l e ∷ live_entries shapes (derive_entries shapes l es)) (live_entries shapes (derive_entries shapes l es)))
    go true t k = k
    go false t k = ⊎_elim (λ q. absurd (false≢true (sym t ∙ ap (λ z. has_word z) q ∙ w))) (λ q. q) k

one_without : (r d : Shape) (es : List (Entry (Unit {0}) Shape Tag)) → OneOf (λ e. e.residual ≡ d) es →
    (r ≡ d) ⊎ OneOf (λ e. e.residual ≡ d) (without shapes r es)
one_without r d [] h = absurd h
one_without r d (e ∷ es) h = go (same_shape r e.residual) ((same_law r e.residual).0) h (one_without r d es)
  where
    go : (a : Bool) → (a ≡ true → r ≡ e.residual) → (e.residual ≡ d) ⊎ OneOf (λ e. e.residual ≡ d) es →
        (OneOf (λ e. e.residual ≡ d) es → (r ≡ d) ⊎ OneOf (λ e. e.residual ≡ d) (without shapes r es)) →
        (r ≡ d) ⊎ OneOf (λ e. e.residual ≡ d) (cond (not a) (e ∷ without shapes r es) (without shapes r es))
    go true s k m = ⊎_elim (λ q. inl (s refl ∙ q)) (λ q. m q) k
    go false s k m = ⊎_elim (λ q. inr (inl q)) (λ q. ⊎_elim (λ u. inl u) (λ u. inr (inr u)) (m q)) k

one_kept : (d : Shape) (es : List (Entry (Unit {0}) Shape Tag)) → OneOf (λ e. e.residual ≡ d) es → OneOf (λ e. e.residual ≡ d) (keep shapes es)
one_kept d [] h = h
one_kept d (e ∷ es) h = ⊎_elim (λ q. inl q) (λ q. one_without e.residual d (keep shapes es) (one_kept d es q)) h

one_retagged : (f : Phase) (free : Bool) (d : Shape) (es : List (Entry (Unit {0}) Shape Tag)) → OneOf (λ e. e.residual ≡ d) es →
    OneOf (λ e. e.residual ≡ d) (retag_entries f free es)
one_retagged f free d [] h = h
one_retagged f free d (e ∷ es) h = ⊎_elim (λ q. inl q) (λ q. inr (one_retagged f free d es q)) h

not_in : (rs : List Shape) (d : Shape) (es : List (Entry (Unit {0}) ℕ Tag)) → ((j : ℕ) → j < length rs → shape_at rs j ≡ d → ⊥) → AreNumbers rs es →
    OneOf (λ e. e.residual ≡ d) (valued_entries rs es) → ⊥
not_in rs d [] n h o = o
not_in rs d (e ∷ es) n h o = ⊎_elim (λ q. n e.residual h.0 q) (λ q. not_in rs d es n h.1 q) o

-- an entry whose residual after the letter is d, which has a word and isn't listed
missing : (rs : List Shape) (l : Letter) (es : List (Entry (Unit {0}) ℕ Tag)) → AreNumbers rs es → all_listed (table_of rs) l es ≡ false →
    (d : Shape) × (has_word d ≡ true) × ((j : ℕ) → j < length rs → shape_at rs j ≡ d → ⊥) × OneOf (λ e. residual e.residual l ≡ d) (valued_entries rs es)
missing rs l [] h q = absurd (false≢true (sym q))
missing rs l (e ∷ es) h q = go (nat_le (next_on l (known_at (table_of rs) e.residual)) (length (table_of rs))) (unlisted rs l e.residual h.0)
    (missing rs l es h.1)
    q
  where
    go : (a : Bool) → (a ≡ false → (has_word (residual (shape_at rs e.residual) l) ≡ true)
        × ((j : ℕ) → j < length rs → shape_at rs j ≡ residual (shape_at rs e.residual) l → ⊥)) →
        (all_listed (table_of rs) l es ≡ false → (d : Shape) × (has_word d ≡ true) × ((j : ℕ) → j < length rs → shape_at rs j ≡ d → ⊥)
        × OneOf (λ e. residual e.residual l ≡ d) (valued_entries rs es)) → a && all_listed (table_of rs) l es ≡ false →
        (d : Shape) × (has_word d ≡ true) × ((j : ℕ) → j < length rs → shape_at rs j ≡ d → ⊥)
        × OneOf (λ e. residual e.residual l ≡ d) (valued_entries rs (e ∷ es))
    go true u m s = let k = m s in (k.0, k.1, k.2, inr k.3)
    go false u m s = (residual (shape_at rs e.residual) l, (u refl).0, (u refl).1, inl refl)

some_same : {A B : Type 0} (p : B → Bool) (h : A → B) (Q : A → Type 0) (xs : List A) → AllByRecursion Q xs → list_any p (map h xs) ≡ true →
    (x : A) × Q x × (p (h x) ≡ true)
some_same {A} p h Q [] e q = absurd (false≢true q)
some_same {A} p h Q (x ∷ xs) e q = go (p (h x)) refl (some_same p h Q xs e.1) q
  where
    go : (a : Bool) → p (h x) ≡ a → (list_any p (map h xs) ≡ true → (y : A) × Q y × (p (h y) ≡ true)) → a || list_any p (map h xs) ≡ true →
        (y : A) × Q y × (p (h y) ≡ true)
    go true t m s = (x, e.0, t)
    go false t m s = m s

pub not_listed : (rows : List Row) (p : Shape) (b : ℕ) (rs : List Shape) (xs : List (PlainConfiguration ℕ)) → IsFor p rs xs → (x : PlainConfiguration ℕ) →
    HasNumbers rs x → (l : Letter) → is_listed_after rs b x l ≡ false →
    step_listed (by_value rows p b rs xs) (configuration_value rs x) l ≡ false
not_listed rows p b rs xs i x h l a =
    let s : Subject Shape = by_value rows p b rs xs in
    let to : PlainConfiguration Shape = step_of s (configuration_value rs x) l in
    let m = missing rs l (with_start tt 0 b x.live) (numbers_before rs b x.live i.some h) a in
    let o : OneOf (λ e. e.residual ≡ m.0) to.live =
    one_retagged (move_of s (configuration_value rs x) l).phase (no_ind (entries_before s (configuration_value rs x))) m.0
    (kept_entries s (configuration_value rs x) l)
    (one_kept m.0 (live_entries shapes (derive_entries shapes l (entries_before s (configuration_value rs x))))
    (one_alive l m.0 (entries_before s (configuration_value rs x)) m.1 (subst (λ z. OneOf (λ e. residual e.residual l ≡ m.0) z)
    (before_valued rs p b x.live i.whole) m.3))) in
    false_from_ne_true (step_listed s (configuration_value rs x) l) (λ q.
    let y = some_same (λ y. same_configuration shapes y to) (λ y. configuration_value rs y) (HasNumbers rs) xs i.numbers q in
    not_in rs m.0 y.0.live m.2 y.1 (subst (λ (z : PlainConfiguration Shape). OneOf (λ e. e.residual ≡ m.0) z.live)
    (sym (configuration_is shapes shapes_right.equal (configuration_value rs y.0) to y.2)) o))
