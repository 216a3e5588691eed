-- What becomes of entries at a letter, for any language and any tag: what holds of each entry holds of each that is
-- kept, the starts keep rising, and no entry with a word is lost to one that starts later.
use Rattle.std.specs.Prelude.{◌≡◌, ◌⊎◌, ℕ, ◌+◌, ◌≤◌, Bool, true, false, cond, not, List, [], ◌∷◌, refl}
use Rattle.std.specs.List.{filter, AllByRecursion}
use Rattle.std.proofs.Common.{sym, subst, inl, inr, arith, ⊎_elim}
use Rattle.ts_base.specs.declared.letter.Letter.{Letter}
use Rattle.ts_regex.specs.Shape.{Shape}
use Rattle.ts_regex.specs.Language.{InLanguage}
use Rattle.ts_regex.proofs.Laws.{residual_law, no_word, same_law}
use Rattle.ts_pattern.specs.EachOf.{OneOf}
use Rattle.ts_pattern.specs.Entries.{Entry, Residuals, shapes, live_entries, without, keep}
use Rattle.ts_pattern.proofs.Elements.{each_filter}

-- the starts rise strictly, from low on
abbrev pub Rising : {T : Type 0} → ℕ → List (Entry ℕ Shape T) → Type 0
Rising low [] = Unit {0}
Rising low (e ∷ es) = (low ≤ e.mark) × Rising (e.mark + 1) es

-- what the laws of regular expressions say of residuals
pub record AreRight (t : Residuals Shape) : Type 0 where
  pub quotient : (r : Shape) (l : Letter) (v : List Letter) → InLanguage (t.next r l) v → InLanguage r (l ∷ v)
  pub quotient_back : (r : Shape) (l : Letter) (v : List Letter) → InLanguage r (l ∷ v) → InLanguage (t.next r l) v
  pub no_word : (r : Shape) (v : List Letter) → t.has_word r ≡ false → InLanguage r v → ⊥
  pub equal : (r s : Shape) → t.same r s ≡ true → r ≡ s

-- (i) what holds of each entry holds of each that is kept
pub each_keep : {X R T : Type 0} (t : Residuals R) (p : Entry X R T → Type 0) (es : List (Entry X R T)) → AllByRecursion p es → AllByRecursion p (keep t es)
each_keep t p [] h = tt
each_keep t p (e ∷ es) h = (h.0, each_filter p (λ x. not (t.same e.residual x.residual)) (keep t es) (each_keep t p es h.1))

-- (ii) starts rise
pub rising_lower : {T : Type 0} (a b : ℕ) (es : List (Entry ℕ Shape T)) → b ≤ a → Rising a es → Rising b es
rising_lower a b [] q h = tt
rising_lower a b (e ∷ es) q h = ((let x = h.0 in omega arith), h.1)

pub rising_filter : {T : Type 0} (q : Entry ℕ Shape T → Bool) (a : ℕ) (es : List (Entry ℕ Shape T)) → Rising a es → Rising a (filter q es)
rising_filter q a [] h = tt
rising_filter q a (e ∷ es) h =
    elim (q e) as (λ b. Rising a (cond b (e ∷ filter q es) (filter q es))) [
      | true ↦ (h.0, rising_filter q (e.mark + 1) es h.1)
      | false ↦ rising_lower (e.mark + 1) a (filter q es) (let x = h.0 in omega arith) (rising_filter q (e.mark + 1) es h.1)
    ]

pub rising_keep : {T : Type 0} (t : Residuals Shape) (a : ℕ) (es : List (Entry ℕ Shape T)) → Rising a es → Rising a (keep t es)
rising_keep t a [] h = tt
rising_keep t a (e ∷ es) h = (h.0, rising_filter (λ x. not (t.same e.residual x.residual)) (e.mark + 1) (keep t es) (rising_keep t (e.mark + 1) es h.1))

-- an entry that starts at s or before, and whose residual has v
abbrev pub Covers : {T : Type 0} → ℕ → List Letter → Entry ℕ Shape T → Type 0
Covers s v e = (e.mark ≤ s) × InLanguage e.residual v

-- (iii) an entry with a word isn't lost: one that covers as much stays
pub some_alive : {T : Type 0} (t : Residuals Shape) → AreRight t → (s : ℕ) (v : List Letter) (es : List (Entry ℕ Shape T)) → OneOf (Covers s v) es →
    OneOf (Covers s v) (live_entries t es)
some_alive t f s v [] h = h
some_alive t f s v (e ∷ es) h =
    ⊎_elim
    (λ c. elim (t.has_word e.residual) as (λ b. t.has_word e.residual ≡ b → OneOf (Covers s v) (cond b (e ∷ live_entries t es) (live_entries t es))) [
      | true ↦ λ q. inl c
      | false ↦ λ q. absurd (f.no_word e.residual v q c.1)
    ] refl)
    (λ c. elim (t.has_word e.residual) as (λ b. OneOf (Covers s v) (cond b (e ∷ live_entries t es) (live_entries t es))) [
      | true ↦ inr (some_alive t f s v es c)
      | false ↦ some_alive t f s v es c
    ])
    h

some_without : {T : Type 0} (t : Residuals Shape) → AreRight t → (s : ℕ) (v : List Letter) (d : Entry ℕ Shape T) (es : List (Entry ℕ Shape T)) →
    Rising (d.mark + 1) es → OneOf (Covers s v) es → Covers s v d ⊎ OneOf (Covers s v) (without t d.residual es)
some_without t f s v d [] r h = inr h
some_without t f s v d (e ∷ es) r h =
    let deeper : Rising (d.mark + 1) es = rising_lower (e.mark + 1) (d.mark + 1) es (let x = r.0 in omega arith) r.1 in
    ⊎_elim
    (λ c. elim (t.same d.residual e.residual) as (λ b. t.same d.residual e.residual ≡ b →
    Covers s v d ⊎ OneOf (Covers s v) (cond (not b) (e ∷ without t d.residual es) (without t d.residual es))) [
      | true ↦ λ q. inl ((let x = r.0 in let y = c.0 in omega arith), subst (λ z. InLanguage z v) (sym (f.equal d.residual e.residual q)) c.1)
      | false ↦ λ q. inr (inl c)
    ] refl)
    (λ c. ⊎_elim
    (λ k. inl k)
    (λ k. elim (t.same d.residual e.residual) as (λ b. Covers s v d ⊎ OneOf (Covers s v)
    (cond (not b) (e ∷ without t d.residual es) (without t d.residual es))) [
      | true ↦ inr k
      | false ↦ inr (inr k)
    ])
    (some_without t f s v d es deeper c))
    h

pub some_keep : {T : Type 0} (t : Residuals Shape) → AreRight t → (s : ℕ) (v : List Letter) (a : ℕ) (es : List (Entry ℕ Shape T)) → Rising a es →
    OneOf (Covers s v) es → OneOf (Covers s v) (keep t es)
some_keep t f s v a [] r h = h
some_keep t f s v a (e ∷ es) r h =
    ⊎_elim
    (λ c. inl c)
    (λ c. some_without t f s v e (keep t es) (rising_keep t (e.mark + 1) es r.1) (some_keep t f s v (e.mark + 1) es r.1 c))
    h

-- expressions in normal form are right
pub shapes_right : AreRight shapes
shapes_right =
    record {
      quotient = λ r l v h. (residual_law r l v).0 h;
      quotient_back = λ r l v h. (residual_law r l v).1 h;
      no_word = λ r v q h. no_word r q v h;
      equal = λ r s q. (same_law r s).0 q;
    }
