-- Live entries: after the signs w each entry's residual says how the word from its start may go on, and each word
-- that may go on from some start goes on from an entry that starts no later.
use Rattle.std.specs.Prelude.{◌≡◌, ℕ, ◌+◌, ◌<◌, ◌≤◌, List, [], ◌∷◌, ◌++◌, length, drop, refl}
use Rattle.std.proofs.Common.{sym, ◌∙◌, ap, subst, inl, inr, arith, ⊎_elim, append_assoc}
use Rattle.std.proofs.Math.Nat.{eq-or-lt_of_le}
use Rattle.std.proofs.Math.Seq.{drop-length}
use Rattle.std.proofs.lemmas.List.{drop-append-le}
use Rattle.ts_base.specs.declared.letter.Letter.{Letter}
use Rattle.ts_regex.specs.Shape.{Shape}
use Rattle.ts_regex.specs.Language.{InLanguage}
use Rattle.ts_pattern.specs.EachOf.{OneOf}
use Rattle.std.specs.List.{AllByRecursion}
use Rattle.ts_pattern.specs.Entries.{Entry, Residuals, derive_entry, derive_entries, live_entries, survivors}
use Rattle.ts_pattern.proofs.Elements.{each_map, each_filter, each_push, one_left, one_right}
use Rattle.ts_pattern.proofs.Entries.{Rising, AreRight, Covers, each_keep, rising_filter, rising_keep, some_alive, some_keep}

-- an entry that starts later comes last
rising_push : {T : Type 0} (a k : ℕ) (es : List (Entry ℕ Shape T)) (e : Entry ℕ Shape T) → Rising a es → a ≤ k → AllByRecursion (λ x. x.mark < k) es →
    e.mark ≡ k →
    Rising a (es ++ e ∷ [])
rising_push a k [] e r q b m = (omega arith, tt)
rising_push a k (x ∷ es) e r q b m = (r.0, rising_push (x.mark + 1) k es e r.1 (let y = b.0 in omega arith) b.1 m)

-- what the residual of an entry says, after the signs w
pub record Follows {T : Type 0} (p : Shape) (w : List Letter) (e : Entry ℕ Shape T) : Type 0 where
  pub to : (v : List Letter) → InLanguage e.residual v → InLanguage p (drop e.mark w ++ v)
  pub back : (v : List Letter) → InLanguage p (drop e.mark w ++ v) → InLanguage e.residual v

abbrev pub AreCovered : {T : Type 0} → Shape → List Letter → ℕ → List (Entry ℕ Shape T) → Type 0
AreCovered p w k es = (s : ℕ) (v : List Letter) → s < k → InLanguage p (drop s w ++ v) → OneOf (Covers s v) es

pub drop_more : (w : List Letter) (l : Letter) (v : List Letter) (s : ℕ) → s ≤ length w → drop s (w ++ l ∷ []) ++ v ≡ drop s w ++ (l ∷ v)
drop_more w l v s q = ap (λ x. x ++ v) (drop-append-le s w (l ∷ []) q) ∙ append_assoc (drop s w) (l ∷ []) v

pub follows_step : {T : Type 0} (t : Residuals Shape) → AreRight t → (p : Shape) (w : List Letter) (l : Letter) (e : Entry ℕ Shape T) → e.mark ≤ length w →
    Follows p w e → Follows p (w ++ l ∷ []) (derive_entry t l e)
follows_step t f p w l e q h =
    record {
      to = λ v x. subst (λ y. InLanguage p y) (sym (drop_more w l v e.mark q)) (h.to (l ∷ v) (f.quotient e.residual l v x));
      back = λ v x. f.quotient_back e.residual l v (h.back (l ∷ v) (subst (λ y. InLanguage p y) (drop_more w l v e.mark q) x));
    }

each_derived : {X R T : Type 0} (t : Residuals R) (l : Letter) (p q : Entry X R T → Type 0) → ((e : Entry X R T) → p e → q (derive_entry t l e)) →
    (es : List (Entry X R T)) → AllByRecursion p es → AllByRecursion q (derive_entries t l es)
each_derived t l p q f [] h = tt
each_derived t l p q f (e ∷ es) h = (f e h.0, each_derived t l p q f es h.1)

rising_derived : {T : Type 0} (t : Residuals Shape) (l : Letter) (a : ℕ) (es : List (Entry ℕ Shape T)) → Rising a es → Rising a (derive_entries t l es)
rising_derived t l a [] h = tt
rising_derived t l a (e ∷ es) h = (h.0, rising_derived t l (e.mark + 1) es h.1)

covers_derived : {T : Type 0} (t : Residuals Shape) → AreRight t → (l : Letter) (s : ℕ) (v : List Letter) (es : List (Entry ℕ Shape T)) →
    OneOf (Covers s (l ∷ v)) es → OneOf (Covers s v) (derive_entries t l es)
covers_derived t f l s v [] h = h
covers_derived t f l s v (e ∷ es) h = ⊎_elim (λ c. inl (c.0, f.quotient_back e.residual l v c.1)) (λ c. inr (covers_derived t f l s v es c)) h

-- what holds of each entry before the letter, holds of each survivor, by the derived entry
pub each_survivor : {X R T : Type 0} (t : Residuals R) (l : Letter) (p q : Entry X R T → Type 0) → ((e : Entry X R T) → p e → q (derive_entry t l e)) →
    (es : List (Entry X R T)) → AllByRecursion p es → AllByRecursion q (survivors t l es)
each_survivor t l p q f es h = each_keep t q (live_entries t (derive_entries t l es)) (each_filter q (λ e. t.has_word e.residual) (derive_entries t l es)
    (each_derived t l p q f es h))

pub rising_survivors : {T : Type 0} (t : Residuals Shape) (l : Letter) (a : ℕ) (es : List (Entry ℕ Shape T)) → Rising a es → Rising a (survivors t l es)
rising_survivors t l a es h = rising_keep t a (live_entries t (derive_entries t l es))
    (rising_filter (λ e. t.has_word e.residual) a (derive_entries t l es) (rising_derived t l a es h))

pub covers_survivors : {T : Type 0} (t : Residuals Shape) → AreRight t → (l : Letter) (s : ℕ) (v : List Letter) (a : ℕ) (es : List (Entry ℕ Shape T)) →
    Rising a es → OneOf (Covers s (l ∷ v)) es → OneOf (Covers s v) (survivors t l es)
covers_survivors t f l s v a es r h =
    some_keep t f s v a (live_entries t (derive_entries t l es))
    (rising_filter (λ e. t.has_word e.residual) a (derive_entries t l es) (rising_derived t l a es r))
    (some_alive t f s v (derive_entries t l es) (covers_derived t f l s v es h))

-- Rising, Residual and Cover, after the signs w, of entries that start below k
pub record AreLive {T : Type 0} (p : Shape) (w : List Letter) (k : ℕ) (es : List (Entry ℕ Shape T)) : Type 0 where
  pub rising : Rising 0 es
  pub below : AllByRecursion (λ e. e.mark < k) es
  pub follows : AllByRecursion (Follows p w) es
  pub covered : AreCovered p w k es

pub live_appended : {T : Type 0} (p p0 : Shape) → ((v : List Letter) → InLanguage p0 v → InLanguage p v) →
    ((v : List Letter) → InLanguage p v → InLanguage p0 v) → (w : List Letter) (g : T) (es : List (Entry ℕ Shape T)) → AreLive p w (length w) es →
    AreLive p w (length w + 1) (es ++ record { mark = length w; residual = p0; tag = g } ∷ [])
live_appended {T} p p0 there back w g es h =
    let fresh : Entry ℕ Shape T = record { mark = length w; residual = p0; tag = g } in
    let gone : drop (length w) w ≡ [] = drop-length w in
    record {
      rising = rising_push 0 (length w) es fresh h.rising (omega arith) h.below refl;
      below = each_push (λ e. e.mark < length w + 1) es fresh (each_map (λ e. e.mark < length w) (λ e. e.mark < length w + 1) (λ e q. omega arith) es h.below)
          (omega arith);
      follows = each_push (Follows p w) es fresh h.follows (record {
        to = λ v x. subst (λ y. InLanguage p (y ++ v)) (sym gone)
            (there v x);
        back = λ v x. back v (subst (λ y. InLanguage p (y ++ v)) gone x);
      });
      covered = λ s v q x. ⊎_elim
          (λ r. one_right (Covers s v) es (fresh ∷ []) (inl (
            (omega arith),
            back v
                (subst (λ y. InLanguage p (y ++ v)) gone (subst (λ z. InLanguage p (drop z w ++ v)) (let c : s ≡ length w = omega arith in c) x)),
          )))
          (λ r. one_left (Covers s v) es (fresh ∷ []) (h.covered s v r x))
          (eq-or-lt_of_le (let c : s ≤ length w = omega arith in c));
    }
