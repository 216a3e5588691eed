-- Whether a match ends at the sign just read, by the live entries: none where no residual has the empty word, and
-- the one from the first entry where the first residual has it.
use Rattle.std.specs.Prelude.{◌≡◌, ℕ, ◌+◌, ◌-◌, ◌<◌, ◌≤◌, List, [], ◌∷◌, ◌++◌, length, drop, slice_range}
use Rattle.std.proofs.Common.{sym, ◌∙◌, subst, inl, inr, arith, length-append, length-drop, ⊎_elim, append-nil, take_all}
use Rattle.ts_base.specs.declared.letter.Letter.{Letter}
use Rattle.ts_regex.specs.Shape.{Shape}
use Rattle.ts_regex.specs.Language.{InLanguage}
use Rattle.ts_pattern.specs.Occurrences.{IsMatch}
use Rattle.ts_pattern.specs.EachOf.{OneOf}
use Rattle.std.specs.List.{AllByRecursion}
use Rattle.ts_pattern.specs.Entries.{Entry, Residuals, survivors}
use Rattle.ts_pattern.proofs.Elements.{each_and}
use Rattle.ts_pattern.proofs.OneLetter.{NoneEnds, IsLeastStart}
use Rattle.ts_pattern.proofs.Entries.{Rising, AreRight, Covers, rising_lower}
use Rattle.ts_pattern.proofs.LiveEntries.{Follows, AreLive, drop_more, follows_step, each_survivor, rising_survivors, covers_survivors}

each_one : {A : Type 0} (p q r : A → Type 0) → ((x : A) → p x → q x → r x) → (es : List A) → AllByRecursion p es → OneOf q es → OneOf r es
each_one p q r f [] h k = k
each_one p q r f (x ∷ es) h k = ⊎_elim (λ a. inl (f x h.0 a)) (λ a. inr (each_one p q r f es h.1 a)) k

pub rising_each : {T : Type 0} (a : ℕ) (es : List (Entry ℕ Shape T)) → Rising a es → AllByRecursion (λ e. a ≤ e.mark) es
rising_each a [] h = tt
rising_each a (e ∷ es) h = (h.0, rising_each a es (rising_lower (e.mark + 1) a es (let x = h.0 in omega arith) h.1))

-- the survivors are live after the letter
pub live_step : {T : Type 0} (t : Residuals Shape) → AreRight t → (p : Shape) (w : List Letter) (l : Letter) (es : List (Entry ℕ Shape T)) →
    AreLive p w (length w + 1) es → AreLive p (w ++ l ∷ []) (length (w ++ l ∷ [])) (survivors t l es)
live_step t f p w l es h =
    let n = length-append w (l ∷ []) in
    record {
      rising = rising_survivors t l 0 es h.rising;
      below = each_survivor t l (λ e. e.mark < length w + 1) (λ e. e.mark < length (w ++ l ∷ [])) (λ e q. omega arith) es h.below;
      follows = each_survivor t l (λ e. (e.mark < length w + 1) × Follows p w e) (Follows p (w ++ l ∷ []))
          (λ e q. follows_step t f p w l e (let x = q.0 in omega arith) q.1) es (each_and (λ e. e.mark < length w + 1) (Follows p w) es h.below h.follows);
      covered = λ s v q x. covers_survivors t f l s v 0 es h.rising (h.covered s (l ∷ v) (omega arith)
          (subst (λ y. InLanguage p y) (drop_more w l v s (omega arith)) x));
    }

-- the word of a match that ends at the end
pub to_the_end : {X : Type 0} (w : List X) (s e : ℕ) → e ≡ length w → slice_range w s e ≡ drop s w
to_the_end w s e q = take_all (e - s) (drop s w) (let n = length-drop s w in omega arith)

abbrev pub Accepts : {X T : Type 0} → Entry X Shape T → Type 0
Accepts e = InLanguage e.residual []

-- a match that ends at the last sign leaves an entry that accepts and starts no later
pub match_kept : {T : Type 0} (p : Shape) (w : List Letter) (l : Letter) (es : List (Entry ℕ Shape T)) → AreLive p (w ++ l ∷ []) (length (w ++ l ∷ [])) es →
    (s : ℕ) → IsMatch p (w ++ l ∷ []) s (length w + 1) → OneOf (Covers s []) es
match_kept p w l es h s m =
    let n = length-append w (l ∷ []) in
    let c = m.some in
    h.covered s [] (omega arith)
    (subst (λ y. InLanguage p y) (to_the_end (w ++ l ∷ []) s (length w + 1) (omega arith) ∙ sym (append-nil (drop s (w ++ l ∷ [])))) m.word)

pub none_ends : {T : Type 0} (p : Shape) (w : List Letter) (l : Letter) (es : List (Entry ℕ Shape T)) → AreLive p (w ++ l ∷ []) (length (w ++ l ∷ [])) es →
    (OneOf Accepts es → ⊥) → NoneEnds p w l
none_ends p w l es h nil s m = nil (weaken s es (match_kept p w l es h s m))
  where
    weaken : {T : Type 0} (s : ℕ) (es : List (Entry ℕ Shape T)) → OneOf (Covers s []) es → OneOf Accepts es
    weaken s [] h = h
    weaken s (e ∷ es) h = ⊎_elim (λ a. inl a.1) (λ a. inr (weaken s es a)) h

pub least_ends : {T : Type 0} (p : Shape) (w : List Letter) (l : Letter) (e : Entry ℕ Shape T) (es : List (Entry ℕ Shape T)) →
    AreLive p (w ++ l ∷ []) (length (w ++ l ∷ [])) (e ∷ es) → Accepts e → IsLeastStart p w l e.mark
least_ends p w l e es h a =
    let n = length-append w (l ∷ []) in
    let b = h.below.0 in
    record {
      is = record {
        some = omega arith;
        inside = omega arith;
        word = subst (λ y. InLanguage p y) (append-nil (drop e.mark (w ++ l ∷ [])) ∙ sym (to_the_end (w ++ l ∷ []) e.mark (length w + 1) (omega arith)))
            (h.follows.0.to [] a);
      };
      least = λ s m. first e s es h.rising.1 (match_kept p w l (e ∷ es) h s m);
    }
  where
    later : {T : Type 0} (a s : ℕ) (es : List (Entry ℕ Shape T)) → Rising a es → OneOf (Covers s []) es → a ≤ s
    later a s [] r h = absurd h
    later a s (e ∷ es) r h =
        ⊎_elim (λ c. let x = r.0 in let y = c.0 in omega arith) (λ c. let x = r.0 in let y = later (e.mark + 1) s es r.1 c in omega arith) h

    first : {T : Type 0} (e : Entry ℕ Shape T) (s : ℕ) (es : List (Entry ℕ Shape T)) → Rising (e.mark + 1) es → OneOf (Covers s []) (e ∷ es) → e.mark ≤ s
    first e s es r h = ⊎_elim (λ c. c.0) (λ c. let y = later (e.mark + 1) s es r c in omega arith) h
