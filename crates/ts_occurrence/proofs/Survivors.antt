-- The survivors of one more live start, by the number of its residual.
use Rattle.std.specs.Prelude.{◌≡◌, ℕ, zero, suc, ◌+◌, ◌<◌, Bool, true, false, cond, not, ◌&&◌, ◌||◌, ◌==◌, List, [], ◌∷◌, ◌++◌, length, take, get_or, Some, refl}
use Rattle.std.specs.List.{list_any}
use Rattle.std.proofs.Common.{sym, ◌∙◌, ap, subst, arith, ⊎_elim}
use Rattle.std.proofs.lemmas.Bool.Decides.{eqb_tells}
use Rattle.std.proofs.lemmas.List.{map-append, take_more}
use Rattle.std.proofs.lemmas.Option.{slice_get-get_or, slice_get_within, get_or_from_slice_get}
use Rattle.ts_base.specs.declared.letter.Letter.{Letter}
use Rattle.ts_regex.specs.Shape.{Shape, Empty}
use Rattle.ts_regex.specs.Derivative.{has_word}
use Rattle.ts_regex.specs.NormalForm.{residual, same_shape}
use Rattle.ts_regex.proofs.Laws.{same_law}
use Rattle.ts_pattern.specs.Entries.{shapes, survivors, with_entry}
use Rattle.ts_pattern.proofs.CallerLemmas.{survivors_push, shapes_follow}
use Rattle.ts_occurrence.specs.declared.live.LiveStart.{LiveStart}
use Rattle.ts_occurrence.specs.declared.residuals.MetResidual.{MetResidual}
use Rattle.ts_occurrence.specs.Residuals.{shapes_met, IsNumber, AreConsistent, Grows}
use Rattle.ts_occurrence.specs.Live.{entry, entry_of, entries_of, AreKnown}
use Rattle.ts_occurrence.proofs.Known.{known_length}

-- a number stays that of its residual
pub entries_stable : (old new : List Shape) → Grows old new → (es : List LiveStart) → AreKnown old es → entries_of new es ≡ entries_of old es
entries_stable old new g [] k = refl
entries_stable old new g (e ∷ es) k =
    let same : get_or new e.residual Empty ≡ get_or old e.residual Empty =
    get_or_from_slice_get new e.residual (get_or old e.residual Empty) Empty
    (g e.residual (get_or old e.residual Empty) (slice_get-get_or old e.residual Empty k.0)) in
    ap (λ r. entry e.start r ∷ entries_of new es) same ∙ ap (λ z. entry_of old e ∷ z) (entries_stable old new g es k.1)

pub known_stable : (old new : List Shape) → Grows old new → (es : List LiveStart) → AreKnown old es → AreKnown new es
known_stable old new g [] k = tt
known_stable old new g (e ∷ es) k = (
  slice_get_within new e.residual (get_or old e.residual Empty) (g e.residual (get_or old e.residual Empty) (slice_get-get_or old e.residual Empty k.0)),
  known_stable old new g es k.1,
)

pub known_more : (rs : List Shape) (es : List LiveStart) (e : LiveStart) → AreKnown rs es → e.residual < length rs → AreKnown rs (es ++ e ∷ [])
known_more rs [] e k q = (q, tt)
known_more rs (x ∷ es) e k q = (k.0, known_more rs es e k.1 q)

pub known_at : (rs : List Shape) (es : List LiveStart) (k : ℕ) (x d : LiveStart) → AreKnown rs es → k < length es → x ≡ get_or es k d → x.residual < length rs
known_at rs [] k x d h q e = absurd (omega (arith, q))
known_at rs (y ∷ es) zero x d h q e = subst (λ (z : LiveStart). z.residual < length rs) (sym e) h.0
known_at rs (y ∷ es) (suc k) x d h q e = known_at rs es k x d h.1 (omega (arith, q)) e

-- one more live start read, whose residual after the letter has the number n
pub survivors_step : (l : Letter) (old now new : List Shape) (live kept next : List LiveStart) (k n : ℕ) (x y d c : LiveStart) → k < length live →
    x ≡ get_or live k d → y ≡ get_or live k c → AreKnown old live → Grows old now → Grows now new → AreKnown now kept →
    IsNumber new (residual (get_or now y.residual Empty) l) n →
    entries_of now kept ≡ survivors shapes l (entries_of old (take k live)) →
    entries_of new next ≡ with_entry shapes (entries_of new kept) (entry x.start (get_or new n Empty)) →
    entries_of new next ≡ survivors shapes l (entries_of old (take (k + 1) live))
survivors_step l old now new live kept next k n x y d c q ex ey shapes_met g h kn number before after =
    let item : get_or live k x ≡ x = get_or_from_slice_get live k x x (slice_get-get_or live k d q ∙ ap (λ z. Some z) (sym ex)) in
    let same : y ≡ x = (let a = slice_get-get_or live k d q in let b = slice_get-get_or live k c q in cc) in
    let grown : entries_of old (take (k + 1) live) ≡ entries_of old (take k live) ++ entry_of old x ∷ [] =
    ap (λ z. entries_of old z) (take_more live k x q ∙ ap (λ z. take k live ++ z ∷ []) item) ∙ map-append (λ e. entry_of old e) (take k live) (x ∷ []) in
    let there : x.residual < length old = known_at old live k x d shapes_met q ex in
    let stays : get_or now x.residual Empty ≡ get_or old x.residual Empty =
    get_or_from_slice_get now x.residual (get_or old x.residual Empty) Empty
    (g x.residual (get_or old x.residual Empty) (slice_get-get_or old x.residual Empty there)) in
    let is : get_or new n Empty ≡ residual (get_or old x.residual Empty) l =
    get_or_from_slice_get new n (residual (get_or now y.residual Empty) l) Empty number
    ∙ ap (λ (z : LiveStart). residual (get_or now z.residual Empty) l) same ∙ ap (λ r. residual r l) stays in
    after
    ∙ ap (λ z. with_entry shapes z (entry x.start (get_or new n Empty))) (entries_stable now new h kept kn ∙ before)
    ∙ ap (λ r. with_entry shapes (survivors shapes l (entries_of old (take k live))) (entry x.start r)) is
    ∙ sym (survivors_push shapes shapes_follow l (entries_of old (take k live)) (entry_of old x))
    ∙ ap (λ z. survivors shapes l z) (sym grown)

-- residuals that are met stand once, so that their numbers tell them apart
pub stands_by_number : (ms : List MetResidual) → AreConsistent ms → (es : List LiveStart) → AreKnown (shapes_met ms) es → (n : ℕ) → n < length (shapes_met ms) →
    list_any (λ e. e.residual == n) es ≡ list_any (λ x. same_shape x.residual (get_or (shapes_met ms) n Empty)) (entries_of (shapes_met ms) es)
stands_by_number ms h [] k n q = refl
stands_by_number ms h (e ∷ es) k n q =
    ap (λ b. b || list_any (λ e. e.residual == n) es)
    (⊎_elim (λ c. c.0 ∙ sym (alike c.1))
    (λ c. c.0 ∙ sym (apart c.1 (same_shape (get_or (shapes_met ms) e.residual Empty) (get_or (shapes_met ms) n Empty)) refl))
    (eqb_tells e.residual n))
    ∙ ap (λ b. same_shape (get_or (shapes_met ms) e.residual Empty) (get_or (shapes_met ms) n Empty) || b) (stands_by_number ms h es k.1 n q)
  where
    alike : e.residual ≡ n → same_shape (get_or (shapes_met ms) e.residual Empty) (get_or (shapes_met ms) n Empty) ≡ true
    alike c = (same_law (get_or (shapes_met ms) e.residual Empty) (get_or (shapes_met ms) n Empty)).1 (ap (λ z. get_or (shapes_met ms) z Empty) c)

    apart : (e.residual ≡ n → ⊥) → (b : Bool) → same_shape (get_or (shapes_met ms) e.residual Empty) (get_or (shapes_met ms) n Empty) ≡ b →
        same_shape (get_or (shapes_met ms) e.residual Empty) (get_or (shapes_met ms) n Empty) ≡ false
    apart c false g = g
    apart c true g =
        let same : get_or (shapes_met ms) e.residual Empty ≡ get_or (shapes_met ms) n Empty =
        (same_law (get_or (shapes_met ms) e.residual Empty) (get_or (shapes_met ms) n Empty)).0 g in
        absurd (c (h.once e.residual n (get_or (shapes_met ms) n Empty) (slice_get-get_or (shapes_met ms) e.residual Empty k.0 ∙ ap (λ z. Some z) same)
        (slice_get-get_or (shapes_met ms) n Empty q)))

-- whether a start is kept, by the number of its residual
pub kept_by_number : (ms : List MetResidual) → AreConsistent ms → (es : List LiveStart) → AreKnown (shapes_met ms) es → (start n : ℕ) → n < length ms →
    (same : List LiveStart) →
    same ≡ es → (b : Bool) → b ≡ (has_word (get_or (shapes_met ms) n Empty) && not (list_any (λ e. e.residual == n) same)) →
    with_entry shapes (entries_of (shapes_met ms) es) (entry start (get_or (shapes_met ms) n Empty))
    ≡ cond b (entries_of (shapes_met ms) (es ++ record { start = start; residual = n } ∷ [])) (entries_of (shapes_met ms) es)
kept_by_number ms h es k start n q same es_is b by_same =
    let e : b ≡ (has_word (get_or (shapes_met ms) n Empty) && not (list_any (λ e. e.residual == n) es)) = by_same
    ∙ ap (λ z. has_word (get_or (shapes_met ms) n Empty) && not (list_any (λ e. e.residual == n) z)) es_is in
    let inside : n < length (shapes_met ms) = (let z = known_length ms in omega arith) in
    let test : (has_word (get_or (shapes_met ms) n Empty)
    && not (list_any (λ x. same_shape x.residual (get_or (shapes_met ms) n Empty)) (entries_of (shapes_met ms) es)))
    ≡ b =
    ap (λ z. has_word (get_or (shapes_met ms) n Empty) && not z) (sym (stands_by_number ms h es k n inside)) ∙ sym e in
    ap (λ z. cond z (entries_of (shapes_met ms) es ++ entry start (get_or (shapes_met ms) n Empty) ∷ []) (entries_of (shapes_met ms) es)) test
    ∙ ap (λ z. cond b z (entries_of (shapes_met ms) es)) (sym (map-append (λ x. entry_of (shapes_met ms) x) es (record { start = start; residual = n } ∷ [])))
