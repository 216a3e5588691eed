-- What the search keeps, one more letter of the signature read.
use Rattle.std.specs.Prelude.{◌≡◌, ℕ, ◌+◌, ◌<◌, ◌≤◌, List, [], ◌∷◌, ◌++◌, length, take, Option, None, Some, IfSome}
use Rattle.std.proofs.Common.{sym, ◌∙◌, ap, subst, arith, get_or}
use Rattle.std.proofs.lemmas.List.{take_more, length-take-le}
use Rattle.ts_base.specs.declared.letter.Letter.{Letter}
use Rattle.ts_base.specs.declared.range.Range.{Range}
use Rattle.ts_regex.specs.Shape.{Shape}
use Rattle.ts_regex.specs.NormalForm.{normal_form}
use Rattle.ts_regex.proofs.Laws.{normal_law}
use Rattle.ts_pattern.specs.Entries.{shapes, survivors}
use Rattle.ts_pattern.specs.OccurrenceList.{AreRanges}
use Rattle.ts_pattern.proofs.CallerLemmas.{shapes_right, AreLive, live_appended, live_step}
use Rattle.ts_occurrence.specs.Live.{Start, entry, first_ending}
use Rattle.ts_occurrence.specs.Noted.{IsNoted}
use Rattle.ts_occurrence.proofs.Noted.{noted_step, found_below}

pub live_grown : (p whole : Shape) (w : List Letter) (k : ℕ) (d : Letter) (es after : List Start) → k < length w → whole ≡ normal_form p →
    AreLive p (take k w) (length (take k w)) es → after ≡ survivors shapes (get_or w k d) (es ++ entry k whole ∷ []) →
    AreLive p (take (k + 1) w) (length (take (k + 1) w)) after
live_grown p whole w k d es after q n h e =
    let here : length (take k w) ≡ k = length-take-le k w (omega arith) in
    let fresh : es ++ entry (length (take k w)) (normal_form p) ∷ [] ≡ es ++ entry k whole ∷ [] =
    ap (λ z. es ++ entry z (normal_form p) ∷ []) here ∙ ap (λ z. es ++ entry k z ∷ []) (sym n) in
    let grown : AreLive p (take k w) (length (take k w) + 1) (es ++ entry (length (take k w)) (normal_form p) ∷ []) =
    live_appended p (normal_form p) (λ v x. (normal_law p v).0 x) (λ v x. (normal_law p v).1 x) (take k w) tt es h in
    let stepped = live_step shapes shapes_right p (take k w) (get_or w k d) (es ++ entry (length (take k w)) (normal_form p) ∷ []) grown in
    subst (λ z. AreLive p z (length z) after) (sym (take_more w k d q))
    (subst (λ z. AreLive p (take k w ++ get_or w k d ∷ []) (length (take k w ++ get_or w k d ∷ [])) z)
    (ap (λ z. survivors shapes (get_or w k d) z) fresh ∙ sym e) stepped)

-- the start found was read before, or is the sign just read
pub no_later : (p : Shape) (w : List Letter) (k : ℕ) (es : List Start) (o : Option ℕ) → k < length w → AreLive p (take (k + 1) w) (length (take (k + 1) w)) es →
    o ≡ first_ending es → IfSome o (λ start. start ≤ k)
no_later p w k es None q h e = tt
no_later p w k es (Some m) q h e =
    let here : length (take (k + 1) w) ≡ k + 1 = length-take-le (k + 1) w (omega arith) in
    let below = found_below (length (take (k + 1) w)) m es h.below (sym e) in
    omega arith

pub ranges_grown : (p : Shape) (b a : ℕ) (w : List Letter) (k : ℕ) (d : Letter) (es : List Start) (o : Option ℕ) (old new : List Range) → k < length w →
    AreLive p (take (k + 1) w) (length (take (k + 1) w)) es → o ≡ first_ending es → IsNoted b a k o old new → AreRanges p b a (take k w) old →
    AreRanges p b a (take (k + 1) w) new
ranges_grown p b a w k d es o old new q h e n r =
    let here : length (take k w) ≡ k = length-take-le k w (omega arith) in
    subst (λ z. AreRanges p b a z new) (sym (take_more w k d q))
    (noted_step p b a (take k w) (get_or w k d) es old new
    (subst (λ z. AreLive p z (length z) es) (take_more w k d q) h)
    (subst (λ z. IsNoted b a z (first_ending es) old new) (sym here) (subst (λ z. IsNoted b a k z old new) e n))
    r)
