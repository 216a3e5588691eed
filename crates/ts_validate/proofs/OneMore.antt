-- Over one letter: the places found, the ranges kept and emitted, and the starts that are still to come.
use Rattle.std.specs.Prelude.{◌≡◌, ℕ, zero, suc, ◌+◌, ◌-◌, ◌<◌, ◌≤◌, Bool, true, false, List, [], ◌∷◌, ◌++◌, length, map, Option, None, Some, refl}
use Rattle.std.proofs.Common.{sym, ◌∙◌, ap, subst, arith, append-nil}
use Rattle.std.proofs.lemmas.List.{map-append}
use Rattle.std.specs.Option.{option_to_list}
use Rattle.ts_base.specs.declared.letter.Letter.{Letter}
use Rattle.ts_base.specs.declared.range.Range.{Range}
use Rattle.ts_base.specs.declared.range.Kind.{Kind}
use Rattle.ts_base.specs.declared.range.Kind.TheVariants.{Held}
use Rattle.ts_regex.specs.Shape.{Shape}
use Rattle.ts_transducer.specs.declared.row.Phase.{Phase}
use Rattle.ts_transducer.specs.declared.row.Phase.TheVariants.{Out, OutR, OutA, MaybeB, MaybeA, Found, FoundE, Inside}
use Rattle.ts_pattern.specs.declared.plan.Tag.{Tag}
use Rattle.ts_pattern.specs.declared.plan.Tag.TheVariants.{Young, Due, InD, InC, Loose}
use Rattle.ts_transducer.specs.Decode.{begins, ends_at, held_after, emitted_at}
use Rattle.ts_pattern.specs.EachOf.{OneOf, First}
use Rattle.std.specs.List.{AllByRecursion}
use Rattle.ts_pattern.specs.OccurrenceList.{Place, AreOccurrences, e_range}
use Rattle.ts_pattern.specs.Entries.{Entry}
use Rattle.ts_pattern.specs.Closed.{tag_after, retag_entries, is_match, is_find}
use Rattle.ts_pattern.proofs.CallerLemmas.{IsLeastStart, each_push, AreLive, Accepts, none_ends, least_ends, each_map, before_last, occurrences_none, occurrences_some, each_append}
use Rattle.ts_transducer.proofs.CallerLemmas.{IsFree, Typed}
use Rattle.ts_validate.proofs.Keeps.{first_of, held_range, first_mark, done_after, pair_after, TagHolds}
use Rattle.ts_validate.proofs.Traces.{After, Strictly, early_old}

least_first : (p : Shape) (w : List Letter) (l : Letter) (sv : List (Entry ℕ Shape Tag)) → AreLive p (w ++ l ∷ []) (length (w ++ l ∷ [])) sv →
    First Accepts sv → IsLeastStart p w l (first_mark sv)
least_first p w l [] h x = absurd x
least_first p w l (e ∷ es) h x = least_ends p w l e es h x

abbrev IsInc : Tag → Type 0
IsInc (Young m) = ⊥
IsInc Due = ⊥
IsInc InD = ⊥
IsInc InC = Unit {0}
IsInc Loose = ⊥

is_inc : (g : Tag) → g ≡ InC → IsInc g
is_inc g q = subst (λ z. IsInc z) (sym q) tt

inside_inc : (free : Bool) (g : Tag) → tag_after Inside free g ≡ InC → g ≡ InC
inside_inc free (Young zero) q = absurd (is_inc Due q)
inside_inc free (Young (suc zero)) q = absurd (is_inc Due q)
inside_inc free (Young (suc (suc m))) q = absurd (is_inc (Young (suc m)) q)
inside_inc free Due q = absurd (is_inc Loose q)
inside_inc free InD q = absurd (is_inc Loose q)
inside_inc free InC q = refl
inside_inc free Loose q = absurd (is_inc Loose q)

-- at `in` the first survivor starts where the held pair does
pub same_start : (k a b : ℕ) (d : Option ℕ) (c : Option Range) (free : Bool) (y : Place) (sv : List (Entry ℕ Shape Tag)) → c ≡ Some (e_range b a y) →
    AllByRecursion (λ e. TagHolds k b d c e.mark e.tag) sv → First (λ e. e.tag ≡ InC) (retag_entries Inside free sv) → first_mark sv ≡ y.start
same_start k a b d c free y [] q h x = absurd x
same_start k a b d c free y (e ∷ es) q h x =
    let g = subst (λ u. TagHolds k b d c e.mark u) (inside_inc free e.tag x) h.0 in
    let i : e.mark + 1 + b ≡ y.start + 1 + b = ap (λ u. first_of u) (sym g.1 ∙ q) in
    omega arith

pub found_step : (p : Shape) (w : List Letter) (l : Letter) (f : Phase) (k k' : Kind) (sv : List (Entry ℕ Shape Tag)) (ps : List Place)
    (x : Option Place) →
    Typed k f k' → (IsFree k → x ≡ None) → (k ≡ Held → (y : Place) × (x ≡ Some y)) → AreLive p (w ++ l ∷ []) (length (w ++ l ∷ [])) sv →
    (is_match f ≡ true → First Accepts sv) → (is_match f ≡ false → OneOf Accepts sv → ⊥) →
    (is_match f ≡ true → AllByRecursion (λ y. y.start < first_mark sv) ps) →
    (f ≡ Inside → (y : Place) → x ≡ Some y → first_mark sv ≡ y.start) →
    AreOccurrences p w (ps ++ option_to_list x) →
    AreOccurrences p (w ++ l ∷ []) (done_after f (length w + 1) sv ps x ++ option_to_list (pair_after f (length w + 1) sv x))
found_step p w l Out k k' sv ps x t none some v head nil low same o = occurrences_none p w l (ps ++ option_to_list x) (none_ends p w l sv v (nil refl)) o
found_step p w l OutR k k' sv ps x t none some v head nil low same o = occurrences_none p w l (ps ++ option_to_list x) (none_ends p w l sv v (nil refl)) o
found_step p w l MaybeB k k' sv ps x t none some v head nil low same o = occurrences_none p w l (ps ++ option_to_list x) (none_ends p w l sv v (nil refl)) o
found_step p w l MaybeA k k' sv ps x t none some v head nil low same o = occurrences_none p w l (ps ++ option_to_list x) (none_ends p w l sv v (nil refl)) o
found_step p w l OutA k k' sv ps x t none some v head nil low same o =
    subst (λ z. AreOccurrences p (w ++ l ∷ []) z) (sym (append-nil (ps ++ option_to_list x)))
    (occurrences_none p w l (ps ++ option_to_list x) (none_ends p w l sv v (nil refl)) o)
found_step p w l Found k k' sv ps x t none some v head nil low same o =
    occurrences_some p w l (first_mark sv) ps [] (least_first p w l sv v (head refl))
    (subst (λ z. AreOccurrences p w (ps ++ option_to_list z)) (none t.0) o) (low refl) tt
found_step p w l FoundE k k' sv ps x t none some v head nil low same o =
    let q = none t.0 in
    let n = ps ++ record { start = first_mark sv; end = length w + 1 } ∷ [] in
    subst (λ z. AreOccurrences p (w ++ l ∷ []) (n ++ option_to_list z)) (sym q)
    (subst (λ z. AreOccurrences p (w ++ l ∷ []) z) (sym (append-nil n))
    (occurrences_some p w l (first_mark sv) ps [] (least_first p w l sv v (head refl))
    (subst (λ z. AreOccurrences p w (ps ++ option_to_list z)) q o) (low refl) tt))
found_step p w l Inside k k' sv ps x t none some v head nil low same o =
    let y = some t.0 in
    let s = same refl y.0 y.1 in
    let o' = subst (λ z. AreOccurrences p w (ps ++ option_to_list z)) y.1 o in
    let b = before_last 0 ps y.0 o'.rising in
    occurrences_some p w l (first_mark sv) ps (y.0 ∷ []) (least_first p w l sv v (head refl)) o'
    (each_map (λ z. z.start < y.0.start) (λ z. z.start < first_mark sv) (λ z q. omega arith) ps b.1)
    ((let z : first_mark sv ≤ y.0.start = omega arith in z), tt)

pub ranges_step : (a b n : ℕ) (f : Phase) (k k' : Kind) (d : Option ℕ) (c : Option Range) (sv : List (Entry ℕ Shape Tag)) (x : Option Place) →
    Typed k f k' → (k ≡ Held → (y : Place) × (x ≡ Some y)) → c ≡ held_range a b x →
    (is_find f ≡ true → begins n d ≡ first_mark sv + 1 + b) →
    (f ≡ Inside → (y : Place) → x ≡ Some y → first_mark sv ≡ y.start) →
    held_after f a n d c ≡ held_range a b (pair_after f n sv x)
ranges_step a b n Out k k' d c sv x t h r g same = r
ranges_step a b n OutR k k' d c sv x t h r g same = r
ranges_step a b n OutA k k' d c sv x t h r g same = refl
ranges_step a b n MaybeB k k' d c sv x t h r g same = r
ranges_step a b n MaybeA k k' d c sv x t h r g same = r
ranges_step a b n Found k k' d c sv x t h r g same = ap (λ z. Some (record { first = z; last = n + 1 - a })) (g refl)
ranges_step a b n FoundE k k' d c sv x t h r g same = r
ranges_step a b n Inside k k' d c sv x t h r g same =
    let y = h t.0 in
    let e : c ≡ Some (e_range b a y.0) = r ∙ ap (λ z. held_range a b z) y.1 in
    ap (λ z. ends_at (n + 1 - a) z) e ∙ ap (λ z. Some (record { first = z + 1 + b; last = n + 1 - a })) (sym (same refl y.0 y.1))

pub listed_held : (a b : ℕ) (x : Option Place) → option_to_list (held_range a b x) ≡ map (λ x. e_range b a x) (option_to_list x)
listed_held a b None = refl
listed_held a b (Some x) = refl

pub emitted_step : (a b n : ℕ) (f : Phase) (d : Option ℕ) (c : Option Range) (sv : List (Entry ℕ Shape Tag)) (ps : List Place) (x : Option Place)
    (rs : List Range) →
    c ≡ held_range a b x → (is_find f ≡ true → begins n d ≡ first_mark sv + 1 + b) → rs ≡ map (λ x. e_range b a x) ps →
    rs ++ option_to_list (emitted_at f a n d c) ≡ map (λ x. e_range b a x) (done_after f n sv ps x)
emitted_step a b n Out d c sv ps x rs r g h = append-nil rs ∙ h
emitted_step a b n OutR d c sv ps x rs r g h = append-nil rs ∙ h
emitted_step a b n OutA d c sv ps x rs r g h =
    ap (λ z. z ++ option_to_list c) h ∙ ap (λ z. map (λ x. e_range b a x) ps ++ z) (ap (λ z. option_to_list z) r ∙ listed_held a b x)
    ∙ sym (map-append (e_range b a) ps (option_to_list x))
emitted_step a b n MaybeB d c sv ps x rs r g h = append-nil rs ∙ h
emitted_step a b n MaybeA d c sv ps x rs r g h = append-nil rs ∙ h
emitted_step a b n Found d c sv ps x rs r g h = append-nil rs ∙ h
emitted_step a b n FoundE d c sv ps x rs r g h =
    ap (λ z. z ++ record { first = begins n d; last = n + 1 - a } ∷ []) h
    ∙ ap (λ z. map (λ x. e_range b a x) ps ++ record { first = z; last = n + 1 - a } ∷ []) (g refl)
    ∙ sym (map-append (e_range b a) ps (record { start = first_mark sv; end = n } ∷ []))
emitted_step a b n Inside d c sv ps x rs r g h = append-nil rs ∙ h

pub early_step : (n : ℕ) (f : Phase) (free : Bool) (sv : List (Entry ℕ Shape Tag)) (ps : List Place) (x : Option Place) →
    AllByRecursion (λ y. AllByRecursion (Strictly y.start) sv) ps → (f ≡ FoundE → AllByRecursion (After (first_mark sv)) (retag_entries f free sv)) →
    (f ≡ OutA → AllByRecursion (λ y. AllByRecursion (After y.start) (retag_entries f free sv)) (option_to_list x)) →
    AllByRecursion (λ y. AllByRecursion (After y.start) (retag_entries f free sv)) (done_after f n sv ps x)
early_step n Out free sv ps x h u v = early_old Out free sv ps h
early_step n OutR free sv ps x h u v = early_old OutR free sv ps h
early_step n OutA free sv ps x h u v = each_append (λ y. AllByRecursion (After y.start) (retag_entries OutA free sv)) ps (option_to_list x)
    (early_old OutA free sv ps h)
    (v refl)
early_step n MaybeB free sv ps x h u v = early_old MaybeB free sv ps h
early_step n MaybeA free sv ps x h u v = early_old MaybeA free sv ps h
early_step n Found free sv ps x h u v = early_old Found free sv ps h
early_step n FoundE free sv ps x h u v = each_push (λ y. AllByRecursion (After y.start) (retag_entries FoundE free sv)) ps
    (record { start = first_mark sv; end = n })
    (early_old FoundE free sv ps h) (u refl)
early_step n Inside free sv ps x h u v = early_old Inside free sv ps h
