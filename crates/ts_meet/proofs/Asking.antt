-- What a pair of states tells of the whole span at a value: the pair's span lies in it.
use Rattle.std.proofs.Common.{◌≡◌, ◌↔◌, ◌⊎◌, Bool, true, false, ℕ, zero, suc, ◌+◌, ◌-◌, ◌<◌, ◌≤◌, ◌≤ℤ◌, ℤ, pos, List, [], ◌∷◌, get_or, length, inl, inr, sym, ap, subst, ◌∙◌, arith}
use Rattle.std.specs.Prelude.{fold, IfSome, Option, None, Some}
use Rattle.std.proofs.lemmas.List.{get_or_default}
use Rattle.ts_base.specs.declared.span.Span.{Span}
use Rattle.ts_base.specs.Limits.{IsCellValue}
use Rattle.ts_base.specs.SpanLayer.{IsWithin}
use Rattle.ts_base.specs.Spans.{none_span, span_hull}
use Rattle.ts_base.proofs.SpanLaws.{hull_left, hull_right}
use Rattle.ts_automaton.specs.AutomatonRun.{AreCellValues, Standing}
use Rattle.ts_glue.specs.Pairs.{Pair}
use Rattle.ts_row.specs.Rows.{nothing}
use Rattle.ts_sweep.specs.declared.packed.Ends.{Ends}
use Rattle.ts_sweep.specs.declared.packed.PackedHull.{PackedHull}
use Rattle.ts_sweep.specs.Lanes.{least}
use Rattle.ts_sweep.specs.Sides.{sides}
use Rattle.ts_meet.specs.Asked.{AreEnough, IsAnswer, IsHullUntil, Reaches}
use Rattle.ts_meet.specs.Meets.{glued_hull, glued_seen, hull_of_spans, spans_between, spans_with, standing_in}
use Rattle.ts_meet.specs.Settled.{Between, IsSettled}
use Rattle.ts_meet.specs.Sides.{StandFor}
use Rattle.ts_meet.proofs.Meeting.{between_more, with_more}

fold_within : (ss : List Span) (s : Span) → IsWithin s (fold span_hull s ss)
fold_within [] s e h = h
fold_within (t ∷ ss) s e h = fold_within ss (span_hull s t) e (hull_left s t e h)

rising : (f : ℕ → Span) → ((k : ℕ) → IsWithin (f k) (f (k + 1))) → (k d : ℕ) → IsWithin (f k) (f (k + d))
rising f h k zero = subst (λ m. IsWithin (f k) (f m)) (let e : k ≡ k + 0 = omega arith in e) (λ e i. i)
rising f h k (suc d) =
    subst (λ m. IsWithin (f k) (f m)) (let e : (k + d) + 1 ≡ k + suc d = omega arith in e) (λ e i. h (k + d) e (rising f h k d e i))

pub up_to : (f : ℕ → Span) → ((k : ℕ) → IsWithin (f k) (f (k + 1))) → (k m : ℕ) → k ≤ m → IsWithin (f k) (f m)
up_to f h k m le = subst (λ j. IsWithin (f k) (f j)) (let e : k + (m - k) ≡ m = omega (arith, le) in e) (rising f h k (m - k))

pub with_rises : (n : ℕ) (p : Pair) (left : Standing Span) (right : List (List (PackedHull n))) (i : ℕ) (x : ℤ) (cells : ℕ) (s : Span) (k m : ℕ) → k ≤ m →
    IsWithin (fold span_hull s (spans_with n p left right i x cells k)) (fold span_hull s (spans_with n p left right i x cells m))
with_rises n p left right i x cells s k m le =
    let f : ℕ → Span = λ j. fold span_hull s (spans_with n p left right i x cells j) in
    up_to f
    (λ j. subst (IsWithin (f j)) (sym (with_more n p left right i x cells j s))
    (hull_left (f j) (glued_seen (sides n) p left (standing_in n right j i) x cells)))
    k m le

pub between_rises : (n : ℕ) (p : Pair) (left right : List (List (PackedHull n))) (i : ℕ) (x : ℤ) (cells states : ℕ) (s : Span) (k m : ℕ) → k ≤ m →
    IsWithin (fold span_hull s (spans_between n p left right i x cells states k)) (fold span_hull s (spans_between n p left right i x cells states m))
between_rises n p left right i x cells states s k m le =
    let f : ℕ → Span = λ j. fold span_hull s (spans_between n p left right i x cells states j) in
    up_to f
    (λ j. subst (IsWithin (f j)) (sym (between_more n p left right i x cells states j s))
    (fold_within (spans_with n p (standing_in n left j i) right i x cells states) (f j))) k m le

-- the span of a pair of states lies in the whole
pair_within : (n : ℕ) (p : Pair) (left right : List (List (PackedHull n))) (i : ℕ) (x : ℤ) (cells states k q r : ℕ) → q < k → r < states →
    IsWithin (glued_seen (sides n) p (standing_in n left q i) (standing_in n right r i) x cells)
    (hull_of_spans (spans_between n p left right i x cells states k))
pair_within n p left right i x cells states k q r lq lr =
    let here = standing_in n left q i in
    let pair = glued_seen (sides n) p here (standing_in n right r i) x cells in
    let before = hull_of_spans (spans_between n p left right i x cells states q) in
    let with : ℕ → Span = λ m. fold span_hull before (spans_with n p here right i x cells m) in
    let first : IsWithin pair (with (r + 1)) =
    subst (IsWithin pair) (sym (with_more n p here right i x cells r before)) (hull_right (with r) pair) in
    let all : IsWithin (with states) (hull_of_spans (spans_between n p left right i x cells states (q + 1))) =
    subst (IsWithin (with states)) (sym (between_more n p left right i x cells states q none_span)) (λ e h. h) in
    λ e h. between_rises n p left right i x cells states none_span (q + 1) k (omega (arith, lq)) e
    (all e (with_rises n p here right i x cells before (r + 1) states (omega (arith, lr)) e (first e h)))

-- where a pair of states settles a place, the span there has what is asked
pub settled_has : (Excluded : Span → Type 0) (part : (s t : Span) → IsWithin s t → Excluded t → Excluded s) (n : ℕ) (p : Pair)
    (left right : List (List (PackedHull n))) (i cells : ℕ) (given : Ends) → AreEnough Excluded given → IsSettled n given p left right cells i → (x : ℤ) →
    Excluded (glued_hull n p left right i x cells) → ⊥
settled_has Excluded part n p left right i cells given enough told x whole =
    let by = told.2 in
    enough _ (by.2 x)
    (part _ _ (pair_within n p left right i x cells (length p.reverse.states) (length p.forward.states) told.0 by.0 told.1 by.1) whole)

-- a hull of which a part reaches ends that are enough has what is asked
pub part_has : (Excluded : Span → Type 0) (of_part : (s t : Span) → IsWithin s t → Excluded t → Excluded s) (enough : Option Ends) (so_far whole : Span) →
    IfSome enough (AreEnough Excluded) → IsHullUntil enough whole None → Excluded (span_hull so_far whole) → ⊥
part_has Excluded of_part None so_far whole are reached none = reached
part_has Excluded of_part (Some given) so_far whole are (part, within, reached) none =
    are part reached (of_part part (span_hull so_far whole) (λ e h. hull_right so_far whole e (within e h)) none)

-- what a part reaches, the whole reaches
pub until_within : (enough : Option Ends) (inner whole : Span) → IsWithin inner whole → IsHullUntil enough inner None → IsHullUntil enough whole None
until_within None inner whole inside reached = reached
until_within (Some given) inner whole inside (part, within, reached) = (part, (λ e h. inside e (within e h)), reached)

-- ends of a hull that holds something
pub stands_reaches : (e given : Ends) (s : Span) → StandFor e s → (e.above ≡ least → ⊥) → (given.below ≤ℤ e.below) × (given.above ≤ℤ e.above) → Reaches given s
stands_reaches e given s (inl none) some reached = absurd (some (ap (λ (z : Ends). z.above) none.0))
stands_reaches e given s (inr packs) some reached = record { ends = e; packs = packs; below = reached.0; above = reached.1 }

clash : true ≡ false → ⊥
clash e = cc

-- a span that isn't found to lack what is asked has it
not_told : (Excluded : Span → Type 0) (told : Bool) (span part : Span) → span ≡ part → (told ≡ true) ↔ Excluded span → told ≡ false → Excluded part → ⊥
not_told Excluded told span part is tells isnt none = clash (sym (tells.1 (subst Excluded (sym is) none)) ∙ isnt)

-- the answer for the whole hull, by what a question says of it
pub answered : (Excluded : Span → Type 0) (told : Bool) (span both whole so_far : Span) → span ≡ whole → both ≡ span_hull so_far span →
    (told ≡ true) ↔ Excluded both → (told ≡ true → IsAnswer Excluded (span_hull so_far whole) (Some both)) ×
    (told ≡ false → IsAnswer Excluded (span_hull so_far whole) None)
answered Excluded told span both whole so_far is joined tells =
    let e : both ≡ span_hull so_far whole = joined ∙ ap (span_hull so_far) is in (
      λ so. (e, subst Excluded e (tells.0 so)),
      λ isnt. not_told Excluded told both (span_hull so_far whole) e tells isnt,
    )

-- places at which something holds, and some more

below_or_not : (a b : ℕ) → (a < b) ⊎ (b ≤ a)
below_or_not a b = grind arith

pub none_between : (Is : ℕ → Type 0) (a : ℕ) → Between a a Is
none_between Is a i from to = absurd (omega (arith, from, to))

pub and_between : (Is : ℕ → Type 0) (a b c : ℕ) → Between a b Is → Between b c Is → Between a c Is
and_between Is a b c first second i from to = elim (below_or_not i b) [
  | inl below ↦ first i from below
  | inr above ↦ second i above to
]

pub one_more : (Is : ℕ → Type 0) (a b : ℕ) → Between a b Is → Is b → Between a (b + 1) Is
one_more Is a b before last i from to = elim (below_or_not i b) [
  | inl below ↦ before i from below
  | inr above ↦ subst Is (let e : b ≡ i = omega (arith, above, to) in e) last
]

-- the hull that was read at a place
pub read_there : (n : ℕ) (hulls : List (PackedHull n)) (i : ℕ) (h : PackedHull n) → h ≡ get_or hulls i h → i < length hulls → h ≡ get_or hulls i (nothing n)
read_there n hulls i h is inside = is ∙ get_or_default hulls i h (nothing n) inside

-- each of many values of cells is one
pub value_there : (values : List ℤ) (i : ℕ) → AreCellValues values → i < length values → IsCellValue (get_or values i (pos 0))
value_there [] i h lt = absurd (omega (arith, lt))
value_there (x ∷ values) zero h lt = h.0
value_there (x ∷ values) (suc i) h lt = value_there values i h.1 (omega (arith, lt))
