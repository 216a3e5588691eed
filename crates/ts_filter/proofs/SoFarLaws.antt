-- A span of which the parts are taken in: more parts, and what a front that has what is asked shows of all parts.
use Rattle.std.proofs.Common.{◌≡◌, ◌↔◌, ℕ, ◌+◌, ◌<◌, ◌≤◌, ℤ, List, [], ◌∷◌, ◌++◌, length, map, take, drop, slice_get, Bool, true, false, cond, refl, sym, ap, ◌∙◌, subst}
use Rattle.std.specs.Prelude.{fold, is_some, Option, None, Some, Result, Ok, Err}
use Rattle.std.specs.Result.{result_ok, result_err}
use Rattle.std.proofs.lemmas.List.{map-append, take-append-drop, take_all}
use Rattle.std.proofs.lemmas.List.Sums.{fold-append}
use Rattle.ts_base.specs.declared.ext.Ext.{Ext}
use Rattle.ts_base.specs.declared.goal.Goal.{Goal}
use Rattle.ts_base.specs.declared.span.Span.{Span}
use Rattle.ts_base.specs.SpanLayer.{IsWithin}
use Rattle.ts_base.specs.Spans.{Holds, none_span, span_hull}
use Rattle.ts_base.proofs.SpanLaws.{hull_left, hull_right, hull_least, none_empty}
use Rattle.ts_base.specs.Windows.{looked_at}
use Rattle.ts_bound.specs.Looks.{is_looked, place_in}
use Rattle.ts_bound.specs.TermSpans.{Automata, inner_span, inner_value_span, spans_at, term_span, value_span}
use Rattle.ts_hull.proofs.HullLaws.{IsCanonical, hull_canonical}
use Rattle.ts_meet.specs.Meets.{hull_of_spans}
use Rattle.ts_model.specs.declared.model.Require.{Require}
use Rattle.ts_filter.specs.declared.question.Question.{Question}
use Rattle.ts_filter.specs.declared.question.Question.TheVariants.{Compares, MeetsEach, Counts, Ranks}
use Rattle.ts_filter.specs.declared.so_far.SoFar.{SoFar}
use Rattle.ts_filter.specs.declared.term_requirements.TermRequirements.{TermRequirements}
use Rattle.ts_filter.specs.PartLaws.{part_excludes}
use Rattle.ts_filter.specs.Alike.{AreAlike, FindsAlike}
use Rattle.ts_filter.specs.Ends.{best_end}
use Rattle.ts_filter.specs.Excluded.{Refutes}
use Rattle.ts_filter.specs.Question.{AsksEach, Excludes}
use Rattle.ts_filter.specs.Boxes.{Box, values_at}
use Rattle.ts_filter.specs.SoFar.{IsSoFar, IsWholeSpan, WithParts}
use Rattle.ts_filter.specs.TermDrops.{IsFirstRefuting}
use Rattle.ts_filter.proofs.AlikeLaws.{alike_alone, excludes_so, finds_back, finds_joined, finds_on, finds_same, finds_with, first_so, hull_assoc, hull_comm}
use Rattle.ts_filter.proofs.CellLaws.{span_more}
use Rattle.ts_filter.proofs.Refuting.{first_of_none}
use Rattle.ts_filter.proofs.SeenEnds.{alike_self}
use Rattle.ts_filter.proofs.SoundLaws.{clash}

-- a span without numbers has nothing that is asked
pub none_excludes : (asked : Question) → Excludes asked none_span
none_excludes (Compares op bound) = λ v held. absurd (none_empty v held)
none_excludes (MeetsEach own) = (own.first + 1, first_of_none own.all.now own.term none_span own.first own.is_first none_empty)
none_excludes (Counts goal bar) = λ v held. absurd (none_empty v held)
none_excludes (Ranks goal) = tt

still_held : (e : Ext) (ss : List Span) (s : Span) → Holds s e → Holds (fold span_hull s ss) e
still_held e [] s h = h
still_held e (t ∷ ss) s h = still_held e ss (span_hull s t) (hull_left s t e h)

front_within : (s : Span) (ps qs : List Span) → IsWithin (fold span_hull s ps) (fold span_hull s (ps ++ qs))
front_within s ps qs e h = subst (λ t. Holds t e) (sym (fold-append span_hull s ps qs)) (still_held e qs (fold span_hull s ps) h)

-- a hull of spans has its one form

fold_canonical : (ss : List Span) (s : Span) → IsCanonical s → IsCanonical (fold span_hull s ss)
fold_canonical [] s h = h
fold_canonical (t ∷ ss) s h = fold_canonical ss (span_hull s t) (hull_canonical s t)

-- more parts

-- one part more, where its hull is known
pub one_told : (s : SoFar) (part both : Span) (told : Bool) → both ≡ span_hull s.span part → (told ≡ true) ↔ Excludes s.asked both →
    (told ≡ true → WithParts s (part ∷ []) (Some (record { asked = s.asked; span = both }))) × (told ≡ false → WithParts s (part ∷ []) None)
one_told s part both told is h = (
  λ so. (
    refl,
    finds_same s.asked both (span_hull s.span part) is,
    record { form = ap (λ z. span_hull z none_span) is ∙ hull_canonical s.span part ∙ sym is; excluded = h.0 so },
  ),
  λ isnt none. clash told (h.1 (subst (Excludes s.asked) (sym is) none)) isnt,
)

-- a span joined to nothing

alone_within : (s : Span) → IsWithin (span_hull none_span s) s
alone_within s = hull_least none_span s s (λ v held. absurd (none_empty v held)) (λ v held. held)

finds_alone : (asked : Question) (s : Span) → FindsAlike asked (span_hull none_span s) s
finds_alone asked s u =
    subst (λ z. AreAlike asked z (span_hull u s)) (sym (ap (span_hull u) (hull_comm none_span s) ∙ sym (hull_assoc u s none_span) ∙ hull_canonical u s))
    (alike_self asked (span_hull u s))

-- what one of two spans that a question finds alike excludes, the other one excludes
pub excludes_found : (asked : Question) (s t : Span) → FindsAlike asked s t → Excludes asked s → Excludes asked t
excludes_found asked s t h none =
    part_excludes asked t (span_hull none_span t) (hull_right none_span t)
    (excludes_so asked (span_hull none_span s) (span_hull none_span t) (h none_span)
    (part_excludes asked (span_hull none_span s) s (alone_within s) none))

-- the first requirement that is refuted by one of two spans that are alike is refuted first by the other one

alone_refuted : (r : Require) (s : Span) → Refutes r.op r.bound s ↔ Refutes r.op r.bound (span_hull none_span s)
alone_refuted r s = (λ none v held. none v (alone_within s v held), λ none v held. none v (hull_right none_span s v held))

pub first_found : (own : TermRequirements) (asked : Question) → AsksEach own asked → (s t : Span) (found : Option ℕ) → FindsAlike asked s t →
    IsFirstRefuting own.all.now own.term s found → IsFirstRefuting own.all.now own.term t found
first_found own asked asks s t found h first =
    let both = asks.alike (span_hull none_span s) (span_hull none_span t) (h none_span) in
    first_so own s t found (λ r there of_term.
    let one = alone_refuted r s in let same = both r there of_term in let other = alone_refuted r t in
    (λ none. other.1 (same.0 (one.0 none)), λ none. one.1 (same.1 (other.0 none)))) first

-- a part in which the question finds the same
pub part_found : (s : SoFar) (part other : Span) (o : Option SoFar) → FindsAlike s.asked part other → WithParts s (part ∷ []) o → WithParts s (other ∷ []) o
part_found s part other None found stop = λ none.
    let both = finds_joined s.asked s.span part other found in
    stop (excludes_found s.asked (span_hull s.span other) (span_hull s.span part)
    (finds_back s.asked (span_hull s.span part) (span_hull s.span other) both) none)
part_found s part other (Some t) found h = (
  h.0,
  finds_on s.asked t.span (span_hull s.span part) (span_hull s.span other) h.1 (finds_joined s.asked s.span part other found),
  h.2,
)

-- one part alone

module _ (s : SoFar) (asked : Question) (part : Span) (same : s.asked ≡ asked) (e : s.span ≡ none_span) where
  pub alone_found : (t : SoFar) → WithParts s (part ∷ []) (Some t) → FindsAlike asked t.span part
  alone_found t h =
      finds_on asked t.span (span_hull s.span part) part (subst (λ a. FindsAlike a t.span (span_hull s.span part)) same h.1)
      (subst (λ z. FindsAlike asked (span_hull z part) part) (sym e) (finds_alone asked part))

  alone_stops : WithParts s (part ∷ []) None → Excludes asked part → ⊥
  alone_stops stop none = stop
      (subst (λ a. Excludes a (span_hull s.span part)) (sym same)
      (subst (λ z. Excludes asked (span_hull z part)) (sym e) (part_excludes asked (span_hull none_span part) part (alone_within part) none)))

  pub alone_told : (o : Option SoFar) (told : Bool) → told ≡ is_some o → WithParts s (part ∷ []) o → (told ≡ true) ↔ Excludes asked part
  alone_told None told is stop = (
    λ so. absurd (let f : ◌≡◌ false true = sym is ∙ so in cc),
    λ none. absurd (alone_stops stop none),
  )
  alone_told (Some t) told is h = (
    λ so. excludes_found asked t.span part (alone_found t h) (subst (λ a. Excludes a t.span) (h.0 ∙ same) h.2.excluded),
    λ none. is,
  )

  -- where it stops, none of the requirements is refuted that are asked about
  pub none_refuted : (own : TermRequirements) → AsksEach own asked → WithParts s (part ∷ []) None → IsFirstRefuting own.all.now own.term part None
  none_refuted own asks stop j h = alone_stops stop ((asks.excludes part).1 (j, h))

-- the best end of the part
pub alone_best : (s t : SoFar) (goal : Goal) (part : Span) → s.asked ≡ Ranks goal → s.span ≡ none_span → IsCanonical part →
    WithParts s (part ∷ []) (Some t) → best_end goal t.span ≡ best_end goal part
alone_best s t goal part same e can h = alike_alone (Ranks goal) t.span part h.2.form can (alone_found s (Ranks goal) part same e t h)

-- the span of a value has its one form, and so has that of a cell

inner_canonical : (m : Automata) (k : ℕ) (b : Box) (v : ℤ) → IsCanonical (inner_value_span m k b v)
unfolding inner_value_span
inner_canonical m k b v = fold_canonical (spans_at m.forward m.pair k b v) none_span refl

term_canonical : (m : Automata) (k : ℕ) (b : Box) → IsCanonical (term_span m k b)
unfolding term_span inner_span
term_canonical m k b =
    let place = place_in m.window k in let cells = looked_at m.window b in
    fold_canonical (map (inner_value_span m place cells) (values_at place cells)) none_span refl

pub value_canonical : (m : Automata) (k : ℕ) (b : Box) (v : ℤ) → IsCanonical (value_span m k b v)
unfolding value_span
value_canonical m k b v = by_test (is_looked m.window k)
  where
    by_test : (t : Bool) → IsCanonical (cond t (inner_value_span m (place_in m.window k) (looked_at m.window b) v) (term_span m k b))
    by_test true = inner_canonical m (place_in m.window k) (looked_at m.window b) v
    by_test false = term_canonical m k b

-- the parts are the spans of the values of a cell, and their hull is the whole

module _ (known : SoFar) (asked : Question) (f : ℤ → Span) (values : List ℤ) (whole : Span) (i : ℕ)
    (same : known.asked ≡ asked) (all : whole ≡ hull_of_spans (map f values))
    (so_far : FindsAlike asked known.span (hull_of_spans (map f (take i values)))) where
  -- with the span of one more value
  both_found : (v w : ℤ) → i < length values → slice_get values i ≡ Some v → w ≡ v →
      FindsAlike asked (span_hull known.span (f w)) (hull_of_spans (map f (take (i + 1) values)))
  both_found v w lt e is =
      let front = hull_of_spans (map f (take i values)) in
      subst (FindsAlike asked (span_hull known.span (f w))) (span_more f values i v front (f w) (span_hull front (f w)) lt e (ap f is) refl refl)
      (finds_with asked known.span front (f w) so_far)

  pub values_done : IsSoFar known → length values ≤ i → IsWholeSpan asked whole (Some known)
  values_done h done =
      let found = subst (FindsAlike asked known.span) (ap (λ l. hull_of_spans (map f l)) (take_all i values done) ∙ sym all) so_far in (
        found,
        excludes_found asked known.span whole found (subst (λ a. Excludes a known.span) same h.excluded),
      )

-- the hull of no values
pub none_begun : (asked : Question) (f : ℤ → Span) (values : List ℤ) (span : Span) → span ≡ none_span →
    FindsAlike asked span (hull_of_spans (map f (take 0 values)))
none_begun asked f values span e = finds_same asked span none_span e

-- the whole span

pub shown_told : (asked : Question) (s : Span) (r : Result SoFar ℤ) (o : Option ℤ) → o ≡ result_err r → IsWholeSpan asked s (result_ok r) →
    (o ≡ None) ↔ Excludes asked s
shown_told asked s (Ok t) o is h = (λ none. h.1, λ excluded. is)
shown_told asked s (Err v) o is h = (λ none. absurd (let f : ◌≡◌ (Some v) None = sym is ∙ none in cc), λ excluded. absurd (h excluded))

pub none_by_whole : (own : TermRequirements) (asked : Question) (s : Span) → AsksEach own asked → IsWholeSpan asked s None →
    IsFirstRefuting own.all.now own.term s None
none_by_whole own asked s asks stop j h = stop ((asks.excludes s).1 (j, h))
