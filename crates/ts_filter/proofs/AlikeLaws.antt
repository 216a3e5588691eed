-- What a question finds alike in two spans, it finds alike in hulls that they are joined to.
use Rattle.std.proofs.Common.{◌≡◌, ◌↔◌, ◌⊎◌, inl, inr, ℕ, ◌+◌, ◌-◌, ◌<◌, ◌≤◌, Bool, List, [], ◌∷◌, get_or, sym, ap, subst, ◌∙◌, arith}
use Rattle.std.specs.Prelude.{fold, nat_eq, Contains, slice_get, Option, None, Some}
use Rattle.std.specs.List.{position}
use Rattle.std.proofs.lemmas.Bool.{eq-eqb}
use Rattle.std.proofs.lemmas.List.Quantifiers.{position-Some}
use Rattle.std.proofs.lemmas.Option.{get_or_from_slice_get, slice_get-get_or, slice_get_within}
use Rattle.ts_base.specs.declared.span.Span.{Span}
use Rattle.ts_base.specs.Spans.{none_span, span_hull}
use Rattle.ts_automaton.specs.declared.state.Mark.{Mark}
use Rattle.ts_hull.specs.Sealed.{least_span}
use Rattle.ts_hull.proofs.HullLaws.{IsCanonical}
use Rattle.ts_hull.proofs.SpanHulls.{hull_assoc as least_assoc, hull_comm as least_comm}
use Rattle.ts_sweep.specs.Sides.{Sides}
use Rattle.ts_model.specs.declared.model.Require.{Require}
use Rattle.ts_filter.specs.declared.question.Question.{Question}
use Rattle.ts_filter.specs.declared.question.Question.TheVariants.{Compares, MeetsEach, Counts, Ranks}
use Rattle.ts_filter.specs.declared.term_requirements.TermRequirements.{TermRequirements}
use Rattle.ts_filter.specs.Alike.{AreAlike, AreRefutedAlike, FindsAlike, IsServed}
use Rattle.ts_filter.specs.Excluded.{Refutes}
use Rattle.ts_filter.specs.Question.{AsksEach, Excludes}
use Rattle.ts_filter.specs.TermDrops.{IsFirstRefuting, IsRefuting, RefutesSome}
use Rattle.ts_filter.proofs.SeenEnds.{alike_self}
use Rattle.ts_filter.proofs.SoundLaws.{clash}

-- hulls

pub hull_comm : (s t : Span) → span_hull s t ≡ span_hull t s
unfolding least_span
hull_comm s t = least_comm s t

pub hull_assoc : (s t u : Span) → span_hull (span_hull s t) u ≡ span_hull s (span_hull t u)
unfolding least_span
hull_assoc s t u = least_assoc s t u

-- two spans in which a question finds the same

alike_back : (asked : Question) (s t : Span) → AreAlike asked s t → AreAlike asked t s
alike_back (Compares op bound) s t h = (h.1, h.0)
alike_back (MeetsEach own) s t h = λ r there of_term. let one = h r there of_term in (one.1, one.0)
alike_back (Counts goal bar) s t h = (h.1, h.0)
alike_back (Ranks goal) s t h = sym h

alike_on : (asked : Question) (s t u : Span) → AreAlike asked s t → AreAlike asked t u → AreAlike asked s u
alike_on (Compares op bound) s t u h k = (λ z. k.0 (h.0 z), λ z. h.1 (k.1 z))
alike_on (MeetsEach own) s t u h k = λ r there of_term.
    let one = h r there of_term in let two = k r there of_term in (λ z. two.0 (one.0 z), λ z. one.1 (two.1 z))
alike_on (Counts goal bar) s t u h k = (λ z. k.0 (h.0 z), λ z. h.1 (k.1 z))
alike_on (Ranks goal) s t u h k = h ∙ k

contained : (rs : List Require) (i : ℕ) (r : Require) → slice_get rs i ≡ Some r → Contains rs r
contained rs i r e = (i, slice_get_within rs i r e, get_or_from_slice_get rs i r r e)

is_refuting : (own : TermRequirements) (s t : Span) → AreAlike (MeetsEach own) s t → (j : ℕ) →
    IsRefuting own.all.now own.term s j → IsRefuting own.all.now own.term t j
is_refuting own s t h j f = record {
  require = f.require;
  is = f.is;
  of_term = f.of_term;
  refutes = (h f.require (contained own.all.now (j - 1) f.require f.is.1) f.of_term).0 f.refutes;
}

-- what one of two spans that a question finds alike excludes, the other one excludes
pub excludes_so : (asked : Question) (s t : Span) → AreAlike asked s t → Excludes asked s → Excludes asked t
excludes_so (Compares op bound) s t h none = h.0 none
excludes_so (MeetsEach own) s t h none = (none.0, is_refuting own s t h none.0 none.1)
excludes_so (Counts goal bar) s t h none = h.0 none
excludes_so (Ranks goal) s t h none = none

-- the first requirement that is refuted by one of two spans that are alike is refuted first by the other one
pub first_so : (own : TermRequirements) (s t : Span) (found : Option ℕ) → AreAlike (MeetsEach own) s t →
    IsFirstRefuting own.all.now own.term s found → IsFirstRefuting own.all.now own.term t found
first_so own s t None h none = λ j f. none j (is_refuting own t s (alike_back (MeetsEach own) s t h) j f)
first_so own s t (Some j) h first = (
  is_refuting own s t h j first.0,
  λ i f. first.1 i (is_refuting own t s (alike_back (MeetsEach own) s t h) i f),
)

module _ (asked : Question) where
  pub finds_self : (s : Span) → FindsAlike asked s s
  finds_self s u = alike_self asked (span_hull u s)

  pub finds_same : (s t : Span) → s ≡ t → FindsAlike asked s t
  finds_same s t e = subst (FindsAlike asked s) e (finds_self s)

  pub finds_back : (s t : Span) → FindsAlike asked s t → FindsAlike asked t s
  finds_back s t h u = alike_back asked (span_hull u s) (span_hull u t) (h u)

  pub finds_on : (s t u : Span) → FindsAlike asked s t → FindsAlike asked t u → FindsAlike asked s u
  finds_on s t u h k v = alike_on asked (span_hull v s) (span_hull v t) (span_hull v u) (h v) (k v)

  -- spans that a question finds alike, joined to another span
  pub finds_joined : (u s t : Span) → FindsAlike asked s t → FindsAlike asked (span_hull u s) (span_hull u t)
  finds_joined u s t h v =
      subst (λ z. AreAlike asked z (span_hull v (span_hull u t))) (hull_assoc v u s)
      (subst (AreAlike asked (span_hull (span_hull v u) s)) (hull_assoc v u t) (h (span_hull v u)))

  pub finds_with : (s t u : Span) → FindsAlike asked s t → FindsAlike asked (span_hull s u) (span_hull t u)
  finds_with s t u h =
      subst (λ z. FindsAlike asked z (span_hull t u)) (hull_comm u s)
      (subst (FindsAlike asked (span_hull u s)) (hull_comm u t) (finds_joined u s t h))

  pub finds_both : (s t u v : Span) → FindsAlike asked s t → FindsAlike asked u v → FindsAlike asked (span_hull s u) (span_hull t v)
  finds_both s t u v h k = finds_on (span_hull s u) (span_hull t u) (span_hull t v) (finds_with s t u h) (finds_joined t u v k)

  -- spans in their one form alone
  pub alike_alone : (s t : Span) → IsCanonical s → IsCanonical t → FindsAlike asked s t → AreAlike asked s t
  alike_alone s t e f h =
      subst (λ z. AreAlike asked z t) (hull_comm none_span s ∙ e)
      (subst (AreAlike asked (span_hull none_span s)) (hull_comm none_span t ∙ f) (h none_span))

  -- a question finds the spans of two lists alike, one by one
  abbrev pub EachAlike : List Span → List Span → Type 0
  EachAlike [] [] = Unit {0}
  EachAlike [] (t ∷ ts) = ⊥
  EachAlike (s ∷ ss) [] = ⊥
  EachAlike (s ∷ ss) (t ∷ ts) = FindsAlike asked s t × EachAlike ss ts

  pub finds_folded : (ss ts : List Span) (s t : Span) → FindsAlike asked s t → EachAlike ss ts → FindsAlike asked (fold span_hull s ss) (fold span_hull t ts)
  finds_folded [] [] s t h each = h
  finds_folded [] (w ∷ ts) s t h each = absurd each
  finds_folded (w ∷ ss) [] s t h each = absurd each
  finds_folded (v ∷ ss) (w ∷ ts) s t h each = finds_folded ss ts (span_hull s v) (span_hull t w) (finds_both s t v w h each.0) each.1

-- the question whether each requirement of a term is met

-- the question where there is only one requirement
pub asks_only : (own : TermRequirements) (r : Require) → ((s : Span) → Refutes r.op r.bound s ↔ RefutesSome own.all.now own.term s) →
    ((other : Require) → Contains own.all.now other → other.term ≡ own.term → other ≡ r) → AsksEach own (Compares r.op r.bound)
asks_only own r told alone = record {
  excludes = told;
  alike = λ s t h other there of_term.
      subst (λ (z : Require). AreRefutedAlike z.op z.bound s t) (sym (alone other there of_term)) h;
}

-- requirements of a term, one by one

module _ (rs : List Require) (term : ℕ) (ends : Sides) (mark : Mark) (n : ℕ) where
  abbrev is_own : Require → Bool
  is_own r = nat_eq r.term term

  -- the ends are enough for the requirements at the first places
  abbrev pub ServeUpTo : ℕ → Type 0
  ServeUpTo at = (i : ℕ) (r : Require) → slice_get rs i ≡ Some r → r.term ≡ term → i < at → IsServed ends mark n (Compares r.op r.bound)

  before_first : (first : ℕ) → position is_own rs ≡ Some first → ServeUpTo first
  before_first first e i r at of_term lt =
      absurd (clash _ (ap is_own (get_or_from_slice_get rs i r r at) ∙ eq-eqb r.term term of_term) ((position-Some is_own rs first r e).2 i lt))

  pub serve_more : (at : ℕ) (d : Require) → ServeUpTo at →
      ((get_or rs at d).term ≡ term → IsServed ends mark n (Compares (get_or rs at d).op (get_or rs at d).bound)) → ServeUpTo (at + 1)
  serve_more at d told one i r is of_term lt = by_place (split i at lt)
    where
      split : (i at : ℕ) → i < at + 1 → (i ≡ at) ⊎ (i < at)
      split i at lt = grind (arith, lt)

      by_place : (i ≡ at) ⊎ (i < at) → IsServed ends mark n (Compares r.op r.bound)
      by_place (inr less) = told i r is of_term less
      by_place (inl same) =
          let this : get_or rs at d ≡ r = sym (ap (λ j. get_or rs j d) same) ∙ get_or_from_slice_get rs i r d is in
          subst (λ (z : Require). IsServed ends mark n (Compares z.op z.bound)) this (one (ap (λ (z : Require). z.term) this ∙ of_term))

  pub serve_first : (first : ℕ) (d : Require) → position is_own rs ≡ Some first →
      IsServed ends mark n (Compares (get_or rs first d).op (get_or rs first d).bound) → ServeUpTo (first + 1)
  serve_first first d e one = serve_more first d (before_first first e) (λ of_term. one)

-- ends that are enough for each requirement of the term are enough for all of them
pub serve_each : (own : TermRequirements) (ends : Sides) (mark : Mark) (n at : ℕ) → ServeUpTo own.all.now own.term ends mark n at → own.end ≤ at →
    IsServed ends mark n (MeetsEach own)
serve_each own ends mark n at told all s u r there of_term =
    let is : slice_get own.all.now there.0 ≡ Some r = slice_get-get_or own.all.now there.0 r there.1 ∙ ap Some there.2 in
    let before = own.none_behind there.0 r is of_term in
    told there.0 r is of_term (omega (arith, before, all)) s u
