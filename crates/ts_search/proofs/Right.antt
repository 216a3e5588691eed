-- What is asked of spans gives what the search has to know.
use Rattle.std.proofs.Common.{◌≡◌, ℕ, zero, suc, ◌-◌, ◌<◌, ◌≤◌, ℤ, Bool, true, false, List, [], ◌∷◌, length, get_or, Option, Some, None, MatchOption, slice_get, unwrap_or, refl, sym, ◌∙◌, ap, subst, arith}
use Rattle.std.proofs.lemmas.List.{length-map}
use Rattle.std.proofs.lemmas.Option.{slice_get-get_or, slice_get_within}
use Rattle.std.specs.Prelude.{IsSome, IfSome}
use Rattle.std.specs.List.{AllByRecursion}
use Rattle.ts_base.specs.declared.ext.Ext.{Ext}
use Rattle.ts_base.specs.declared.ext.Ext.TheVariants.{NegInf}
use Rattle.ts_base.specs.declared.goal.Goal.{Goal}
use Rattle.ts_domain.specs.BoxSeries.{InBox}
use Rattle.ts_model.specs.TermValue.{stated_value}
use Rattle.ts_model.specs.declared.model.Require.{Require}
use Rattle.ts_model.specs.Compares.{compares}
use Rattle.ts_model.specs.FirstBest.{value_of_term, objective_of}
use Rattle.ts_model.specs.Meets.{IsMet, Meets, value_at, values_on}
use Rattle.ts_model.specs.ModelParts.{ModelParts}
use Rattle.ts_filter.specs.declared.bar.Bar.{Bar}
use Rattle.ts_filter.specs.Boxes.{Box, IsPart, box_of}
use Rattle.ts_filter.specs.Excluded.{counts}
use Rattle.ts_filter.specs.RefutedWorseDrop.{Spans, IsRequirement, IsRefuted}
use Rattle.ts_filter.proofs.BoxParts.{in_box_inside}
use Rattle.ts_filter.proofs.SoundLaws.{values_are_sound, singles_are_exact, clash, series_length, each_at}
use Rattle.ts_search.specs.RightSpans.{AreRight}
use Rattle.ts_search.specs.Dive.{value_of}
use Rattle.ts_frontier.specs.Forms.{Alone, form}
use Rattle.ts_search.specs.LineOf.{Search, Contest, contest_for, last, requirements, is_refuted_at, is_cut_at}
use Rattle.ts_search.proofs.DiveLaws.{dive_fits}
use Rattle.ts_search.proofs.Known.{Known, KnownBest, from_refuted, from_cut}
use Rattle.ts_search.proofs.Parts.{alone_is, alone_within}

each_from : (P : Require → Type 0) (rs : List Require) → ((i : ℕ) (r : Require) → slice_get rs i ≡ Some r → P r) → AllByRecursion P rs
each_from P [] f = tt
each_from P (r ∷ rs) f = (f zero r refl, each_from P rs (λ i q e. f (suc i) q e))

value_there : (m : ModelParts) (x : List ℤ) (term : ℕ) → term < length m.terms → (v : Ext) × (value_at m x term ≡ Some v)
value_there m x term l =
    let n : term < length (values_on m x) =
    omega (arith, l, length-map m.terms (λ t. stated_value t.1 x)) in
    (get_or (values_on m x) term NegInf, slice_get-get_or (values_on m x) term NegInf n)

module _ (m : ModelParts) (s : Spans) (right : AreRight m s) where
  met : (x : List ℤ) → InBox x m.cells →
      ((j : ℕ) (r : Require) → IsRequirement m.requirements j r → IsRefuted m.requirements s j (length x) (box_of x) → ⊥) → Meets m x
  met x within free = record {
    cells = series_length x m.cells within;
    inside = within;
    requirements = each_from (IsMet m x) m.requirements (λ i r e. one i r e);
  }
    where
      judged : (i : ℕ) (r : Require) → slice_get m.requirements i ≡ Some r → (v : Ext) → value_at m x r.term ≡ Some v → (t : Bool) →
          compares r.op r.bound v ≡ t → IsMet m x r
      judged i r e v is true q = (v, is, q)
      judged i r e v is false q =
          let at : suc i - 1 ≡ i = omega arith in
          let req : IsRequirement m.requirements (suc i) r = ((omega arith), subst (λ z. slice_get m.requirements z ≡ Some r) (sym at) e) in
          absurd (free (suc i) r req
          (((singles_are_exact m s right.whole right.single).refuted (suc i) r x within req).1
          (λ k. not_met k)))
        where
          not_met : IsMet m x r → ⊥
          not_met k =
              let same : k.0 ≡ v = (let f : ◌≡◌ {A = Option Ext} (Some k.0) (Some v) = sym k.1 ∙ is in cc) in
              clash (compares r.op r.bound v) (subst (λ z. compares r.op r.bound z ≡ true) same k.2) q

      one : (i : ℕ) (r : Require) → slice_get m.requirements i ≡ Some r → IsMet m x r
      one i r e =
          let w = value_there m x r.term (each_at (λ q. q.term < length m.terms) m.requirements i r right.whole.requirements e) in
          judged i r e w.0 w.1 (compares r.op r.bound w.0) refl

  pub valued : (x : List ℤ) → IsSome m.objective → objective_of m x ≡ Some (value_of m x)
  valued x some = go m.objective some right.whole.objective
    where
      go : (o : Option ℕ) → IsSome o → IfSome o (λ t. t < length m.terms) → value_of_term m x o ≡ Some (unwrap_or (value_of_term m x o) NegInf)
      go None i l = absurd (let f : ◌≡◌ {A = Bool} false true = i in cc)
      go (Some term) i l =
          let w = value_there m x term l in
          w.1 ∙ ap (λ o. Some (unwrap_or o NegInf)) (sym w.1)

module _ (c : Search) (right : AreRight c.model c.spans) where
  single : (b : Box) (x : List ℤ) → IsPart b c.model.cells → form b ≡ Alone x → ((j : ℕ) → 1 ≤ j → j ≤ requirements c → is_refuted_at c j (last c) b ≡ false) →
      Meets c.model x
  single b x i e free =
      let within = in_box_inside b c.model.cells x i.inside (alone_within c.model.cells b x i e) in
      let n : length x ≡ last c = series_length x c.model.cells within in
      met c.model c.spans right x within
      (λ j r req k. clash (is_refuted_at c j (last c) b)
      (from_refuted c j (last c) b
      (subst (λ z. IsRefuted c.model.requirements c.spans j z b) n
      (subst (λ z. IsRefuted c.model.requirements c.spans j (length x) z) (sym (alone_is c.model.cells b x i e)) k)))
      (free j req.0 (let l = slice_get_within c.model.requirements (j - 1) r req.1 in let a = req.0 in omega (arith, l, a))))

  pub known : Known c
  known = record { box = right.box; sound = values_are_sound c.model c.spans right.holds; single = single }

module _ (c : Contest) (right : AreRight c.search.model c.search.spans) where
  cut_single : IsSome c.search.model.objective → (b : Box) (bar : Bar) (x : List ℤ) → IsPart b c.search.model.cells → form b ≡ Alone x →
      is_cut_at c (last c.search) b bar ≡ false →
      counts c.goal bar (value_of c.search.model x) ≡ true
  cut_single some b bar x i e k = go (counts c.goal bar (value_of c.search.model x)) refl
    where
      within : InBox x c.search.model.cells
      within = in_box_inside b c.search.model.cells x i.inside (alone_within c.search.model.cells b x i e)

      go : (t : Bool) → counts c.goal bar (value_of c.search.model x) ≡ t → counts c.goal bar (value_of c.search.model x) ≡ true
      go true q = q
      go false q =
          let n : length x ≡ last c.search = series_length x c.search.model.cells within in
          let is = ((singles_are_exact c.search.model c.search.spans right.whole right.single).cut c.goal bar x (value_of c.search.model x) within
          (valued c.search.model c.search.spans right x some)).1 q in
          absurd (clash (is_cut_at c (last c.search) b bar)
          (subst (λ z. is_cut_at c (last c.search) z bar ≡ true) (sym (alone_is c.search.model.cells b x i e))
          (subst (λ z. is_cut_at c z (box_of x) bar ≡ true) n (from_cut c (length x) (box_of x) bar is))) k)

  pub known_best : IsSome c.search.model.objective →
      MatchOption c.warm (Unit {0}) (λ w. Meets c.search.model w.series × (w.value ≡ value_of c.search.model w.series)) → KnownBest c
  known_best some warm = record {
    known = known c.search right;
    valued = λ x h. valued c.search.model c.search.spans right x some;
    cut_single = cut_single some;
    warm = warm;
  }

-- what is known of the search for the best, with the dive's series
pub best_known : (m : ModelParts) (s : Spans) (goal : Goal) → AreRight m s → IsSome m.objective → KnownBest (contest_for m s goal)
best_known m s goal right some = known_best (contest_for m s goal) right some (dive_fits m s goal right.box)
