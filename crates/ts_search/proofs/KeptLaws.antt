-- The value that a cell keeps is one.
use Rattle.std.proofs.Common.{◌≡◌, ℕ, ◌-◌, ℤ, ◌≤ℤ◌, ◌<ℤ◌, Bool, true, false, cond, List, [], ◌∷◌, Option, Some, None, slice_get, refl, sym, ◌∙◌, ap, subst, inl, inr, ⊎_elim, arith}
use Rattle.std.proofs.lemmas.Int.{ints}
use Rattle.std.specs.Prelude.{Contains, is_some}
use Rattle.ts_base.specs.declared.ext.Ext.{Ext}
use Rattle.ts_base.specs.declared.goal.Goal.{Goal}
use Rattle.ts_domain.specs.Values.{IsDomain, IsRising, least_of}
use Rattle.ts_domain.proofs.Sets.{contains_cons, each_contains, nothing_in}
use Rattle.ts_glue.specs.Pairs.{Pair}
use Rattle.ts_bound.specs.TermSpans.{Automata}
use Rattle.ts_model.specs.FirstBest.{is_better}
use Rattle.ts_filter.specs.Boxes.{Box, values_at, only}
use Rattle.ts_filter.specs.Ends.{best_end}
use Rattle.ts_filter.specs.KeptValue.{IsPreferred, IsKeptOver, IsKept, end_with}
use Rattle.ts_filter.specs.MachineSpans.{is_split, span_of, spans_of}
use Rattle.ts_filter.proofs.BoxParts.{domain_at, place}
use Rattle.ts_filter.proofs.SoundLaws.{clash}
use Rattle.ts_filter.proofs.KeptLaws.{better_trans}
use Rattle.ts_search.specs.Dive.{most_promising, best_value, promise, kept_for}
use Rattle.ts_search.specs.Laws.{IsMostPromising, KeptFits}
use Rattle.ts_search.proofs.DiveLaws.{best_there}
use Rattle.ts_search.proofs.Known.{never_itself, apart, neither_better}

at_most_both : (v w : ℤ) → v ≤ℤ w → w ≤ℤ v → v ≡ w
at_most_both v w l g = omega (arith, ints, l, g)

above_not_most : (v w : ℤ) → w <ℤ v → v ≤ℤ w → ⊥
above_not_most v w l g = omega (arith, ints, l, g)

most_below : (v w u : ℤ) → v ≤ℤ w → w <ℤ u → v ≤ℤ u
most_below v w u l g = omega (arith, ints, l, g)

most_itself : (v u : ℤ) → v ≡ u → u ≤ℤ v
most_itself v u e = omega (arith, ints, e)

-- by what their ends promise

module _ (goal : Goal) (f : ℤ → Ext) where
  -- what is preferred to a value is preferred to a later one that isn't better
  later_too : (x v w : ℤ) → v <ℤ w → is_better goal (f w) (f v) ≡ false → IsPreferred goal f x v → IsPreferred goal f x w
  later_too x v w l n (inl b) = ⊎_elim (λ a. inl a) (λ a. absurd (clash (is_better goal (f w) (f v)) a n)) (apart goal (f x) (f w) (f v) b)
  later_too x v w l n (inr h) = go (is_better goal (f v) (f w)) refl
    where
      go : (t : Bool) → is_better goal (f v) (f w) ≡ t → IsPreferred goal f x w
      go true e = inl (ap (λ z. is_better goal z (f w)) h.0 ∙ e)
      go false e = inr (h.0 ∙ neither_better goal (f v) (f w) e n, most_below x v w h.1 l)

  -- what is preferred to a value is preferred to a worse one
  worse_too : (x v w : ℤ) → is_better goal (f w) (f v) ≡ true → IsPreferred goal f x w → IsPreferred goal f x v
  worse_too x v w b (inl a) = inl (better_trans goal (f x) (f w) (f v) a b)
  worse_too x v w b (inr h) = inl (ap (λ z. is_better goal z (f v)) h.0 ∙ b)

  pub promising_wins : (v : ℤ) (values : List ℤ) → IsRising (v ∷ values) → (u : ℤ) → Contains (v ∷ values) u →
      IsPreferred goal f (most_promising f goal v values) u
  unfolding IsRising
  promising_wins v [] r u h =
      ⊎_elim (λ e. inr (ap f e, most_itself u v (sym e))) (λ a. absurd (nothing_in u a)) ((contains_cons v [] u).0 h)
  promising_wins v (w ∷ values) r u h =
      go (is_better goal (f w) (f v)) refl (promising_wins w values r.1) (promising_wins v values (r.0.1, r.1.1))
    where
      go : (t : Bool) → is_better goal (f w) (f v) ≡ t →
          ((u : ℤ) → Contains (w ∷ values) u → IsPreferred goal f (most_promising f goal w values) u) →
          ((u : ℤ) → Contains (v ∷ values) u → IsPreferred goal f (most_promising f goal v values) u) →
          IsPreferred goal f (most_promising f goal (cond t w v) values) u
      go true e with_w with_v =
          ⊎_elim
          (λ is. subst (λ z. IsPreferred goal f (most_promising f goal w values) z) is
          (worse_too (most_promising f goal w values) v w e (with_w w ((contains_cons w values w).1 (inl refl)))))
          (λ a. with_w u a) ((contains_cons v (w ∷ values) u).0 h)
      go false e with_w with_v =
          ⊎_elim
          (λ is. with_v u ((contains_cons v values u).1 (inl is)))
          (λ a. ⊎_elim
          (λ is. subst (λ z. IsPreferred goal f (most_promising f goal v values) z) is
          (later_too (most_promising f goal v values) v w r.0.0 e (with_v v ((contains_cons v values v).1 (inl refl)))))
          (λ b. with_v u ((contains_cons v values u).1 (inr b))) ((contains_cons w values u).0 a)) ((contains_cons v (w ∷ values) u).0 h)

  best_wins : (d : List ℤ) → IsRising d → (u : ℤ) → Contains d u → IsPreferred goal f (best_value f goal d) u
  best_wins [] r u h = absurd (nothing_in u h)
  best_wins (v ∷ values) r u h = promising_wins v values r u h

  -- two that are preferred to each other are one
  pub one_preferred : (v w : ℤ) → IsPreferred goal f v w → IsPreferred goal f w v → v ≡ w
  one_preferred v w (inl a) (inl b) = absurd (never_itself goal (f v) (better_trans goal (f v) (f w) (f v) a b))
  one_preferred v w (inl a) (inr h) = absurd (never_itself goal (f v) (ap (λ z. is_better goal (f v) z) (sym h.0) ∙ a))
  one_preferred v w (inr h) (inl b) = absurd (never_itself goal (f w) (ap (λ z. is_better goal (f w) z) (sym h.0) ∙ b))
  one_preferred v w (inr h) (inr g) = at_most_both v w h.1 g.1

  best_is : (v : ℤ) (d : List ℤ) → IsRising d → Contains d v → ((u : ℤ) → Contains d u → IsPreferred goal f v u) → (there : Contains d (best_value f goal d)) →
      v ≡ best_value f goal d
  best_is v [] r here over there = absurd (nothing_in v here)
  best_is v (w ∷ values) r here over there =
      one_preferred v (most_promising f goal w values) (over (most_promising f goal w values) there) (promising_wins w values r v here)

pub kept_fits : KeptFits
kept_fits m s goal term k b box cell is rev =
    let d : IsDomain (values_at k b) = domain_at b (k - 1) box (place k b cell) in
    subst (λ o. IsMostPromising s goal term k b (kept_for s goal k b o)) (sym is)
    (subst
    (λ t. IsMostPromising s goal term k b (cond t (best_value (promise s goal term k b) goal (values_at k b)) (least_of (values_at k b)))) (sym rev)
    (record {
      there = best_there (promise s goal term k b) goal (values_at k b) d.some;
      over = best_wins goal (promise s goal term k b) (values_at k b) d.rising;
    }))

least_is : (v : ℤ) (d : List ℤ) → IsRising d → Contains d v → ((u : ℤ) → Contains d u → v ≤ℤ u) → v ≡ least_of d
unfolding IsRising
least_is v [] r here over = absurd (nothing_in v here)
least_is v (w ∷ values) r here over =
    ⊎_elim (λ e. sym e)
    (λ a. absurd (above_not_most v w (each_contains (λ y. w <ℤ y) values v r.0 a) (over w ((contains_cons w values w).1 (inl refl)))))
    ((contains_cons w values v).0 here)

-- by the machine of the objective

module _ (ms : List Automata) (term : ℕ) (a : Automata) (has : slice_get ms term ≡ Some a) (goal : Goal) (k : ℕ) (b : Box) where
  by_pair : (v : ℤ) → IsDomain (values_at k b) → (p : Option Pair) → Contains (values_at k b) v →
      ((u : ℤ) → Contains (values_at k b) u → IsKeptOver p goal (end_with a goal k b) v u) →
      Contains (values_at k b) (best_value (end_with a goal k b) goal (values_at k b)) →
      v ≡ cond (is_some p) (best_value (end_with a goal k b) goal (values_at k b)) (least_of (values_at k b))
  by_pair v d None here over there = least_is v (values_at k b) d.rising here over
  by_pair v d (Some p) here over there = best_is goal (end_with a goal k b) v (values_at k b) d.rising here over there

  pub kept_is : (v : ℤ) → IsDomain (values_at k b) → Contains (values_at k b) (best_value (end_with a goal k b) goal (values_at k b)) →
      IsKept a goal k b v → v ≡ kept_for (spans_of ms) goal k b (Some term)
  kept_is v d there h =
      by_pair v d a.pair h.there h.over there
      ∙ sym (ap (λ o. cond (is_split o) (best_value (λ u. best_end goal (span_of o k (only k u b))) goal (values_at k b)) (least_of (values_at k b))) has)
