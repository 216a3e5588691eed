-- Where spans hold the values of their terms, what they refute has no series that meets, and what they cut none that
-- counts.
use Rattle.std.proofs.Common.{◌≡◌, ◌↔◌, ℕ, zero, suc, ◌-◌, ◌<◌, ℤ, Bool, true, false, List, [], ◌∷◌, length, get_or, Option, Some, None, slice_get, refl, sym, ◌∙◌, ap, subst, ⊎_elim, arith}
use Rattle.std.proofs.lemmas.List.{length-map}
use Rattle.std.proofs.lemmas.Option.{same_Some, slice_get-get_or}
use Rattle.std.proofs.lemmas.Bool.{false_from_ne_true}
use Rattle.std.specs.List.{AllByRecursion}
use Rattle.ts_base.specs.declared.ext.Ext.{Ext}
use Rattle.ts_base.specs.declared.ext.Ext.TheVariants.{NegInf}
use Rattle.ts_base.specs.declared.goal.Goal.{Goal}
use Rattle.ts_base.specs.Spans.{Holds, one_span}
use Rattle.ts_base.proofs.Order.{le_antisym}
use Rattle.ts_base.proofs.SpanLaws.{holds_one}
use Rattle.ts_domain.specs.BoxSeries.{InBox}
use Rattle.ts_model.specs.TermValue.{stated_value}
use Rattle.ts_model.specs.declared.model.Require.{Require}
use Rattle.ts_model.specs.Compares.{compares}
use Rattle.ts_model.specs.Meets.{IsMet, Meets, value_at, values_on}
use Rattle.ts_model.specs.Promise.{IsWhole}
use Rattle.ts_model.specs.ModelParts.{ModelParts}
use Rattle.ts_filter.specs.declared.bar.Bar.{Bar}
use Rattle.ts_model.specs.FirstBest.{value_of_term, objective_of}
use Rattle.ts_filter.specs.Boxes.{Box, only, box_of, IsPart}
use Rattle.ts_filter.specs.Excluded.{counts}
use Rattle.ts_filter.specs.Laws.{HoldsValues, ValuesAreSound, TellsSingles, SinglesAreExact, HigherBarCutsMore, DropLosesNone}
use Rattle.ts_filter.specs.RefutedWorseDrop.{Spans, IsUsable, IsRequirement, IsRefuted, IsCut}
use Rattle.ts_filter.proofs.BoxParts.{only_part, only_or_without}
use Rattle.ts_filter.proofs.SpanEnds.{false_by}

pub clash : (t : Bool) → t ≡ true → t ≡ false → ⊥
clash t e f = grind arith

-- the requirement at a place is as each is
pub each_at : (P : Require → Type 0) (rs : List Require) (i : ℕ) (r : Require) → AllByRecursion P rs → slice_get rs i ≡ Some r → P r
each_at P [] i r h e = absurd (let f : ◌≡◌ {A = Option Require} None (Some r) = e in cc)
each_at P (q ∷ rs) zero r h e = subst P (same_Some q r e) h.0
each_at P (q ∷ rs) (suc i) r h e = each_at P rs i r h.1 e

module _ (m : ModelParts) (s : Spans) (holds : HoldsValues m s) where
  no_series : (j p : ℕ) (b : Box) (x : List ℤ) → IsPart b m.cells → IsRefuted m.requirements s j p b → InBox x b → Meets m x → ⊥
  no_series j p b x i r h q =
      let met = each_at (IsMet m x) m.requirements (j - 1) r.require q.requirements r.is.1 in
      let never = r.refutes met.0 (holds r.require.term p b x met.0 i r.usable h met.1) in
      clash (compares r.require.op r.require.bound met.0) met.2 never

  none_counts : (goal : Goal) (p : ℕ) (b : Box) (bar : Bar) (x : List ℤ) (v : Ext) → IsPart b m.cells → IsCut m s goal p b bar → InBox x b →
      objective_of m x ≡ Some v → counts goal bar v ≡ false
  none_counts goal p b bar x v i c h e = c.cuts v (holds c.term p b x v i c.usable h (ap (value_of_term m x) (sym c.is) ∙ e))

pub values_are_sound : ValuesAreSound
values_are_sound m s holds = record { refuted = no_series m s holds; cut = none_counts m s holds }

-- single series

box_length : (x : List ℤ) → length (box_of x) ≡ length x
box_length x = length-map x (λ (v : ℤ). v ∷ [])

pub series_length : (x : List ℤ) (b : Box) → InBox x b → length x ≡ length b
series_length [] [] h = refl
series_length [] (d ∷ b) h = absurd h
series_length (v ∷ x) [] h = absurd h
series_length (v ∷ x) (d ∷ b) h = ap suc (series_length x b h.1)

module _ (m : ModelParts) (s : Spans) (whole : IsWhole m) (tells : TellsSingles m s) where
  last_usable : (term : ℕ) (x : List ℤ) → InBox x m.cells → IsUsable s term (length x) (box_of x)
  last_usable term x h =
      let n = series_length x m.cells h in
      let e = box_length x in
      let some = whole.some in record { cell = ((omega arith), (omega arith)); last = λ f. sym e }

  has_value : (x : List ℤ) (term : ℕ) → term < length m.terms → (v : Ext) × (value_at m x term ≡ Some v)
  has_value x term l =
      let n : term < length (values_on m x) = omega (arith, l, length-map m.terms (λ t. stated_value t.1 x)) in
      (get_or (values_on m x) term NegInf, slice_get-get_or (values_on m x) term NegInf n)

  refuted_single : (j : ℕ) (r : Require) (x : List ℤ) → InBox x m.cells → IsRequirement m.requirements j r →
      IsRefuted m.requirements s j (length x) (box_of x) ↔ (IsMet m x r → ⊥)
  refuted_single j r x h i = (λ f q. there f q, λ n. made n)
    where
      one_only : (r : Require) (w v : Ext) → (IsMet m x r → ⊥) → value_at m x r.term ≡ Some w → Holds (one_span w) v → compares r.op r.bound v ≡ false
      one_only r w v n e o =
          let same = le_antisym w v o.0 o.1 in
          false_from_ne_true (compares r.op r.bound v) (λ t. n (w, e, subst (λ z. compares r.op r.bound z ≡ true) (sym same) t))

      there : IsRefuted m.requirements s j (length x) (box_of x) → IsMet m x r → ⊥
      there f q =
          let same = same_Some f.require r (sym f.is.1 ∙ i.1) in
          let is_met = subst (λ z. IsMet m x z) (sym same) q in
          let span = tells f.require.term x is_met.0 h is_met.1 in
          let never = f.refutes is_met.0 (subst (λ z. Holds z is_met.0) (sym span) (holds_one is_met.0)) in
          clash (compares f.require.op f.require.bound is_met.0) is_met.2 never

      made : (IsMet m x r → ⊥) → IsRefuted m.requirements s j (length x) (box_of x)
      made n =
          let w = has_value x r.term (each_at (λ q. q.term < length m.terms) m.requirements (j - 1) r whole.requirements i.1) in
          record {
            require = r;
            is = i;
            usable = last_usable r.term x h;
            refutes = λ v o. one_only r w.0 v n w.1 (subst (λ z. Holds z v) (tells r.term x w.0 h w.1) o);
          }

  cut_single : (goal : Goal) (bar : Bar) (x : List ℤ) (v : Ext) → InBox x m.cells → objective_of m x ≡ Some v →
      IsCut m s goal (length x) (box_of x) bar ↔ (counts goal bar v ≡ false)
  cut_single goal bar x v h e = (λ c. there c, λ n. made m.objective refl e n)
    where
      there : IsCut m s goal (length x) (box_of x) bar → counts goal bar v ≡ false
      there c =
          let span = tells c.term x v h (ap (value_of_term m x) (sym c.is) ∙ e) in
          c.cuts v (subst (λ z. Holds z v) (sym span) (holds_one v))

      made : (o : Option ℕ) → m.objective ≡ o → value_of_term m x m.objective ≡ Some v → counts goal bar v ≡ false → IsCut m s goal (length x) (box_of x) bar
      made None o q n = absurd (let f : ◌≡◌ {A = Option Ext} None (Some v) = ap (value_of_term m x) (sym o) ∙ q in cc)
      made (Some term) o q n =
          let span = tells term x v h (ap (value_of_term m x) (sym o) ∙ q) in
          record {
            term = term;
            is = o;
            usable = last_usable term x h;
            cuts = λ u i. let held = subst (λ z. Holds z u) span i in subst (λ z. counts goal bar z ≡ false) (le_antisym v u held.0 held.1) n;
          }

pub singles_are_exact : SinglesAreExact
singles_are_exact m s whole tells = record { refuted = refuted_single m s whole tells; cut = cut_single m s whole tells }

-- bars and drops

pub higher_bar : HigherBarCutsMore
higher_bar m s goal p b lower higher f c = record {
  term = c.term;
  is = c.is;
  usable = c.usable;
  cuts = λ v h. false_by (counts goal higher v) (counts goal lower v) (f v) (c.cuts v h);
}

pub drop_loses_none : DropLosesNone
drop_loses_none m s k v j b x sound i d h q =
    ⊎_elim (λ o. absurd (sound.refuted j k (only k v b) x (only_part k v b m.cells i d.cell d.there) d.refuted o q)) (λ w. w)
    (only_or_without k v b x d.cell h)
