-- What is known of a search, from what is asked of its spans.
use Rattle.std.proofs.Common.{◌≡◌, ◌⊎◌, ℕ, ◌≤◌, ℤ, true, false, not, List, length, Some, MatchOption, inl, inr, ⊎_elim}
use Rattle.std.proofs.lemmas.Bool.{not-true, not-false, not_from_false, cases_Bool}
use Rattle.ts_base.specs.declared.ext.Ext.{Ext}
use Rattle.ts_base.specs.declared.goal.Goal.{Goal}
use Rattle.ts_base.specs.declared.goal.Goal.TheVariants.{Maximise, Minimise}
use Rattle.ts_base.specs.Numbers.{ext_le}
use Rattle.ts_base.proofs.Order.{le_refl, le_trans, le_antisym}
use Rattle.ts_domain.specs.BoxSeries.{InBox, IsBox}
use Rattle.ts_model.specs.FirstBest.{objective_of, is_better}
use Rattle.ts_model.specs.Meets.{Meets}
use Rattle.ts_filter.specs.declared.bar.Bar.{Bar}
use Rattle.ts_filter.specs.Boxes.{Box, IsPart}
use Rattle.ts_filter.specs.Excluded.{counts}
use Rattle.ts_filter.specs.Laws.{IsSound}
use Rattle.ts_filter.specs.RefutedWorseDrop.{IsRefuted, IsCut}
use Rattle.ts_filter.proofs.BoxParts.{inside_length, in_box_inside}
use Rattle.ts_filter.proofs.SoundLaws.{higher_bar, clash}
use Rattle.ts_filter.proofs.TestLaws.{tests_tell}
use Rattle.ts_search.specs.Dive.{value_of}
use Rattle.ts_frontier.specs.Forms.{Alone, form}
use Rattle.ts_search.specs.LineOf.{Search, Contest, last, requirements, is_refuted_at, is_cut_at}

-- what is better under a goal

le_clash : (a b c : Ext) → ext_le a b ≡ true → ext_le b c ≡ true → ext_le a c ≡ false → ⊥
le_clash a b c p q n = clash (ext_le a c) (le_trans a b c p q) n

not_le : (a b : Ext) → not (ext_le a b) ≡ true → ext_le a b ≡ false
not_le a b e = not-true (ext_le a b) e

pub never_itself : (g : Goal) (u : Ext) → is_better g u u ≡ true → ⊥
never_itself Maximise u e = clash (ext_le u u) (le_refl u) (not_le u u e)
never_itself Minimise u e = clash (ext_le u u) (le_refl u) (not_le u u e)

pub apart : (g : Goal) (u v w : Ext) → is_better g u w ≡ true → (is_better g u v ≡ true) ⊎ (is_better g v w ≡ true)
apart Maximise u v w p =
    ⊎_elim (λ t. inr (⊎_elim (λ s. absurd (le_clash u v w t s (not_le u w p))) (λ f. not_from_false (ext_le v w) f) (cases_Bool (ext_le v w))))
    (λ f. inl (not_from_false (ext_le u v) f)) (cases_Bool (ext_le u v))
apart Minimise u v w p =
    ⊎_elim (λ t. inr (⊎_elim (λ s. absurd (le_clash w v u s t (not_le w u p))) (λ f. not_from_false (ext_le w v) f) (cases_Bool (ext_le w v))))
    (λ f. inl (not_from_false (ext_le v u) f)) (cases_Bool (ext_le v u))

pub neither_better : (g : Goal) (u v : Ext) → is_better g u v ≡ false → is_better g v u ≡ false → u ≡ v
neither_better Maximise u v p q = le_antisym u v (not-false (ext_le u v) p) (not-false (ext_le v u) q)
neither_better Minimise u v p q = le_antisym u v (not-false (ext_le u v) q) (not-false (ext_le v u) p)

-- what is known

pub record Known (c : Search) : Type 0 where
  pub box : IsBox c.model.cells
  pub sound : IsSound c.model c.spans
  pub single : (b : Box) (x : List ℤ) → IsPart b c.model.cells → form b ≡ Alone x →
      ((j : ℕ) → 1 ≤ j → j ≤ requirements c → is_refuted_at c j (last c) b ≡ false) → Meets c.model x

pub record KnownBest (c : Contest) : Type 0 where
  pub known : Known c.search
  pub valued : (x : List ℤ) → InBox x c.search.model.cells → objective_of c.search.model x ≡ Some (value_of c.search.model x)
  pub cut_single : (b : Box) (bar : Bar) (x : List ℤ) → IsPart b c.search.model.cells → form b ≡ Alone x → is_cut_at c (last c.search) b bar ≡ false →
      counts c.goal bar (value_of c.search.model x) ≡ true
  pub warm : MatchOption c.warm (Unit {0}) (λ w. Meets c.search.model w.series × (w.value ≡ value_of c.search.model w.series))

module _ (c : Search) where
  pub to_refuted : (j p : ℕ) (b : Box) → is_refuted_at c j p b ≡ true → IsRefuted c.model.requirements c.spans j p b
  to_refuted j p b h = ((tests_tell c.spans).refuted c.model.requirements j p b).0 h

  pub from_refuted : (j p : ℕ) (b : Box) → IsRefuted c.model.requirements c.spans j p b → is_refuted_at c j p b ≡ true
  from_refuted j p b h = ((tests_tell c.spans).refuted c.model.requirements j p b).1 h

  pub no_series : Known c → (j p : ℕ) (b : Box) (y : List ℤ) → IsPart b c.model.cells → InBox y b → Meets c.model y →
      IsRefuted c.model.requirements c.spans j p b → ⊥
  no_series k j p b y i a m r = k.sound.refuted j p b y i r a m

  pub part_length : (b : Box) → IsPart b c.model.cells → length b ≡ last c
  part_length b i = inside_length b c.model.cells i.inside

module _ (c : Contest) where
  pub to_cut : (p : ℕ) (b : Box) (bar : Bar) → is_cut_at c p b bar ≡ true → IsCut c.search.model c.search.spans c.goal p b bar
  to_cut p b bar h = ((tests_tell c.search.spans).cut c.search.model c.goal p b bar).0 h

  pub from_cut : (p : ℕ) (b : Box) (bar : Bar) → IsCut c.search.model c.search.spans c.goal p b bar → is_cut_at c p b bar ≡ true
  from_cut p b bar h = ((tests_tell c.search.spans).cut c.search.model c.goal p b bar).1 h

  -- where fewer values count, more is cut
  pub more_cut : (p : ℕ) (b : Box) (lower higher : Bar) → ((v : Ext) → counts c.goal higher v ≡ true → counts c.goal lower v ≡ true) →
      IsCut c.search.model c.search.spans c.goal p b lower → IsCut c.search.model c.search.spans c.goal p b higher
  more_cut p b lower higher f k = higher_bar c.search.model c.search.spans c.goal p b lower higher f k

  pub cut_more : (p : ℕ) (b : Box) (lower higher : Bar) → ((v : Ext) → counts c.goal higher v ≡ true → counts c.goal lower v ≡ true) →
      is_cut_at c p b lower ≡ true → is_cut_at c p b higher ≡ true
  cut_more p b lower higher f k = from_cut p b higher (more_cut p b lower higher f (to_cut p b lower k))

  pub cut_counts : KnownBest c → (p : ℕ) (b : Box) (bar : Bar) (y : List ℤ) → IsPart b c.search.model.cells → InBox y b → is_cut_at c p b bar ≡ true →
      counts c.goal bar (value_of c.search.model y) ≡ false
  cut_counts k p b bar y i a h =
      k.known.sound.cut c.goal p b bar y (value_of c.search.model y) i (to_cut p b bar h) a (k.valued y (in_box_inside b c.search.model.cells y i.inside a))
