-- The dive ends at one series; where it meets, it has its value.
use Rattle.std.proofs.Common.{◌≡◌, ◌⊎◌, ℕ, zero, suc, ◌+◌, ◌-◌, ◌<◌, ◌≤◌, ℤ, Bool, true, false, cond, List, [], ◌∷◌, length, get_or, set, Option, Some, None, MatchOption, refl, sym, ap, subst, inl, inr, ⊎_elim, arith}
use Rattle.std.proofs.lemmas.Bool.{cases_eq}
use Rattle.std.proofs.lemmas.List.{get_or-set_same, get_or-set_other}
use Rattle.std.specs.Prelude.{Contains}
use Rattle.ts_base.specs.declared.ext.Ext.{Ext}
use Rattle.ts_base.specs.declared.goal.Goal.{Goal}
use Rattle.ts_domain.specs.BoxSeries.{InBox, IsBox}
use Rattle.ts_domain.proofs.Sets.{contains_cons}
use Rattle.ts_model.specs.FirstBest.{is_better}
use Rattle.ts_model.specs.Judgement.{is_met}
use Rattle.ts_model.specs.Meets.{Meets}
use Rattle.ts_model.specs.ModelParts.{ModelParts, total_of}
use Rattle.ts_model.proofs.MeetsLaw.{judged_is_met}
use Rattle.ts_filter.specs.Boxes.{Box, HasCell, values_at, only, without, IsPart}
use Rattle.ts_filter.specs.Laws.{IsSound}
use Rattle.ts_filter.specs.RefutedWorseDrop.{Spans, IsRefuted, IsDrop}
use Rattle.ts_filter.proofs.BoxParts.{place, domain_at, only_part, part_self, inside_length, in_box_inside}
use Rattle.ts_filter.proofs.SoundLaws.{series_length}
use Rattle.ts_domain.specs.Values.{least_of}
use Rattle.ts_search.specs.Dive.{value_of, find, promise, most_promising, best_value, kept_for, kept_value, keep_one, keep_from, dive_box, dive_end, dive}
use Rattle.ts_search.specs.Drops.{after_drops}
use Rattle.ts_frontier.specs.Forms.{Form, Alone, Wide, after_value, form}
use Rattle.ts_search.proofs.DropLaws.{drops_keep, dropped_part}
use Rattle.ts_search.proofs.Parts.{alone_within}

-- the kept value is one of its cell

among_rest : (v u w : ℤ) (values : List ℤ) (t : Bool) → Contains (cond t u v ∷ values) w → Contains (v ∷ u ∷ values) w
among_rest v u w values true h = (contains_cons v (u ∷ values) w).1 (inr h)
among_rest v u w values false h =
    ⊎_elim (λ e. (contains_cons v (u ∷ values) w).1 (inl e)) (λ r. (contains_cons v (u ∷ values) w).1 (inr ((contains_cons u values w).1 (inr r))))
    ((contains_cons v values w).0 h)

promising_there : (f : ℤ → Ext) (goal : Goal) (v : ℤ) (values : List ℤ) → Contains (v ∷ values) (most_promising f goal v values)
promising_there f goal v [] = (contains_cons v [] v).1 (inl refl)
promising_there f goal v (u ∷ values) =
    let t = is_better goal (f u) (f v) in
    among_rest v u (most_promising f goal (cond t u v) values) values t (promising_there f goal (cond t u v) values)

pub best_there : (f : ℤ → Ext) (goal : Goal) (d : List ℤ) → (d ≡ [] → ⊥) → Contains d (best_value f goal d)
best_there f goal [] some = absurd (some refl)
best_there f goal (v ∷ values) some = promising_there f goal v values

least_there : (d : List ℤ) → (d ≡ [] → ⊥) → Contains d (least_of d)
least_there [] some = absurd (some refl)
least_there (v ∷ values) some = (contains_cons v values v).1 (inl refl)

kept_there : (s : Spans) (goal : Goal) (k : ℕ) (b : Box) (o : Option ℕ) → (values_at k b ≡ [] → ⊥) → Contains (values_at k b) (kept_for s goal k b o)
kept_there s goal k b None some = least_there (values_at k b) some
kept_there s goal k b (Some term) some =
    elim (s.reversible term) as (λ t. Contains (values_at k b)
    (cond t (best_value (promise s goal term k b) goal (values_at k b)) (least_of (values_at k b)))) [
      | true ↦ best_there (promise s goal term k b) goal (values_at k b) some
      | false ↦ least_there (values_at k b) some
    ]

-- the first n cells have one value each
abbrev pub OneEach : ℕ → Box → Type 0
OneEach n b = (i : ℕ) → i < n → length (get_or b i []) ≡ 1

abbrev pub IsAlone : Form → Type 0
IsAlone (Alone x) = Unit {0}
IsAlone (Wide k t) = ⊥

alone_after : (v : ℤ) (g : Form) → IsAlone g → IsAlone (after_value v g)
alone_after v (Alone x) h = tt
alone_after v (Wide k t) h = h

one_each_alone : (b : Box) → OneEach (length b) b → IsAlone (form b)
one_each_alone [] h = tt
one_each_alone ([] ∷ b) h = tt
one_each_alone ((v ∷ []) ∷ b) h = alone_after v (form b) (one_each_alone b (λ i l. h (suc i) (omega (arith, l))))
one_each_alone ((v ∷ u ∷ d) ∷ b) h = absurd (omega (arith, h zero (omega arith)))

module _ (m : ModelParts) (s : Spans) (goal : Goal) where
  pub kept_in : (k : ℕ) (b : Box) → IsPart b m.cells → HasCell k b → Contains (values_at k b) (kept_value m s goal k b)
  kept_in k b i c = kept_there s goal k b m.objective (domain_at b (k - 1) i.box (place k b c)).some

  pub kept_part : (k : ℕ) (b : Box) → IsPart b m.cells → HasCell k b → IsPart (only k (kept_value m s goal k b) b) m.cells
  kept_part k b i c = only_part k (kept_value m s goal k b) b m.cells i c (kept_in k b i c)

  -- a drop leaves cells of one value as they are
  drop_ones : (n k : ℕ) (v : ℤ) (j : ℕ) (b : Box) → IsDrop m.requirements s k v j b → OneEach n b → OneEach n (without k v b)
  drop_ones n k v j b d h = λ i l.
      subst (λ z. length z ≡ 1) (sym (get_or-set_other b (k - 1) i _ [] (λ e. other i l e))) (h i l)
    where
      other : (i : ℕ) → i < n → i ≡ k - 1 → ⊥
      other i l e = let one = subst (λ z. length (get_or b z []) ≡ 1) e (h i l) in let many = d.many in omega (arith, one, many)

  only_ones : (n : ℕ) (v : ℤ) (b : Box) → n < length b → OneEach n b → OneEach (suc n) (only (suc n) v b)
  only_ones n v b within h = λ i l. go i l (cases_eq i n)
    where
      at : suc n - 1 ≡ n
      at = omega arith

      go : (i : ℕ) → i < suc n → (i ≡ n) ⊎ (i ≡ n → ⊥) → length (get_or (only (suc n) v b) i []) ≡ 1
      go i l (inl e) =
          subst (λ z. length (get_or (set b z (v ∷ [])) i []) ≡ 1) (sym at)
          (subst (λ z. length (get_or (set b n (v ∷ [])) z []) ≡ 1) (sym e) (ap (length {A = ℤ}) (get_or-set_same b n (v ∷ []) [] within)))
      go i l (inr n') =
          subst (λ z. length (get_or (set b z (v ∷ [])) i []) ≡ 1) (sym at)
          (subst (λ z. length z ≡ 1) (sym (get_or-set_other b n i (v ∷ []) [] n')) (h i (omega (arith, l, n'))))

  dropped_ones : (n : ℕ) (b : Box) → OneEach n b → OneEach n (after_drops m s b)
  dropped_ones n b h = drops_keep m s (λ d. OneEach n d) (λ r d a k. drop_ones n r.cell r.value r.require d a k) (total_of b) b h

  record IsKept (n : ℕ) (b : Box) : Type 0 where
    part : IsPart b m.cells
    ones : OneEach n b

  keep_next : (k : ℕ) (b : Box) → k < length m.cells → IsKept k b → IsKept (suc k) (keep_one m s goal (suc k) b)
  keep_next k b l h =
      let n = inside_length b m.cells h.part.inside in
      let cell : HasCell (suc k) b = ((omega arith), (omega (arith, n, l))) in
      let v = kept_value m s goal (suc k) b in
      record {
        part = dropped_part m s m.cells (only (suc k) v b) (kept_part (suc k) b h.part cell);
        ones = dropped_ones (suc k) (only (suc k) v b) (only_ones k v b (omega (arith, n, l)) h.ones);
      }

  keep_all : (n k : ℕ) (b : Box) → k + n ≤ length m.cells → IsKept k b → IsKept (k + n) (keep_from m s goal n (suc k) b)
  keep_all zero k b l h = subst (λ z. IsKept z b) (omega arith) h
  keep_all (suc n) k b l h =
      subst (λ z. IsKept z (keep_from m s goal n (suc (suc k)) (keep_one m s goal (suc k) b))) (omega arith)
      (keep_all n (suc k) (keep_one m s goal (suc k) b) (omega (arith, l)) (keep_next k b (omega (arith, l)) h))

  dive_kept : IsBox m.cells → IsKept (length m.cells) (dive_box m s goal)
  dive_kept box =
      subst (λ z. IsKept z (dive_box m s goal)) (omega arith)
      (keep_all (length m.cells) zero (after_drops m s m.cells) (omega arith)
      (record { part = dropped_part m s m.cells m.cells (part_self m.cells box); ones = λ i l. absurd (omega (arith, l)) }))

  pub dive_part : IsBox m.cells → IsPart (dive_box m s goal) m.cells
  dive_part box = (dive_kept box).part

  -- one series is left
  pub dive_alone : IsBox m.cells → IsAlone (form (dive_box m s goal))
  dive_alone box =
      let h = dive_kept box in
      one_each_alone (dive_box m s goal)
      (subst (λ n. OneEach n (dive_box m s goal)) (sym (inside_length (dive_box m s goal) m.cells h.part.inside)) h.ones)

  -- where the dive has a series, it meets and has its value
  end_fits : (b : Box) → IsPart b m.cells → (g : Form) → form b ≡ g → MatchOption (dive_end m g) (Unit {0})
      (λ w. Meets m w.series × (w.value ≡ value_of m w.series))
  end_fits b i (Wide k t) e = tt
  end_fits b i (Alone x) e =
      let within = in_box_inside b m.cells x i.inside (alone_within m.cells b x i e) in
      elim (is_met m x) as (λ t. is_met m x ≡ t → MatchOption (cond t (Some (find m x)) None) (Unit {0})
      (λ w. Meets m w.series × (w.value ≡ value_of m w.series))) [
        | true ↦ λ q. ((judged_is_met m x (series_length x m.cells within)).0 q, refl)
        | false ↦ λ q. tt
      ] refl

  pub dive_fits : IsBox m.cells → MatchOption (dive m s goal) (Unit {0}) (λ w. Meets m w.series × (w.value ≡ value_of m w.series))
  dive_fits box = end_fits (dive_box m s goal) (dive_part box) (form (dive_box m s goal)) refl

  -- later boxes of the dive lie inside earlier ones
  pub keep_inside : (all : Box) (n k : ℕ) (b : Box) → 1 ≤ k → k + n ≤ length all + 1 → IsPart b all → IsPart (keep_from m s goal n k b) all
  keep_inside all zero k b f l i = i
  keep_inside all (suc n) k b f l i =
      let long = inside_length b all i.inside in
      let cell : HasCell k b = (f, (omega (arith, l, long))) in
      let v = kept_value m s goal k b in
      let there = kept_there s goal k b m.objective (domain_at b (k - 1) i.box (place k b cell)).some in
      keep_inside all n (suc k) (keep_one m s goal k b) (omega arith) (omega (arith, l))
      (dropped_part m s all (only k v b) (only_part k v b all i cell there))

  -- where a requirement is refuted on a box, no series of a box inside meets
  pub none_inside : IsSound m s → (j p : ℕ) (b d : Box) → IsPart b m.cells → IsRefuted m.requirements s j p b → IsPart d b → dive_end m (form d) ≡ None
  none_inside sound j p b d i r in_b = go (form d) refl
    where
      never : (x : List ℤ) → InBox x d → is_met m x ≡ true → ⊥
      never x within q =
          let here = in_box_inside d b x in_b.inside within in
          let all = in_box_inside b m.cells x i.inside here in
          sound.refuted j p b x i r here ((judged_is_met m x (series_length x m.cells all)).0 q)

      go : (g : Form) → form d ≡ g → dive_end m g ≡ None
      go (Wide first t) e = refl
      go (Alone x) e =
          elim (is_met m x) as (λ t. is_met m x ≡ t → cond t (Some (find m x)) None ≡ None) [
            | true ↦ λ q. absurd (never x (alone_within b d x in_b e) q)
            | false ↦ λ q. refl
          ] refl

  pub dive_early : IsSound m s → (j p : ℕ) (b : Box) → IsPart b m.cells → IsRefuted m.requirements s j p b → (n k : ℕ) → 1 ≤ k → k + n ≤ length m.cells + 1 →
      dive_end m (form (keep_from m s goal n k b)) ≡ None
  dive_early sound j p b i r n k f l =
      let left = keep_inside b n k b f (omega (arith, l, inside_length b m.cells i.inside)) (part_self b i.box) in
      none_inside sound j p b (keep_from m s goal n k b) i r left
