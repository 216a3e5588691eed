-- The next drop is none only where none may be made, and else the first of those that may be made.
use Rattle.std.proofs.Common.{◌≡◌, ◌⊎◌, ℕ, zero, suc, ◌+◌, ◌-◌, ◌<◌, ◌≤◌, ℤ, ◌<ℤ◌, Bool, List, [], ◌∷◌, length, Option, Some, None, option_map, refl, sym, ◌∙◌, ap, subst, inl, inr, ⊎_elim, arith, eq-or-lt_of_le}
use Rattle.std.proofs.lemmas.Option.{slice_get_within}
use Rattle.std.specs.Prelude.{Contains}
use Rattle.ts_domain.specs.BoxSeries.{IsBox}
use Rattle.ts_domain.specs.Values.{IsRising}
use Rattle.ts_domain.proofs.Sets.{contains_cons, nothing_in, each_contains}
use Rattle.ts_model.specs.ModelParts.{ModelParts}
use Rattle.ts_filter.specs.Boxes.{Box, values_at}
use Rattle.ts_filter.specs.Drops.{IsNoLater, IsFirstDrop}
use Rattle.ts_filter.specs.RefutedWorseDrop.{Spans, IsDrop}
use Rattle.ts_filter.specs.Tests.{is_drop}
use Rattle.ts_filter.proofs.BoxParts.{place, domain_at}
use Rattle.ts_filter.proofs.TestLaws.{tests_tell}
use Rattle.ts_filter.proofs.SoundLaws.{clash}
use Rattle.ts_filter.specs.declared.drops.Removal.{Removal}
use Rattle.ts_search.specs.Drops.{least, or_later, drop_of, drop_at, drop_from, next_drop}
use Rattle.ts_search.specs.Laws.{NextDropFits}
use Rattle.ts_search.proofs.Choice.{LeastFits, least_fits, DropFits, drop_fits}
use Rattle.ts_search.proofs.Reason.{none_least}

none_of : (o : Option ℕ) (k : ℕ) (v : ℤ) → ◌≡◌ {A = Option Removal} (option_map (λ j. record { cell = k; value = v; require = j }) o) None → o ≡ None
none_of None k v e = refl
none_of (Some j) k v e = absurd (let f : ◌≡◌ {A = Option Removal} (Some (record { cell = k; value = v; require = j })) None = e in cc)

neither : (o later : Option Removal) → or_later o later ≡ None → (o ≡ None) × (later ≡ None)
neither None later e = (refl, e)
neither (Some r) later e = absurd (let f : ◌≡◌ {A = Option Removal} (Some r) None = e in cc)

same : (q r : Removal) → ◌≡◌ {A = Option Removal} (Some q) (Some r) → q ≡ r
same q r e = cc

module _ (m : ModelParts) (s : Spans) (b : Box) where
  -- none

  none_at : (k : ℕ) (values : List ℤ) → drop_at m s b k values ≡ None → (v : ℤ) → Contains values v → drop_of m s b k v ≡ None
  none_at k [] e v h = absurd (nothing_in v h)
  none_at k (u ∷ values) e v h =
      let both = neither (drop_of m s b k u) (drop_at m s b k values) e in
      ⊎_elim (λ q. subst (λ z. drop_of m s b k z ≡ None) q both.0) (λ r. none_at k values both.1 v r) ((contains_cons u values v).0 h)

  none_from : (n k : ℕ) → drop_from m s b n k ≡ None → (i : ℕ) → k ≤ i → i < k + n → drop_at m s b i (values_at i b) ≡ None
  none_from zero k e i a l = absurd (omega arith)
  none_from (suc n) k e i a l =
      let both = neither (drop_at m s b k (values_at k b)) (drop_from m s b n (suc k)) e in
      ⊎_elim (λ q. subst (λ z. drop_at m s b z (values_at z b) ≡ None) q both.0) (λ q. none_from n (suc k) both.1 i q (omega arith)) (eq-or-lt_of_le a)

  never_of : (k : ℕ) (v : ℤ) (j : ℕ) → drop_of m s b k v ≡ None → IsDrop m.requirements s k v j b → ⊥
  never_of k v j e d =
      let no_one = none_of (least (λ j. is_drop m.requirements s k v j b) (length m.requirements) 1) k v e in
      let within = slice_get_within m.requirements (j - 1) d.refuted.require d.refuted.is.1 in
      let one = d.refuted.is.0 in
      clash (is_drop m.requirements s k v j b) (((tests_tell s).drop m.requirements k v j b).1 d)
      (none_least (λ j. is_drop m.requirements s k v j b) (length m.requirements) 1 no_one j one (omega (arith, within, one)))

  none_may : next_drop m s b ≡ None → (k : ℕ) (v : ℤ) (j : ℕ) → IsDrop m.requirements s k v j b → ⊥
  none_may e k v j d =
      let at = none_from (length b) 1 e k d.cell.0 (let c = d.cell.1 in omega arith) in
      never_of k v j (none_at k (values_at k b) at v d.there) d

  -- the first

  record IsOf (k : ℕ) (v : ℤ) (r : Removal) : Type 0 where
    cell : r.cell ≡ k
    value : r.value ≡ v
    first : (j : ℕ) → IsDrop m.requirements s k v j b → r.require ≤ j

  first_of : (k : ℕ) (v : ℤ) (r : Removal) → drop_of m s b k v ≡ Some r → IsOf k v r
  first_of k v r e = go (least q (length m.requirements) 1) (least_fits q (length m.requirements) 1) e
    where
      q : ℕ → Bool
      q j = is_drop m.requirements s k v j b

      no_less : (i : ℕ) → LeastFits q (length m.requirements) 1 (Some i) → (j : ℕ) → IsDrop m.requirements s k v j b → (j < i) ⊎ (i ≤ j) → i ≤ j
      no_less i f j d (inl l) = absurd (clash (q j) (((tests_tell s).drop m.requirements k v j b).1 d) (f.first j d.refuted.is.0 l))
      no_less i f j d (inr l) = l

      below_or_not : (i j : ℕ) → (j < i) ⊎ (i ≤ j)
      below_or_not i j = grind arith

      go : (o : Option ℕ) → LeastFits q (length m.requirements) 1 o → option_map (λ j. record { cell = k; value = v; require = j }) o ≡ Some r → IsOf k v r
      go None f h = absurd (let g : ◌≡◌ {A = Option Removal} None (Some r) = h in cc)
      go (Some i) f h =
          subst (λ z. IsOf k v z) (same (record { cell = k; value = v; require = i }) r h)
          (record { cell = refl; value = refl; first = λ j d. no_less i f j d (below_or_not i j) })

  cell_at : (k : ℕ) (values : List ℤ) (r : Removal) → drop_at m s b k values ≡ Some r → r.cell ≡ k
  cell_at k [] r e = absurd (let g : ◌≡◌ {A = Option Removal} None (Some r) = e in cc)
  cell_at k (u ∷ values) r e = go (drop_of m s b k u) refl (λ later. cell_at k values r later)
    where
      go : (o : Option Removal) → drop_of m s b k u ≡ o → (drop_at m s b k values ≡ Some r → r.cell ≡ k) → r.cell ≡ k
      go None q next = next (ap (λ o. or_later o (drop_at m s b k values)) (sym q) ∙ e)
      go (Some first) q next = (first_of k u r (q ∙ ap (λ o. or_later o (drop_at m s b k values)) (sym q) ∙ e)).cell

  abbrev IsFirst : Removal → ℤ → ℕ → Type 0
  IsFirst r v j = (r.value <ℤ v) ⊎ ((r.value ≡ v) × (r.require ≤ j))

  first_at : (k : ℕ) (values : List ℤ) → IsRising values → (r : Removal) → drop_at m s b k values ≡ Some r → (v : ℤ) (j : ℕ) → Contains values v →
      IsDrop m.requirements s k v j b → IsFirst r v j
  unfolding IsRising
  first_at k [] up r e v j h d = absurd (nothing_in v h)
  first_at k (u ∷ values) up r e v j h d =
      go (drop_of m s b k u) refl ((contains_cons u values v).0 h) (λ at later. first_at k values up.1 r at v j later d)
      (λ later. each_contains (λ y. u <ℤ y) values v up.0 later)
    where
      go : (o : Option Removal) → drop_of m s b k u ≡ o → (u ≡ v) ⊎ Contains values v →
          (drop_at m s b k values ≡ Some r → Contains values v → IsFirst r v j) → (Contains values v → u <ℤ v) → IsFirst r v j
      go None q (inl is) next above = absurd (never_of k v j (subst (λ z. drop_of m s b k z ≡ None) is q) d)
      go None q (inr later) next above = next (ap (λ o. or_later o (drop_at m s b k values)) (sym q) ∙ e) later
      go (Some first) q (inl is) next above =
          let f = first_of k u r (q ∙ ap (λ o. or_later o (drop_at m s b k values)) (sym q) ∙ e) in
          inr (f.value ∙ is, f.first j (subst (λ z. IsDrop m.requirements s k z j b) (sym is) d))
      go (Some first) q (inr later) next above =
          let f = first_of k u r (q ∙ ap (λ o. or_later o (drop_at m s b k values)) (sym q) ∙ e) in
          inl (subst (λ z. z <ℤ v) (sym f.value) (above later))

  -- a removal doesn't come after the drop of value v of cell i by requirement j
  abbrev IsBy : Removal → ℕ → ℤ → ℕ → Type 0
  IsBy r i v j = IsNoLater r (record { cell = i; value = v; require = j })

  first_from : IsBox b → (n k : ℕ) (r : Removal) → drop_from m s b n k ≡ Some r → (i : ℕ) (v : ℤ) (j : ℕ) → k ≤ i → i < k + n →
      IsDrop m.requirements s i v j b →
      IsBy r i v j
  first_from box zero k r e i v j a l d = absurd (omega arith)
  first_from box (suc n) k r e i v j a l d =
      go (drop_at m s b k (values_at k b)) refl (eq-or-lt_of_le a) (λ at more. first_from box n (suc k) r at i v j more (omega (arith, l)) d)
    where
      go : (o : Option Removal) → drop_at m s b k (values_at k b) ≡ o → (k ≡ i) ⊎ (k < i) →
          (drop_from m s b n (suc k) ≡ Some r → k < i → IsBy r i v j) → IsBy r i v j
      go None q (inl is) next = absurd (never_of i v j (none_at i (values_at i b) (subst (λ z. drop_at m s b z (values_at z b) ≡ None) is q) v d.there) d)
      go None q (inr more) next = next (ap (λ o. or_later o (drop_from m s b n (suc k))) (sym q) ∙ e) more
      go (Some first) q (inl is) next =
          let at = q ∙ ap (λ o. or_later o (drop_from m s b n (suc k))) (sym q) ∙ e in
          let here = subst (λ z. drop_at m s b z (values_at z b) ≡ Some r) is at in
          inr (
            cell_at k (values_at k b) r at ∙ is,
            first_at i (values_at i b) (domain_at b (i - 1) box (place i b d.cell)).rising r here v j d.there d,
          )
      go (Some first) q (inr more) next =
          let at = q ∙ ap (λ o. or_later o (drop_from m s b n (suc k))) (sym q) ∙ e in
          inl (subst (λ z. z < i) (sym (cell_at k (values_at k b) r at)) more)

pub next_drop_fits : NextDropFits
next_drop_fits m s b box = go (next_drop m s b) refl (drop_fits m s b)
  where
    go : (o : Option Removal) → next_drop m s b ≡ o → DropFits m s b o → IsFirstDrop m.requirements s b o
    go None e f = λ t d. none_may m s b e t.cell t.value t.require d
    go (Some r) e f = (f, λ t d. first_from m s b box (length b) 1 r e t.cell t.value t.require d.cell.0 (let c = d.cell.1 in omega arith) d)
