-- Where the line of a box is a split, so are those of the boxes that led to it by splits which took free values alone.
use Rattle.std.proofs.Common.{◌≡◌, ◌⊎◌, ℕ, zero, suc, ◌-◌, ◌≤◌, ℤ, Bool, true, false, cond, List, [], ◌∷◌, length, get_or, set, Option, Some, None, option_map, unwrap_or, refl, sym, ◌∙◌, ap, subst, inl, inr, ⊎_elim, arith}
use Rattle.std.proofs.lemmas.Bool.{false_from_ne_true}
use Rattle.std.proofs.lemmas.Int.{ints}
use Rattle.std.proofs.lemmas.List.{get_or-set_same, get_or-set_other, length-set}
use Rattle.std.specs.Prelude.{Contains}
use Rattle.ts_certificate.specs.declared.certificate.TreeLine.{TreeLine}
use Rattle.ts_certificate.specs.declared.certificate.TreeLine.TheVariants.{Split, Remove, No, Worse, Yes, Unsearched}
use Rattle.ts_domain.specs.BoxSeries.{IsBox}
use Rattle.ts_domain.specs.Kept.{values_up_to}
use Rattle.ts_domain.proofs.BoxLaws.{contains_above, contains_up_to}
use Rattle.ts_domain.proofs.Sets.{contains_cons, nothing_in}
use Rattle.ts_filter.specs.declared.bar.Bar.{Bar}
use Rattle.ts_filter.specs.declared.drops.Removal.{Removal}
use Rattle.ts_filter.specs.Boxes.{Box, HasCell, IsInside, IsPart, low_side, only, values_at}
use Rattle.ts_filter.specs.Drops.{IsFirstDrop}
use Rattle.ts_filter.specs.RefutedWorseDrop.{IsDrop, IsRefuted}
use Rattle.ts_filter.proofs.BoxParts.{at_most_or_above, inside_length, inside_self, low_part, place}
use Rattle.ts_filter.proofs.SoundLaws.{clash}
use Rattle.ts_frontier.specs.Forms.{Form, Alone, Wide, form}
use Rattle.ts_search.specs.Dive.{Find}
use Rattle.ts_search.specs.Drops.{least, next_drop}
use Rattle.ts_search.specs.Leaps.{lower, after_splits, SplitsIt, AreSplits, TakesFreeValues, AreTried, RefutesInside, ExcludesInside}
use Rattle.ts_search.specs.LineOf.{Search, Contest, Sought, TheBest, TheFirst, search_in, last, requirements, inner, is_refuted_at, bar_of, cut_by, refuted_last, first_no, removal_line, branch_line, inner_worse, wide_line, form_line, line_of}
use Rattle.ts_search.proofs.Choice.{Choice, DropFits, by_split, drop_fits, is_cut_off, line_choice}
use Rattle.ts_search.proofs.Known.{from_cut, to_cut}
use Rattle.ts_search.proofs.NextDrop.{next_drop_fits}
use Rattle.ts_search.proofs.Parts.{wide_split}
use Rattle.ts_search.proofs.Reason.{GivesReason, cut_cell, free_of_no, least_none, never_refuted, none_first_no, none_least, nowhere, reason_first_no}

-- boxes inside

inside_trans : (b m n : Box) → IsInside b m → IsInside m n → IsInside b n
inside_trans [] [] n h g = g
inside_trans [] (e ∷ m) n h g = absurd h
inside_trans (d ∷ b) [] n h g = absurd h
inside_trans (d ∷ b) (e ∷ m) [] h g = absurd g
inside_trans (d ∷ b) (e ∷ m) (f ∷ n) h g = ((λ v c. g.0 v (h.0 v c)), inside_trans b m n h.1 g.1)

-- a box stays inside another one where both get the same set at one place
inside_both : (i : ℕ) (d : List ℤ) (b m : Box) → IsInside b m → IsInside (set b i d) (set m i d)
inside_both i d [] [] h = tt
inside_both i d [] (e ∷ m) h = absurd h
inside_both i d (c ∷ b) [] h = absurd h
inside_both zero d (c ∷ b) (e ∷ m) h = ((λ v k. k), h.1)
inside_both (suc i) d (c ∷ b) (e ∷ m) h = (h.0, inside_both i d b m h.1)

-- where the values at a place are among others, the box is inside the one with those there
inside_put : (i : ℕ) (d : List ℤ) (b m : Box) → IsInside b m → ((v : ℤ) → Contains (get_or b i []) v → Contains d v) → IsInside b (set m i d)
inside_put i d [] [] h f = tt
inside_put i d [] (e ∷ m) h f = absurd h
inside_put i d (c ∷ b) [] h f = absurd h
inside_put zero d (c ∷ b) (e ∷ m) h f = (f, h.1)
inside_put (suc i) d (c ∷ b) (e ∷ m) h f = (h.0, inside_put i d b m h.1 f)

low_inside : (k : ℕ) (t : ℤ) (b : Box) → IsInside (low_side k t b) b
low_inside k t b = go (k - 1) b
  where
    go : (i : ℕ) (b : Box) → IsInside (set b i (values_up_to t (get_or b i []))) b
    go i [] = tt
    go zero (d ∷ b) = ((λ v h. ((contains_up_to t d v).0 h).0), inside_self b)
    go (suc i) (d ∷ b) = ((λ v h. h), go i b)

-- values and cells

same_or_other : (u v : ℤ) → (u ≡ v) ⊎ (u ≡ v → ⊥)
same_or_other u v = grind (arith, ints)

there_or_not : (d : List ℤ) (v : ℤ) → Contains d v ⊎ (Contains d v → ⊥)
there_or_not [] v = inr (nothing_in v)
there_or_not (u ∷ d) v =
    ⊎_elim (λ e. inl ((contains_cons u d v).1 (inl e)))
    (λ n. ⊎_elim (λ h. inl ((contains_cons u d v).1 (inr h))) (λ h. inr (λ c. ⊎_elim n h ((contains_cons u d v).0 c))) (there_or_not d v))
    (same_or_other u v)

same_number : (i k : ℕ) → (i ≡ k) ⊎ (i ≡ k → ⊥)
same_number zero zero = inl refl
same_number zero (suc k) = inr (λ e. omega (arith, e))
same_number (suc i) zero = inr (λ e. omega (arith, e))
same_number (suc i) (suc k) = ⊎_elim (λ e. inl (ap suc e)) (λ n. inr (λ e. n (omega (arith, e)))) (same_number i k)

many_or_one : (d : List ℤ) (v : ℤ) → Contains d v → (2 ≤ length d) ⊎ ((u : ℤ) → Contains d u → Contains (v ∷ []) u)
many_or_one [] v h = absurd (nothing_in v h)
many_or_one (w ∷ []) v h =
    inr (λ u c. ⊎_elim
    (λ e. ⊎_elim (λ f. (contains_cons v [] u).1 (inl (sym f ∙ e))) (λ n. absurd (nothing_in v n)) ((contains_cons w [] v).0 h))
    (λ n. absurd (nothing_in u n)) ((contains_cons w [] u).0 c))
many_or_one (w ∷ z ∷ d) v h = inl (omega arith)

-- lines that are splits

abbrev IsSplitting : TreeLine → Type 0
IsSplitting (Split k t) = Unit {0}
IsSplitting (Remove k v j) = ⊥
IsSplitting (No j p) = ⊥
IsSplitting (Worse p) = ⊥
IsSplitting Yes = ⊥
IsSplitting Unsearched = ⊥

some_rest : {A : Type 0} (o : Option A) (f : A → TreeLine) (rest : TreeLine) → ((a : A) → IsSplitting (f a) → ⊥) →
    IsSplitting (unwrap_or (option_map f o) rest) → (o ≡ None) × IsSplitting rest
some_rest None f rest never h = (refl, h)
some_rest (Some a) f rest never h = absurd (never a h)

reason_rest : (o : Option TreeLine) (rest : TreeLine) → GivesReason o → IsSplitting (unwrap_or o rest) → (o ≡ None) × IsSplitting rest
reason_rest None rest g h = (refl, h)
reason_rest (Some (Split k t)) rest g h = absurd g
reason_rest (Some (Remove k v j)) rest g h = absurd g
reason_rest (Some (No j p)) rest g h = absurd h
reason_rest (Some (Worse p)) rest g h = absurd h
reason_rest (Some Yes) rest g h = absurd g
reason_rest (Some Unsearched) rest g h = absurd g

worse_rest : (t : Bool) (p : ℕ) (rest : TreeLine) → IsSplitting (cond t (Worse p) rest) → (t ≡ false) × IsSplitting rest
worse_rest true p rest h = absurd h
worse_rest false p rest h = (refl, h)

-- nothing is refuted or cut on the box, and nothing may be dropped
record IsFreeOf (q : Sought) (b : Box) : Type 0 where
  refuted : (j p : ℕ) → IsRefuted (search_in q).model.requirements (search_in q).spans j p b → ⊥
  cut : (p : ℕ) → is_cut_off q p b ≡ false
  drop : (k : ℕ) (v : ℤ) (j : ℕ) → IsDrop (search_in q).model.requirements (search_in q).spans k v j b → ⊥

no_drops : (c : Search) (b : Box) → IsBox b → next_drop c.model c.spans b ≡ None → (k : ℕ) (v : ℤ) (j : ℕ) →
    IsDrop c.model.requirements c.spans k v j b → ⊥
no_drops c b box e k v j d =
    (subst (IsFirstDrop c.model.requirements c.spans b) e (next_drop_fits c.model c.spans b box)) (record { cell = k; value = v; require = j }) d

drops_none : (c : Search) (b : Box) → ((k : ℕ) (v : ℤ) (j : ℕ) → IsDrop c.model.requirements c.spans k v j b → ⊥) → next_drop c.model c.spans b ≡ None
drops_none c b never = go (next_drop c.model c.spans b) (drop_fits c.model c.spans b)
  where
    go : (o : Option Removal) → DropFits c.model c.spans b o → o ≡ None
    go None h = refl
    go (Some r) h = absurd (never r.cell r.value r.require h)

module _ (c : Contest) (found : Option Find) (b : Box) (part : IsPart b c.search.model.cells) where
  abbrev the_best : Sought
  the_best = TheBest c found

  best_free : (k : ℕ) (t : ℤ) → form b ≡ Wide k t → IsSplitting (line_of the_best b) → IsFreeOf the_best b
  best_free k t w h =
      let s = c.search in
      let off : ℕ → Bool = λ p. cut_by c (bar_of found c.warm) p b in
      let first = some_rest (refuted_last s b) (λ j. No j (last s)) (form_line the_best b (form b)) (λ j n. n) h in
      let wide = subst (λ g. IsSplitting (form_line the_best b g)) w first.1 in
      let end = worse_rest (off (last s)) (last s) (wide_line the_best b k t) wide in
      let no = reason_rest (first_no s b (requirements s) 1) (inner_worse the_best b (branch_line s b k t)) (reason_first_no s b (requirements s) 1) end.1 in
      let worse = some_rest (least off (inner s) 1) (λ p. Worse p) (branch_line s b k t) (λ p n. n) no.1 in
      let drop = some_rest (next_drop s.model s.spans b) removal_line (Split k t) (λ r n. n) worse.1 in
      let inside = none_least off (inner s) 1 worse.0 in
      record {
        refuted = free_of_no s b part first.0 no.0;
        cut = nowhere s b off part (cut_cell c (bar_of found c.warm) b) end.0 (λ p o m. inside p o (omega (arith, m)));
        drop = no_drops s b part.box drop.0;
      }

  free_best : (k : ℕ) (t : ℤ) → form b ≡ Wide k t → IsFreeOf the_best b → line_of the_best b ≡ Split k t
  free_best k t w h =
      let s = c.search in
      let off : ℕ → Bool = λ p. cut_by c (bar_of found c.warm) p b in
      let never = never_refuted s b h.refuted in
      ap (λ o. unwrap_or (option_map (λ j. No j (last s)) o) (form_line the_best b (form b)))
      (least_none (λ j. is_refuted_at s j (last s) b) (requirements s) 1 (λ j i m. never j (last s)))
      ∙ ap (λ g. form_line the_best b g) w
      ∙ ap (λ z. cond z (Worse (last s)) (wide_line the_best b k t)) (h.cut (last s))
      ∙ ap (λ o. unwrap_or o (inner_worse the_best b (branch_line s b k t))) (none_first_no s b (requirements s) 1 never)
      ∙ ap (λ o. unwrap_or (option_map (λ p. Worse p) o) (branch_line s b k t)) (least_none off (inner s) 1 (λ p i m. h.cut p))
      ∙ ap (λ o. unwrap_or (option_map removal_line o) (Split k t)) (drops_none s b h.drop)

module _ (c : Search) (b : Box) (part : IsPart b c.model.cells) where
  first_free : (k : ℕ) (t : ℤ) → form b ≡ Wide k t → IsSplitting (line_of (TheFirst c) b) → IsFreeOf (TheFirst c) b
  first_free k t w h =
      let first = some_rest (refuted_last c b) (λ j. No j (last c)) (form_line (TheFirst c) b (form b)) (λ j n. n) h in
      let wide = subst (λ g. IsSplitting (form_line (TheFirst c) b g)) w first.1 in
      let no = reason_rest (first_no c b (requirements c) 1) (branch_line c b k t) (reason_first_no c b (requirements c) 1) wide in
      let drop = some_rest (next_drop c.model c.spans b) removal_line (Split k t) (λ r n. n) no.1 in
      record {
        refuted = free_of_no c b part first.0 no.0;
        cut = λ p. refl;
        drop = no_drops c b part.box drop.0;
      }

  free_first : (k : ℕ) (t : ℤ) → form b ≡ Wide k t → IsFreeOf (TheFirst c) b → line_of (TheFirst c) b ≡ Split k t
  free_first k t w h =
      let never = never_refuted c b h.refuted in
      ap (λ o. unwrap_or (option_map (λ j. No j (last c)) o) (form_line (TheFirst c) b (form b)))
      (least_none (λ j. is_refuted_at c j (last c) b) (requirements c) 1 (λ j i m. never j (last c)))
      ∙ ap (λ g. form_line (TheFirst c) b g) w
      ∙ ap (λ o. unwrap_or o (branch_line c b k t)) (none_first_no c b (requirements c) 1 never)
      ∙ ap (λ o. unwrap_or (option_map removal_line o) (Split k t)) (drops_none c b h.drop)

is_free : (q : Sought) (b : Box) → IsPart b (search_in q).model.cells → (f : Form) → form b ≡ f → SplitsIt (line_of q b) f → IsFreeOf q b
is_free q b part (Alone x) w h = absurd h
is_free (TheBest c found) b part (Wide k t) w h = best_free c found b part k t w (subst IsSplitting (sym h) tt)
is_free (TheFirst c) b part (Wide k t) w h = first_free c b part k t w (subst IsSplitting (sym h) tt)

is_split : (q : Sought) (b : Box) → IsPart b (search_in q).model.cells → (k : ℕ) (t : ℤ) → form b ≡ Wide k t → IsFreeOf q b → line_of q b ≡ Split k t
is_split (TheBest c found) b part k t w h = free_best c found b part k t w h
is_split (TheFirst c) b part k t w h = free_first c b part k t w h

-- a line that is a split splits the box by its form
pub splits_it : (q : Sought) (b : Box) (k : ℕ) (t : ℤ) → line_of q b ≡ Split k t → SplitsIt (line_of q b) (form b)
splits_it q b k t e = go (line_of q b) (line_choice q b) e
  where
    go : (l : TreeLine) → Choice q b l → l ≡ Split k t → SplitsIt l (form b)
    go (Split i u) (by_split f) e = subst (SplitsIt (Split i u)) (sym f) refl
    go (Remove i v j) h e = absurd (subst IsSplitting (sym e) tt)
    go (No j p) h e = absurd (subst IsSplitting (sym e) tt)
    go (Worse p) h e = absurd (subst IsSplitting (sym e) tt)
    go Yes h e = absurd (subst IsSplitting (sym e) tt)
    go Unsearched h e = absurd (subst IsSplitting (sym e) tt)

-- of a larger and a smaller box

refutes_inside : (q : Sought) → ExcludesInside q → RefutesInside (search_in q)
refutes_inside (TheBest c found) x = x.0
refutes_inside (TheFirst c) x = x

-- what isn't cut inside isn't cut
uncut_outside : (q : Sought) → ExcludesInside q → (p : ℕ) (b e : Box) → IsInside e b → is_cut_off q p e ≡ false → is_cut_off q p b ≡ false
uncut_outside (TheFirst c) x p b e h f = refl
uncut_outside (TheBest c found) x p b e h f = go (bar_of found c.warm) f
  where
    go : (o : Option Bar) → cut_by c o p e ≡ false → cut_by c o p b ≡ false
    go None f = refl
    go (Some bar) f =
        false_from_ne_true (cut_by c (Some bar) p b)
        (λ t. clash (cut_by c (Some bar) p e) (from_cut c p e bar (x.1 p b e bar h (to_cut c p b bar t))) f)

module _ (q : Sought) (x : ExcludesInside q) (e : Box) (free : IsFreeOf q e) where
  abbrev c : Search
  c = search_in q

  -- with none of the values that the smaller box has lost at a cell a requirement is refuted there
  abbrev LostAreFree : Box → Type 0
  LostAreFree b =
      (k : ℕ) (v : ℤ) (j : ℕ) → HasCell k b → Contains (values_at k b) v → (Contains (values_at k e) v → ⊥) →
      IsRefuted c.model.requirements c.spans j k (only k v b) → ⊥

  -- the larger box is free where the values that the smaller one has lost are
  free_outside : (b : Box) → IsInside e b → LostAreFree b → IsFreeOf q b
  free_outside b inside lost = record {
    refuted = λ j p r. free.refuted j p (refutes_inside q x j p b e inside r);
    cut = λ p. uncut_outside q x p b e inside (free.cut p);
    drop = λ k v j d. ⊎_elim
        (λ there. ⊎_elim
        (λ many. free.drop k v j (record {
          cell = (d.cell.0, (let same = inside_length e b inside in let to = d.cell.1 in omega (arith, same, to)));
          many = many;
          there = there;
          refuted = refutes_inside q x j k (only k v b) (only k v e) (inside_both (k - 1) (v ∷ []) e b inside) d.refuted;
        }))
        (λ one. free.refuted j k (refutes_inside q x j k (only k v b) e (inside_put (k - 1) (v ∷ []) e b inside one) d.refuted))
        (many_or_one (values_at k e) v there))
        (λ gone. lost k v j d.cell d.there gone d.refuted)
        (there_or_not (values_at k e) v);
  }

  -- one split further up
  lost_above : (b : Box) (k : ℕ) (t : ℤ) → HasCell k b → LostAreFree (low_side k t b) → TakesFreeValues c b (Wide k t) → LostAreFree b
  lost_above b k t cell below takes i v j here there gone r = ⊎_elim
      (λ same. ⊎_elim
      (λ low. still (subst (λ z. Contains z v) (sym (at_same same)) ((contains_up_to t (values_at k b) v).1 (at_k same, low))))
      (λ high. takes v j ((contains_above t (values_at k b) v).1 (at_k same, high))
      (subst (λ z. IsRefuted c.model.requirements c.spans j z (only z v b)) same r))
      (at_most_or_above v t))
      (λ other. still (subst (λ z. Contains z v) (sym (at_other other)) there))
      (same_number i k)
    where
      low : Box
      low = low_side k t b

      at_k : i ≡ k → Contains (values_at k b) v
      at_k same = subst (λ z. Contains (values_at z b) v) same there

      at_same : i ≡ k → values_at i low ≡ values_up_to t (values_at k b)
      at_same same = ap (λ z. values_at z low) same ∙ get_or-set_same b (k - 1) (values_up_to t (values_at k b)) [] (place k b cell)

      at_other : (i ≡ k → ⊥) → values_at i low ≡ values_at i b
      at_other other = get_or-set_other b (k - 1) (i - 1) (values_up_to t (values_at k b)) [] (λ z. other (one_less i k here.0 cell.0 z))
        where
          one_less : (i k : ℕ) → 1 ≤ i → 1 ≤ k → i - 1 ≡ k - 1 → i ≡ k
          one_less i k a b z = omega (arith, a, b, z)

      still : Contains (values_at i low) v → ⊥
      still has =
          below i v j (here.0, (let n = length-set b (k - 1) (values_up_to t (values_at k b)) in let to = here.1 in omega (arith, n, to))) has gone
          (refutes_inside q x j i (only i v b) (only i v low) (inside_both (i - 1) (v ∷ []) low b (low_inside k t b)) r)

  -- the boxes that lead to it are larger, and what they lose on the way is free
  abbrev LeadsHere : Box → Type 0
  LeadsHere b = IsInside e b × LostAreFree b

  leads_here : (n : ℕ) (b : Box) → IsPart b c.model.cells → AreTried c n b → after_splits n b ≡ e → LeadsHere b
  leads_here zero b part tried is = (
    subst (IsInside e) (sym is) (inside_self e),
    λ k v j cell there gone r. gone (subst (λ z. Contains (values_at k z) v) is there),
  )
  leads_here (suc n) b part tried is = go (form b) refl tried.0 (λ p. leads_here n (lower b (form b)) p tried.1 is)
    where
      go : (f : Form) → form b ≡ f → TakesFreeValues c b f → (IsPart (lower b (form b)) c.model.cells → LeadsHere (lower b (form b))) → LeadsHere b
      go (Alone y) w takes on = absurd takes
      go (Wide k t) w takes on =
          let split = wide_split c.model.cells b k t part w in
          let same = ap (lower b) w in
          let low = low_part k t b c.model.cells part split.cell split.below in
          let next = subst (λ z. LeadsHere z) same (on (subst (λ z. IsPart z c.model.cells) (sym same) low)) in
          (inside_trans e (low_side k t b) b next.0 (low_inside k t b), lost_above b k t split.cell next.1 takes)

  splits_here : (n : ℕ) (b : Box) → IsPart b c.model.cells → AreTried c n b → after_splits n b ≡ e → SplitsIt (line_of q e) (form e) → AreSplits q (suc n) b
  splits_here zero b part tried is h = (subst (λ z. SplitsIt (line_of q z) (form z)) (sym is) h, tt)
  splits_here (suc n) b part tried is h =
      let here = leads_here (suc n) b part tried is in
      go (form b) refl tried.0 (free_outside b here.0 here.1) (λ p. splits_here n (lower b (form b)) p tried.1 is h)
    where
      go : (f : Form) → form b ≡ f → TakesFreeValues c b f → IsFreeOf q b →
          (IsPart (lower b (form b)) c.model.cells → AreSplits q (suc n) (lower b (form b))) → AreSplits q (suc (suc n)) b
      go (Alone y) w takes f on = absurd takes
      go (Wide k t) w takes f on =
          let split = wide_split c.model.cells b k t part w in (
            subst (SplitsIt (line_of q b)) (sym w) (is_split q b part k t w f),
            on (subst (λ z. IsPart z c.model.cells) (sym (ap (lower b) w)) (low_part k t b c.model.cells part split.cell split.below)),
          )

pub after_part : (cells : Box) (n : ℕ) (b : Box) → IsPart b cells → IsPart (after_splits n b) cells
after_part cells zero b part = part
after_part cells (suc n) b part = go (form b) refl (λ p. after_part cells n (lower b (form b)) p)
  where
    go : (f : Form) → form b ≡ f → (IsPart (lower b (form b)) cells → IsPart (after_splits n (lower b (form b))) cells) →
        IsPart (after_splits n (lower b (form b))) cells
    go (Alone y) w on = on (subst (λ z. IsPart z cells) (sym (ap (lower b) w)) part)
    go (Wide k t) w on =
        let split = wide_split cells b k t part w in
        on (subst (λ z. IsPart z cells) (sym (ap (lower b) w)) (low_part k t b cells part split.cell split.below))

-- the law of a leap
pub leap_splits : (q : Sought) → ExcludesInside q → (n : ℕ) (b : Box) → IsPart b (search_in q).model.cells → AreTried (search_in q) n b →
    SplitsIt (line_of q (after_splits n b)) (form (after_splits n b)) → AreSplits q (suc n) b
leap_splits q x n b part tried h =
    let e = after_splits n b in
    splits_here q x e (is_free q e (after_part (search_in q).model.cells n b part) (form e) refl h) n b part tried refl h

-- one split more, and fewer

pub after_more : (n : ℕ) (b : Box) → after_splits (suc n) b ≡ lower (after_splits n b) (form (after_splits n b))
after_more zero b = refl
after_more (suc n) b = after_more n (lower b (form b))

pub tried_more : (s : Search) (n : ℕ) (b : Box) → AreTried s n b → TakesFreeValues s (after_splits n b) (form (after_splits n b)) → AreTried s (suc n) b
tried_more s zero b tried h = (h, tt)
tried_more s (suc n) b tried h = (tried.0, tried_more s n (lower b (form b)) tried.1 h)

pub tried_less : (s : Search) (m n : ℕ) (b : Box) → m ≤ n → AreTried s n b → AreTried s m b
tried_less s zero n b l tried = tt
tried_less s (suc m) zero b l tried = absurd (omega (arith, l))
tried_less s (suc m) (suc n) b l tried = (tried.0, tried_less s m n (lower b (form b)) (omega (arith, l)) tried.1)
