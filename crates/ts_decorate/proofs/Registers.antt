-- What the registers hold while a table is run with exact operators: C the cells of the range that is held, D the cells
-- from the start that is kept, or after the held range, R the ranges that were emitted; E as C, and F as D.
use Rattle.std.specs.Prelude.{◌≡◌, ℕ, zero, suc, ◌+◌, ◌-◌, ◌<◌, ◌≤◌, List, [], ◌∷◌, ◌++◌, length, get_or, fold, map, Option, None, Some, refl}
use Rattle.std.specs.List.{AllByRecursion}
use Rattle.std.specs.Option.{option_to_list}
use Rattle.std.proofs.Common.{sym, ◌∙◌, ap, subst, arith, append-nil}
use Rattle.std.proofs.lemmas.List.{map-append}
use Rattle.std.proofs.lemmas.List.Sums.{fold-append}
use Rattle.ts_base.specs.declared.range.Range.{Range}
use Rattle.ts_base.specs.declared.range.Kind.{Kind}
use Rattle.ts_base.specs.declared.range.Kind.TheVariants.{Idle, Pending, Held}
use Rattle.ts_transducer.specs.declared.row.Phase.{Phase}
use Rattle.ts_transducer.specs.declared.row.Phase.TheVariants.{Out, OutR, OutA, MaybeB, MaybeA, Found, FoundE, Inside}
use Rattle.ts_transducer.specs.Decode.{begins, ends_at, start_after, held_after, emitted_at}
use Rattle.ts_transducer.proofs.CallerLemmas.{IsFree, Typed}
use Rattle.ts_automaton.specs.Registers.{EachOf}
use Rattle.ts_decorate.specs.Operators.{Half, Operators, with_last, with_all, range_after, cells_after, ranges_after, total_of}
use Rattle.ts_decorate.proofs.Folds.{FoldLaws, fold_join, items_of, all_items, no_items, two_parts, fold_more}

-- the fold over the items of a range
abbrev pub range_value : {V : Type 0} → Half V → List V → Range → V
range_value o xs r = fold o.phi o.neutral (items_of xs r.first r.last)

-- what both halves make of it
abbrev pub value_read : {V : Type 0} → Operators V → List V → Range → V
value_read o xs r = o.read (range_value o.whole xs r) (range_value o.less xs r)

-- the fold over the ranges
abbrev pub ranges_value : {V : Type 0} → Operators V → List V → List Range → V
ranges_value o xs rs = fold o.g o.default (map (value_read o xs) rs)

-- D where no range is held: the items from the start on
abbrev pub StartHolds : {V : Type 0} → Half V → List V → ℕ → Option ℕ → V → Type 0
StartHolds o xs k None d = d ≡ o.neutral
StartHolds o xs k (Some s) d = (1 ≤ s) × (s ≤ k) × (d ≡ fold o.phi o.neutral (items_of xs s k))

-- after k signs, by the kind of the state, with the decoder's start s and range r: C and D, or E and F
abbrev pub CellsHold : {V : Type 0} → Half V → ℕ → List V → ℕ → Kind → Option ℕ → Option Range → V → V → Type 0
CellsHold o a xs k Idle s r c d = (s ≡ None) × (r ≡ None) × (c ≡ o.idle) × (d ≡ o.neutral)
CellsHold o a xs k Pending s r c d = (r ≡ None) × (c ≡ o.idle) × StartHolds o xs k s d
CellsHold o a xs k Held s r c d =
    (y : Range) × (s ≡ None) × (r ≡ Some y) × (1 ≤ y.first) × (y.first ≤ y.last) × (y.last ≤ k + 1 - a) × (c ≡ range_value o xs y)
    × (d ≡ fold o.phi o.neutral (items_of xs (y.last + 1) (k + 1 - a)))

module _ {V : Type 0} (o : Half V) (good : V → Type 0) (laws : FoldLaws o.phi o.neutral good) (a : ℕ) (one : a ≤ 1)
    (xs : List V) (z : V) (fine : AllByRecursion good xs) where
  -- the last item that a held range could take
  last_item : (k e : ℕ) (d : V) → k + 1 < length xs → 1 ≤ e → e ≤ k + 2 - a → d ≡ fold o.phi o.neutral (items_of xs e (k + 1 - a)) →
      with_last o a d (get_or xs k z) (get_or xs (k + 1) z) ≡ fold o.phi o.neutral (items_of xs e (k + 2 - a))
  last_item k e d q p r h = by_trim a one r h
    where
      by_trim : (b : ℕ) → b ≤ 1 → e ≤ k + 2 - b → d ≡ fold o.phi o.neutral (items_of xs e (k + 1 - b)) →
          with_last o b d (get_or xs k z) (get_or xs (k + 1) z) ≡ fold o.phi o.neutral (items_of xs e (k + 2 - b))
      by_trim zero u r h =
          let m : k + 1 - 0 ≡ k + 1 = omega arith in
          let n : k + 1 + 1 ≡ k + 2 - 0 = omega arith in
          ap (λ y. o.phi y (get_or xs (k + 1) z)) (h ∙ ap (λ y. fold o.phi o.neutral (items_of xs e y)) m)
          ∙ fold_more o.phi o.neutral xs z e (k + 1) p (omega arith) q ∙ ap (λ y. fold o.phi o.neutral (items_of xs e y)) n
      by_trim (suc b) u r h =
          let m : k + 1 - suc b ≡ k = omega arith in
          let n : k + 1 ≡ k + 2 - suc b = omega arith in
          ap (λ y. o.phi y (get_or xs k z)) (h ∙ ap (λ y. fold o.phi o.neutral (items_of xs e y)) m)
          ∙ fold_more o.phi o.neutral xs z e k p (omega arith) (omega arith) ∙ ap (λ y. fold o.phi o.neutral (items_of xs e y)) n

  -- a find: all items from the start on
  all_found : (k s : ℕ) (d : V) → k + 1 < length xs → 1 ≤ s → s ≤ k + 1 → d ≡ fold o.phi o.neutral (items_of xs s k) →
      with_all o a d (get_or xs k z) (get_or xs (k + 1) z) ≡ fold o.phi o.neutral (items_of xs s (k + 1 + 1 - a))
  all_found k s d q p r h = by_trim a one
    where
      by_trim : (b : ℕ) → b ≤ 1 →
          with_all o b d (get_or xs k z) (get_or xs (k + 1) z) ≡ fold o.phi o.neutral (items_of xs s (k + 1 + 1 - b))
      by_trim zero u =
          let n : k + 1 + 1 ≡ k + 1 + 1 - 0 = omega arith in
          ap (λ y. o.phi (o.phi y (get_or xs k z)) (get_or xs (k + 1) z)) h
          ∙ ap (λ y. o.phi y (get_or xs (k + 1) z)) (fold_more o.phi o.neutral xs z s k p r (omega arith))
          ∙ fold_more o.phi o.neutral xs z s (k + 1) p (omega arith) q ∙ ap (λ y. fold o.phi o.neutral (items_of xs s y)) n
      by_trim (suc b) u =
          let n : k + 1 ≡ k + 1 + 1 - suc b = omega arith in
          ap (λ y. o.phi y (get_or xs k z)) h
          ∙ fold_more o.phi o.neutral xs z s k p r (omega arith) ∙ ap (λ y. fold o.phi o.neutral (items_of xs s y)) n

  -- the start that a find takes, and what D holds from it on
  start_taken : (k : ℕ) (s : Option ℕ) (d : V) → StartHolds o xs k s d →
      (1 ≤ begins (k + 1) s) × (begins (k + 1) s ≤ k + 1) × (d ≡ fold o.phi o.neutral (items_of xs (begins (k + 1) s) k))
  start_taken k None d h = (omega arith, omega arith, h ∙ ap (λ y. fold o.phi o.neutral y) (sym (no_items xs k)))
  start_taken k (Some s) d h = (h.0, (let y = h.1 in omega arith), h.2)

  free_holds : (k : ℕ) (κ : Kind) (s : Option ℕ) (r : Option Range) (c d : V) → IsFree κ → CellsHold o a xs k κ s r c d →
      (r ≡ None) × (c ≡ o.idle) × StartHolds o xs k s d
  free_holds k Idle s r c d f h = (h.1, h.2, subst (λ y. StartHolds o xs k y d) (sym h.0) h.3)
  free_holds k Pending s r c d f h = h
  free_holds k Held s r c d f h = absurd f

  free_again : (k : ℕ) (κ : Kind) (s : Option ℕ) (r : Option Range) (c d : V) → IsFree κ → s ≡ None → r ≡ None → c ≡ o.idle → d ≡ o.neutral →
      CellsHold o a xs k κ s r c d
  free_again k Idle s r c d f p q u v = (p, q, u, v)
  free_again k Pending s r c d f p q u v = (q, u, subst (λ y. StartHolds o xs k y d) (sym p) v)
  free_again k Held s r c d f p q u v = absurd f

  newly_held : (k s : ℕ) (d : V) → 1 ≤ s → s ≤ k + 1 → d ≡ fold o.phi o.neutral (items_of xs s (k + 1 + 1 - a)) →
      CellsHold o a xs (k + 1) Held None (Some (record { first = s; last = k + 1 + 1 - a })) d o.neutral
  newly_held k s d p q h =
      let empty = sym (ap (λ y. fold o.phi o.neutral y) (no_items xs (k + 1 + 1 - a))) in
      (record { first = s; last = k + 1 + 1 - a }, refl, refl, p, omega arith, omega arith, h, empty)

  abbrev AfterHolds : Phase → Kind → ℕ → Option ℕ → Option Range → V → V → Type 0
  AfterHolds f κ k s r c d =
      let here = get_or xs k z in
      let next = get_or xs (k + 1) z in
      CellsHold o a xs (k + 1) κ (start_after f (k + 1) s) (held_after f a (k + 1) s r) (range_after o a f c d here next)
      (cells_after o a f d here next)

  grows : (κ κ' : Kind) (k : ℕ) (s : Option ℕ) (r : Option Range) (c d : V) → k + 1 < length xs → κ ≡ Held → κ' ≡ Held →
      CellsHold o a xs k κ s r c d → AfterHolds Inside κ' k s r c d
  grows κ κ' k s r c d q t t' h =
      let x = subst (λ y. CellsHold o a xs k y s r c d) t h in
      let m3 = x.3 in
      let m4 = x.4 in
      let m5 = x.5 in
      let j = k + 1 + 1 - a - x.0.last in
      let n : k + 2 - a ≡ k + 1 + 1 - a = omega arith in
      let e : x.0.last + j ≡ k + 1 + 1 - a = omega arith in
      let next = with_last o a d (get_or xs k z) (get_or xs (k + 1) z) in
      let w : next ≡ fold o.phi o.neutral (items_of xs (x.0.last + 1) (k + 1 + 1 - a)) =
      last_item k (x.0.last + 1) d q (omega arith) (omega arith) x.7 ∙ ap (λ y. fold o.phi o.neutral (items_of xs (x.0.last + 1) y)) n in
      let front = items_of xs x.0.first x.0.last in
      let back = items_of xs (x.0.last + 1) (k + 1 + 1 - a) in
      let v : o.phi c next ≡ fold o.phi o.neutral (items_of xs x.0.first (k + 1 + 1 - a)) =
      ap (λ y. o.phi y next) x.6
      ∙ ap (λ y. o.phi (range_value o xs x.0) y) w
      ∙ fold_join o.phi o.neutral good laws front back (all_items good xs x.0.first x.0.last fine) (all_items good xs (x.0.last + 1) (k + 1 + 1 - a) fine)
      ∙ ap (λ y. fold o.phi o.neutral y)
      (subst (λ y. front ++ items_of xs (x.0.last + 1) y ≡ items_of xs x.0.first y) e (two_parts xs z x.0.first x.0.last j m3 (omega arith) (omega arith))) in
      subst (λ u. CellsHold o a xs (k + 1) u s (ends_at (k + 1 + 1 - a) r) (o.phi c next) o.neutral) (sym t') (
        record { first = x.0.first; last = k + 1 + 1 - a },
        x.1,
        ap (λ y. ends_at (k + 1 + 1 - a) y) x.2,
        m3,
        omega arith,
        omega arith,
        v,
        sym (ap (λ y. fold o.phi o.neutral y) (no_items xs (k + 1 + 1 - a))),
      )

  -- they over one sign
  pub cells_step : (f : Phase) (κ κ' : Kind) (k : ℕ) (s : Option ℕ) (r : Option Range) (c d : V) → k + 1 < length xs → Typed κ f κ' →
      CellsHold o a xs k κ s r c d → AfterHolds f κ' k s r c d
  cells_step Out κ κ' k s r c d q t h =
      let x = subst (λ y. CellsHold o a xs k y s r c d) t.0 h in
      free_again (k + 1) κ' s r c d t.1 x.0 x.1 x.2 x.3
  cells_step OutR κ κ' k s r c d q t h =
      let x = subst (λ y. CellsHold o a xs k y s r c d) t.0 h in
      free_again (k + 1) κ' None r c o.neutral t.1 refl x.0 x.1 refl
  cells_step OutA κ κ' k s r c d q t h = free_again (k + 1) κ' None None o.idle o.neutral t.1 refl refl refl refl
  cells_step MaybeB κ κ' k s r c d q t h =
      let x = free_holds k κ s r c d t.0 h in
      let y = start_taken k s d x.2 in
      subst (λ u. CellsHold o a xs (k + 1) u (Some (begins (k + 1) s)) r c (o.phi d (get_or xs k z))) (sym t.1)
      (x.0, x.1, (y.0, y.1, ap (λ u. o.phi u (get_or xs k z)) y.2 ∙ fold_more o.phi o.neutral xs z (begins (k + 1) s) k y.0 y.1 (omega arith)))
  cells_step MaybeA κ κ' k s r c d q t h =
      let x = subst (λ y. CellsHold o a xs k y s r c d) t.0 h in
      subst (λ u. CellsHold o a xs (k + 1) u s r c (with_last o a d (get_or xs k z) (get_or xs (k + 1) z))) (sym t.1)
      (let m = x.5 in
      let n : k + 2 - a ≡ k + 1 + 1 - a = omega arith in (
        x.0,
        x.1,
        x.2,
        x.3,
        x.4,
        omega arith,
        x.6,
        last_item k (x.0.last + 1) d q (omega arith) (omega arith) x.7 ∙ ap (λ y. fold o.phi o.neutral (items_of xs (x.0.last + 1) y)) n,
      ))
  cells_step Found κ κ' k s r c d q t h =
      let x = free_holds k κ s r c d t.0 h in
      let y = start_taken k s d x.2 in
      let all = with_all o a d (get_or xs k z) (get_or xs (k + 1) z) in
      subst (λ u. CellsHold o a xs (k + 1) u None (Some (record { first = begins (k + 1) s; last = k + 1 + 1 - a })) all o.neutral) (sym t.1)
      (newly_held k (begins (k + 1) s) all y.0 y.1 (all_found k (begins (k + 1) s) d q y.0 y.1 y.2))
  cells_step FoundE κ κ' k s r c d q t h =
      let x = free_holds k κ s r c d t.0 h in
      free_again (k + 1) κ' None r c o.neutral t.1 refl x.0 x.1 refl
  cells_step Inside κ κ' k s r c d q t h = grows κ κ' k s r c d q t.0 t.1 h

-- the ranges: both halves see the same items
module _ {V : Type 0} (o : Operators V) (good : V → Type 0) (laws : FoldLaws o.whole.phi o.whole.neutral good) (good_less : V → Type 0)
    (laws_less : FoldLaws o.less.phi o.less.neutral good_less) (a : ℕ) (one : a ≤ 1) (xs : List V) (z : V) (fine : AllByRecursion good xs)
    (fine_less : AllByRecursion good_less xs) where
  abbrev pub Holds : ℕ → Kind → Option ℕ → Option Range → EachOf V → Type 0
  Holds k κ s r st = CellsHold o.whole a xs k κ s r st.c st.d

  abbrev pub HoldsLess : ℕ → Kind → Option ℕ → Option Range → EachOf V → Type 0
  HoldsLess k κ s r st = CellsHold o.less a xs k κ s r st.e st.f

  ranges_more : (rs : List Range) (y : Range) → ranges_value o xs (rs ++ y ∷ []) ≡ o.g (ranges_value o xs rs) (value_read o xs y)
  ranges_more rs y =
      ap (λ u. fold o.g o.default u) (map-append (value_read o xs) rs (y ∷ []))
      ∙ fold-append o.g o.default (map (value_read o xs) rs) (value_read o xs y ∷ [])

  same_ranges : (rs : List Range) (v : V) → v ≡ ranges_value o xs rs → v ≡ ranges_value o xs (rs ++ [])
  same_ranges rs v e = e ∙ ap (λ u. ranges_value o xs u) (sym (append-nil rs))

  -- a range that both halves hold is one
  one_range : (y x : Range) → ◌≡◌ {A = Option Range} (Some y) (Some x) → y ≡ x
  one_range y x e = cc

  read_held : (k : ℕ) (s : Option ℕ) (r : Option Range) (st : EachOf V) (rs : List Range) → Holds k Held s r st → HoldsLess k Held s r st →
      st.r ≡ ranges_value o xs rs →
      total_of o st ≡ ranges_value o xs (rs ++ option_to_list r)
  read_held k s r st rs x y e =
      let same : y.0 ≡ x.0 = one_range y.0 x.0 (sym y.2 ∙ x.2) in
      ap (λ u. o.g u (o.read st.c st.e)) e
      ∙ ap (λ u. o.g (ranges_value o xs rs) (o.read u st.e)) x.6
      ∙ ap (λ u. o.g (ranges_value o xs rs) (o.read (range_value o.whole xs x.0) u)) (y.6 ∙ ap (λ v. range_value o.less xs v) same)
      ∙ sym (ranges_more rs x.0)
      ∙ ap (λ u. ranges_value o xs (rs ++ option_to_list u)) (sym x.2)

  -- R over one sign
  pub result_step : (f : Phase) (κ κ' : Kind) (k : ℕ) (s : Option ℕ) (r : Option Range) (st : EachOf V) (rs : List Range) → k + 1 < length xs → Typed κ f κ' →
      Holds k κ s r st → HoldsLess k κ s r st → st.r ≡ ranges_value o xs rs →
      ranges_after o a f st (get_or xs k z) (get_or xs (k + 1) z) ≡ ranges_value o xs (rs ++ option_to_list (emitted_at f a (k + 1) s r))
  result_step Out κ κ' k s r st rs q t h i e = same_ranges rs st.r e
  result_step OutR κ κ' k s r st rs q t h i e = same_ranges rs st.r e
  result_step MaybeB κ κ' k s r st rs q t h i e = same_ranges rs st.r e
  result_step MaybeA κ κ' k s r st rs q t h i e = same_ranges rs st.r e
  result_step Found κ κ' k s r st rs q t h i e = same_ranges rs st.r e
  result_step Inside κ κ' k s r st rs q t h i e = same_ranges rs st.r e
  result_step OutA κ κ' k s r st rs q t h i e =
      read_held k s r st rs (subst (λ y. Holds k y s r st) t.0 h) (subst (λ y. HoldsLess k y s r st) t.0 i) e
  result_step FoundE κ κ' k s r st rs q t h i e =
      let x = free_holds o.whole good laws a one xs z fine k κ s r st.c st.d t.0 h in
      let u = free_holds o.less good_less laws_less a one xs z fine_less k κ s r st.e st.f t.0 i in
      let y = start_taken o.whole good laws a one xs z fine k s st.d x.2 in
      let v = start_taken o.less good_less laws_less a one xs z fine_less k s st.f u.2 in
      let found : Range = record { first = begins (k + 1) s; last = k + 1 + 1 - a } in
      let all = with_all o.whole a st.d (get_or xs k z) (get_or xs (k + 1) z) in
      let all_less = with_all o.less a st.f (get_or xs k z) (get_or xs (k + 1) z) in
      let is : all ≡ range_value o.whole xs found = all_found o.whole good laws a one xs z fine k (begins (k + 1) s) st.d q y.0 y.1 y.2 in
      let is_less : all_less ≡ range_value o.less xs found =
      all_found o.less good_less laws_less a one xs z fine_less k (begins (k + 1) s) st.f q v.0 v.1 v.2 in
      ap (λ w. o.g w (o.read all all_less)) e
      ∙ ap (λ w. o.g (ranges_value o xs rs) (o.read w all_less)) is
      ∙ ap (λ w. o.g (ranges_value o xs rs) (o.read (range_value o.whole xs found) w)) is_less
      ∙ sym (ranges_more rs found)

  idle_end : ((y : V) → o.g y (o.read o.whole.idle o.less.idle) ≡ y) → (r : Option Range) (st : EachOf V) (rs : List Range) →
      st.c ≡ o.whole.idle → st.e ≡ o.less.idle → r ≡ None → st.r ≡ ranges_value o xs rs → total_of o st ≡ ranges_value o xs (rs ++ option_to_list r)
  idle_end right r st rs p q n e =
      ap (λ u. o.g st.r (o.read u st.e)) p
      ∙ ap (λ u. o.g st.r (o.read o.whole.idle u)) q
      ∙ right st.r ∙ same_ranges rs st.r e ∙ ap (λ u. ranges_value o xs (rs ++ option_to_list u)) (sym n)

  -- the end: what is held is emitted
  pub at_the_end : ((y : V) → o.g y (o.read o.whole.idle o.less.idle) ≡ y) →
      (k : ℕ) (κ : Kind) (s : Option ℕ) (r : Option Range) (st : EachOf V) (rs : List Range) →
      Holds k κ s r st → HoldsLess k κ s r st → st.r ≡ ranges_value o xs rs → total_of o st ≡ ranges_value o xs (rs ++ option_to_list r)
  at_the_end right k Idle s r st rs h i e = idle_end right r st rs h.2 i.2 h.1 e
  at_the_end right k Pending s r st rs h i e = idle_end right r st rs h.1 i.1 h.0 e
  at_the_end right k Held s r st rs h i e = read_held k s r st rs h i e
