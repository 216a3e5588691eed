-- The drops by the requirements of one term, value by value and cell by cell, and those of all terms.
use Rattle.std.proofs.Common.{◌≡◌, ◌⊎◌, ℕ, zero, suc, ◌+◌, ◌-◌, ◌<◌, ◌≤◌, ℤ, ◌<ℤ◌, pos, ◌↔◌, Bool, true, false, List, [], ◌∷◌, length, map, drop}
use Rattle.std.proofs.Common.{Option, Some, None, option_map, slice_get, get_or, refl, sym, ◌∙◌, ap, subst, inl, inr, ⊎_elim, arith}
use Rattle.std.proofs.lemmas.Option.{slice_get-get_or, slice_get-map, slice_get_read}
use Rattle.std.specs.Prelude.{Contains, IsSome, is_some}
use Rattle.std.specs.List.{AllByRecursion}
use Rattle.ts_base.specs.declared.span.Span.{Span}
use Rattle.ts_bound.specs.Looks.{is_looked}
use Rattle.ts_bound.specs.TermSpans.{Automata, LooksIn, automata_of, term_span, value_span, IsUsable as IsUsableOf}
use Rattle.ts_bound.proofs.Reached.{values_narrowed}
use Rattle.ts_glue.specs.declared.machine.Machine.{Machine}
use Rattle.ts_domain.specs.Values.{IsRising}
use Rattle.ts_domain.proofs.Sets.{contains_cons, each_contains, nothing_in}
use Rattle.ts_model.specs.declared.model.Require.{Require}
use Rattle.ts_sweep.specs.Sides.{Sides}
use Rattle.ts_filter.specs.declared.drops.Removal.{Removal}
use Rattle.ts_filter.specs.declared.question.Question.{Question}
use Rattle.ts_filter.specs.Boxes.{Box, values_at, only}
use Rattle.ts_filter.specs.CellHulls.{AreMet, at_cell}
use Rattle.ts_filter.specs.Drops.{MayDrop, IsNoLater, IsFirstOf, IsFirstDrop}
use Rattle.ts_filter.specs.Excluded.{Refutes}
use Rattle.ts_filter.specs.MachineSpans.{spans_of}
use Rattle.ts_filter.specs.Question.{Excludes}
use Rattle.ts_filter.specs.RefutedWorseDrop.{IsUsable}
use Rattle.ts_filter.specs.TermDrops.{IsRefuting, IsFirstRefuting, IsRefutedOutside, MayHaveDrop, IsTermDrop, IsDropAt, IsDropUpTo, AreLeft, IsFirstOrLeft, RefutesSome, cell_up_to, earlier_of, least_drop}
use Rattle.ts_filter.proofs.CallLaws.{usable_only, usable_whole}
use Rattle.ts_filter.proofs.CellLaws.{left_is}
use Rattle.ts_filter.proofs.Looked.{value_outside}
use Rattle.ts_filter.proofs.MachineLaws.{spans_are_of_machines}
use Rattle.ts_filter.proofs.Removals.{first_of_both, first_of_near, first_same}
use Rattle.ts_filter.proofs.SoundLaws.{each_at}

-- the first of a rising list is below the others
pub rising_parts : (v : ℤ) (rest : List ℤ) → IsRising (v ∷ rest) → AllByRecursion (λ y. v <ℤ y) rest × IsRising rest
unfolding IsRising
rising_parts v rest h = h

module _ (rs : List Require) (term : ℕ) (a : Automata) (b : Box) (k : ℕ) where
  there : (t : Removal) → IsDropAt rs term a b k t → Contains (values_at k b) t.value
  there t h = subst (λ c. Contains (values_at c b) t.value) h.0 h.1.there

  refuting : (t : Removal) (v : ℤ) → IsDropAt rs term a b k t → t.value ≡ v → IsRefuting rs term (value_span a k b v) t.require
  refuting t v h e =
      subst (λ u. IsRefuting rs term (value_span a k b u) t.require) e
      (subst (λ c. IsRefuting rs term (value_span a c b t.value) t.require) h.0 h.1.refuting)

  pub is_inside : (left rest : List ℤ) (v : ℤ) → AreLeft rs term a b k left → left ≡ v ∷ rest → Contains (values_at k b) v
  is_inside left rest v h e = h.inside v (subst (λ l. Contains l v) (sym e) ((contains_cons v rest v).1 (inl refl)))

  pub fewer_left : (left rest : List ℤ) (v : ℤ) → AreLeft rs term a b k left → left ≡ v ∷ rest → IsFirstRefuting rs term (value_span a k b v) None →
      AreLeft rs term a b k rest
  fewer_left left rest v h e n =
      let r = rising_parts v rest (subst IsRising e h.rises) in
      record {
        inside = λ u c. h.inside u (subst (λ l. Contains l u) (sym e) ((contains_cons v rest u).1 (inr c)));
        rises = r.1;
        ahead = λ t g. ⊎_elim (λ same. absurd (n t.require (refuting t v g (sym same)))) (λ c. c)
            ((contains_cons v rest t.value).0 (subst (λ l. Contains l t.value) e (h.ahead t g)));
      }

  later : (v : ℤ) (j : ℕ) (t : Removal) (rest : List ℤ) → AllByRecursion (λ y. v <ℤ y) rest → IsDropAt rs term a b k t →
      ((i : ℕ) → IsRefuting rs term (value_span a k b v) i → j ≤ i) → (v ≡ t.value) ⊎ Contains rest t.value →
      IsNoLater (record { cell = k; value = v; require = j }) t
  later v j t rest l h n (inl e) = inr (sym h.0, inr (e, n t.require (refuting t v h (sym e))))
  later v j t rest l h n (inr c) = inr (sym h.0, inl (each_contains (λ y. v <ℤ y) rest t.value l c))

  pub drop_found : (left rest : List ℤ) (v : ℤ) (j : ℕ) → AreLeft rs term a b k left → left ≡ v ∷ rest → IsUsableOf a k b → 2 ≤ length (values_at k b) →
      IsFirstRefuting rs term (value_span a k b v) (Some j) → IsFirstOf (IsDropAt rs term a b k) (Some (record { cell = k; value = v; require = j }))
  drop_found left rest v j h e u m f = (
    (refl, record { usable = u; many = m; there = is_inside left rest v h e; refuting = f.0 }),
    λ t g. later v j t rest (rising_parts v rest (subst IsRising e h.rises)).0 g f.1
        ((contains_cons v rest t.value).0 (subst (λ l. Contains l t.value) e (h.ahead t g))),
  )

  -- the first of the values that are left is dropped, with the value as the code has it
  pub drop_found_as : (left rest : List ℤ) (v w : ℤ) (j : ℕ) → w ≡ v → AreLeft rs term a b k left → left ≡ v ∷ rest → IsUsableOf a k b →
      2 ≤ length (values_at k b) → IsFirstRefuting rs term (value_span a k b w) (Some j) →
      IsFirstOf (IsDropAt rs term a b k) (Some (record { cell = k; value = w; require = j }))
  drop_found_as left rest v w j same h e u m f =
      subst (λ z. IsFirstOf (IsDropAt rs term a b k) (Some (record { cell = k; value = z; require = j }))) (sym same)
      (drop_found left rest v j h e u m (subst (λ z. IsFirstRefuting rs term (value_span a k b z) (Some j)) same f))

  pub fewer_left_as : (left rest : List ℤ) (v w : ℤ) → w ≡ v → AreLeft rs term a b k left → left ≡ v ∷ rest →
      IsFirstRefuting rs term (value_span a k b w) None → AreLeft rs term a b k rest
  fewer_left_as left rest v w same h e f =
      fewer_left left rest v h e (subst (λ z. IsFirstRefuting rs term (value_span a k b z) None) same f)

  -- where no value is left there is no drop
  pub none_left : (left : List ℤ) → AreLeft rs term a b k left → left ≡ [] → (t : Removal) → IsDropAt rs term a b k t → ⊥
  none_left left h e t d = nothing_in t.value (subst (λ l. Contains l t.value) e (h.ahead t d))

  -- at first all values are left
  pub all_left : IsRising (values_at k b) → AreLeft rs term a b k (values_at k b)
  all_left rises = record { inside = λ u c. c; rises = rises; ahead = there }

-- values that aren't dropped are passed over
module _ (rs : List Require) (term : ℕ) (a : Automata) (b : Box) (k : ℕ) where
  abbrev pub NoneBetween : ℕ → ℕ → Type 0
  NoneBetween from to =
      (i : ℕ) (v : ℤ) → from ≤ i → i < to → slice_get (values_at k b) i ≡ Some v → IsFirstRefuting rs term (value_span a k b v) None

  left_along : (d from : ℕ) → from + d ≤ length (values_at k b) → NoneBetween from (from + d) → AreLeft rs term a b k (drop from (values_at k b)) →
      AreLeft rs term a b k (drop (from + d) (values_at k b))
  left_along zero from within none left = subst (λ i. AreLeft rs term a b k (drop i (values_at k b))) (let e : from ≡ from + 0 = omega arith in e) left
  left_along (suc d) from within none left =
      let all = values_at k b in let v = get_or all from (pos 0) in
      let lt : from < length all = omega (arith, within) in
      let is : slice_get all from ≡ Some v = slice_get-get_or all from (pos 0) lt in
      let e : (from + 1) + d ≡ from + suc d = omega arith in
      subst (λ i. AreLeft rs term a b k (drop i all)) e
      (left_along d (from + 1) (omega (arith, within)) (λ i u first last at. none i u (omega (arith, first)) (omega (arith, last)) at)
      (fewer_left rs term a b k (drop from all) (drop (from + 1) all) v left (left_is all from v lt is) (none from v (omega arith) (omega arith) is)))

  pub left_between : (from to : ℕ) → from ≤ to → to ≤ length (values_at k b) → NoneBetween from to →
      AreLeft rs term a b k (drop from (values_at k b)) → AreLeft rs term a b k (drop to (values_at k b))
  left_between from to le within none left =
      let e : from + (to - from) ≡ to = omega (arith, le) in
      subst (λ i. AreLeft rs term a b k (drop i (values_at k b))) e
      (left_along (to - from) from (omega (arith, e, within)) (subst (NoneBetween from) (sym e) none) left)

  -- values whose spans have what is asked are passed over
  pub left_met : (ends : Sides) (asked : Question) → ((s : Span) → Excludes asked s ↔ RefutesSome rs term s) → (from to : ℕ) → from ≤ to →
      to ≤ length (values_at k b) → AreMet asked (at_cell a b k ends) from to → AreLeft rs term a b k (drop from (values_at k b)) →
      AreLeft rs term a b k (drop to (values_at k b))
  left_met ends asked tells from to le within met left =
      left_between from to le within (λ i v first last at j h. met i first last v at ((tells (value_span a k b v)).1 (j, h))) left

  -- the first drop was found, or none is left
  pub first_is : (left : List ℤ) (found : Option Removal) → IsFirstOrLeft rs term a b k left found → IsSome found →
      IsFirstOf (IsDropAt rs term a b k) found
  first_is left None h some = absurd (let z : ◌≡◌ {A = Bool} false true = some in cc)
  first_is left (Some r) h some = h

  pub left_is_known : (left : List ℤ) (found : Option Removal) → IsFirstOrLeft rs term a b k left found → is_some found ≡ false →
      AreLeft rs term a b k left
  left_is_known left None h none = h
  left_is_known left (Some r) h none = absurd (let z : ◌≡◌ {A = Bool} true false = none in cc)

module _ (rs : List Require) (term : ℕ) (a : Automata) (b : Box) where
  -- no drop is at the first cells
  abbrev pub NoneUpTo : ℕ → Type 0
  NoneUpTo n = (t : Removal) → IsTermDrop rs term a b t → n < t.cell

  -- the first drop at the next cell is the first of all
  pub first_up_to : (n last : ℕ) (found : Option Removal) → IsSome found → NoneUpTo n → IsFirstOf (IsDropAt rs term a b (n + 1)) found → n + 1 ≤ last →
      IsFirstOf (IsDropUpTo rs term a b last) found
  first_up_to n last None some none first le = absurd (let z : ◌≡◌ {A = Bool} false true = some in cc)
  first_up_to n last (Some r) some none first le =
      let is = first.0.0 in
      ((first.0.1, omega (arith, is, le)), λ t d. by_cell t d (split (n + 1) t.cell (let more = none t d.0 in omega (arith, more))))
    where
      split : (k m : ℕ) → k ≤ m → (m ≡ k) ⊎ (k < m)
      split k m l = grind (arith, l)

      by_cell : (t : Removal) → IsDropUpTo rs term a b last t → (t.cell ≡ n + 1) ⊎ (n + 1 < t.cell) → IsNoLater r t
      by_cell t d (inl e) = first.1 t (e, d.0)
      by_cell t d (inr more) = inl (let is = first.0.0 in omega (arith, is, more))

  -- outside the window all values of a cell have one span

  pub refuting_outside : (t : Removal) → IsTermDrop rs term a b t → is_looked a.window t.cell ≡ false → IsRefuting rs term (term_span a t.cell b) t.require
  refuting_outside t h e = subst (λ s. IsRefuting rs term s t.require) (value_outside a t.cell b t.value e) h.refuting

  pub least_outside : (k : ℕ) (outside : Option ℕ) → IsUsableOf a k b → is_looked a.window k ≡ false → IsRefutedOutside rs term a b outside →
      IsRising (values_at k b) → IsFirstOf (IsDropAt rs term a b k) (least_drop k (values_at k b) outside)
  least_outside k outside u e refuted rises = by_values (values_at k b) refl outside (refuted k u e)
    where
      by_values : (values : List ℤ) → values_at k b ≡ values → (o : Option ℕ) → IsFirstRefuting rs term (term_span a k b) o →
          IsFirstOf (IsDropAt rs term a b k) (least_drop k values o)
      by_values [] is o f = λ t h. few (values_at t.cell b) (ap (λ c. values_at c b) h.0 ∙ is) h.1.many
        where
          few : (values : List ℤ) → values ≡ [] → 2 ≤ length values → ⊥
          few values e many = let n = ap length e in omega (arith, n, many)
      by_values (v ∷ []) is o f = λ t h. few (values_at t.cell b) (ap (λ c. values_at c b) h.0 ∙ is) h.1.many
        where
          few : (values : List ℤ) → values ≡ v ∷ [] → 2 ≤ length values → ⊥
          few values e many = let n = ap length e in omega (arith, n, many)
      by_values (v ∷ w ∷ vs) is None f = λ t h.
          f t.require (subst (λ c. IsRefuting rs term (term_span a c b) t.require) h.0
          (refuting_outside t h.1 (subst (λ c. is_looked a.window c ≡ false) (sym h.0) e)))
      by_values (v ∷ w ∷ vs) is (Some j) f =
          let same = sym (value_outside a k b v e) in
          drop_found rs term a b k (v ∷ w ∷ vs) (w ∷ vs) v j (record {
            inside = λ x c. subst (λ l. Contains l x) (sym is) c;
            rises = subst IsRising is rises;
            ahead = λ t h. subst (λ l. Contains l t.value) is (there rs term a b k t h);
          }) refl u (subst (λ l. 2 ≤ length l) (sym is) (omega arith)) (subst (λ s. IsFirstRefuting rs term s (Some j)) same f)

  -- no drop is outside where no requirement is refuted there
  pub may_have : (outside : Option ℕ) → IsRefutedOutside rs term a b outside → (t : Removal) → IsTermDrop rs term a b t → MayHaveDrop a outside t.cell
  may_have None refuted t h = by_test (is_looked a.window t.cell) refl
    where
      by_test : (z : Bool) → is_looked a.window t.cell ≡ z → MayHaveDrop a None t.cell
      by_test true e = inl e
      by_test false e = absurd (refuted t.cell h.usable e t.require (refuting_outside t h e))
  may_have (Some j) refuted t h = inr refl

module _ (rs : List Require) (ms : List Automata) (b : Box) where
  -- a drop by a requirement of one of these terms
  abbrev pub DropOf : (ℕ → Type 0) → Removal → Type 0
  DropOf T r = (d : MayDrop rs (spans_of ms) b r) × T d.refuted.require.term

  -- a drop by a requirement of the first terms
  abbrev pub DropBelow : ℕ → Removal → Type 0
  DropBelow n r = DropOf (λ z. z < n) r

  module _ (term : ℕ) (a : Automata) (has : slice_get ms term ≡ Some a) (looks : LooksIn a b) where
    span_is : (z k : ℕ) (v : ℤ) → z ≡ term → IsUsableOf a k b → (spans_of ms).span_at z k (only k v b) ≡ value_span a k b v
    span_is z k v e u =
        ap (λ i. (spans_of ms).span_at i k (only k v b)) e ∙ (spans_are_of_machines ms term a has).span k (only k v b)
        ∙ values_narrowed a b looks k u.from u.to v

    pub to_drop : (t : Removal) → IsTermDrop rs term a b t → MayDrop rs (spans_of ms) b t
    to_drop t h =
        let r = h.refuting.require in
        record {
          cell = (h.usable.from, h.usable.to);
          many = h.many;
          there = h.there;
          refuted = record {
            require = r;
            is = h.refuting.is;
            usable = subst (λ z. IsUsable (spans_of ms) z t.cell (only t.cell t.value b)) (sym h.refuting.of_term)
                (((spans_are_of_machines ms term a has).usable t.cell (only t.cell t.value b)).1 (usable_only a b t.cell t.value h.usable));
            refutes = subst (λ s. Refutes r.op r.bound s) (sym (span_is r.term t.cell t.value h.refuting.of_term h.usable)) h.refuting.refutes;
          };
        }

    pub from_drop : (t : Removal) → (d : MayDrop rs (spans_of ms) b t) → d.refuted.require.term ≡ term → IsTermDrop rs term a b t
    from_drop t d e =
        let r = d.refuted.require in
        let u = usable_whole a b t.cell t.value (((spans_are_of_machines ms term a has).usable t.cell (only t.cell t.value b)).0
        (subst (λ z. IsUsable (spans_of ms) z t.cell (only t.cell t.value b)) e d.refuted.usable)) in
        record {
          usable = u;
          many = d.many;
          there = d.there;
          refuting = record {
            require = r;
            is = d.refuted.is;
            of_term = e;
            refutes = subst (λ s. Refutes r.op r.bound s) (span_is r.term t.cell t.value e u) d.refuted.refutes;
          };
        }

    -- those of one term more
    module _ (T U : ℕ → Type 0) (both : (z : ℕ) → T z ⊎ (z ≡ term) → U z) (one : (z : ℕ) → U z → T z ⊎ (z ≡ term)) where
      joined : (t : Removal) → DropOf T t ⊎ IsTermDrop rs term a b t → DropOf U t
      unfolding to_drop
      joined t (inl h) = (h.0, both h.0.refuted.require.term (inl h.1))
      joined t (inr h) = (to_drop t h, both h.refuting.require.term (inr h.refuting.of_term))

      apart : (t : Removal) → DropOf U t → DropOf T t ⊎ IsTermDrop rs term a b t
      apart t h = ⊎_elim (λ l. inl (h.0, l)) (λ e. inr (from_drop t h.0 e)) (one h.0.refuted.require.term h.1)

      -- the first one up to the cell of the one that was found before
      first_more : (x y : Option Removal) (to : ℕ) → to ≡ cell_up_to x (length b) → IsFirstOf (λ r. DropOf T r) x →
          IsFirstOf (IsDropUpTo rs term a b to) y → IsFirstOf (λ r. DropOf U r) (earlier_of x y)
      first_more x y to is p q =
          first_same (λ r. DropOf T r ⊎ IsTermDrop rs term a b r) (λ r. DropOf U r) (earlier_of x y) joined apart
          (first_of_near (λ r. DropOf T r) (IsTermDrop rs term a b) (length b) (λ t h. h.usable.to) x y to is p q)

      -- the first one at a cell
      pub first_here_more : (k : ℕ) (x y : Option Removal) → IsFirstOf (λ r. DropOf T r × (r.cell ≡ k)) x → IsFirstOf (IsDropAt rs term a b k) y →
          IsFirstOf (λ r. DropOf U r × (r.cell ≡ k)) (earlier_of x y)
      first_here_more k x y p q =
          first_same (λ r. (DropOf T r × (r.cell ≡ k)) ⊎ IsDropAt rs term a b k r) (λ r. DropOf U r × (r.cell ≡ k)) (earlier_of x y)
          (λ t h. ⊎_elim (λ g. (joined t (inl g.0), g.1)) (λ g. (joined t (inr g.1), g.0)) h)
          (λ t h. ⊎_elim (λ g. inl (g, h.1)) (λ g. inr (h.1, g)) (apart t h.0))
          (first_of_both (λ r. DropOf T r × (r.cell ≡ k)) (IsDropAt rs term a b k) x y p q)

    below_or_same : (z : ℕ) → z < term + 1 → (z < term) ⊎ (z ≡ term)
    below_or_same z l = grind arith

    below : (z : ℕ) → (z < term) ⊎ (z ≡ term) → z < term + 1
    below z (inl l) = omega (arith, l)
    below z (inr e) = omega (arith, e)

    pub first_below_more : (x y : Option Removal) (to : ℕ) → to ≡ cell_up_to x (length b) → IsFirstOf (DropBelow term) x →
        IsFirstOf (IsDropUpTo rs term a b to) y → IsFirstOf (DropBelow (term + 1)) (earlier_of x y)
    first_below_more = first_more (λ z. z < term) (λ z. z < term + 1) below below_or_same

  -- each drop is by a requirement of some term
  pub term_there : (n : ℕ) → AllByRecursion (λ (r : Require). r.term < n) rs → (t : Removal) → (d : MayDrop rs (spans_of ms) b t) →
      d.refuted.require.term < n
  term_there n each t d = each_at (λ (r : Require). r.term < n) rs (t.require - 1) d.refuted.require each d.refuted.is.1

  pub first_of_all : (last n : ℕ) (x : Option Removal) → AllByRecursion (λ (r : Require). r.term < n) rs → n ≤ last → IsFirstOf (DropBelow last) x →
      IsFirstDrop rs (spans_of ms) b x
  first_of_all last n x each l p =
      first_same (DropBelow last) (MayDrop rs (spans_of ms) b) x (λ t h. h.0) (λ t d. (d, (let m = term_there n each t d in omega (arith, m, l)))) p

  pub first_of_all_here : (T : ℕ → Type 0) → ((t : Removal) (d : MayDrop rs (spans_of ms) b t) → T d.refuted.require.term) → (k : ℕ) (x : Option Removal) →
      IsFirstOf (λ r. DropOf T r × (r.cell ≡ k)) x → IsFirstOf (λ r. MayDrop rs (spans_of ms) b r × (r.cell ≡ k)) x
  first_of_all_here T all k x p =
      first_same (λ r. DropOf T r × (r.cell ≡ k)) (λ r. MayDrop rs (spans_of ms) b r × (r.cell ≡ k)) x (λ t h. (h.0.0, h.1)) (λ t d. ((d.0, all t d.0), d.1)) p

-- the machine of a term, as the code reads it from the list
pub machine_there : (machines : List Machine) (term : ℕ) (m : Machine) → term < length machines → m ≡ get_or machines term m →
    slice_get (map automata_of machines) term ≡ Some (automata_of m)
machine_there machines term m l e =
    slice_get-map automata_of machines term ∙ ap (option_map automata_of) (slice_get_read machines (length machines) term m refl l e)

pub machine_looks : (b : Box) (machines : List Machine) (term : ℕ) (m : Machine) → AllByRecursion (λ x. LooksIn (automata_of x) b) machines →
    term < length machines → m ≡ get_or machines term m → LooksIn (automata_of m) b
machine_looks b [] term m h l e = absurd (omega (arith, l))
machine_looks b (x ∷ machines) zero m h l e = subst (λ z. LooksIn (automata_of z) b) (sym e) h.0
machine_looks b (x ∷ machines) (suc term) m h l e = machine_looks b machines term m h.1 (omega (arith, l)) e

-- a cell with one value has none
pub no_drop_of_one : (rs : List Require) (term : ℕ) (a : Automata) (b : Box) (k : ℕ) → length (values_at k b) ≡ 1 → IsFirstOf (IsDropAt rs term a b k) None
no_drop_of_one rs term a b k one = λ t h.
    let many : 2 ≤ length (values_at k b) = subst (λ c. 2 ≤ length (values_at c b)) h.0 h.1.many in omega (arith, many, one)
