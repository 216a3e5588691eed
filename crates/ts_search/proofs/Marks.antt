-- What the marks of terms and cells rest on, and how they come.
use Rattle.std.proofs.Common.{◌≡◌, ℕ, zero, suc, ◌+◌, ◌-◌, ◌<◌, ◌≤◌, ℤ, ◌≤ℤ◌, Bool, true, false, List, [], ◌∷◌, length, get_or, map, set, Option, Some, None, slice_get, ◌⊎◌, inl, inr, ⊎_elim, refl, sym, ◌∙◌, ap, subst, arith}
use Rattle.std.proofs.lemmas.Int.{ints}
use Rattle.std.proofs.lemmas.Option.{same_Some, slice_get_within}
use Rattle.std.specs.Prelude.{Contains, IsSome, option_map, unwrap_or}
use Rattle.ts_base.specs.Windows.{LooksInside, looked_at}
use Rattle.ts_base.specs.Limits.{most_cells}
use Rattle.ts_bound.specs.Looks.{count_looked, first_looked, is_looked, last_looked, place_in}
use Rattle.ts_bound.specs.TermSpans.{Automata, automata_of}
use Rattle.ts_bound.proofs.Looking.{ends_inside, looked_by, looked_get, looked_length, place_bounds, place_inside}
use Rattle.ts_domain.specs.declared.interval.Interval.{Interval}
use Rattle.ts_domain.specs.BoxSeries.{InBox}
use Rattle.ts_filter.specs.Boxes.{Box, HasCell, IsInside, IsPart, values_at}
use Rattle.ts_filter.specs.KeptCells.{AreKept, AreSized, IsAliveTerm, IsSpared, forgotten, with_alive, with_known, with_spared}
use Rattle.ts_filter.specs.RefutedWorseDrop.{IsDrop}
use Rattle.ts_filter.specs.Tests.{is_drop}
use Rattle.ts_filter.proofs.BoxParts.{inside_length}
use Rattle.ts_filter.proofs.SoundLaws.{clash}
use Rattle.ts_filter.proofs.SparedLaws.{cell_kept, cell_sized, forgotten_kept, forgotten_sized, term_kept, term_sized}
use Rattle.ts_filter.proofs.TestLaws.{tests_tell}
use Rattle.ts_glue.specs.Machines.{pair_of, window_of}
use Rattle.ts_model.specs.declared.model.Require.{Require}
use Rattle.ts_model.specs.Views.{model_parts}
use Rattle.ts_spans.specs.Machines.{automata_in, spans_in}
use Rattle.ts_spans.proofs.OfTerms.{window_looks}
use Rattle.ts_witness.specs.Laws.{IsKept}
use Rattle.ts_witness.specs.Witnesses.{series_of}
use Rattle.ts_search.proofs.Witnessed.{asked, each_after, get_set, held_after, shown_alive}
use Rattle.ts_search.specs.LineOf.{is_refuted_at, last, requirements}
use Rattle.ts_search.specs.Posed.{IsPosed}
use Rattle.ts_search.specs.Shown.{AreEnds, AreHeld, AreMarked, AreMet, AreShown, CanSpare, IsEnds, IsHeld, OfEach, is_shown}
use Rattle.ts_search.specs.Views.{search_of}
use Rattle.ts_search.specs.declared.marked.Looked.{Looked}
use Rattle.ts_search.specs.declared.problem.Problem.{Problem}
use Rattle.ts_search.specs.declared.shown.Shown.{Shown}
use Rattle.ts_search.specs.declared.witnesses.Witnesses.{Witnesses}

-- a value of a cell of the box is one of the model's
inside_at : (b m : Box) (i : ℕ) (v : ℤ) → IsInside b m → Contains (get_or b i []) v → Contains (get_or m i []) v
inside_at [] [] i v h has = has
inside_at [] (e ∷ m) i v h has = absurd h
inside_at (d ∷ b) [] i v h has = absurd h
inside_at (d ∷ b) (e ∷ m) zero v h has = h.0 v has
inside_at (d ∷ b) (e ∷ m) (suc i) v h has = inside_at b m i v h.1 has

-- where all requirements on a term are met none of them is refuted

module _ (q : Problem) (posed : IsPosed q) (w : Witnesses) (b : Box) (part : IsPart b (search_of q).model.cells) (shown : AreShown q w b) where
  pub alive_term : (term : ℕ) → AreMet q w term → IsAliveTerm q.model.now.requirements.items (search_of q).spans b term
  alive_term term met p j r is on refuted =
      let from = is.0 in
      let below = slice_get_within q.model.now.requirements.items (j - 1) r is.1 in
      clash (is_refuted_at (search_of q) j p b) (((tests_tell (search_of q).spans).refuted q.model.now.requirements.items j p b).1 refuted)
      (shown_alive q posed w b part shown j from (omega (arith, from, below)) (is_shown w j) refl (met j r is on) p)

  -- a requirement on a term has a witness

  shown_there : (j : ℕ) (o : Option Shown) → slice_get w.each.items (j - 1) ≡ o → unwrap_or (option_map (λ (s : Shown). s.met) o) false ≡ true →
      (s : Shown) × (slice_get w.each.items (j - 1) ≡ Some s)
  shown_there j None e met = absurd (let z : ◌≡◌ {A = Bool} false true = met in cc)
  shown_there j (Some s) e met = (s, e)

  pub met_there : (term i : ℕ) (r : Require) → AreMet q w term → slice_get q.model.now.requirements.items i ≡ Some r → r.term ≡ term →
      (s : Shown) × (slice_get w.each.items i ≡ Some s)
  met_there term i r met is on =
      let at : suc i - 1 ≡ i = omega arith in
      let s = shown_there (suc i) (slice_get w.each.items (suc i - 1)) refl
      (met (suc i) r (omega arith, ap (slice_get q.model.now.requirements.items) at ∙ is) on) in
      (s.0, ap (slice_get w.each.items) (sym at) ∙ s.1)

  -- the witness of a requirement on a term, and what it is asked of a cell

  module _ (i : ℕ) (s : Shown) (r : Require) (there : slice_get w.each.items i ≡ Some s) (require : slice_get q.model.now.requirements.items i ≡ Some r)
      (at : Looked) (on : r.term ≡ at.term) (spare : CanSpare q at) (cell : HasCell at.cell b) where
    machine_is : slice_get (automata_in (model_parts q.model.now)) at.term ≡ Some (automata_of s.machine.now)
    machine_is = ap (slice_get (automata_in (model_parts q.model.now))) (sym on) ∙ shown.held.machine i s r there require

    looks : LooksInside (last (search_of q)) (window_of s.machine.now)
    looks = window_looks (search_of q).model posed.right.whole r.term (automata_of s.machine.now) (shown.held.machine i s r there require)

    pub spares_split : IsSome (pair_of s.machine.now)
    spares_split = (spare (automata_of s.machine.now) machine_is).0

    is_looked_there : is_looked (window_of s.machine.now) at.cell ≡ true
    is_looked_there = (spare (automata_of s.machine.now) machine_is).1

    place_is : place_in (window_of s.machine.now) at.cell ≡ at.place
    place_is = (spare (automata_of s.machine.now) machine_is).2

    size : length b ≡ last (search_of q)
    size = inside_length b (search_of q).model.cells part.inside

    bounds : (1 ≤ at.place) × (at.place ≤ count_looked (window_of s.machine.now) (last (search_of q)))
    bounds =
        let to = cell.1 in let n = size in
        subst (λ p. (1 ≤ p) × (p ≤ count_looked (window_of s.machine.now) (last (search_of q)))) place_is
        (place_bounds (window_of s.machine.now) (last (search_of q)) at.cell looks cell.0 (omega (arith, to, n)))

    pub spares_from : 1 ≤ at.place
    spares_from = bounds.0

    pub spares_to : at.place ≤ length (series_of s.witness)
    spares_to = let count = shown.held.count i s r there require in let to = bounds.1 in omega (arith, count, to)

    pub spares_count : length s.spared.cells.now ≡ length (series_of s.witness)
    spares_count =
        ap length (shown.held.domains i s r there require) ∙ looked_length (window_of s.machine.now) (search_of q).model.cells looks
        ∙ sym (shown.held.count i s r there require)

    pub spares_few : length (series_of s.witness) ≤ most_cells
    spares_few =
        let long = spares_count in
        let count = shown.held.count i s r there require in
        let few = posed.right.whole.few in
        let l = (ends_inside (window_of s.machine.now) (last (search_of q)) looks).1 in
        omega (arith, count, few, l)

    -- the domain at its place is the model's
    domain_is : get_or s.spared.cells.now (at.place - 1) [] ≡ values_at at.cell (search_of q).model.cells
    domain_is =
        ap (λ z. get_or z (at.place - 1) []) (shown.held.domains i s r there require)
        ∙ ap (λ p. get_or (looked_at (window_of s.machine.now) (search_of q).model.cells) (p - 1) []) (sym place_is)
        ∙ looked_get (search_of q).model.cells at.cell (window_of s.machine.now) [] looks is_looked_there

    pub value_known : (v : ℤ) → Contains (values_at at.cell b) v → Contains (get_or s.spared.cells.now (at.place - 1) []) v
    value_known v has = subst (λ d. Contains d v) (sym domain_is) (inside_at b (search_of q).model.cells (at.cell - 1) v part.inside has)

    pub spared_there : (low limit : ℤ) → ((v : ℤ) → Contains (values_at at.cell b) v → low ≤ℤ v) →
        ((v : ℤ) → Contains (get_or s.spared.cells.now (at.place - 1) []) v → low ≤ℤ v → v ≤ℤ limit →
        IsKept (automata_of s.machine.now) r (series_of s.witness) at.place v) →
        (v : ℤ) → v ≤ℤ limit → IsDrop q.model.now.requirements.items (search_of q).spans at.cell v (i + 1) b → ⊥
    spared_there low limit least kept v up drop =
        let j : i + 1 - 1 ≡ i = omega arith in
        clash (is_drop q.model.now.requirements.items (search_of q).spans at.cell v (i + 1) b)
        (((tests_tell (search_of q).spans).drop q.model.now.requirements.items at.cell v (i + 1) b).1 drop)
        (kept v (value_known v drop.there) (least v drop.there) up (search_of q).model (spans_in (search_of q).model) (i + 1) b
        (asked q posed w b part shown (i + 1) s r (omega arith) (ap (slice_get w.each.items) j ∙ there)
        (ap (slice_get q.model.now.requirements.items) j ∙ require)) at.cell cell is_looked_there place_is drop.there)

    -- the witness is as before but for what it knows

    module _ (new : Shown) (w' : Witnesses) (change : w'.each.items ≡ set w.each.items i new) (marks : w'.kept ≡ w.kept) (ends : w'.ends ≡ w.ends)
        (machine : new.machine ≡ s.machine) (cells : new.spared.cells ≡ s.spared.cells) (is_held : IsHeld r new)
        (series : series_of new.witness ≡ series_of s.witness) (met : new.met ≡ s.met)
      where
        in_box : InBox (series_of new.witness) (looked_at (window_of s.machine.now) b)
        in_box = subst (λ x. InBox x (looked_at (window_of s.machine.now) b)) (sym series) (shown.inside i s r there require)

        pub shown_after : AreShown q w' b
        shown_after = record {
          held = held_after q posed w b part shown.held i s r there require new w' change marks ends machine cells is_held in_box;
          inside = each_after q w w' i new r (λ r s. InBox (series_of s.witness) (looked_at (window_of s.machine.now) b)) change require shown.inside
              (subst (λ z. InBox (series_of new.witness) (looked_at (window_of z.now) b)) (sym machine) in_box);
        }

        same_met : (xs : List Shown) (i k : ℕ) → slice_get xs i ≡ Some s →
            option_map (λ (s : Shown). s.met) (slice_get (set xs i new) k) ≡ option_map (λ (s : Shown). s.met) (slice_get xs k)
        same_met [] i k e = refl
        same_met (x ∷ xs) zero zero e = ap Some (met ∙ ap (λ (z : Shown). z.met) (sym (same_Some x s e)))
        same_met (x ∷ xs) zero (suc k) e = refl
        same_met (x ∷ xs) (suc i) zero e = refl
        same_met (x ∷ xs) (suc i) (suc k) e = same_met xs i k e

        pub met_after : (term : ℕ) → AreMet q w term → AreMet q w' term
        met_after term h j r is on =
            ap (λ z. unwrap_or (option_map (λ (s : Shown). s.met) (slice_get z (j - 1))) false) change
            ∙ ap (λ z. unwrap_or z false) (same_met w.each.items i (j - 1) there) ∙ h j r is on

-- a requirement of another term says nothing of this one
pub none_of_other : (q : Problem) (term i : ℕ) (r u : Require) → slice_get q.model.now.requirements.items i ≡ Some r → (r.term ≡ term → ⊥) →
    slice_get q.model.now.requirements.items i ≡ Some u → u.term ≡ term → ⊥
none_of_other q term i r u is apart also on = apart (ap (λ (z : Require). z.term) (same_Some r u (sym is ∙ also)) ∙ on)

-- above the greatest value of a cell there is none to be dropped
pub none_over : (q : Problem) (b : Box) (term cell : ℕ) (values : Interval) (limit more : ℤ) → IsEnds (values_at cell b) values →
    (more ≡ limit) ⊎ (limit ≡ values.high) → IsSpared q.model.now.requirements.items (search_of q).spans b term cell limit →
    IsSpared q.model.now.requirements.items (search_of q).spans b term cell more
none_over q b term cell values limit more ends (inl e) spared = subst (IsSpared q.model.now.requirements.items (search_of q).spans b term cell) (sym e) spared
none_over q b term cell values limit more ends (inr e) spared =
    λ v j r c up is on drop. spared v j r c (let high = (ends.all v drop.there).1 in omega (arith, ints, e, high)) is on drop

-- the requirements before a place drop nothing of the cell up to the limit
abbrev pub SparedBelow : Problem → Box → Looked → ℤ → ℕ → Type 0
SparedBelow q b at limit n =
    (i : ℕ) (r : Require) → i < n → slice_get q.model.now.requirements.items i ≡ Some r → r.term ≡ at.term →
    (v : ℤ) → v ≤ℤ limit → IsDrop q.model.now.requirements.items (search_of q).spans at.cell v (i + 1) b → ⊥

pub below_split : (k i : ℕ) → k < i + 1 → (k ≡ i → ⊥) → k < i
below_split zero zero l n = absurd (n refl)
below_split zero (suc i) l n = omega arith
below_split (suc k) zero l n = absurd (omega (arith, l))
below_split (suc k) (suc i) l n = let h = below_split k i (omega (arith, l)) (λ z. n (ap suc z)) in omega (arith, h)

pub same_or_other : (i n : ℕ) → (i ≡ n) ⊎ (i ≡ n → ⊥)
same_or_other zero zero = inl refl
same_or_other zero (suc n) = inr (λ e. omega (arith, e))
same_or_other (suc i) zero = inr (λ e. omega (arith, e))
same_or_other (suc i) (suc n) = ⊎_elim (λ e. inl (ap suc e)) (λ apart. inr (λ e. apart (omega (arith, e)))) (same_or_other i n)

pub spared_next : (q : Problem) (b : Box) (at : Looked) (limit less : ℤ) (n : ℕ) → less ≤ℤ limit → SparedBelow q b at limit n →
    ((r : Require) → slice_get q.model.now.requirements.items n ≡ Some r → r.term ≡ at.term →
    (v : ℤ) → v ≤ℤ less → IsDrop q.model.now.requirements.items (search_of q).spans at.cell v (n + 1) b → ⊥) →
    SparedBelow q b at less (n + 1)
spared_next q b at limit less n under h one i r below is on v up drop =
    ⊎_elim
    (λ e. one r (ap (slice_get q.model.now.requirements.items) (sym e) ∙ is) on v up
    (subst (λ z. IsDrop q.model.now.requirements.items (search_of q).spans at.cell v (z + 1) b) e drop))
    (λ apart. h i r (below_split i n below apart) is on v (omega (arith, ints, under, up)) drop)
    (same_or_other i n)

-- in the end no requirement on the term drops a value of the cell up to the limit
pub all_spared : (q : Problem) (b : Box) (at : Looked) (limit : ℤ) (n : ℕ) → SparedBelow q b at limit n → length q.model.now.requirements.items ≤ n →
    IsSpared q.model.now.requirements.items (search_of q).spans b at.term at.cell limit
all_spared q b at limit n h few v j r c up is on drop =
    let below = slice_get_within q.model.now.requirements.items (j - 1) r is.1 in
    let from = is.0 in
    let next : j ≡ j - 1 + 1 = omega (arith, from) in
    h (j - 1) r (omega (arith, below, few)) is.1 on v up (subst (λ z. IsDrop q.model.now.requirements.items (search_of q).spans at.cell v z b) next drop)

-- the machine of a witness of a requirement on the term is the term's, and looks at cells of the model

pub on_term : (q : Problem) (w : Witnesses) → AreHeld q w → (term i : ℕ) (s : Shown) (r : Require) → slice_get w.each.items i ≡ Some s →
    slice_get q.model.now.requirements.items i ≡ Some r → r.term ≡ term → slice_get (automata_in (model_parts q.model.now)) term
    ≡ Some (automata_of s.machine.now)
on_term q w held term i s r there is on = ap (slice_get (automata_in (model_parts q.model.now))) (sym on) ∙ held.machine i s r there is

pub looks_on : (q : Problem) → IsPosed q → (w : Witnesses) → AreHeld q w → (term i : ℕ) (s : Shown) (r : Require) → slice_get w.each.items i ≡ Some s →
    slice_get q.model.now.requirements.items i ≡ Some r → r.term ≡ term → LooksInside (last (search_of q)) (window_of s.machine.now)
looks_on q posed w held term i s r there is on =
    window_looks (search_of q).model posed.right.whole term (automata_of s.machine.now) (on_term q w held term i s r there is on)

-- the cells of a term, and their places
pub can_spare : (q : Problem) (term k first : ℕ) (a : Automata) (at : Looked) → slice_get (automata_in (model_parts q.model.now)) term ≡ Some a →
    LooksInside (last (search_of q)) a.window → IsSome a.pair → first ≡ first_looked a.window → first_looked a.window ≤ k →
    k ≤ last_looked a.window (last (search_of q)) → at.term ≡ term → at.cell ≡ k → at.place ≡ k - (first - 1) → CanSpare q at
can_spare q term k first a at is inside split is_first from to is_term is_cell is_place d e =
    let same = same_Some a d (sym is ∙ ap (slice_get (automata_in (model_parts q.model.now))) (sym is_term) ∙ e) in
    let looked = looked_by a.window (last (search_of q)) k from to in
    subst (λ z. IsSome z.pair × (is_looked z.window at.cell ≡ true) × (place_in z.window at.cell ≡ at.place)) same (
      split,
      ap (is_looked a.window) is_cell ∙ looked,
      ap (place_in a.window) is_cell ∙ place_inside a.window k looked ∙ ap (λ z. k - (z - 1)) (sym is_first) ∙ sym is_place,
    )

-- other marks, and the same witnesses

module _ (q : Problem) (w w' : Witnesses) (same : w'.each.items ≡ w.each.items) (long : length w'.ends.items ≡ length w.ends.items) where
  each_with_marks : (Is : Require → Shown → Type 0) → OfEach q w Is → OfEach q w' Is
  each_with_marks Is h i s r e f = h i s r (ap (λ z. slice_get z i) (sym same) ∙ e) f

  pub shown_with_marks : (b : Box) → AreSized (length q.model.now.terms.entries) (last (search_of q)) w'.kept → AreShown q w b → AreShown q w' b
  shown_with_marks b sized h = record {
    held = record {
      few = subst (λ z. length z ≤ requirements (search_of q)) (sym same) h.held.few;
      machine = each_with_marks (λ r s. slice_get (automata_in (model_parts q.model.now)) r.term ≡ Some (automata_of s.machine.now)) h.held.machine;
      each = each_with_marks IsHeld h.held.each;
      count = each_with_marks (λ r s. length (series_of s.witness) ≡ count_looked (window_of s.machine.now) (last (search_of q))) h.held.count;
      domains = each_with_marks (λ r s. s.spared.cells.now ≡ looked_at (window_of s.machine.now) (search_of q).model.cells) h.held.domains;
      sized = sized;
      ends = long ∙ h.held.ends;
    };
    inside = each_with_marks (λ r s. InBox (series_of s.witness) (looked_at (window_of s.machine.now) b)) h.inside;
  }

  pub met_with_marks : (term : ℕ) → AreMet q w term → AreMet q w' term
  met_with_marks term h j r is on =
      ap (λ z. unwrap_or (option_map (λ (s : Shown). s.met) (slice_get z (j - 1))) false) same ∙ h j r is on

-- nothing is marked, then a term, then a cell

module _ (q : Problem) (posed : IsPosed q) (w w' : Witnesses) (b : Box) (same : w'.each.items ≡ w.each.items) where
  pub mark_none : length w'.ends.items ≡ length w.ends.items → AreEnds b w'.ends.items → w'.kept ≡ map forgotten w.kept → AreShown q w b → AreMarked q w' b
  mark_none long ends change h = record {
    shown = shown_with_marks q w w' same long b
        (subst (AreSized (length q.model.now.terms.entries) (last (search_of q))) (sym change)
        (forgotten_sized (length q.model.now.terms.entries) (last (search_of q)) w.kept h.held.sized)) h;
    marks = subst (AreKept q.model.now.requirements.items (search_of q).spans b) (sym change)
        (forgotten_kept q.model.now.requirements.items (search_of q).spans b w.kept);
    ends = ends;
  }

  pub mark_alive : (term : ℕ) → w'.ends ≡ w.ends → w'.kept ≡ with_known with_alive term w.kept → IsPart b (search_of q).model.cells → AreMet q w term →
      AreMarked q w b →
      AreMarked q w' b
  mark_alive term ends change part met h = record {
    shown = shown_with_marks q w w' same (ap (λ z. length z.items) ends) b
        (subst (AreSized (length q.model.now.terms.entries) (last (search_of q))) (sym change)
        (term_sized (length q.model.now.terms.entries) (last (search_of q)) term w.kept h.shown.held.sized)) h.shown;
    marks = subst (AreKept q.model.now.requirements.items (search_of q).spans b) (sym change)
        (term_kept q.model.now.requirements.items (search_of q).spans b w.kept term h.marks (alive_term q posed w b part h.shown term met));
    ends = subst (λ z. AreEnds b z.items) (sym ends) h.ends;
  }

  pub mark_spared : (term k : ℕ) (limit : ℤ) → 1 ≤ k → w'.ends ≡ w.ends → w'.kept ≡ with_known (with_spared k limit) term w.kept →
      IsSpared q.model.now.requirements.items (search_of q).spans b term k limit → AreMarked q w b → AreMarked q w' b
  mark_spared term k limit from ends change spared h = record {
    shown = shown_with_marks q w w' same (ap (λ z. length z.items) ends) b
        (subst (AreSized (length q.model.now.terms.entries) (last (search_of q))) (sym change)
        (cell_sized (length q.model.now.terms.entries) (last (search_of q)) term k limit w.kept h.shown.held.sized)) h.shown;
    marks = subst (AreKept q.model.now.requirements.items (search_of q).spans b) (sym change)
        (cell_kept q.model.now.requirements.items (search_of q).spans b w.kept term k limit from h.marks spared);
    ends = subst (λ z. AreEnds b z.items) (sym ends) h.ends;
  }

-- the requirements on a term before a place are met

abbrev pub AreMetBelow : Problem → Witnesses → ℕ → ℕ → Type 0
AreMetBelow q w term n =
    (i : ℕ) (r : Require) → i < n → slice_get q.model.now.requirements.items i ≡ Some r → r.term ≡ term → is_shown w (i + 1) ≡ true

-- the ends of the domains before a place

abbrev pub AreEndsBelow : Box → List Interval → ℕ → Type 0
AreEndsBelow b ends n = (i : ℕ) (e : Interval) → i < n → slice_get ends i ≡ Some e → IsEnds (get_or b i []) e

pub ends_next : (b : Box) (old new : List Interval) (n : ℕ) (e : Interval) → AreEndsBelow b old n → new ≡ set old n e → IsEnds (get_or b n []) e →
    AreEndsBelow b new (n + 1)
ends_next b old new n e h change is i u below there =
    ⊎_elim (λ same. subst (λ z. IsEnds (get_or b z []) u) (sym same.0) (subst (IsEnds (get_or b n [])) (sym same.1) is))
    (λ other. h i u (below_split i n below other.0) other.1) (get_set old n i e u (ap (λ z. slice_get z i) (sym change) ∙ there))

pub all_ends : (b : Box) (ends : List Interval) (n : ℕ) → AreEndsBelow b ends n → length ends ≤ n → AreEnds b ends
all_ends b ends n h few i e there = let below = slice_get_within ends i e there in h i e (omega (arith, below, few)) there
