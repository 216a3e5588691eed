-- What witnesses show of a box, and how they come to lie in it.
use Rattle.std.proofs.Common.{◌≡◌, ◌⊎◌, ℕ, zero, suc, ◌+◌, ◌-◌, ◌<◌, ◌≤◌, ℤ, pos, Bool, true, false, List, [], ◌∷◌, ◌++◌, length, get_or, map, replicate, set, Option, Some, None, slice_get, refl, sym, ◌∙◌, ap, subst, inl, inr, ⊎_elim, arith}
use Rattle.std.proofs.lemmas.List.{get_or-set_same, get_or-set_other, length-map, length-set}
use Rattle.std.proofs.lemmas.Option.{same_Some, slice_get-get_or}
use Rattle.std.specs.Prelude.{Contains, IsTrue, option_map, unwrap_or}
use Rattle.ts_base.specs.declared.range.Range.{Range}
use Rattle.ts_base.specs.Windows.{LooksInside, looked_at}
use Rattle.ts_base.proofs.WindowLaws.{few_looked}
use Rattle.ts_bound.specs.Looks.{count_looked, first_looked, last_looked, place_in}
use Rattle.ts_bound.specs.TermSpans.{LooksIn, automata_of}
use Rattle.ts_bound.proofs.Looking.{ends_inside, looked_by, looked_get, looked_length, place_inside}
use Rattle.ts_bound.proofs.Reached.{box_length}
use Rattle.ts_base.specs.Limits.{IsCellValue, most_cells}
use Rattle.ts_automaton.specs.AutomatonRun.{AreCellValues}
use Rattle.ts_domain.specs.BoxSeries.{InBox}
use Rattle.ts_domain.specs.Values.{IsDomain, WithinLimits}
use Rattle.ts_domain.proofs.Sets.{each_contains}
use Rattle.ts_filter.specs.Boxes.{Box, IsPart}
use Rattle.ts_filter.specs.KeptCells.{AreSized, TermKept, unknown}
use Rattle.ts_filter.proofs.BoxParts.{inside_length}
use Rattle.ts_filter.proofs.SparedLaws.{none_sized}
use Rattle.ts_model.specs.declared.model.Require.{Require}
use Rattle.ts_model.specs.Views.{model_parts}
use Rattle.ts_spans.specs.Machines.{automata_in, spans_in}
use Rattle.ts_spans.proofs.OfTerms.{machines_answer, window_looks}
use Rattle.ts_glue.specs.declared.machine.Machine.{Machine}
use Rattle.ts_glue.specs.Machines.{window_of}
use Rattle.ts_witness.specs.Laws.{IsAsked}
use Rattle.ts_witness.specs.Witnesses.{series_of}
use Rattle.ts_search.proofs.CallLaws.{least_is}
use Rattle.ts_search.proofs.Posed.{required_there, tables_long}
use Rattle.ts_search.specs.LineOf.{inner, is_refuted_at, last, requirements}
use Rattle.ts_search.specs.Drops.{least}
use Rattle.ts_search.specs.Posed.{IsPosed}
use Rattle.ts_search.specs.Shown.{AreHeld, AreShown, IsHeld, OfEach, Seats, is_shown}
use Rattle.ts_search.specs.Views.{search_of}
use Rattle.ts_search.specs.declared.problem.Problem.{Problem}
use Rattle.ts_search.specs.declared.shown.Shown.{Shown}
use Rattle.ts_search.specs.declared.witnesses.Witnesses.{Witnesses}

nothing : (i : ℕ) (s : Shown) (es : List Shown) → es ≡ [] → slice_get es i ≡ Some s → ⊥
nothing i s es none e = let g : ◌≡◌ {A = Option Shown} None (Some s) = sym (ap (λ z. slice_get z i) none) ∙ e in cc

-- marks that nothing is marked in fit the model

pub unmarked_sized : (q : Problem) (kept : List TermKept) → kept ≡ replicate (length q.model.now.terms.entries) (unknown (last (search_of q))) →
    AreSized (length q.model.now.terms.entries) (last (search_of q)) kept
unmarked_sized q kept e =
    subst (AreSized (length q.model.now.terms.entries) (last (search_of q))) (sym e) (none_sized (length q.model.now.terms.entries) (last (search_of q)))

-- a requirement whose witness meets it is refuted nowhere

there : {A : Type 0} (xs : List A) (i : ℕ) → i < length xs → (x : A) × (slice_get xs i ≡ Some x)
there [] i l = absurd (omega (arith, l))
there (x ∷ xs) zero l = (x, refl)
there (x ∷ xs) (suc i) l = there xs i (omega (arith, l))

module _ (q : Problem) (posed : IsPosed q) (w : Witnesses) (b : Box) (part : IsPart b (search_of q).model.cells) (shown : AreShown q w b) where
  pub asked : (j : ℕ) (s : Shown) (r : Require) → 1 ≤ j → slice_get w.each.items (j - 1) ≡ Some s → slice_get q.model.now.requirements.items (j - 1) ≡ Some r →
      IsAsked (automata_of s.machine.now) r (series_of s.witness) (search_of q).model (spans_in (search_of q).model) j b
  asked j s r from e f =
      let m = (search_of q).model in
      let machine = shown.held.machine (j - 1) s r e f in
      record {
        holds = posed.right.holds;
        answers = λ x h. machines_answer m posed.right.whole posed.right.box r.term (automata_of s.machine.now) machine x h;
        part = part;
        looks = subst (λ n. LooksInside n (window_of s.machine.now)) (sym (inside_length b m.cells part.inside))
            (window_looks m posed.right.whole r.term (automata_of s.machine.now) machine);
        require = (from, f);
        series = shown.inside (j - 1) s r e f;
      }

  pub shown_alive : (j : ℕ) → 1 ≤ j → j ≤ requirements (search_of q) → (told : Bool) → told ≡ is_shown w j → told ≡ true →
      (p : ℕ) → is_refuted_at (search_of q) j p b ≡ false
  shown_alive j from to told is t p = go (slice_get w.each.items (j - 1)) refl (sym is ∙ t)
    where
      r : (x : Require) × (slice_get q.model.now.requirements.items (j - 1) ≡ Some x)
      r = there q.model.now.requirements.items (j - 1) (omega (arith, from, to))

      go : (o : Option Shown) → slice_get w.each.items (j - 1) ≡ o → IsTrue (unwrap_or (option_map (λ (s : Shown). s.met) o) false) →
          is_refuted_at (search_of q) j p b ≡ false
      go None e met = absurd (let z : ◌≡◌ {A = Bool} false true = met in cc)
      go (Some s) e met =
          (shown.held.each (j - 1) s r.0 e r.1).alive met (search_of q).model (spans_in (search_of q).model) j b (asked j s r.0 from e r.1) p

  pub shown_nowhere : (j : ℕ) → 1 ≤ j → j ≤ requirements (search_of q) → (told : Bool) → told ≡ is_shown w j → told ≡ true →
      None ≡ least (λ p. is_refuted_at (search_of q) j p b) (inner (search_of q)) 1
  shown_nowhere j from to told is t =
      least_is (λ p. is_refuted_at (search_of q) j p b) (inner (search_of q)) 1 None (λ p low high. shown_alive j from to told is t p)

-- one witness is changed

pub get_set : {A : Type 0} (xs : List A) (i k : ℕ) (y s : A) → slice_get (set xs i y) k ≡ Some s →
    ((k ≡ i) × (s ≡ y)) ⊎ ((k ≡ i → ⊥) × (slice_get xs k ≡ Some s))
get_set {A} [] i k y s e = absurd (let z : ◌≡◌ {A = Option A} None (Some s) = e in cc)
get_set (x ∷ xs) zero zero y s e = inl (refl, sym (same_Some y s e))
get_set (x ∷ xs) zero (suc k) y s e = inr ((λ z. omega (arith, z)), e)
get_set (x ∷ xs) (suc i) zero y s e = inr ((λ z. omega (arith, z)), e)
get_set (x ∷ xs) (suc i) (suc k) y s e =
    ⊎_elim (λ h. inl (ap suc h.0, h.1)) (λ h. inr ((λ z. h.0 (omega (arith, z))), h.1)) (get_set xs i k y s e)

-- what holds of all witnesses, and of the new one, holds of all after the change
pub each_after : (q : Problem) (w w' : Witnesses) (i : ℕ) (new : Shown) (r : Require) (Is : Require → Shown → Type 0) →
    w'.each.items ≡ set w.each.items i new → slice_get q.model.now.requirements.items i ≡ Some r → OfEach q w Is → Is r new → OfEach q w' Is
each_after q w w' i new r Is change require h is k s t e f =
    ⊎_elim
    (λ same. let one = same_Some r t (sym require ∙ ap (slice_get q.model.now.requirements.items) (sym same.0) ∙ f) in
    subst (λ z. Is t z) (sym same.1) (subst (λ z. Is z new) one is))
    (λ other. h k s t other.1 f)
    (get_set w.each.items i k new s (ap (λ z. slice_get z k) (sym change) ∙ e))

-- the series of the first n witnesses are in the box
abbrev pub InsideUpTo : Problem → Witnesses → Box → ℕ → Type 0
InsideUpTo q w b n =
    (i : ℕ) (s : Shown) (r : Require) → i < n → slice_get w.each.items i ≡ Some s → slice_get q.model.now.requirements.items i ≡ Some r →
    InBox (series_of s.witness) (looked_at (window_of s.machine.now) b)

pub inside_next : (q : Problem) (w w' : Witnesses) (b : Box) (i : ℕ) (new : Shown) (r : Require) → w'.each.items ≡ set w.each.items i new →
    slice_get q.model.now.requirements.items i ≡ Some r → InsideUpTo q w b i → InBox (series_of new.witness) (looked_at (window_of new.machine.now) b) →
    InsideUpTo q w' b (i + 1)
inside_next q w w' b i new r change require h is k s t below e f =
    ⊎_elim
    (λ same. subst (λ (z : Shown). InBox (series_of z.witness) (looked_at (window_of z.machine.now) b)) (sym same.1) is)
    (λ other. let apart = other.0 in h k s t (before k i below apart) other.1 f)
    (get_set w.each.items i k new s (ap (λ z. slice_get z k) (sym change) ∙ e))
  where
    before : (k i : ℕ) → k < i + 1 → (k ≡ i → ⊥) → k < i
    before zero zero l n = absurd (n refl)
    before zero (suc i) l n = omega arith
    before (suc k) zero l n = absurd (omega (arith, l))
    before (suc k) (suc i) l n = let h = before k i (omega (arith, l)) (λ z. n (ap suc z)) in omega (arith, h)

pub all_inside : (q : Problem) (w : Witnesses) (b : Box) (n : ℕ) → AreHeld q w → InsideUpTo q w b n → length w.each.items ≤ n → AreShown q w b
all_inside q w b n held h all = record { held = held; inside = λ i s r e f. h i s r (within w.each.items i s n e all) e f }
  where
    within : (xs : List Shown) (i : ℕ) (s : Shown) (n : ℕ) → slice_get xs i ≡ Some s → length xs ≤ n → i < n
    within [] i s n e l = absurd (let z : ◌≡◌ {A = Option Shown} None (Some s) = e in cc)
    within (x ∷ xs) zero s n e l = omega (arith, l)
    within (x ∷ xs) (suc i) s zero e l = absurd (omega (arith, l))
    within (x ∷ xs) (suc i) s (suc n) e l = let h = within xs i s n e (omega (arith, l)) in omega (arith, h)

-- a series whose first values are in their domains

abbrev pub IsInUpTo : List ℤ → Box → ℕ → Type 0
IsInUpTo x b n = (i : ℕ) → i < n → Contains (get_or b i []) (get_or x i (pos 0))

pub seated : (old new values : List ℤ) (b : Box) (i : ℕ) → i < length old → get_or b i [] ≡ values → IsInUpTo old b i → Seats old i values new →
    IsInUpTo new b (i + 1)
seated old new values b i l same h seats k below = go k below
  where
    v : ℤ
    v = seats.0

    go : (k : ℕ) → k < i + 1 → Contains (get_or b k []) (get_or new k (pos 0))
    go k below =
        ⊎_elim
        (λ e. subst (λ z. Contains (get_or b z []) (get_or new z (pos 0))) (sym e)
        (subst (λ z. Contains z (get_or new i (pos 0))) (sym same)
        (subst (Contains values) (sym (ap (λ z. get_or z i (pos 0)) seats.2 ∙ get_or-set_same old i v (pos 0) l)) seats.1)))
        (λ lt. subst (Contains (get_or b k [])) (sym (ap (λ z. get_or z k (pos 0)) seats.2 ∙ get_or-set_other old i k v (pos 0) (λ e. less k i lt e))) (h k lt))
        (split k i below)
      where
        less : (k i : ℕ) → k < i → k ≡ i → ⊥
        less k i l e = omega (arith, l, e)

        split : (k n : ℕ) → k < n + 1 → (k ≡ n) ⊎ (k < n)
        split zero zero h = inl refl
        split zero (suc n) h = inr (omega arith)
        split (suc k) zero h = absurd (omega (arith, h))
        split (suc k) (suc n) h = ⊎_elim (λ e. inl (ap suc e)) (λ l. inr (omega (arith, l))) (split k n (omega (arith, h)))

pub in_box_each : (x : List ℤ) (b : Box) → length x ≡ length b → IsInUpTo x b (length b) → InBox x b
in_box_each [] [] e h = tt
in_box_each [] (d ∷ b) e h = absurd (omega (arith, e))
in_box_each (v ∷ x) [] e h = absurd (omega (arith, e))
in_box_each (v ∷ x) (d ∷ b) e h = (h zero (omega arith), in_box_each x b (omega (arith, e)) (λ i l. h (suc i) (omega (arith, l))))

-- what stands there already stays
set_there : (x : List ℤ) (i : ℕ) (v : ℤ) → slice_get x i ≡ Some v → set x i v ≡ x
set_there [] i v e = refl
set_there (u ∷ x) zero v e = ap (λ z. z ∷ x) (sym (same_Some u v e))
set_there (u ∷ x) (suc i) v e = ap (λ z. u ∷ z) (set_there x i v e)

pub stays_seated : (x values : List ℤ) (i : ℕ) (v : ℤ) → slice_get x i ≡ Some v → Contains values v → Seats x i values x
stays_seated x values i v e c = (v, c, sym (set_there x i v e))

pub unchanged : (x values : List ℤ) (i : ℕ) → i < length x → ((v : ℤ) → slice_get x i ≡ Some v → Contains values v) → Seats x i values x
unchanged x values i below h = let v = there x i below in stays_seated x values i v.0 v.1 (h v.0 v.1)

set_cells : (x : List ℤ) (i : ℕ) (v : ℤ) → AreCellValues x → IsCellValue v → AreCellValues (set x i v)
set_cells [] i v h c = h
set_cells (u ∷ x) zero v h c = (c, h.1)
set_cells (u ∷ x) (suc i) v h c = (h.0, set_cells x i v h.1 c)

pub value_fits : (values : List ℤ) (v : ℤ) → IsDomain values → Contains values v → IsCellValue v
value_fits values v domain c = each_contains WithinLimits values v domain.within c

pub cells_after : (x y values : List ℤ) (i : ℕ) (v : ℤ) → AreCellValues x → IsDomain values → Contains values v → y ≡ set x i v → AreCellValues y
cells_after x y values i v cells domain c e = subst AreCellValues (sym e) (set_cells x i v cells (value_fits values v domain c))

-- a series of the box stays one where a value of the box is put
pub box_seats : (x y : List ℤ) (b : Box) (i : ℕ) → InBox x b → Seats x i (get_or b i []) y → InBox y b
box_seats x y b i h s = subst (λ z. InBox z b) (sym s.2) (put_in x b i s.0 h s.1)
  where
    put_in : (x : List ℤ) (b : Box) (i : ℕ) (v : ℤ) → InBox x b → Contains (get_or b i []) v → InBox (set x i v) b
    put_in [] b i v h c = h
    put_in (u ∷ x) [] i v h c = absurd h
    put_in (u ∷ x) (d ∷ b) zero v h c = (c, h.1)
    put_in (u ∷ x) (d ∷ b) (suc i) v h c = (h.0, put_in x b i v h.1 c)

-- the value of a series of the box at a place is one of the domain there
pub value_inside : (x : List ℤ) (b : Box) (i : ℕ) (v : ℤ) → InBox x b → slice_get x i ≡ Some v → Contains (get_or b i []) v
value_inside [] b i v h e = absurd (let z : ◌≡◌ {A = Option ℤ} None (Some v) = e in cc)
value_inside (u ∷ x) [] i v h e = absurd h
value_inside (u ∷ x) (d ∷ b) zero v h e = subst (Contains d) (same_Some u v e) h.0
value_inside (u ∷ x) (d ∷ b) (suc i) v h e = value_inside x b i v h.1 e

-- the domain of a cell that is looked at, at its place
pub domain_there : (w : Option Range) (b : Box) (k : ℕ) → LooksInside (length b) w → first_looked w ≤ k → k ≤ last_looked w (length b) →
    get_or (looked_at w b) (k - first_looked w) [] ≡ get_or b (k - 1) []
domain_there w b k h from to =
    let looked = looked_by w (length b) k from to in
    let first = (ends_inside w (length b) h).0 in
    let at : place_in w k - 1 ≡ k - first_looked w = (let place = place_inside w k looked in omega (arith, place, from, first)) in
    ap (λ i. get_or (looked_at w b) i []) (sym at) ∙ looked_get b k w [] h looked

-- witnesses as they are made

pub record IsMade (q : Problem) (r : Require) (s : Shown) : Type 0 where
  pub machine : slice_get (automata_in (model_parts q.model.now)) r.term ≡ Some (automata_of s.machine.now)
  pub held : IsHeld r s
  pub count : length (series_of s.witness) ≡ count_looked (window_of s.machine.now) (last (search_of q))
  pub domains : s.spared.cells.now ≡ looked_at (window_of s.machine.now) (search_of q).model.cells

abbrev pub AreMade : Problem → List Shown → Type 0
AreMade q es = (i : ℕ) (s : Shown) (r : Require) → slice_get es i ≡ Some s → slice_get q.model.now.requirements.items i ≡ Some r → IsMade q r s

pub none_made : (q : Problem) (es : List Shown) → es ≡ [] → AreMade q es
none_made q es none = λ i s r e f. absurd (nothing i s es none e)

get_push : {A : Type 0} (xs : List A) (k : ℕ) (y s : A) → slice_get (xs ++ y ∷ []) k ≡ Some s → ((k ≡ length xs) × (s ≡ y)) ⊎ (slice_get xs k ≡ Some s)
get_push [] zero y s e = inl (refl, sym (same_Some y s e))
get_push {A} [] (suc k) y s e = absurd (let z : ◌≡◌ {A = Option A} None (Some s) = e in cc)
get_push (x ∷ xs) zero y s e = inr e
get_push (x ∷ xs) (suc k) y s e = ⊎_elim (λ h. inl (ap suc h.0, h.1)) (λ h. inr h) (get_push xs k y s e)

pub one_more_made : (q : Problem) (es new : List Shown) (i : ℕ) (s : Shown) (r : Require) → AreMade q es → length es ≡ i → new ≡ es ++ s ∷ [] →
    slice_get q.model.now.requirements.items i ≡ Some r → IsMade q r s → AreMade q new
one_more_made q es new i s r h count change require is k t u e f =
    ⊎_elim
    (λ same. let one = same_Some r u (sym require ∙ ap (slice_get q.model.now.requirements.items) (sym (same.0 ∙ count)) ∙ f) in
    subst (λ z. IsMade q u z) (sym same.1) (subst (λ z. IsMade q z s) one is))
    (λ old. h k t u old f)
    (get_push es k s t (ap (λ z. slice_get z k) (sym change) ∙ e))

pub all_made : (q : Problem) (w : Witnesses) → length w.each.items ≤ requirements (search_of q) → AreMade q w.each.items →
    AreSized (length q.model.now.terms.entries) (last (search_of q)) w.kept → length w.ends.items ≡ last (search_of q) → AreHeld q w
all_made q w few h sized ends = record {
  few = few;
  machine = λ i s r e f. (h i s r e f).machine;
  each = λ i s r e f. (h i s r e f).held;
  count = λ i s r e f. (h i s r e f).count;
  domains = λ i s r e f. (h i s r e f).domains;
  sized = sized;
  ends = ends;
}

-- a cell that a machine looks at, from the first of them on
module _ (w : Option Range) (b : Box) (h : LooksInside (length b) w) (first last k : ℕ) (is_first : first ≡ first_looked w)
    (is_last : last ≡ last_looked w (length b)) (from : first_looked w ≤ k) (to : k < last + 1) where
  pub cell_from : 1 ≤ k
  cell_from = let f = (ends_inside w (length b) h).0 in omega (arith, f, from)

  pub cell_to : k ≤ length b
  cell_to = let l = (ends_inside w (length b) h).1 in omega (arith, l, to, is_last)

  pub place_below : k - first_looked w < length (looked_at w b)
  place_below =
      let f = (ends_inside w (length b) h).0 in
      let long = looked_length w b h in
      omega (arith, long, f, from, to, is_first, is_last)

  pub next_inside : (old new values : List ℤ) → length old ≡ length (looked_at w b) → values ≡ get_or b (k - 1) [] →
      IsInUpTo old (looked_at w b) (k - first_looked w) → Seats old (k - first + 1 - 1) values new → IsInUpTo new (looked_at w b) (k + 1 - first_looked w)
  next_inside old new values count is inside seats =
      let i = k - first_looked w in
      let at : k - first + 1 - 1 ≡ i = omega (arith, is_first, from) in
      let next : k + 1 - first_looked w ≡ i + 1 = omega (arith, from) in
      let below = place_below in
      subst (IsInUpTo new (looked_at w b)) (sym next)
      (seated old new values (looked_at w b) i (omega (arith, below, count)) (domain_there w b k h from (omega (arith, to, is_last)) ∙ sym is) inside
      (subst (λ z. Seats old z values new) at seats))

  pub seated_inside : (old new values : List ℤ) → values ≡ get_or b (k - 1) [] → InBox old (looked_at w b) → Seats old (k - first + 1 - 1) values new →
      InBox new (looked_at w b)
  seated_inside old new values is inside seats =
      let i = k - first_looked w in
      let at : k - first + 1 - 1 ≡ i = omega (arith, is_first, from) in
      let there = domain_there w b k h from (omega (arith, to, is_last)) in
      box_seats old new (looked_at w b) i inside
      (subst (λ z. Seats old i z new) (is ∙ sym there) (subst (λ z. Seats old z values new) at seats))

  -- the value that stands at the place is one of the domain
  pub value_at_place : (x values : List ℤ) (v : ℤ) → values ≡ get_or b (k - 1) [] → InBox x (looked_at w b) → slice_get x (k - first + 1 - 1) ≡ Some v →
      Contains values v
  value_at_place x values v is inside e =
      let i = k - first_looked w in
      let at : k - first + 1 - 1 ≡ i = omega (arith, is_first, from) in
      let there = domain_there w b k h from (omega (arith, to, is_last)) in
      subst (λ z. Contains z v) (there ∙ sym is) (value_inside x (looked_at w b) i v inside (ap (slice_get x) (sym at) ∙ e))

pub seats_length : (old new values : List ℤ) (i : ℕ) → Seats old i values new → length new ≡ length old
seats_length old new values i s = ap length s.2 ∙ length-set old i s.0

-- in the end all values of the series are in the box
pub brought : (w : Option Range) (b : Box) (x : List ℤ) (k last : ℕ) → LooksInside (length b) w → last ≡ last_looked w (length b) → last + 1 ≤ k →
    length x ≡ length (looked_at w b) → IsInUpTo x (looked_at w b) (k - first_looked w) → InBox x (looked_at w b)
brought w b x k last h is_last end count inside =
    in_box_each x (looked_at w b) count
    (λ i below. inside i (let long = looked_length w b h in let f = (ends_inside w (length b) h).0 in omega (arith, below, long, f, is_last, end)))

pub inside_few : (w : Option Range) (b : Box) (x : List ℤ) → LooksInside (length b) w → length b ≤ most_cells → InBox x (looked_at w b) →
    length x ≤ most_cells
inside_few w b x h few inside = let long = box_length x (looked_at w b) inside in let looked = few_looked w b h in omega (arith, long, looked, few)

-- a witness that is brought into the box
module _ (q : Problem) (posed : IsPosed q) (w : Witnesses) (b : Box) (part : IsPart b (search_of q).model.cells) (held : AreHeld q w) (i : ℕ) (s : Shown)
    (r : Require) (there : slice_get w.each.items i ≡ Some s) (require : slice_get q.model.now.requirements.items i ≡ Some r) where
  size : length b ≡ last (search_of q)
  size = inside_length b (search_of q).model.cells part.inside

  pub bring_looks : LooksIn (automata_of s.machine.now) b
  bring_looks =
      subst (λ n. LooksInside n (window_of s.machine.now)) (sym size)
      (window_looks (search_of q).model posed.right.whole r.term (automata_of s.machine.now) (held.machine i s r there require))

  pub bring_some : 1 ≤ length b
  bring_some = let some = posed.right.whole.some in let n = size in omega (arith, some, n)

  pub bring_few : length b ≤ most_cells
  bring_few = let few = posed.right.whole.few in let n = size in omega (arith, few, n)

  pub bring_count : length (series_of s.witness) ≡ length (looked_at (window_of s.machine.now) b)
  bring_count =
      held.count i s r there require ∙ ap (count_looked (window_of s.machine.now)) (sym size) ∙ sym (looked_length (window_of s.machine.now) b bring_looks)

  module _ (new : Shown) (w' : Witnesses) (change : w'.each.items ≡ set w.each.items i new) (marks : w'.kept ≡ w.kept) (ends : w'.ends ≡ w.ends)
      (machine : new.machine ≡ s.machine) (cells : new.spared.cells ≡ s.spared.cells) (is_held : IsHeld r new)
      (inside : InBox (series_of new.witness) (looked_at (window_of s.machine.now) b)) where
    pub held_after : AreHeld q w'
    held_after =
        let same = ap length change ∙ length-set w.each.items i new in
        let few = held.few in
        let count = box_length (series_of new.witness) (looked_at (window_of s.machine.now) b) inside ∙ sym bring_count ∙ held.count i s r there require in
        record {
          few = omega (arith, same, few);
          machine =
              each_after q w w' i new r (λ r s. slice_get (automata_in (model_parts q.model.now)) r.term ≡ Some (automata_of s.machine.now)) change require
              held.machine (held.machine i s r there require ∙ ap (λ z. Some (automata_of z.now)) (sym machine));
          each = each_after q w w' i new r IsHeld change require held.each is_held;
          count = each_after q w w' i new r (λ r s. length (series_of s.witness) ≡ count_looked (window_of s.machine.now) (last (search_of q))) change require
              held.count (count ∙ ap (λ z. count_looked (window_of z.now) (last (search_of q))) (sym machine));
          domains = each_after q w w' i new r (λ r s. s.spared.cells.now ≡ looked_at (window_of s.machine.now) (search_of q).model.cells) change require
              held.domains
              (ap (λ z. z.now) cells ∙ held.domains i s r there require ∙ ap (λ z. looked_at (window_of z.now) (search_of q).model.cells) (sym machine));
          sized = subst (AreSized (length q.model.now.terms.entries) (last (search_of q))) (sym marks) held.sized;
          ends = ap (λ z. length z.items) ends ∙ held.ends;
        }

    pub inside_after : InsideUpTo q w b i → InsideUpTo q w' b (i + 1)
    inside_after h =
        inside_next q w w' b i new r change require h
        (subst (λ z. InBox (series_of new.witness) (looked_at (window_of z.now) b)) (sym machine) inside)

-- the machine of a requirement's term among those of the program

get_map : {A B : Type 0} (f : A → B) (xs : List A) (i : ℕ) (x : A) → slice_get xs i ≡ Some x → slice_get (map f xs) i ≡ Some (f x)
get_map {A} f [] i x e = absurd (let z : ◌≡◌ {A = Option A} None (Some x) = e in cc)
get_map f (y ∷ xs) zero x e = ap (λ z. Some (f z)) (same_Some y x e)
get_map f (y ∷ xs) (suc i) x e = get_map f xs i x e

module _ (q : Problem) (posed : IsPosed q) (machines : List Machine) (are : map automata_of machines ≡ automata_in (model_parts q.model.now)) (j : ℕ)
    (r : Require) (is : slice_get q.model.now.requirements.items (j - 1) ≡ Some r) where
  pub machine_there : r.term < length machines
  machine_there =
      let long = tables_long q posed (map automata_of machines) r.term are (required_there q posed j r is) in
      let same = length-map machines automata_of in
      omega (arith, long, same)

  pub machine_is : (m : Machine) → m ≡ get_or machines r.term m → slice_get (automata_in (model_parts q.model.now)) r.term ≡ Some (automata_of m)
  machine_is m e =
      ap (λ l. slice_get l r.term) (sym are)
      ∙ get_map automata_of machines r.term m (slice_get-get_or machines r.term m machine_there ∙ ap Some (sym e))

  pub machine_looks : (m : Machine) → m ≡ get_or machines r.term m → LooksIn (automata_of m) (search_of q).model.cells
  machine_looks m e = window_looks (search_of q).model posed.right.whole r.term (automata_of m) (machine_is m e)

  pub made_witness : (m : Machine) → m ≡ get_or machines r.term m → (cells : Box) → cells ≡ (search_of q).model.cells → (s : Shown) → s.machine.now ≡ m →
      ((r : Require) → IsHeld r s) → length (series_of s.witness) ≡ length (looked_at (window_of m) cells) →
      s.spared.cells.now ≡ looked_at (window_of m) cells → IsMade q r s
  made_witness m e cells is_cells s same held count domains = record {
    machine = machine_is m e ∙ ap (λ z. Some (automata_of z)) (sym same);
    held = held r;
    count = count ∙ ap (λ z. length (looked_at (window_of m) z)) is_cells
        ∙ looked_length (window_of m) (search_of q).model.cells (machine_looks m e) ∙ ap (λ z. count_looked (window_of z) (last (search_of q))) (sym same);
    domains = domains ∙ ap (looked_at (window_of m)) is_cells ∙ ap (λ z. looked_at (window_of z) (search_of q).model.cells) (sym same);
  }

-- an element that is there
pub found : {A : Type 0} (xs : List A) (i : ℕ) (x : A) → x ≡ get_or xs i x → i < length xs → slice_get xs i ≡ Some x
found xs i x e below = slice_get-get_or xs i x below ∙ ap Some (sym e)
