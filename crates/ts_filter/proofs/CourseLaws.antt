-- Where drops may still be while they are looked for cell by cell: of one term, and of all.
use Rattle.std.proofs.Common.{◌≡◌, ◌⊎◌, ℕ, min, zero, suc, ◌+◌, ◌-◌, ◌<◌, ◌≤◌, Bool, true, false, cond, List, [], ◌∷◌, ◌++◌, length, set, get_or}
use Rattle.std.proofs.Common.{Option, Some, None, option_map, slice_get, refl, sym, ◌∙◌, ap, subst, inl, inr, ⊎_elim, arith}
use Rattle.std.proofs.Math.Seq.{map-set_same}
use Rattle.std.proofs.lemmas.List.{length-map}
use Rattle.std.proofs.lemmas.List.Elements.{All-set}
use Rattle.std.proofs.lemmas.Option.{get_or_from_slice_get, none-some, same_Some, slice_get-get_or, slice_get-map, slice_get_read, slice_get_within}
use Rattle.std.specs.Prelude.{IfOk, IsSome, Result, Ok, Err, is_some}
use Rattle.std.specs.List.{AllByRecursion}
use Rattle.ts_base.specs.declared.error.Memory.{Memory}
use Rattle.ts_bound.specs.TermSpans.{Automata, LooksIn, IsUsable as IsUsableOf}
use Rattle.ts_domain.specs.BoxSeries.{IsBox}
use Rattle.ts_model.specs.declared.model.Require.{Require}
use Rattle.ts_filter.specs.declared.courses.Course.{Course}
use Rattle.ts_filter.specs.declared.courses.Step.{Step}
use Rattle.ts_filter.specs.declared.courses.TermCourse.{TermCourse}
use Rattle.ts_filter.specs.declared.drops.Removal.{Removal}
use Rattle.ts_filter.specs.declared.term_requirements.TermRequirements.{TermRequirements}
use Rattle.ts_filter.specs.Boxes.{Box}
use Rattle.ts_filter.specs.Courses.{AllFrom, AreAsked, AreCourses, ArePassed, EachCourse, HasCourse, IsCellDrop, IsCourse, IsPassed, IsStep, IsTermCourse}
use Rattle.ts_filter.specs.Courses.{past_all}
use Rattle.ts_filter.specs.Drops.{MayDrop, IsNoLater, IsFirstOf, IsFirstDrop}
use Rattle.ts_filter.specs.KeptCells.{IsKeptIfKnown, TermKept, spared_in}
use Rattle.ts_filter.specs.KnownRows.{KnownRows, AreKnown}
use Rattle.ts_filter.specs.MachineSpans.{spans_of}
use Rattle.ts_filter.specs.OfTerm.{OfTerm}
use Rattle.ts_filter.specs.Tables.{AreRowsOfEach, machines_of}
use Rattle.ts_filter.specs.TermDrops.{IsDropAt, IsDropUpTo, IsRefutedOutside, IsTermDrop, MayHaveDrop, comes_before, earlier_of}
use Rattle.ts_filter.proofs.DropLaws.{DropOf, first_here_more, first_of_all_here, from_drop, may_have, no_drop_of_one}
use Rattle.ts_filter.proofs.SparedLaws.{found_after_set, none_at}
use Rattle.ts_filter.proofs.TermsAsked.{looks_of}

next_or_later : (n k : ℕ) → n < k → (k ≡ n + 1) ⊎ (n + 1 < k)
next_or_later n k l = grind (arith, l)

here_or_before : (i n : ℕ) → i < n + 1 → (i ≡ n) ⊎ (i < n)
here_or_before i n l = grind (arith, l)

-- cells that needn't be asked about are passed over

pub nothing_passed : (kept : Option TermKept) (b : Box) (from to : ℕ) → ArePassed kept b from to from
nothing_passed kept b from to k l within le = absurd (omega (arith, l, le))

pub passed_more : (kept : Option TermKept) (b : Box) (from to count : ℕ) → ArePassed kept b from to count → IsPassed kept b (count + 1) →
    ArePassed kept b from to (count + 1)
passed_more kept b from to count h new k l within le = by_place (split k le)
  where
    split : (k : ℕ) → k ≤ count + 1 → (k ≡ count + 1) ⊎ (k ≤ count)
    split k le = grind (arith, le)

    by_place : (k ≡ count + 1) ⊎ (k ≤ count) → IsPassed kept b k
    by_place (inl e) = subst (IsPassed kept b) (sym e) new
    by_place (inr before) = h k l within before

pub not_some : (o : Option Removal) → is_some o ≡ false → o ≡ None
not_some None e = refl
not_some (Some r) e = absurd (let z : ◌≡◌ {A = Bool} true false = e in cc)

some_not_none : (o : Option Removal) → IsSome o → o ≡ None → ⊥
some_not_none None some e = let z : ◌≡◌ {A = Bool} false true = some in cc
some_not_none (Some r) some e = cc

-- the course of one term

module _ (rs : List Require) (term : ℕ) (a : Automata) (b : Box) where
  -- the course where no drop is possible
  pub ended_course : (c : Course) → c ≡ record { before = past_all; last = 0; outside = None } → IsFirstOf (IsTermDrop rs term a b) None →
      IsCourse rs term a b c
  ended_course c is none =
      subst (IsCourse rs term a b) (sym is) (record {
        holds = λ r d. absurd (none r d);
        usable = λ k from to. absurd (nowhere k from to);
        going = λ l. absurd (over l);
      })
    where
      nowhere : (k : ℕ) → past_all < k → k ≤ 0 → ⊥
      nowhere k from to = omega (arith, from, to)

      over : past_all < past_all → ⊥
      over l = omega (arith, l)

  -- the course after the first `from` cells, some of which are passed over
  module _ (kept : Option TermKept) (known : IsKeptIfKnown rs term a b kept) (box : IsBox b) (from last before : ℕ) (outside : Option ℕ)
      (usable : (k : ℕ) → from < k → k ≤ last → IsUsableOf a k b) (refuted : IsRefutedOutside rs term a b outside) (passed : ArePassed kept b from last before)
      (le : from ≤ before) (there : (before < last) ⊎ (before ≡ past_all)) where
    not_passed : (r : Removal) → IsTermDrop rs term a b r → (from < r.cell) × (r.cell ≤ last) → (r.cell ≤ before) ⊎ (before < r.cell) → before < r.cell
    not_passed r d h (inr l) = l
    not_passed r d h (inl at) = absurd (by_reason (passed r.cell h.0 h.1 at))
      where
        by_reason : IsPassed kept b r.cell → ⊥
        by_reason (inl all) = none_at rs term a b kept known r.cell (spared_in kept r.cell) box d.usable.from refl all r (refl, d)
        by_reason (inr one) = no_drop_of_one rs term a b r.cell one r (refl, d)

    split : (k : ℕ) → (k ≤ before) ⊎ (before < k)
    split k = grind arith

    beyond : (k : ℕ) → before < k → from < k
    beyond k l = omega (arith, l, le)

    is_going : (before < last) ⊎ (before ≡ past_all) → before < past_all → before < last
    is_going (inl h) l = h
    is_going (inr e) l = absurd (omega (arith, l, e))

    pub course_from : ((r : Removal) → IsTermDrop rs term a b r → (from < r.cell) × (r.cell ≤ last)) →
        IsCourse rs term a b (record { before = before; last = last; outside = outside })
    course_from holds = record {
      holds = λ r d. (not_passed r d (holds r d) (split r.cell), (holds r d).1);
      usable = λ k l to. usable k (beyond k l) to;
      going = λ l. (is_going there l, box, refuted);
    }

  -- the first course, by what the tables of the machine show
  pub begun_course : (kept : Option TermKept) → IsKeptIfKnown rs term a b kept → IsBox b → (from last before : ℕ) (outside : Option ℕ) → (x : Automata) →
      x ≡ a → ((k : ℕ) → from < k → k ≤ last → IsUsableOf x k b) →
      ((k : ℕ) → IsUsableOf x k b → MayHaveDrop x outside k → (from < k) × (k ≤ last)) → IsRefutedOutside rs term a b outside →
      ArePassed kept b from last before → from ≤ before → (before < last) ⊎ (before ≡ past_all) →
      IsCourse rs term a b (record { before = before; last = last; outside = outside })
  begun_course kept known box from last before outside x same each all refuted passed le there =
      course_from kept known box from last before outside (subst (λ (z : Automata). (k : ℕ) → from < k → k ≤ last → IsUsableOf z k b) same each) refuted
      passed le there
      (λ r d. subst (λ (z : Automata). (k : ℕ) → IsUsableOf z k b → MayHaveDrop z outside k → (from < k) × (k ≤ last)) same all r.cell d.usable
      (may_have rs term a b outside refuted r d))

  module _ (c : Course) (h : IsCourse rs term a b c) where
    -- no drop is at the next cell
    holds_after : IsFirstOf (IsDropAt rs term a b (c.before + 1)) None → (r : Removal) → IsTermDrop rs term a b r →
        (c.before + 1 < r.cell) × (r.cell ≤ c.last)
    holds_after none r d = (by_cell (next_or_later c.before r.cell (h.holds r d).0), (h.holds r d).1)
      where
        by_cell : (r.cell ≡ c.before + 1) ⊎ (c.before + 1 < r.cell) → c.before + 1 < r.cell
        by_cell (inl e) = absurd (none r (e, d))
        by_cell (inr l) = l

    pub next_usable : c.before < past_all → IsUsableOf a (c.before + 1) b
    next_usable l = let g = (h.going l).0 in h.usable (c.before + 1) (omega arith) (omega (arith, g))

    -- the course after it
    pub next_course : (kept : Option TermKept) → IsKeptIfKnown rs term a b kept → (before : ℕ) (found : Option Removal) → is_some found ≡ false →
        c.before < past_all → IsFirstOf (IsDropAt rs term a b (c.before + 1)) found → ArePassed kept b (c.before + 1) c.last before → c.before + 1 ≤ before →
        (before < c.last) ⊎ (before ≡ past_all) → IsCourse rs term a b (record { before = before; last = c.last; outside = c.outside })
    next_course kept known before found none l first passed le there =
        course_from kept known (h.going l).1 (c.before + 1) c.last before c.outside (λ k from to. h.usable k (below k from) to) (h.going l).2 passed le there
        (holds_after (subst (IsFirstOf (IsDropAt rs term a b (c.before + 1))) (not_some found none) first))
      where
        below : (k : ℕ) → c.before + 1 < k → c.before < k
        below k from = omega (arith, from)

    pub step_on : (next : Course) (found : Option Removal) → IsFirstOf (IsDropAt rs term a b (c.before + 1)) found → IsCourse rs term a b next →
        c.before + 1 ≤ next.before → IsStep rs term a b c (record { found = found; course = next })
    step_on next found first course le =
        let on : c.before ≤ next.before = omega (arith, le) in
        let past : c.before < next.before = omega (arith, le) in record { found = first; course = course; on = on; past = λ e. past }

    pub step_found : (found : Option Removal) → IsSome found → IsFirstOf (IsDropAt rs term a b (c.before + 1)) found →
        IsStep rs term a b c (record { found = found; course = c })
    step_found found some first =
        let on : c.before ≤ c.before = omega arith in
        record { found = first; course = h; on = on; past = λ e. absurd (some_not_none found some e) }

    -- at the end of a course there is no drop, nor up to a cell before its next one

    pub none_at_end : c.last ≤ c.before → IsFirstOf (IsTermDrop rs term a b) None
    none_at_end end r d = let g = h.holds r d in let l = g.0 in let m = g.1 in omega (arith, l, m, end)

    pub none_before : (last : ℕ) → last ≤ c.before → IsFirstOf (IsDropUpTo rs term a b last) None
    none_before last le r d = let l = (h.holds r d.0).0 in let m = d.1 in omega (arith, l, m, le)

    pub none_elsewhere : (k : ℕ) → k < c.before + 1 → IsFirstOf (IsDropAt rs term a b k) None
    none_elsewhere k lt r d = let l = (h.holds r d.1).0 in let is = d.0 in omega (arith, l, is, lt)

  -- where no drop is anywhere, none is at the next cell of a course
  pub none_to_step : (c : Course) → c.before < past_all → (next : Course) → next ≡ record { before = past_all; last = 0; outside = None } →
      IsFirstOf (IsTermDrop rs term a b) None → IsStep rs term a b c (record { found = None; course = next })
  none_to_step c l next is none =
      let end : next.before ≡ past_all = ap (λ (z : Course). z.before) is in
      let on : c.before ≤ next.before = omega (arith, l, end) in let past : c.before < next.before = omega (arith, l, end) in record {
        found = λ r d. none r d.1;
        course = ended_course next is none;
        on = on;
        past = λ e. past;
      }

-- the course of a term, as the code holds its requirements

pub to_own : (own : TermRequirements) (rs : List Require) (term : ℕ) → own.all.now ≡ rs → own.term ≡ term → (P : List Require → ℕ → Type 0) →
    P rs term → P own.all.now own.term
to_own own rs term is_all is_term P h = subst (λ z. P z own.term) (sym is_all) (subst (λ z. P rs z) (sym is_term) h)

pub from_own : (own : TermRequirements) (rs : List Require) (term : ℕ) → own.all.now ≡ rs → own.term ≡ term → (P : List Require → ℕ → Type 0) →
    P own.all.now own.term → P rs term
from_own own rs term is_all is_term P h = subst (λ z. P rs z) is_term (subst (λ z. P z own.term) is_all h)

-- the tables of one term among all

abbrev machine_of : KnownRows → Automata
machine_of t = t.machine

pub as_machines : (each : List KnownRows) → length (machines_of each) ≡ length each
as_machines each = length-map each machine_of

module _ (each : List KnownRows) (term : ℕ) (x : KnownRows) (lt : term < length each) (is : x ≡ get_or each term x) where
  machine_here : slice_get (machines_of each) term ≡ Some x.machine
  machine_here = slice_get-map machine_of each term ∙ ap (option_map machine_of) (slice_get_read each (length each) term x refl lt is)

  pub of_this : (P : Automata → Type 0) → OfTerm (machines_of each) term P → P x.machine
  of_this P h = h x.machine machine_here

  pub of_each : {T : Type 0} (P : Automata → T → Type 0) (r : Result T Memory) → IfOk r (P x.machine) →
      IfOk r (λ v. OfTerm (machines_of each) term (λ a. P a v))
  of_each P (Ok v) h = λ a has. subst (λ z. P z v) (same_Some x.machine a (sym machine_here ∙ has)) h
  of_each P (Err e) h = tt

  pub known_here : (b : Box) → AreRowsOfEach b each → AreKnown b x
  known_here b rows = subst (AreKnown b) (sym is) (rows term x lt)

  pub machines_stay : (y : KnownRows) → y.machine ≡ x.machine → machines_of (set each term y) ≡ machines_of each
  machines_stay y same = map-set_same machine_of each term y x (same ∙ ap machine_of is)

  pub rows_stay : (b : Box) (y : KnownRows) → AreRowsOfEach b each → AreKnown b y → AreRowsOfEach b (set each term y)
  rows_stay b y rows known = All-set (AreKnown b) each term y known rows

-- the courses of all terms

found_after_push : {X : Type 0} (xs : List X) (i : ℕ) (x y : X) → slice_get (xs ++ x ∷ []) i ≡ Some y → ((i ≡ length xs) × (y ≡ x)) ⊎ (slice_get xs i ≡ Some y)
found_after_push [] zero x y e = inl (refl, sym (same_Some x y e))
found_after_push [] (suc i) x y e = absurd (none-some y e)
found_after_push (z ∷ xs) zero x y e = inr e
found_after_push (z ∷ xs) (suc i) x y e = ⊎_elim (λ h. inl (ap suc h.0, h.1)) (λ h. inr h) (found_after_push xs i x y e)

length_push : {X : Type 0} (xs : List X) (x : X) → length (xs ++ x ∷ []) ≡ length xs + 1
length_push [] x = refl
length_push (y ∷ xs) x = let h = length_push xs x in omega (arith, h)

element_at : {X : Type 0} (xs : List X) (i : ℕ) → i < length xs → (x : X) × (slice_get xs i ≡ Some x)
element_at [] i l = absurd (omega (arith, l))
element_at (x ∷ xs) zero l = (x, refl)
element_at (x ∷ xs) (suc i) l = element_at xs i (omega (arith, l))

set_here : {X : Type 0} (xs : List X) (i : ℕ) (x : X) → i < length xs → slice_get (set xs i x) i ≡ Some x
set_here [] i x l = absurd (omega (arith, l))
set_here (y ∷ xs) zero x l = refl
set_here (y ∷ xs) (suc i) x l = set_here xs i x (omega (arith, l))

-- the least of the courses, with one more

pub less_before : (cs : List TermCourse) (i least less : ℕ) (e : TermCourse) → i < length cs → less ≡ min least (get_or cs i e).course.before →
    ((j : ℕ) (c : TermCourse) → j < i → slice_get cs j ≡ Some c → least ≤ c.course.before) → (j : ℕ) (c : TermCourse) → j < i + 1 →
    slice_get cs j ≡ Some c → less ≤ c.course.before
less_before cs i least less e lt is h j c l at =
    ⊎_elim
    (λ same. subst (λ (z : TermCourse). less ≤ z.course.before)
    (get_or_from_slice_get cs i c e (subst (λ n. slice_get cs n ≡ Some c) same at)) (omega (arith, is)))
    (λ before. let le = h j c before at in omega (arith, is, le)) (here_or_before j i l)

pub no_less : (cs : List TermCourse) (i least less m : ℕ) (e : TermCourse) → i < length cs → less ≡ min least (get_or cs i e).course.before →
    AllFrom m cs → m ≤ least → m ≤ less
no_less cs i least less m e lt is from le = let one = from i (get_or cs i e) (slice_get-get_or cs i e lt) in omega (arith, one, le, is)

-- those of the terms that the first requirements name
pub record AreBegun (rs : List Require) (ms : List Automata) (b : Box) (cs : List TermCourse) (count : ℕ) : Type 0 where
  pub each : EachCourse rs ms b cs
  pub all : (i : ℕ) (r : Require) → i < count → slice_get rs i ≡ Some r → HasCourse cs r.term

still_there : {X : Type 0} (xs : List X) (i : ℕ) (x y : X) → slice_get xs i ≡ Some y → slice_get (xs ++ x ∷ []) i ≡ Some y
still_there [] i x y e = absurd (none-some y e)
still_there (z ∷ xs) zero x y e = e
still_there (z ∷ xs) (suc i) x y e = still_there xs i x y e

last_there : {X : Type 0} (xs : List X) (x : X) → slice_get (xs ++ x ∷ []) (length xs) ≡ Some x
last_there [] x = refl
last_there (z ∷ xs) x = last_there xs x

module _ (rs : List Require) (ms : List Automata) (b : Box) where
  pub none_begun : (cs : List TermCourse) → cs ≡ [] → AreBegun rs ms b cs 0
  none_begun cs is = record {
    each = λ i c at. absurd (none-some c (ap (λ l. slice_get l i) (sym is) ∙ at));
    all = λ i r l at. absurd (omega (arith, l));
  }

  -- the term of one more has a course
  module _ (cs : List TermCourse) (count : ℕ) (r : Require) (lt : count < length rs) (is : r ≡ get_or rs count r) (h : AreBegun rs ms b cs count) where
    with_this : (cs' : List TermCourse) → ((z : ℕ) → HasCourse cs z → HasCourse cs' z) → HasCourse cs' r.term → (i : ℕ) (q : Require) → i < count + 1 →
        slice_get rs i ≡ Some q → HasCourse cs' q.term
    with_this cs' stay new i q l at =
        ⊎_elim
        (λ e. subst (λ (z : Require). HasCourse cs' z.term)
        (same_Some r q (sym (slice_get_read rs (length rs) count r refl lt is) ∙ subst (λ n. slice_get rs n ≡ Some q) e at)) new)
        (λ before. stay q.term (h.all i q before at)) (here_or_before i count l)

    pub was_begun : HasCourse cs r.term → AreBegun rs ms b cs (count + 1)
    was_begun has = record { each = h.each; all = with_this cs (λ z g. g) has }

    pub one_begun : (cs' : List TermCourse) (course : Course) → r.term < length ms → OfTerm ms r.term (λ a. IsCourse rs r.term a b course) →
        cs' ≡ cs ++ record { term = r.term; course = course } ∷ [] → AreBegun rs ms b cs' (count + 1)
    one_begun cs' course there new now =
        let x : TermCourse = record { term = r.term; course = course } in
        subst (λ l. AreBegun rs ms b l (count + 1)) (sym now) (record {
          each = λ i c at. ⊎_elim (λ g. of_new c g.1) (λ g. h.each i c g) (found_after_push cs i x c at);
          all = with_this (cs ++ x ∷ [])
              (λ z g. record { place = g.place; course = g.course; there = still_there cs g.place x g.course g.there; of_term = g.of_term })
              (record { place = length cs; course = x; there = last_there cs x; of_term = refl });
        })
      where
        of_new : (c : TermCourse) → c ≡ record { term = r.term; course = course } → IsTermCourse rs ms b c
        of_new c e = subst (IsTermCourse rs ms b) (sym e) (there, new)

  pub all_begun : (cs : List TermCourse) (count : ℕ) → AreBegun rs ms b cs count → length rs ≤ count → AreCourses rs ms b cs
  all_begun cs count h end = record { each = h.each; all = λ i r at. h.all i r (let l = slice_get_within rs i r at in omega (arith, l, end)) at }

  -- no drop comes before the next cells of all courses
  pub drops_after : (before : ℕ) (cs : List TermCourse) → AllByRecursion (λ a. LooksIn a b) ms → AreCourses rs ms b cs → AllFrom before cs →
      (t : Removal) → MayDrop rs (spans_of ms) b t → before < t.cell
  drops_after before cs looks courses from t d =
      let h = courses.all (t.require - 1) d.refuted.require d.refuted.is.1 in let term = h.course.term in
      let own = courses.each h.place h.course h.there in
      let a = element_at ms term own.0 in
      let ahead = (own.1 a.0 a.1).holds t (from_drop rs ms b term a.0 a.1 (looks_of b ms term looks a.0 a.1) t d (sym h.of_term)) in
      let least = from h.place h.course h.there in let more = ahead.0 in omega (arith, least, more)

  -- the first at the first cell that has one is the first of all

  pub first_found : (before : ℕ) (found : Option Removal) → ((t : Removal) → MayDrop rs (spans_of ms) b t → before < t.cell) → IsSome found →
      IsFirstOf (IsCellDrop rs ms b (before + 1)) found → IsFirstDrop rs (spans_of ms) b found
  first_found before None after some first = absurd (let z : ◌≡◌ {A = Bool} false true = some in cc)
  first_found before (Some r) after some first = (first.0.0, λ t d. by_cell t d (next_or_later before t.cell (after t d)))
    where
      by_cell : (t : Removal) → MayDrop rs (spans_of ms) b t → (t.cell ≡ before + 1) ⊎ (before + 1 < t.cell) → IsNoLater r t
      by_cell t d (inl e) = first.1 t (d, e)
      by_cell t d (inr more) = inl (let is = first.0.1 in omega (arith, is, more))

  pub none_found : (before : ℕ) → ((t : Removal) → MayDrop rs (spans_of ms) b t → before < t.cell) → length b ≤ before →
      IsFirstDrop rs (spans_of ms) b None
  none_found before after end t d = let l = after t d in let to = d.cell.1 in omega (arith, l, to, end)

-- one of the first courses is that of the term
pub record IsOfFirst (cs : List TermCourse) (count term : ℕ) : Type 0 where
  pub has : HasCourse cs term
  pub below : has.place < count

-- at each place these have a course of a term that the others have there too
abbrev HaveTerms : List TermCourse → List TermCourse → Type 0
HaveTerms cs cs' = (i : ℕ) (c : TermCourse) → slice_get cs i ≡ Some c → (d : TermCourse) × (slice_get cs' i ≡ Some d) × (d.term ≡ c.term)

-- the terms of the first courses have been asked for their drops at the cell after the first `before`
pub record AskedBelow (rs : List Require) (ms : List Automata) (b : Box) (before place : ℕ) (cs : List TermCourse) (found : Option Removal) : Type 0 where
  pub courses : AreCourses rs ms b cs
  pub from : AllFrom before cs
  pub past : found ≡ None → (i : ℕ) (c : TermCourse) → i < place → slice_get cs i ≡ Some c → before < c.course.before
  pub first : IsFirstOf (λ r. DropOf rs ms b (IsOfFirst cs place) r × (r.cell ≡ before + 1)) found

-- another course of the same term
same_terms : (cs : List TermCourse) (i : ℕ) (new c : TermCourse) → slice_get cs i ≡ Some c → new.term ≡ c.term → HaveTerms cs (set cs i new)
same_terms [] i new c at same j d there = absurd (none-some c at)
same_terms (x ∷ cs) zero new c at same zero d there = (new, refl, same ∙ ap (λ (z : TermCourse). z.term) (same_Some c d (sym at ∙ there)))
same_terms (x ∷ cs) zero new c at same (suc j) d there = (d, there, refl)
same_terms (x ∷ cs) (suc i) new c at same zero d there = (d, there, refl)
same_terms (x ∷ cs) (suc i) new c at same (suc j) d there = same_terms cs i new c at same j d there

same_before : (cs : List TermCourse) (i : ℕ) (new c : TermCourse) → slice_get cs i ≡ Some c → new.term ≡ c.term → HaveTerms (set cs i new) cs
same_before cs i new c at same j d there =
    ⊎_elim (λ g. (c, subst (λ n. slice_get cs n ≡ Some c) (sym g.0) at, sym same ∙ ap (λ (z : TermCourse). z.term) (sym g.2))) (λ g. (d, g, refl))
    (found_after_set cs i j new d there)

module _ (cs cs' : List TermCourse) (place : ℕ) (c : TermCourse) (at : slice_get cs place ≡ Some c) where
  of_next : HaveTerms cs cs' → (term : ℕ) → IsOfFirst cs place term ⊎ (term ≡ c.term) → IsOfFirst cs' (place + 1) term
  of_next have term (inl h) =
      let g = have h.has.place h.has.course h.has.there in let l = h.below in record {
        has = record { place = h.has.place; course = g.0; there = g.1; of_term = g.2 ∙ h.has.of_term };
        below = omega (arith, l);
      }
  of_next have term (inr e) =
      let g = have place c at in record { has = record { place = place; course = g.0; there = g.1; of_term = g.2 ∙ sym e }; below = omega arith }

  next_or_before : HaveTerms cs' cs → (term : ℕ) → IsOfFirst cs' (place + 1) term → IsOfFirst cs place term ⊎ (term ≡ c.term)
  next_or_before have term h =
      let g = have h.has.place h.has.course h.has.there in
      ⊎_elim
      (λ e. inr (sym (g.2 ∙ h.has.of_term) ∙ ap (λ (z : TermCourse). z.term)
      (same_Some g.0 c (sym g.1 ∙ subst (λ n. slice_get cs n ≡ Some c) (sym e) at))))
      (λ l. inl (record { has = record { place = h.has.place; course = g.0; there = g.1; of_term = g.2 ∙ h.has.of_term }; below = l }))
      (here_or_before h.has.place place h.below)

no_earlier : (x : Option Removal) → earlier_of x None ≡ x
no_earlier None = refl
no_earlier (Some r) = refl

both_none : (x y : Option Removal) → earlier_of x y ≡ None → (x ≡ None) × (y ≡ None)
both_none None y e = (refl, e)
both_none (Some r) None e = absurd (let z : ◌≡◌ {A = Option Removal} (Some r) None = e in cc)
both_none (Some r) (Some t) e = absurd (never (comes_before t r) e)
  where
    never : (f : Bool) → cond f (Some t) (Some r) ≡ None → ⊥
    never true e = let z : ◌≡◌ {A = Option Removal} (Some t) None = e in cc
    never false e = let z : ◌≡◌ {A = Option Removal} (Some r) None = e in cc

module _ (rs : List Require) (ms : List Automata) (b : Box) (before : ℕ) where
  pub none_asked : (cs : List TermCourse) → AreCourses rs ms b cs → AllFrom before cs → AskedBelow rs ms b before 0 cs None
  none_asked cs courses from = record {
    courses = courses;
    from = from;
    past = λ e i c l at. absurd (omega (arith, l));
    first = λ t h. let l = h.0.1.below in omega (arith, l);
  }

  pub all_asked : (place : ℕ) (cs : List TermCourse) (first : Option Removal) → length cs ≤ place → AskedBelow rs ms b before place cs first →
      AreAsked rs ms b before cs first
  all_asked place cs first end h = record {
    courses = h.courses;
    past = λ none i c at. let l = h.past none i c (within i c at) at in omega (arith, l);
    first = first_of_all_here rs ms b (IsOfFirst cs place)
        (λ t d. let g = h.courses.all (t.require - 1) d.refuted.require d.refuted.is.1 in record { has = g; below = within g.place g.course g.there })
        (before + 1) first h.first;
  }
    where
      within : (i : ℕ) (c : TermCourse) → slice_get cs i ≡ Some c → i < place
      within i c at = let there = slice_get_within cs i c at in omega (arith, there, end)

  module _ (place : ℕ) (cs : List TermCourse) (first : Option Removal) (c : TermCourse) (looks : AllByRecursion (λ a. LooksIn a b) ms)
      (at : slice_get cs place ≡ Some c) (h : AskedBelow rs ms b before place cs first) where
    its_machine : (a : Automata) × (slice_get ms c.term ≡ Some a)
    its_machine = element_at ms c.term (h.courses.each place c at).0

    -- the first one of the next term too, whose course may be another one then
    with_next : (cs' : List TermCourse) → HaveTerms cs cs' → HaveTerms cs' cs → (found : Option Removal) →
        IsFirstOf (IsDropAt rs c.term its_machine.0 b (before + 1)) found →
        IsFirstOf (λ r. DropOf rs ms b (IsOfFirst cs' (place + 1)) r × (r.cell ≡ before + 1)) (earlier_of first found)
    with_next cs' there back found next =
        first_here_more rs ms b c.term its_machine.0 its_machine.1 (looks_of b ms c.term looks its_machine.0 its_machine.1)
        (IsOfFirst cs place) (IsOfFirst cs' (place + 1)) (of_next cs cs' place c at there)
        (next_or_before cs cs' place c at back) (before + 1) first found h.first next

    -- it has no drop there

    more : (c.course.before ≡ before → ⊥) → before < c.course.before
    more other = let le = h.from place c at in grind (arith, le, other)

    pub passed_over : (c.course.before ≡ before → ⊥) → AskedBelow rs ms b before (place + 1) cs first
    passed_over other =
        let less = more other in record {
          courses = h.courses;
          from = h.from;
          past = λ none i d l there.
              ⊎_elim
              (λ e. subst (λ (z : TermCourse). before < z.course.before) (same_Some c d (sym at ∙ subst (λ n. slice_get cs n ≡ Some d) e there)) less)
              (λ l. h.past none i d l there) (here_or_before i place l);
          first = subst (IsFirstOf (λ r. DropOf rs ms b (IsOfFirst cs (place + 1)) r × (r.cell ≡ before + 1))) (no_earlier first)
              (with_next cs (λ i d there. (d, there, refl)) (λ i d there. (d, there, refl)) None
              (none_elsewhere rs c.term its_machine.0 b c.course ((h.courses.each place c at).1 its_machine.0 its_machine.1) (before + 1)
              (omega (arith, less))));
        }

    -- it has been asked
    module _ (step : Step) (same : c.course.before ≡ before) (told : OfTerm ms c.term (λ a. IsStep rs c.term a b c.course step)) where
      abbrev next : TermCourse
      next = record { term = c.term; course = step.course }

      abbrev changed : List TermCourse
      changed = set cs place next

      own : (d : TermCourse) → d ≡ next → IsTermCourse rs ms b d
      own d is = subst (IsTermCourse rs ms b) (sym is) ((h.courses.each place c at).0, λ a has. (told a has).course)

      past_this : step.found ≡ None → (d : TermCourse) → slice_get changed place ≡ Some d → before < d.course.before
      past_this none d there =
          let l = (told its_machine.0 its_machine.1).past none in
          let is = same_Some next d (sym (set_here cs place next (slice_get_within cs place c at)) ∙ there) in
          subst (λ (z : TermCourse). before < z.course.before) is (omega (arith, l, same))

      past_others : first ≡ None → (i : ℕ) (d : TermCourse) → i < place → slice_get changed i ≡ Some d → before < d.course.before
      past_others none i d l there =
          ⊎_elim (λ g. absurd (let e = g.0 in omega (arith, e, l))) (λ g. h.past none i d l g) (found_after_set cs place i next d there)

      pub one_asked : (cs' : List TermCourse) (both : Option Removal) → cs' ≡ changed → both ≡ earlier_of first step.found →
          AskedBelow rs ms b before (place + 1) cs' both
      one_asked cs' both now is =
          let s = told its_machine.0 its_machine.1 in let on = s.on in
          subst (λ l. AskedBelow rs ms b before (place + 1) l both) (sym now) (subst (AskedBelow rs ms b before (place + 1) changed) (sym is) (record {
            courses = record {
              each = λ i d there. ⊎_elim (λ g. own d g.2) (λ g. h.courses.each i d g) (found_after_set cs place i next d there);
              all = λ i r there.
                  let g = h.courses.all i r there in let z = same_terms cs place next c at refl g.place g.course g.there in
                  record { place = g.place; course = z.0; there = z.1; of_term = z.2 ∙ g.of_term };
            };
            from = λ i d there.
                ⊎_elim (λ g. subst (λ (z : TermCourse). before ≤ z.course.before) (sym g.2) (omega (arith, on, same))) (λ g. h.from i d g)
                (found_after_set cs place i next d there);
            past = λ none i d l there.
                ⊎_elim (λ e. past_this (both_none first step.found none).1 d (subst (λ n. slice_get changed n ≡ Some d) e there))
                (λ l. past_others (both_none first step.found none).0 i d l there) (here_or_before i place l);
            first = with_next changed (same_terms cs place next c at refl) (same_before cs place next c at refl) step.found
                (subst (λ n. IsFirstOf (IsDropAt rs c.term its_machine.0 b (n + 1)) step.found) same s.found);
          }))
