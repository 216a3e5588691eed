-- Requirements by which nothing is found at the cells that are looked at.
use Rattle.std.proofs.Common.{◌≡◌, ◌⊎◌, ℕ, ◌+◌, ◌-◌, ◌<◌, ◌≤◌, Bool, true, false, cond, List, [], ◌∷◌, length, Option, Some, None, refl, sym, ap, ◌∙◌, subst, inl, inr, arith, slice_get, get_or}
use Rattle.std.proofs.lemmas.Bool.{eq-eqb, eqb-true}
use Rattle.std.proofs.lemmas.List.Quantifiers.{position-Some}
use Rattle.std.proofs.lemmas.Option.{get_or_from_slice_get, slice_get-get_or}
use Rattle.std.specs.List.{position}
use Rattle.std.specs.Prelude.{Contains, filter, is_some, nat_eq, not}
use Rattle.ts_base.specs.Windows.{looked_at}
use Rattle.ts_bound.specs.Looks.{first_looked, is_looked, place_in}
use Rattle.ts_bound.specs.TermSpans.{Automata, LooksIn, inner_value_span, term_span, value_span}
use Rattle.ts_bound.proofs.Looking.{ends_inside, looked_by, looked_get, looked_length, place_inside, place_usable}
use Rattle.ts_domain.proofs.Sets.{contains_cons, nothing_in}
use Rattle.ts_model.specs.declared.model.Require.{Require}
use Rattle.ts_bound.specs.RowStacks.{Stack}
use Rattle.ts_bound.proofs.CellsRead.{forward_cell}
use Rattle.ts_filter.specs.declared.drops.Removal.{Removal}
use Rattle.ts_filter.specs.declared.term_requirements.TermRequirements.{TermRequirements}
use Rattle.ts_filter.specs.Boxes.{Box, values_at}
use Rattle.ts_filter.specs.Drops.{IsFirstOf}
use Rattle.ts_filter.specs.Excluded.{Refutes}
use Rattle.ts_filter.specs.KnownRows.{KnownRows, KnownWhereNone, StillKnown}
use Rattle.ts_filter.specs.TermDrops.{AreAmong, IsFirstRefuting, IsQuiet, IsRefutedOutside, IsTermDrop}
use Rattle.ts_filter.proofs.DropLaws.{refuting_outside}
use Rattle.ts_filter.proofs.TableRows.{tables}
use Rattle.ts_filter.proofs.Looked.{value_looked}
use Rattle.ts_filter.proofs.SoundLaws.{clash}

module _ (rs : List Require) (term : ℕ) where
  -- the requirements of the term among all

  abbrev is_own : Require → Bool
  is_own r = nat_eq r.term term

  pub owned : (qs : List Require) (r : Require) → Contains (filter is_own qs) r → Contains qs r × (r.term ≡ term)
  owned [] r h = absurd (nothing_in r h)
  owned (q ∷ qs) r h = by_test (owned qs r) (is_own q) refl h
    where
      by_test : (Contains (filter is_own qs) r → Contains qs r × (r.term ≡ term)) → (t : Bool) → is_own q ≡ t →
          Contains (cond t (q ∷ filter is_own qs) (filter is_own qs)) r → Contains (q ∷ qs) r × (r.term ≡ term)
      by_test rest false e c = let more = rest c in ((contains_cons q qs r).1 (inr more.0), more.1)
      by_test rest true e c = elim ((contains_cons q (filter is_own qs) r).0 c) [
        | inl same ↦ ((contains_cons q qs r).1 (inl same), ap (λ (z : Require). z.term) (sym same) ∙ eqb-true q.term term e)
        | inr there ↦ (let more = rest there in ((contains_cons q qs r).1 (inr more.0), more.1))
      ]

  -- the requirements of the term at the first places are among the others
  abbrev pub AmongUpTo : List Require → ℕ → Type 0
  AmongUpTo others at = (i : ℕ) (r : Require) → slice_get rs i ≡ Some r → r.term ≡ term → i < at → Contains others r

  -- before the first requirement of the term there is none
  pub none_missing_first : (others : List Require) (first : ℕ) → position is_own rs ≡ Some first → AmongUpTo others first
  none_missing_first others first e i r at of_term lt =
      absurd (clash _ (ap is_own (get_or_from_slice_get rs i r r at) ∙ eq-eqb r.term term of_term) ((position-Some is_own rs first r e).2 i lt))

  pub one_more_among : (others : List Require) (at : ℕ) (d : Require) → AmongUpTo others at →
      ((get_or rs at d).term ≡ term → Contains others (get_or rs at d)) → AmongUpTo others (at + 1)
  one_more_among others at d h more i r is of_term lt = by_place (split i at lt)
    where
      split : (i at : ℕ) → i < at + 1 → (i ≡ at) ⊎ (i < at)
      split i at lt = grind (arith, lt)

      by_place : (i ≡ at) ⊎ (i < at) → Contains others r
      by_place (inr below) = h i r is of_term below
      by_place (inl same) =
          let here : get_or rs at d ≡ r = ap (λ j. get_or rs j d) (sym same) ∙ get_or_from_slice_get rs i r d is in
          subst (Contains others) here (more (ap (λ (z : Require). z.term) here ∙ of_term))

  pub all_among : (others : List Require) (at end : ℕ) → AmongUpTo others at → ((i : ℕ) (r : Require) → slice_get rs i ≡ Some r → r.term ≡ term → i < end) →
      end ≤ at → AreAmong rs term others
  all_among others at end h behind le i r is of_term =
      h i r is of_term (let lt = behind i r is of_term in omega (arith, lt, le))

  module _ (a : Automata) (b : Box) (looks : LooksIn a b) where
    -- where nothing is found, none of them is refuted at a cell that is looked at

    pub quiet_where_none : (a.pair ≡ None → ⊥) → IsFirstOf (IsTermDrop rs term a b) None → (r : Require) → Contains rs r → r.term ≡ term →
        IsQuiet a (looked_at a.window b) r
    quiet_where_none split none r there of_term k v c many has refutes =
        let cells = looked_at a.window b in
        let from = c.0 in let to = c.1 in
        let place = k - 1 in
        let cell = first_looked a.window + place in
        let at = forward_cell a.window b place cell looks (omega (arith, from, to)) refl in
        let long = looked_length a.window b looks in let first = (ends_inside a.window (length b) looks).0 in
        let looked = looked_by a.window (length b) cell (omega arith) (omega (arith, to, from, long, first)) in
        let same : place_in a.window cell ≡ k = (let inside = place_inside a.window cell looked in omega (arith, inside, from, first)) in
        let values : values_at cell b ≡ values_at k cells = at.2 in
        let span : inner_value_span a k cells v ≡ value_span a cell b v =
        ap (λ j. inner_value_span a j cells v) (sym same) ∙ sym (value_looked a cell b v looked) in
        let i = there.0 in
        none (record { cell = cell; value = v; require = i + 1 }) (record {
          usable = record { from = at.0; to = at.1; last = λ e. absurd (split e) };
          many = subst (λ l. 2 ≤ length l) (sym values) many;
          there = subst (λ l. Contains l v) (sym values) has;
          refuting = record {
            require = r;
            is = (omega arith, place_of i there.1 there.2);
            of_term = of_term;
            refutes = subst (Refutes r.op r.bound) span refutes;
          };
        })
      where
        place_of : (i : ℕ) → i < length rs → get_or rs i r ≡ r → slice_get rs (i + 1 - 1) ≡ Some r
        place_of i lt is =
            let back : i + 1 - 1 ≡ i = omega arith in ap (slice_get rs) back ∙ slice_get-get_or rs i r lt ∙ ap (λ z. Some z) is

    -- where no requirement of the term is refuted at a cell that is looked at, nor outside, nothing is found
    pub none_where_quiet : (others : List Require) (outside : Option ℕ) → outside ≡ None → AreAmong rs term others →
        ((r : Require) → Contains others r → IsQuiet a (looked_at a.window b) r) → IsRefutedOutside rs term a b outside →
        IsFirstOf (IsTermDrop rs term a b) None
    none_where_quiet others outside none among quiet refuted t h = by_test (is_looked a.window t.cell) refl
      where
        by_test : (z : Bool) → is_looked a.window t.cell ≡ z → ⊥
        by_test false e =
            let found : IsFirstRefuting rs term (term_span a t.cell b) None =
            subst (IsFirstRefuting rs term (term_span a t.cell b)) none (refuted t.cell h.usable e) in
            found t.require (refuting_outside rs term a b t h e)
        by_test true e =
            let own = h.refuting in
            let inside = place_usable a t.cell b looks h.usable in
            let values : values_at (place_in a.window t.cell) (looked_at a.window b) ≡ values_at t.cell b = looked_get b t.cell a.window [] looks e in
            quiet own.require (among (t.require - 1) own.require own.is.1 own.of_term) (place_in a.window t.cell) t.value (inside.from, inside.to)
            (subst (λ l. 2 ≤ length l) (sym values) h.many) (subst (λ l. Contains l t.value) (sym values) h.there)
            (subst (Refutes own.require.op own.require.bound) (value_looked a t.cell b t.value e) own.refutes)

  -- tables that remember that nothing was found
  pub remembered : (a : Automata) (x y : Stack) (quiet quiet' : List Require) (old new : KnownRows) → (old.machine.pair ≡ None → ⊥) →
      quiet' ≡ filter is_own rs → tables a x y quiet ≡ old → tables a x y quiet' ≡ new → KnownWhereNone rs term old new
  remembered a x y quiet quiet' old new split is was now =
      subst (KnownWhereNone rs term old) now
      (subst (λ t. KnownWhereNone rs term t (tables a x y quiet')) was
      (λ b looks none h. record {
        machine = refl;
        known = record {
          ahead = h.ahead;
          behind = h.behind;
          laid_ahead = h.laid_ahead;
          laid_behind = h.laid_behind;
          kept_ahead = h.kept_ahead;
          kept_behind = h.kept_behind;
          quiet = λ r c.
              let own = owned rs r (subst (λ l. Contains l r) is c) in
              quiet_where_none a b looks (λ e. split (ap (λ (t : KnownRows). t.machine.pair) (sym was) ∙ e)) none r own.0 own.1;
        };
      }))

  pub unchanged : (t : KnownRows) → KnownWhereNone rs term t t
  unchanged t b looks none h = record { machine = refl; known = h }

none_told : (o : Option ℕ) (told : Bool) → is_some o ≡ not told → told ≡ true → o ≡ None
none_told None told is so = refl
none_told (Some j) told is so = absurd (clash (not told) (sym is) (ap not so))

-- tables that remember it, as the code holds the requirements of a term

module _ (own : TermRequirements) (rs : List Require) (term : ℕ) (is_all : own.all.now ≡ rs) (is_term : own.term ≡ term) where
  pub found_of : (a : Automata) (b : Box) (found : Option Removal) → IsFirstOf (IsTermDrop own.all.now own.term a b) found →
      IsFirstOf (IsTermDrop rs term a b) found
  found_of a b found h =
      subst (λ z. IsFirstOf (IsTermDrop rs z a b) found) is_term (subst (λ z. IsFirstOf (IsTermDrop z own.term a b) found) is_all h)

  module _ (b : Box) (t u : KnownRows) (looks : LooksIn t.machine b) (still : StillKnown b t u) where
    pub quiet_tells : (outside : Option ℕ) (told : Bool) → is_some outside ≡ not told → told ≡ true → AreAmong own.all.now own.term u.quiet →
        IsRefutedOutside own.all.now own.term t.machine b outside → IsFirstOf (IsTermDrop rs term t.machine b) None
    quiet_tells outside told is so among refuted =
        let none = none_told outside told is so in
        let quiet : (r : Require) → Contains u.quiet r → IsQuiet t.machine (looked_at t.machine.window b) r =
        subst (λ (a : Automata). (r : Require) → Contains u.quiet r → IsQuiet a (looked_at a.window b) r) still.machine still.known.quiet in
        found_of t.machine b None (none_where_quiet own.all.now own.term t.machine b looks u.quiet outside none among quiet refuted)
