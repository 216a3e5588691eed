-- The hulls of a cell, from the rows that are known.
use Rattle.std.proofs.Common.{◌≡◌, ℕ, ℤ, List, ◌+◌, ◌-◌, ◌<◌, ◌≤◌, length, [], get_or, Option, Some, None, refl, sym, ap, ◌∙◌, subst, arith}
use Rattle.std.specs.Prelude.{IfSome, MatchOption, option_map}
use Rattle.std.proofs.lemmas.Option.{same_Some}
use Rattle.ts_base.specs.Windows.{looked_at}
use Rattle.ts_bound.specs.Blocks.{OfReverse}
use Rattle.ts_bound.specs.HullTables.{row_of}
use Rattle.ts_bound.specs.PackedRows.{seen_row}
use Rattle.ts_automaton.specs.declared.state.Mark.{Mark}
use Rattle.ts_automaton.specs.Body.{Body}
use Rattle.ts_bound.specs.Laws.{AreAutomata}
use Rattle.ts_bound.specs.Looks.{count_looked, first_looked, last_looked, place_in}
use Rattle.ts_bound.specs.TermSpans.{Automata}
use Rattle.ts_bound.proofs.Looking.{ends_inside}
use Rattle.ts_glue.specs.declared.machine.Half.{Half}
use Rattle.ts_glue.specs.declared.machine.Machine.{Machine}
use Rattle.ts_glue.specs.Machines.{forward_of, reverse_of}
use Rattle.ts_glue.specs.Pairs.{Pair, pair, table_view}
use Rattle.ts_glue.proofs.CallerLemmas.{machines_keep_rules}
use Rattle.ts_glue.proofs.Facts.{facts_of}
use Rattle.ts_bound.specs.declared.any_row.AnyRow.{AnyRow}
use Rattle.ts_bound.specs.declared.any_row.Form.{Form}
use Rattle.ts_bound.specs.declared.planned.Planned.{Planned}
use Rattle.ts_bound.specs.AnyRows.{form_of, form_sides, viewed}
use Rattle.ts_bound.specs.BoxRows.{IsPlannedBack}
use Rattle.ts_bound.specs.RowStacks.{HasStates, IsPlanned, hulls_in, sight}
use Rattle.ts_bound.proofs.KnownRows.{ahead_there, behind_there}
use Rattle.ts_bound.proofs.PackedStacks.{packed_row}
use Rattle.ts_filter.specs.declared.cell_hulls.BackSide.{BackSide}
use Rattle.ts_filter.specs.declared.question.Question.{Question}
use Rattle.ts_filter.specs.Alike.{IsServed}
use Rattle.ts_filter.specs.Boxes.{Box, values_at}
use Rattle.ts_filter.specs.CellHulls.{AreHulls, HasForm, HasHulls, IsBackSide, IsSide, seen_after, seen_before}
use Rattle.ts_filter.specs.KnownRows.{KnownRows, AreKnown, AreRowsOf, StillKnown, HasJoints, HasRows, ends_of}
use Rattle.ts_filter.proofs.Looked.{inner_values, place_behind, place_from, place_is, place_to}

-- a row that is known, with how it is glued
packed_side : (o : Option Pair) (p : Planned) (behind : Box) (values : List ℤ) (side : BackSide) → IsPlannedBack o p → HasJoints o (Some side.joints.now) →
    HasStates p (viewed side.row) → OfReverse o (λ r. hulls_in p.states (viewed side.row) ≡ seen_row (form_sides p.form) (row_of r behind values)) →
    IsSide o behind values side
packed_side None p behind values side is joints states hulls = absurd hulls
packed_side (Some m) p behind values side is joints states hulls =
    (joints, packed_row m.reverse p behind values (viewed side.row) is states hulls)

-- where it isn't known how the automata are glued, there is only one
pub one_automaton : (o : Option Pair) → HasJoints o None → o ≡ None
one_automaton None h = refl
one_automaton (Some p) h = absurd h

lower : (m n : ℕ) → m ≤ n → (m ≡ n → ⊥) → m < n
lower m n l ne = grind (arith, l, ne)

module _ (b : Box) (t : KnownRows) (k : ℕ) (h : HasHulls t.machine k b) where
  -- the forward rows up to that of cell k are no more than the cells that are looked at
  pub ahead_count : k - first_looked t.machine.window + 1 ≤ length (looked_at t.machine.window b)
  ahead_count =
      let is = place_is t.machine k b h in let to = place_to t.machine k b h in let first = (ends_inside t.machine.window (length b) h.looks).0 in
      let from = h.from in omega (arith, is, to, first, from)

  pub behind_count : k < last_looked t.machine.window (length b) →
      last_looked t.machine.window (length b) - k + 1 ≤ length (looked_at t.machine.window b)
  behind_count lt =
      let rest = place_behind t.machine k b h in let some = place_from t.machine k b h in let to = place_to t.machine k b h in
      omega (arith, lt, rest, some, to)

  pub split_there : k < last_looked t.machine.window (length b) → t.machine.pair ≡ None → ⊥
  split_there lt e = let last = h.last e in omega (arith, lt, last)

  module _ (known : AreKnown b t) (rows : HasRows k b t) where
    pub ahead_inside : k - first_looked t.machine.window < length t.ahead
    ahead_inside =
        let is = place_is t.machine k b h in let first = (ends_inside t.machine.window (length b) h.looks).0 in let from = h.from in
        let there = rows.ahead in omega (arith, there, is, first, from)

    pub behind_inside : (k ≡ last_looked t.machine.window (length b) → ⊥) → last_looked t.machine.window (length b) - k < length t.behind
    behind_inside below =
        let rest = place_behind t.machine k b h in
        let lt = lower k (last_looked t.machine.window (length b)) h.to below in
        let there = rows.behind (omega (arith, lt, rest)) in omega (arith, there, rest)

    pub back_side_of : (p : Planned) (side : BackSide) → p.form ≡ t.form → IsPlannedBack t.machine.pair p → HasJoints t.machine.pair (Some side.joints.now) →
        HasStates p (viewed side.row) → (k ≡ last_looked t.machine.window (length b) → ⊥) →
        hulls_in p.states (viewed side.row) ≡ get_or t.behind (last_looked t.machine.window (length b) - k) [] → IsBackSide t.machine k b side
    back_side_of p side form planned joints states below is =
        let rest = place_behind t.machine k b h in
        let place = place_in t.machine.window k in let cells = looked_at t.machine.window b in
        let there = behind_inside below in
        packed_side t.machine.pair p (seen_after t.machine k b) (values_at k b) side planned joints states
        (subst
        (λ f. OfReverse t.machine.pair
        (λ r. hulls_in p.states (viewed side.row) ≡ seen_row (form_sides f) (row_of r (seen_after t.machine k b) (values_at k b))))
        (sym form)
        (subst (λ vs. OfReverse t.machine.pair (λ r. hulls_in p.states (viewed side.row) ≡ seen_row (ends_of t) (row_of r (seen_after t.machine k b) vs)))
        (inner_values t.machine k b h)
        (behind_there t.machine.pair (ends_of t) cells t.behind (hulls_in p.states (viewed side.row)) [] place (λ e. below (h.last e)) known.behind
        (place_from t.machine k b h)
        (place_to t.machine k b h) (omega (arith, there, rest)) (is ∙ sym (ap (λ i. get_or t.behind i []) rest)))))

    -- the other side has the form of the row
    same_forms : (row : AnyRow) (back : Option BackSide) → form_of row ≡ t.form → IfSome back (λ side. form_of (viewed side.row) ≡ t.form) → HasForm back row
    same_forms row None form forms = tt
    same_forms row (Some side) form forms = forms ∙ sym form

    pub hulls_are : (p : Planned) (row : AnyRow) (back : Option BackSide) → AreAutomata t.machine → p.form ≡ t.form →
        IsPlanned t.machine.forward p → HasStates p row →
        hulls_in p.states row ≡ get_or t.ahead (k - first_looked t.machine.window) [] →
        MatchOption back (k ≡ last_looked t.machine.window (length b)) (IsBackSide t.machine k b) →
        IfSome back (λ side. form_of (viewed side.row) ≡ t.form) → AreHulls t.machine b k row back
    hulls_are p row back whole form planned states is behind forms =
        let at = place_is t.machine k b h in let first = (ends_inside t.machine.window (length b) h.looks).0 in let from = h.from in
        let same : k - first_looked t.machine.window ≡ place_in t.machine.window k - 1 = omega (arith, at, first, from) in
        let f = t.machine.forward in
        record {
          whole = whole;
          form = same_forms row back (states.form ∙ form) forms;
          there = h;
          ahead = packed_row f p (seen_before t.machine k b) (values_at k b) row planned states
              (ahead_there (sight f (ends_of t)) (looked_at t.machine.window b) t.ahead (hulls_in p.states row) [] (place_in t.machine.window k) known.ahead
              (place_from t.machine k b h) rows.ahead (is ∙ ap (λ i. get_or t.ahead i []) same)
              ∙ ap (λ vs. seen_row (ends_of t) (row_of f (seen_before t.machine k b) vs)) (inner_values t.machine k b h)
              ∙ ap (λ z. seen_row (form_sides z) (row_of f (seen_before t.machine k b) (values_at k b))) (sym form));
          behind = behind;
        }

-- tables with enough ends for a question

abbrev pub IsServedBy : Form → Automata → Box → Question → Type 0
IsServedBy f a b asked = IsServed (form_sides f) a.forward.mark (count_looked a.window (length b)) asked

pub still_served : (b : Box) (asked : Question) (old new : KnownRows) (f : Form) → new.machine ≡ old.machine → new.form ≡ f →
    IsServedBy f old.machine b asked → IsServedBy new.form new.machine b asked
still_served b asked old new f machine form h =
    subst (λ (a : Automata). IsServedBy new.form a b asked) (sym machine) (subst (λ g. IsServedBy g old.machine b asked) (sym form) h)

-- both automata of a machine have one width
pub back_width : (m : Machine) (b : Body) → Some b ≡ reverse_of m → b.wide ≡ (forward_of m).wide
back_width m b e = by_half m.half refl e
  where
    pair_with : Half → Pair
    pair_with h = pair m.forward h.reverse (table_view h.table)

    by_half : (o : Option Half) → m.half ≡ o → Some b ≡ option_map (λ (p : Pair). p.reverse) (option_map pair_with o) → b.wide ≡ m.forward.wide
    by_half None is e = cc
    by_half (Some h) is e =
        let f = facts_of (pair_with h) (machines_keep_rules m (pair_with h) (ap (option_map pair_with) is)).0 in
        ap (λ (z : Body). z.wide) (same_Some b h.reverse e) ∙ f.reverse_width ∙ sym f.forward_width
