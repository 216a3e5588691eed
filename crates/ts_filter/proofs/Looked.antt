-- The cells that a machine looks at: where a span is read.
use Rattle.std.proofs.Common.{◌≡◌, ℕ, ◌-◌, ◌≤◌, true, false, cond, [], length, map, ℤ, None, refl, sym, ap, ◌∙◌, subst, arith}
use Rattle.ts_base.specs.Windows.{looked_at}
use Rattle.ts_meet.specs.Meets.{hull_of_spans}
use Rattle.ts_bound.specs.Looks.{is_looked, first_looked, last_looked, read_at, place_in}
use Rattle.ts_bound.specs.TermSpans.{Automata, LooksIn, inner_span, inner_value_span, term_span, value_span}
use Rattle.ts_bound.proofs.Looking.{ends_inside, looked_bounds, looked_by, looked_get, looked_length, place_end, place_inside, place_read, read_inside, read_inside_box, read_outside}
use Rattle.ts_filter.specs.Boxes.{Box, HasCell, values_at}
use Rattle.ts_filter.specs.CellHulls.{HasHulls}

-- where a span is read

pub read_hulls : (a : Automata) (b : Box) (p k : ℕ) → LooksIn a b → HasCell p b → (a.pair ≡ None → p ≡ length b) → k ≡ read_at a.window p → HasHulls a k b
read_hulls a b p k looks c usable is =
    let w = a.window in let n = length b in
    let read = read_inside_box w n p looks c.0 c.1 in
    let bounds = looked_bounds w n (read_at w p) read.0 read.1 read.2 in
    let from = bounds.0 in let to = bounds.1 in
    subst (λ j. HasHulls a j b) (sym is) (record {
      looks = looks;
      from = from;
      to = to;
      last = λ e.
          let end = ap (place_in w) (usable e) ∙ place_end w n looks in let first = (ends_inside w n looks).0 in
          omega (arith, from, to, end, first);
    })

-- where a span is read at a cell that is looked at
pub hulls_inside : (a : Automata) (b : Box) (k : ℕ) → LooksIn a b → HasCell k b → (a.pair ≡ None → k ≡ length b) → is_looked a.window k ≡ true →
    HasHulls a k b
hulls_inside a b k looks c usable e = read_hulls a b k k looks c usable (sym (read_inside a.window k e))

-- the span with a value at a cell that is looked at is read inside
pub value_looked : (a : Automata) (k : ℕ) (b : Box) (v : ℤ) → is_looked a.window k ≡ true →
    value_span a k b v ≡ inner_value_span a (place_in a.window k) (looked_at a.window b) v
unfolding value_span
value_looked a k b v e = ap (λ t. cond t (inner_value_span a (place_in a.window k) (looked_at a.window b) v) (term_span a k b)) e

-- what holds of a cell with hulls

module _ (a : Automata) (k : ℕ) (b : Box) (h : HasHulls a k b) where
  pub is_there : is_looked a.window k ≡ true
  is_there = looked_by a.window (length b) k h.from h.to

  pub cell_there : HasCell k b
  cell_there =
      let ends = ends_inside a.window (length b) h.looks in let first = ends.0 in let last = ends.1 in let from = h.from in let to = h.to in
      (omega (arith, first, from), omega (arith, last, to))

  pub place_is : place_in a.window k ≡ k - (first_looked a.window - 1)
  place_is = place_inside a.window k is_there

  pub place_from : 1 ≤ place_in a.window k
  place_from = let first = (ends_inside a.window (length b) h.looks).0 in let from = h.from in let is = place_is in omega (arith, first, from, is)

  pub place_to : place_in a.window k ≤ length (looked_at a.window b)
  place_to = let long = looked_length a.window b h.looks in let to = h.to in let is = place_is in omega (arith, long, to, is)

  pub place_last : k ≡ last_looked a.window (length b) → place_in a.window k ≡ length (looked_at a.window b)
  place_last e = place_is ∙ ap (λ j. j - (first_looked a.window - 1)) e ∙ sym (looked_length a.window b h.looks)

  pub place_behind : length (looked_at a.window b) - place_in a.window k ≡ last_looked a.window (length b) - k
  place_behind =
      let long = looked_length a.window b h.looks in let is = place_is in let first = (ends_inside a.window (length b) h.looks).0 in
      let from = h.from in let to = h.to in omega (arith, long, is, first, from, to)

  pub inner_values : values_at (place_in a.window k) (looked_at a.window b) ≡ values_at k b
  inner_values = looked_get b k a.window [] h.looks is_there

  -- the span there is the hull of those of its values, which are read inside
  pub value_inside : (v : ℤ) → value_span a k b v ≡ inner_value_span a (place_in a.window k) (looked_at a.window b) v
  value_inside v = value_looked a k b v is_there

  pub span_inside : term_span a k b ≡ hull_of_spans (map (value_span a k b) (values_at k b))
  unfolding value_span term_span inner_span
  span_inside =
      let inner = inner_value_span a (place_in a.window k) (looked_at a.window b) in
      ap (λ vs. hull_of_spans (map inner vs)) inner_values
      ∙ ap (λ t. hull_of_spans (map (λ v. cond t (inner v) (term_span a k b)) (values_at k b))) (sym is_there)

-- outside the window

pub value_outside : (a : Automata) (k : ℕ) (b : Box) (v : ℤ) → is_looked a.window k ≡ false → value_span a k b v ≡ term_span a k b
unfolding value_span
value_outside a k b v e = ap (λ t. cond t (inner_value_span a (place_in a.window k) (looked_at a.window b) v) (term_span a k b)) e

pub span_read : (a : Automata) (b : Box) (p k : ℕ) → LooksIn a b → HasCell p b → k ≡ read_at a.window p → term_span a k b ≡ term_span a p b
unfolding term_span
span_read a b p k looks c is =
    ap (λ j. inner_span a j (looked_at a.window b)) (ap (place_in a.window) is ∙ place_read a.window (length b) p looks c.0 c.1)

pub span_outside : (a : Automata) (b : Box) (k : ℕ) → LooksIn a b → HasCell k b → is_looked a.window k ≡ false →
    term_span a (last_looked a.window (length b)) b ≡ term_span a k b
span_outside a b k looks c e = span_read a b k (last_looked a.window (length b)) looks c (sym (read_outside a.window (length b) k e))
