-- The spans of a cell from its rows: the hulls of one value, and the hull of the spans of all values.
use Rattle.std.proofs.Common.{◌≡◌, ℕ, zero, suc, ◌+◌, ◌*◌, ◌-◌, ◌<◌, ◌≤◌, ℤ, pos, List, [], ◌∷◌, ◌++◌, get_or, length, map, take, drop, slice_get, Option, Some, refl, sym, ap, ◌∙◌, subst, arith}
use Rattle.std.specs.Prelude.{IfSome, flat_map, slice_range}
use Rattle.std.specs.List.{AllByRecursion}
use Rattle.std.proofs.lemmas.List.{take_at, drop_at, drop-drop, take_more, drop_more, length-drop, map-append}
use Rattle.std.proofs.lemmas.List.Sums.{fold-append}
use Rattle.std.proofs.lemmas.Option.{none-some, same_Some, get_or_from_slice_get}
use Rattle.ts_base.specs.declared.span.Span.{Span}
use Rattle.ts_base.specs.Limits.{IsCellValue}
use Rattle.ts_base.specs.Spans.{none_span, span_hull}
use Rattle.ts_automaton.specs.declared.regs.Hull.{Hull}
use Rattle.ts_automaton.specs.AutomatonRun.{AreCellValues}
use Rattle.ts_automaton.specs.Body.{Body}
use Rattle.ts_domain.specs.BoxSeries.{IsBox}
use Rattle.ts_meet.specs.Meets.{hull_of_spans}
use Rattle.ts_bound.specs.HullTables.{hulls_at, row_of}
use Rattle.ts_bound.proofs.SpanEnds.{within_of}
use Rattle.ts_bound.proofs.SpanRuns.{length-hulls_at}
use Rattle.ts_filter.specs.Boxes.{Box, values_at}

-- the hulls of one value in a row

part_at : (n : ℕ) (f : ℤ → List Hull) → ((v : ℤ) → length (f v) ≡ n) → (vs : List ℤ) (i : ℕ) (v : ℤ) (p : ℕ) → p ≡ i * n → slice_get vs i ≡ Some v →
    take n (drop p (flat_map f vs)) ≡ f v
part_at n f size [] i v p at e = absurd (none-some v e)
part_at n f size (x ∷ vs) zero v p at e =
    let here : p ≡ 0 = omega (arith, at) in
    ap (λ q. take n (drop q (f x ++ flat_map f vs))) here ∙ take_at (f x) (flat_map f vs) n (size x) ∙ ap f (same_Some x v e)
part_at n f size (x ∷ vs) (suc i) v p at e =
    let further : n + (p - n) ≡ p = omega (arith, at) in let less : p - n ≡ i * n = omega (arith, at) in
    ap (λ q. take n (drop q (f x ++ flat_map f vs))) (sym further) ∙ ap (take n) (sym (drop-drop (p - n) n (f x ++ flat_map f vs)))
    ∙ ap (λ l. take n (drop (p - n) l)) (drop_at (f x) (flat_map f vs) n (size x)) ∙ part_at n f size vs i v (p - n) less e

pub row_block : (a : Body) (before : Box) (values : List ℤ) (i : ℕ) (v : ℤ) (row hs : List Hull) (s : ℕ) → s ≡ length a.states → row ≡ row_of a before values →
    slice_get values i ≡ Some v → hs ≡ slice_range row (i * s) (i * s + s) → hs ≡ hulls_at a before v
unfolding row_of
row_block a before values i v row hs s is_s is e is_hs =
    let wide : i * s + s - i * s ≡ s = omega arith in
    is_hs ∙ ap (λ w. take w (drop (i * s) row)) wide ∙ ap (λ l. take s (drop (i * s) l)) is
    ∙ part_at s (hulls_at a before) (λ u. length-hulls_at a before u ∙ sym is_s) values i v (i * s) refl e

value_fits : (vs : List ℤ) (i : ℕ) (v : ℤ) → AllByRecursion IsCellValue vs → slice_get vs i ≡ Some v → IsCellValue v
value_fits [] i v h e = absurd (none-some v e)
value_fits (x ∷ vs) zero v h e = subst IsCellValue (same_Some x v e) h.0
value_fits (x ∷ vs) (suc i) v h e = value_fits vs i v h.1 e

pub cell_value : (b : Box) (k i : ℕ) (v : ℤ) → IsBox b → 1 ≤ k → k ≤ length b → slice_get (values_at k b) i ≡ Some v → IsCellValue v
cell_value b k i v box some to e = value_fits (values_at k b) i v (within_of b (k - 1) (values_at k b) box (omega (arith, some, to)) refl) e

pub cells_by_place : (values : List ℤ) → ((i : ℕ) → i < length values → IsCellValue (get_or values i (pos 0))) → AreCellValues values
cells_by_place [] h = tt
cells_by_place (x ∷ values) h = (h 0 (omega arith), cells_by_place values (λ i lt. h (suc i) (omega (arith, lt))))

-- the hull of the spans of the values so far

pub span_more : (f : ℤ → Span) (values : List ℤ) (i : ℕ) (v : ℤ) (span one both : Span) → i < length values → slice_get values i ≡ Some v → one ≡ f v →
    both ≡ span_hull span one → span ≡ hull_of_spans (map f (take i values)) → both ≡ hull_of_spans (map f (take (i + 1) values))
span_more f values i v span one both lt e is_one is_both inv =
    let so_far = hull_of_spans (map f (take i values)) in
    is_both ∙ ap (λ s. span_hull s one) inv ∙ ap (span_hull so_far) is_one
    ∙ sym (ap (λ l. hull_of_spans (map f l)) (take_more values i v lt ∙ ap (λ x. take i values ++ x ∷ []) (get_or_from_slice_get values i v v e))
    ∙ ap hull_of_spans (map-append f (take i values) (v ∷ [])) ∙ fold-append span_hull none_span (map f (take i values)) (f v ∷ []))

-- the values from a place on

-- the next of the values from a place on
pub walk_step : (values : List ℤ) (i : ℕ) (v : ℤ) (rest : List ℤ) → drop i values ≡ v ∷ rest →
    (i < length values) × (slice_get values i ≡ Some v) × (rest ≡ drop (i + 1) values)
walk_step [] zero v rest e = cc
walk_step [] (suc i) v rest e = cc
walk_step (x ∷ xs) zero v rest e = let first : x ≡ v = cc in let others : xs ≡ rest = cc in (omega arith, ap (λ y. Some y) first, sym others)
walk_step (x ∷ xs) (suc i) v rest e =
    let later = walk_step xs i v rest e in let place : suc (i + 1) ≡ suc i + 1 = omega arith in
    (omega (arith, later.0), later.1, later.2 ∙ ap (λ n. drop n (x ∷ xs)) place)

pub walk_end : (values : List ℤ) (i : ℕ) → drop i values ≡ [] → length values ≤ i
walk_end [] i e = omega arith
walk_end (x ∷ xs) zero e = cc
walk_end (x ∷ xs) (suc i) e = let rest = walk_end xs i e in omega (arith, rest)

-- a place before the end that isn't the last one
pub not_last : (i end : ℕ) → i < end → (i + 1 ≡ end → ⊥) → i + 1 < end
not_last i zero below more = absurd (omega (arith, below))
not_last zero (suc zero) below more = absurd (more (omega arith))
not_last zero (suc (suc n)) below more = omega arith
not_last (suc i) (suc n) below more = let later = not_last i n (omega (arith, below)) (λ e. more (omega (arith, e))) in omega (arith, later)

pub left_is : (values : List ℤ) (i : ℕ) (x : ℤ) → i < length values → slice_get values i ≡ Some x → drop i values ≡ x ∷ drop (i + 1) values
left_is values i x lt e = drop_more values i x lt ∙ ap (λ y. y ∷ drop (i + 1) values) (get_or_from_slice_get values i x x e)

-- some values are still to come before the end
pub some_left : (values rest : List ℤ) (i : ℕ) → i < length values → rest ≡ drop i values → 0 < length rest
some_left values rest i lt is = let long = length-drop i values in let same = ap length is in omega (arith, lt, long, same)

-- what is known of a walk that goes on from the place after the last one
pub walk_goes_on : (values : List ℤ) (last i : ℕ) (walk : Option (List ℤ)) (rest : List ℤ) → IfSome walk (λ w. w ≡ drop (last + 1) values) →
    walk ≡ Some rest → i ≡ last + 1 → rest ≡ drop i values
walk_goes_on values last i walk rest h is next =
    subst (λ o. IfSome o (λ w. w ≡ drop (last + 1) values)) is h ∙ ap (λ n. drop n values) (sym next)

-- its first value, and what comes after that
pub walk_given : (values rest after : List ℤ) (i : ℕ) (v : ℤ) → rest ≡ drop i values → rest ≡ v ∷ after →
    (slice_get values i ≡ Some v) × (after ≡ drop (i + 1) values)
walk_given values rest after i v is e = let step = walk_step values i v after (sym is ∙ e) in (step.1, step.2)
