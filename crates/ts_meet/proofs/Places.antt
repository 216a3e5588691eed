-- The hull of the spans of many values, taken in pair of states by pair of states.
use Rattle.std.proofs.Common.{◌≡◌, inl, inr, ℕ, zero, suc, ◌+◌, ◌<◌, ◌≤◌, ◌<ℤ◌, ℤ, pos, Bool, false, cond, ◌&&◌, List, [], get_or, length, map, refl, sym, ap, subst, ◌∙◌, arith}
use Rattle.std.specs.Prelude.{fold}
use Rattle.std.specs.Int.{int_max}
use Rattle.std.specs.List.{range_with_len}
use Rattle.std.proofs.lemmas.Int.{ints}
use Rattle.std.proofs.lemmas.List.FromFn.{map-range_with_len_more}
use Rattle.std.proofs.lemmas.List.Sums.{fold_push}
use Rattle.ts_base.specs.declared.span.Span.{Span}
use Rattle.ts_base.specs.SpanLayer.{IsWithin}
use Rattle.ts_base.specs.Spans.{none_span, span_hull}
use Rattle.ts_base.proofs.SpanLaws.{hull_left}
use Rattle.ts_automaton.specs.Body.{Body}
use Rattle.ts_automaton.specs.Registers.{EachOf, spans}
use Rattle.ts_automaton.specs.SpanRun.{has_registers, marked_span}
use Rattle.ts_glue.specs.Glue.{glue_in, glue_of}
use Rattle.ts_glue.specs.Pairs.{Pair}
use Rattle.ts_hull.specs.Sealed.{least_span}
use Rattle.ts_hull.proofs.SpanHulls.{hull_assoc as least_assoc, hull_comm as least_comm}
use Rattle.ts_sweep.specs.declared.packed.Ends.{Ends}
use Rattle.ts_sweep.specs.declared.packed.PackedHull.{PackedHull}
use Rattle.ts_sweep.specs.Lanes.{least}
use Rattle.ts_sweep.specs.Packed.{ends, max_ends}
use Rattle.ts_sweep.specs.Sides.{Sides, sides, seen}
use Rattle.ts_meet.specs.Along.{between_along, column_finish, finishes_along, hull_over, pair_along, with_along}
use Rattle.ts_meet.specs.Meets.{finish_seen, glued_seen, hull_of_spans, standing, standing_in}
use Rattle.ts_meet.specs.Settled.{with_hull_at}
use Rattle.ts_meet.specs.Sides.{StandFor, no_ends}
use Rattle.ts_meet.proofs.Asking.{up_to}
use Rattle.ts_meet.proofs.Marks.{takes_in, with_nothing}
use Rattle.ts_meet.proofs.Meeting.{between_more, between_none, finishes_more, finishes_none, with_more, with_none}
use Rattle.ts_meet.proofs.Pointed.{none_seen}

hull_comm : (s t : Span) → span_hull s t ≡ span_hull t s
unfolding least_span
hull_comm s t = least_comm s t

hull_assoc : (s t u : Span) → span_hull (span_hull s t) u ≡ span_hull s (span_hull t u)
unfolding least_span
hull_assoc s t u = least_assoc s t u

-- one span more

pub over_none : (f : ℕ → Span) → hull_over f 0 ≡ none_span
unfolding hull_over
over_none f = refl

pub over_more : (f : ℕ → Span) (m : ℕ) → hull_over f (m + 1) ≡ span_hull (hull_over f m) (f m)
unfolding hull_over
over_more f m = ap hull_of_spans (map-range_with_len_more f 0 m m (omega arith)) ∙ fold_push span_hull none_span (map f (range_with_len 0 m)) (f m)

next : (f : ℕ → Span) (m : ℕ) → hull_over f (suc m) ≡ span_hull (hull_over f m) (f m)
next f m = let e : suc m ≡ m + 1 = omega arith in ap (hull_over f) e ∙ over_more f m

-- the same spans have one hull
pub over_same : (f g : ℕ → Span) (m : ℕ) → ((i : ℕ) → i < m → f i ≡ g i) → hull_over f m ≡ hull_over g m
over_same f g zero h = over_none f ∙ sym (over_none g)
over_same f g (suc m) h =
    next f m ∙ ap (λ z. span_hull z (f m)) (over_same f g m (λ i lt. h i (omega (arith, lt)))) ∙ ap (span_hull (hull_over g m)) (h m (omega arith))
    ∙ sym (next g m)

pub over_nones : (m : ℕ) → hull_over (λ i. none_span) m ≡ none_span
over_nones zero = over_none (λ i. none_span)
over_nones (suc m) = next (λ i. none_span) m ∙ ap (λ z. span_hull z none_span) (over_nones m)

-- what is taken in place by place may be taken in as a whole

crossed : (s t u v : Span) → span_hull (span_hull s t) (span_hull u v) ≡ span_hull (span_hull s u) (span_hull t v)
crossed s t u v =
    hull_assoc s t (span_hull u v) ∙ ap (span_hull s) (sym (hull_assoc t u v) ∙ ap (λ z. span_hull z v) (hull_comm t u) ∙ hull_assoc u t v)
    ∙ sym (hull_assoc s u (span_hull t v))

pub over_both : (f g : ℕ → Span) (m : ℕ) → hull_over (λ i. span_hull (f i) (g i)) m ≡ span_hull (hull_over f m) (hull_over g m)
over_both f g zero =
    over_none (λ i. span_hull (f i) (g i)) ∙ sym (ap (λ z. span_hull z (hull_over g 0)) (over_none f) ∙ ap (span_hull none_span) (over_none g))
over_both f g (suc m) =
    next (λ i. span_hull (f i) (g i)) m ∙ ap (λ z. span_hull z (span_hull (f m) (g m))) (over_both f g m)
    ∙ crossed (hull_over f m) (hull_over g m) (f m) (g m)
    ∙ sym (ap (λ z. span_hull z (hull_over g (suc m))) (next f m) ∙ ap (span_hull (span_hull (hull_over f m) (f m))) (next g m))

-- ends that stand for nothing are taken in unchanged

max_least : (x : ℤ) → least <ℤ x → int_max x least ≡ x
max_least x h = grind (arith, ints)

max_nothing : (a : Ends) (s : Span) → StandFor a s → max_ends a no_ends ≡ a
max_nothing a s (inl h) = ap (λ z. max_ends z no_ends) h.0 ∙ sym h.0
max_nothing a s (inr p) = ap (λ z. ends z (int_max a.above least)) (max_least a.below p.some.below) ∙ ap (ends a.below) (max_least a.above p.some.above)

pub takes_both : (a b : Ends) (s t : Span) → StandFor a s → StandFor b t → StandFor (max_ends a b) (span_hull s t)
takes_both a b s t h (inl none) =
    subst (λ z. StandFor (max_ends a z) (span_hull s t)) (sym none.0)
    (subst (λ z. StandFor z (span_hull s t)) (sym (max_nothing a s h))
    (subst (StandFor a) (sym (ap (span_hull s) none.1 ∙ with_nothing a s h)) h))
takes_both a b s t h (inr p) = takes_in a b s t h p

-- a state on the left that isn't reached adds nothing
pub left_out : (s : Sides) (p : Pair) (q r : ℕ) (regs others : EachOf Span) (x : ℤ) (cells : ℕ) → has_registers regs ≡ false →
    glued_seen s p (standing q regs) (standing r others) x cells ≡ none_span
left_out s p q r regs others x cells h =
    ap (λ b. marked_span p.forward.mark cells (seen s (cond (b && has_registers others) (glue_in spans regs others (glue_of p q r x)) none_span))) h
    ∙ ap (marked_span p.forward.mark cells) (none_seen s)

-- the loops over states, at all places at once

module _ (n : ℕ) (p : Pair) (from : ℕ) (values : List ℤ) (cells : ℕ) where
  pub pair_none : (q r : ℕ) (left right : List (PackedHull n)) → pair_along n p q r left right from values cells 0 ≡ none_span
  pair_none q r left right =
      over_none (λ i. glued_seen (sides n) p (with_hull_at n q left (from + i)) (with_hull_at n r right (from + i)) (get_or values i (pos 0)) cells)

  pub pair_more : (q r : ℕ) (left right : List (PackedHull n)) (m : ℕ) →
      pair_along n p q r left right from values cells (m + 1)
      ≡ span_hull (pair_along n p q r left right from values cells m)
      (glued_seen (sides n) p (with_hull_at n q left (from + m)) (with_hull_at n r right (from + m)) (get_or values m (pos 0)) cells)
  pair_more q r left right m =
      over_more (λ i. glued_seen (sides n) p (with_hull_at n q left (from + i)) (with_hull_at n r right (from + i)) (get_or values i (pos 0)) cells) m

  module _ (q : ℕ) (left : List (PackedHull n)) (right : List (List (PackedHull n))) (so_far : ℕ → Span) (count : ℕ) where
    pub with_along_none : hull_over (with_along n p q left right from values cells 0 so_far) count ≡ hull_over so_far count
    with_along_none =
        over_same (with_along n p q left right from values cells 0 so_far) so_far count
        (λ i lt. ap (fold span_hull (so_far i)) (with_none n p (with_hull_at n q left (from + i)) right (from + i) (get_or values i (pos 0)) cells))

    pub with_along_more : (m : ℕ) → hull_over (with_along n p q left right from values cells (m + 1) so_far) count
        ≡ span_hull (hull_over (with_along n p q left right from values cells m so_far) count)
        (pair_along n p q m left (get_or right m []) from values cells count)
    with_along_more m =
        let before : ℕ → Span = with_along n p q left right from values cells m so_far in
        let pair : ℕ → Span =
        λ i. glued_seen (sides n) p (with_hull_at n q left (from + i)) (standing_in n right m (from + i)) (get_or values i (pos 0)) cells in
        over_same (with_along n p q left right from values cells (m + 1) so_far) (λ i. span_hull (before i) (pair i)) count
        (λ i lt. with_more n p (with_hull_at n q left (from + i)) right (from + i) (get_or values i (pos 0)) cells m (so_far i))
        ∙ over_both before pair count

    pub with_along_rises : (k m : ℕ) → k ≤ m → IsWithin (hull_over (with_along n p q left right from values cells k so_far) count)
        (hull_over (with_along n p q left right from values cells m so_far) count)
    with_along_rises k m le =
        let f : ℕ → Span = λ j. hull_over (with_along n p q left right from values cells j so_far) count in
        up_to f
        (λ j. subst (IsWithin (f j)) (sym (with_along_more j)) (hull_left (f j) (pair_along n p q j left (get_or right j []) from values cells count)))
        k m le

  module _ (left right : List (List (PackedHull n))) (count : ℕ) where
    pub between_along_none : hull_over (between_along n p left right from values cells 0) count ≡ none_span
    between_along_none =
        over_same (between_along n p left right from values cells 0) (λ i. none_span) count
        (λ i lt. ap hull_of_spans (between_none n p left right (from + i) (get_or values i (pos 0)) cells (length p.reverse.states)))
        ∙ over_nones count

    pub between_along_more : (k : ℕ) → hull_over (between_along n p left right from values cells (k + 1)) count
        ≡ hull_over
        (with_along n p k (get_or left k []) right from values cells (length p.reverse.states) (between_along n p left right from values cells k)) count
    between_along_more k =
        over_same (between_along n p left right from values cells (k + 1))
        (with_along n p k (get_or left k []) right from values cells (length p.reverse.states) (between_along n p left right from values cells k)) count
        (λ i lt. between_more n p left right (from + i) (get_or values i (pos 0)) cells (length p.reverse.states) k none_span)

    pub between_along_rises : (k m : ℕ) → k ≤ m →
        IsWithin (hull_over (between_along n p left right from values cells k) count) (hull_over (between_along n p left right from values cells m) count)
    between_along_rises k m le =
        let f : ℕ → Span = λ j. hull_over (between_along n p left right from values cells j) count in
        up_to f
        (λ j.
        let before = between_along n p left right from values cells j in let states = length p.reverse.states in let first : 0 ≤ states = omega arith in
        let with : ℕ → Span = λ m. hull_over (with_along n p j (get_or left j []) right from values cells m before) count in
        subst (IsWithin (f j)) (sym (between_along_more j))
        (subst (λ s. IsWithin s (with states)) (with_along_none j (get_or left j []) right before count)
        (with_along_rises j (get_or left j []) right before count 0 states first)))
        k m le

-- the loops over the states of the last cell

module _ (n : ℕ) (b : Body) (from cells : ℕ) where
  pub column_none : (q : ℕ) (hulls : List (PackedHull n)) → column_finish n b q hulls from cells 0 ≡ none_span
  column_none q hulls = over_none (λ i. finish_seen (sides n) b (with_hull_at n q hulls (from + i)) cells)

  pub column_more : (q : ℕ) (hulls : List (PackedHull n)) (m : ℕ) → column_finish n b q hulls from cells (m + 1)
      ≡ span_hull (column_finish n b q hulls from cells m) (finish_seen (sides n) b (with_hull_at n q hulls (from + m)) cells)
  column_more q hulls m = over_more (λ i. finish_seen (sides n) b (with_hull_at n q hulls (from + i)) cells) m

  pub finishes_along_none : (row : List (List (PackedHull n))) (count : ℕ) → hull_over (finishes_along n b row from cells 0) count ≡ none_span
  finishes_along_none row count =
      over_same (finishes_along n b row from cells 0) (λ i. none_span) count
      (λ i lt. ap hull_of_spans (finishes_none n b row (from + i) cells)) ∙ over_nones count

  pub finishes_along_more : (row : List (List (PackedHull n))) (count k : ℕ) → hull_over (finishes_along n b row from cells (k + 1)) count
      ≡ span_hull (hull_over (finishes_along n b row from cells k) count) (column_finish n b k (get_or row k []) from cells count)
  finishes_along_more row count k =
      let before : ℕ → Span = finishes_along n b row from cells k in
      let here : ℕ → Span = λ i. finish_seen (sides n) b (standing_in n row k (from + i)) cells in
      over_same (finishes_along n b row from cells (k + 1)) (λ i. span_hull (before i) (here i)) count
      (λ i lt. finishes_more n b row (from + i) cells k none_span)
      ∙ over_both before here count
