-- The loops over the states of both sides.
use Rattle.std.proofs.Common.{◌≡◌, ℕ, zero, suc, ◌+◌, ◌≤◌, ◌<◌, ℤ, pos, Bool, true, false, cond, ◌&&◌, List, [], ◌∷◌, ◌++◌, map, get_or, refl, sym, ap, subst, ◌∙◌, arith}
use Rattle.std.specs.Prelude.{flat_map, fold}
use Rattle.std.specs.List.{range_with_len}
use Rattle.std.proofs.lemmas.List.{flat_map_more}
use Rattle.std.proofs.lemmas.List.FromFn.{map-range_with_len_more}
use Rattle.std.proofs.lemmas.List.Sums.{fold-append, fold_push}
use Rattle.ts_base.specs.declared.span.Span.{Span}
use Rattle.ts_base.specs.Spans.{none_span, span_hull}
use Rattle.ts_automaton.specs.declared.expr.Operator.{Operator}
use Rattle.ts_automaton.specs.declared.expr.Operator.TheVariants.{Fold, Sub}
use Rattle.ts_automaton.specs.Differences.{span_op}
use Rattle.ts_automaton.specs.Formula.{Formula}
use Rattle.ts_automaton.proofs.Evaluation.{value_related}
use Rattle.ts_automaton.proofs.Five.{none_registers}
use Rattle.ts_automaton.specs.AutomatonRun.{Standing}
use Rattle.ts_automaton.specs.Body.{Body}
use Rattle.ts_automaton.specs.Registers.{EachOf, spans, spans_of, value_in}
use Rattle.ts_automaton.specs.SpanRun.{has_registers, marked_span}
use Rattle.ts_automaton.specs.declared.state.Mark.{Mark}
use Rattle.ts_glue.specs.Glue.{Glue, glue_in, glue_of}
use Rattle.ts_glue.specs.Pairs.{Pair}
use Rattle.ts_glue.proofs.Expressions.{glue_related}
use Rattle.ts_hull.specs.Sealed.{by_ends, less_span, sealed_op, sealed_spans, span_in}
use Rattle.ts_row.specs.Rows.{IsRow, lanes_of, nothing}
use Rattle.ts_sweep.specs.declared.packed.Ends.{Ends}
use Rattle.ts_sweep.specs.declared.packed.PackedHull.{PackedHull}
use Rattle.ts_sweep.specs.Fronts.{IsFor}
use Rattle.ts_sweep.specs.Lanes.{some_lanes}
use Rattle.ts_sweep.specs.MoveLaws.{read_are, some_unpacked}
use Rattle.ts_sweep.specs.Packed.{AreSome, IsPacked, IsPackOf, unpacked}
use Rattle.ts_sweep.specs.PackedLaws.{none_unpacked}
use Rattle.ts_sweep.specs.Sides.{Sides, as_read, seen, sides}
use Rattle.ts_sweep.specs.TreeLaws.{tree_packs, zero_small}
use Rattle.ts_sweep.specs.Trees.{tree_value}
use Rattle.ts_sweep.proofs.PairSteps.{nothing_lanes}
use Rattle.ts_meet.specs.Joints.{AreJoints}
use Rattle.ts_meet.specs.declared.joints.Joints.{Joints}
use Rattle.ts_meet.specs.Meets.{HasPlace, finish_seen, finishes_in, glued_seen, spans_between, spans_with, standing, standing_in}
use Rattle.ts_meet.specs.Settled.{HavePlaces}
use Rattle.ts_meet.specs.Sides.{StandFor, shown_ends}
use Rattle.ts_meet.proofs.Marks.{with_nothing}
use Rattle.ts_meet.proofs.Pointed.{none_seen, shown_packs}

-- hulls in lanes

pub none_there : (n : ℕ) (xs : List ℤ) → 6 ≤ n → IsPacked n xs → some_lanes xs ≡ false → has_registers (spans_of (unpacked xs)) ≡ false
none_there n xs big p none = ap (λ h. has_registers (spans_of h)) (ap unpacked (nothing_lanes n xs big p none) ∙ none_unpacked n big) ∙ none_registers

-- the hull that was read at a place of a row
pub standing_there : (n : ℕ) (row : List (List (PackedHull n))) (q i : ℕ) (h : PackedHull n) → h ≡ get_or (get_or row q []) i (nothing n) →
    standing q (spans_of (unpacked (lanes_of n h))) ≡ standing_in n row q i
standing_there n row q i h is = ap (λ (z : PackedHull n). standing q (spans_of (unpacked (lanes_of n z)))) is

-- a pair of states

op_sealed : (o : Operator) (s t : Span) → sealed_op o s t ≡ span_op o s t
unfolding by_ends less_span
op_sealed (Fold o) s t = refl
op_sealed Sub s t = refl

join_sealed : (o : Operator) (s s' t t' : Span) → s ≡ t → s' ≡ t' → sealed_op o s s' ≡ span_op o t t'
join_sealed o s s' t t' p q = ap (λ z. sealed_op o z s') p ∙ ap (sealed_op o t) q ∙ op_sealed o t t'

pub value_sealed : (u : Glue) (s t : EachOf Span) → glue_in sealed_spans s t u ≡ glue_in spans s t u
value_sealed u s t =
    glue_related sealed_spans spans (λ v w. v ≡ w) (λ e. refl) join_sealed u s t s t (refl, refl, refl, refl, refl) (refl, refl, refl, refl, refl)

some_both : (a b : Bool) → a ≡ true → b ≡ true → (a && b) ≡ true
some_both a b p q = ap (λ z. z && b) p ∙ q

second_none : (a b : Bool) → b ≡ false → (a && b) ≡ false
second_none true b e = e
second_none false b e = refl

module _ (s : Sides) (p : Pair) (q r : ℕ) (regs others : EachOf Span) (x : ℤ) (cells : ℕ) where
  pub part_none : has_registers others ≡ false → glued_seen s p (standing q regs) (standing r others) x cells ≡ none_span
  part_none h =
      ap (λ b. marked_span p.forward.mark cells (seen s (cond b (glue_in spans regs others (glue_of p q r x)) none_span)))
      (second_none (has_registers regs) (has_registers others) h)
      ∙ ap (marked_span p.forward.mark cells) (none_seen s)

  pub part_is : has_registers regs ≡ true → has_registers others ≡ true →
      glued_seen s p (standing q regs) (standing r others) x cells
      ≡ marked_span p.forward.mark cells (seen s (glue_in sealed_spans regs others (glue_of p q r x)))
  part_is h k =
      ap (λ b. marked_span p.forward.mark cells (seen s (cond b (glue_in spans regs others (glue_of p q r x)) none_span)))
      (some_both (has_registers regs) (has_registers others) h k)
      ∙ ap (λ t. marked_span p.forward.mark cells (seen s t)) (sym (value_sealed (glue_of p q r x) regs others))

-- the glued ends of a pair of states stand for its span
pub pair_packs : (z : Sides) (p : Pair) (j : Joints) (q r : ℕ) (regs others : EachOf Span) (x : ℤ) (cells : ℕ) (u : Glue) (e m : Ends) →
    AreJoints p j → has_registers regs ≡ true → has_registers others ≡ true → u ≡ glue_of p q r x → IsPackOf e (seen z (glue_in sealed_spans regs others u)) →
    ((t : Span) → IsPackOf e t → IsPackOf m (marked_span j.mark cells t)) →
    IsPackOf m (glued_seen z p (standing q regs) (standing r others) x cells)
pair_packs z p j q r regs others x cells u e m h some same is glued marked =
    let value = seen z (glue_in sealed_spans regs others u) in
    subst (IsPackOf m)
    (ap (λ k. marked_span k cells value) h.mark ∙ ap (λ v. marked_span p.forward.mark cells (seen z (glue_in sealed_spans regs others v))) is
    ∙ sym (part_is z p q r regs others x cells some same))
    (marked value glued)

-- the glued ends of a pair of states are taken into a hull
pub pair_taken : (z : Sides) (p : Pair) (j : Joints) (q r : ℕ) (regs others : EachOf Span) (x : ℤ) (cells : ℕ) (u : Glue) (hull e m result : Ends) (s : Span) →
    AreJoints p j → has_registers regs ≡ true → has_registers others ≡ true → u ≡ glue_of p q r x → IsPackOf e (seen z (glue_in sealed_spans regs others u)) →
    ((t : Span) → IsPackOf e t → IsPackOf m (marked_span j.mark cells t)) →
    ((s t : Span) → StandFor hull s → IsPackOf m t → StandFor result (span_hull s t)) → StandFor hull s →
    StandFor result (span_hull s (glued_seen z p (standing q regs) (standing r others) x cells))
pair_taken z p j q r regs others x cells u hull e m result s h some same is glued marked joined stands =
    joined s _ stands (pair_packs z p j q r regs others x cells u e m h some same is glued marked)

-- one state more on the other side

pub with_none : (n : ℕ) (p : Pair) (left : Standing Span) (right : List (List (PackedHull n))) (i : ℕ) (x : ℤ) (cells : ℕ) →
    spans_with n p left right i x cells 0 ≡ []
unfolding spans_with
with_none n p left right i x cells = refl

pub with_more : (n : ℕ) (p : Pair) (left : Standing Span) (right : List (List (PackedHull n))) (i : ℕ) (x : ℤ) (cells m : ℕ) (s : Span) →
    fold span_hull s (spans_with n p left right i x cells (m + 1))
    ≡ span_hull (fold span_hull s (spans_with n p left right i x cells m)) (glued_seen (sides n) p left (standing_in n right m i) x cells)
unfolding spans_with
with_more n p left right i x cells m s =
    let f : ℕ → Span = λ r. glued_seen (sides n) p left (standing_in n right r i) x cells in
    ap (fold span_hull s) (map-range_with_len_more f 0 m m (omega arith)) ∙ fold_push span_hull s (map f (range_with_len 0 m)) (f m)

-- one state more on the left

pub between_none : (n : ℕ) (p : Pair) (left right : List (List (PackedHull n))) (i : ℕ) (x : ℤ) (cells m : ℕ) →
    spans_between n p left right i x cells m 0 ≡ []
unfolding spans_between
between_none n p left right i x cells m = refl

range_more : (a n j : ℕ) → a + n ≡ j → range_with_len a (n + 1) ≡ range_with_len a n ++ j ∷ []
range_more a zero j e = ap (λ z. z ∷ []) (let f : a ≡ j = omega (arith, e) in f)
range_more a (suc n) j e =
    let f : suc n + 1 ≡ suc (n + 1) = omega arith in ap (range_with_len a) f ∙ ap (λ l. a ∷ l) (range_more (a + 1) n j (omega (arith, e)))

pub between_more : (n : ℕ) (p : Pair) (left right : List (List (PackedHull n))) (i : ℕ) (x : ℤ) (cells m k : ℕ) (s : Span) →
    fold span_hull s (spans_between n p left right i x cells m (k + 1))
    ≡ fold span_hull (fold span_hull s (spans_between n p left right i x cells m k)) (spans_with n p (standing_in n left k i) right i x cells m)
unfolding spans_between
between_more n p left right i x cells m k s =
    let f : ℕ → List Span = λ q. spans_with n p (standing_in n left q i) right i x cells m in
    ap (λ l. fold span_hull s (flat_map f l)) (range_more 0 k k (omega arith))
    ∙ ap (fold span_hull s) (sym (flat_map_more f [] (range_with_len 0 k) k))
    ∙ fold-append span_hull s (flat_map f (range_with_len 0 k)) (f k)

-- a state on the left that isn't reached adds nothing
nones : (s : Span) (f : ℕ → Span) (rs : List ℕ) → span_hull s none_span ≡ s → ((r : ℕ) → f r ≡ none_span) → fold span_hull s (map f rs) ≡ s
nones s f [] e none = refl
nones s f (r ∷ rs) e none = ap (λ z. fold span_hull z (map f rs)) (ap (span_hull s) (none r) ∙ e) ∙ nones s f rs e none

first_none : (a b : Bool) → a ≡ false → (a && b) ≡ false
first_none a b e = ap (λ z. z && b) e

pub left_same : (n : ℕ) (p : Pair) (left : Standing Span) (right : List (List (PackedHull n))) (i : ℕ) (x : ℤ) (cells m : ℕ) (s : Span) (a : Ends) →
    has_registers left.regs ≡ false → StandFor a s → fold span_hull s (spans_with n p left right i x cells m) ≡ s
unfolding spans_with
left_same n p left right i x cells m s a none h =
    nones s (λ r. glued_seen (sides n) p left (standing_in n right r i) x cells) (range_with_len 0 m) (with_nothing a s h)
    (λ r. ap (λ b. marked_span p.forward.mark cells
    (seen (sides n) (cond b (glue_in spans left.regs (standing_in n right r i).regs (glue_of p left.state r x)) none_span)))
    (first_none (has_registers left.regs) (has_registers (standing_in n right r i).regs) none)
    ∙ ap (marked_span p.forward.mark cells) (none_seen (sides n)))

pub left_none : (n : ℕ) (p : Pair) (left : Standing Span) (right : List (List (PackedHull n))) (i : ℕ) (x : ℤ) (cells m : ℕ) (s : Span) (a : Ends) →
    has_registers left.regs ≡ false → StandFor a s → StandFor a (fold span_hull s (spans_with n p left right i x cells m))
left_none n p left right i x cells m s a none h = subst (StandFor a) (sym (left_same n p left right i x cells m s a none h)) h

-- the last cell

pub finishes_none : (n : ℕ) (b : Body) (row : List (List (PackedHull n))) (i cells : ℕ) → finishes_in n b row i cells 0 ≡ []
unfolding finishes_in
finishes_none n b row i cells = refl

pub finishes_more : (n : ℕ) (b : Body) (row : List (List (PackedHull n))) (i cells k : ℕ) (s : Span) →
    fold span_hull s (finishes_in n b row i cells (k + 1))
    ≡ span_hull (fold span_hull s (finishes_in n b row i cells k)) (finish_seen (sides n) b (standing_in n row k i) cells)
unfolding finishes_in
finishes_more n b row i cells k s =
    let f : ℕ → Span = λ q. finish_seen (sides n) b (standing_in n row q i) cells in
    ap (fold span_hull s) (map-range_with_len_more f 0 k k (omega arith)) ∙ fold_push span_hull s (map f (range_with_len 0 k)) (f k)

pub finish_sealed : (f : Formula) (s : EachOf Span) (x y : ℤ) → value_in spans s x y f ≡ value_in sealed_spans s x y f
finish_sealed f s x y =
    sym (value_related sealed_spans spans (λ v w. v ≡ w) (λ e. refl) join_sealed f s s x y x y refl refl (refl, refl, refl, refl, refl))

pub finish_none : (s : Sides) (b : Body) (q : ℕ) (regs : EachOf Span) (cells : ℕ) → has_registers regs ≡ false →
    finish_seen s b (standing q regs) cells ≡ none_span
finish_none s b q regs cells h =
    ap (λ t. marked_span b.mark cells (seen s (cond t (value_in spans regs (pos 0) (pos 0) b.finish) none_span))) h
    ∙ ap (marked_span b.mark cells) (none_seen s)

finish_is : (s : Sides) (b : Body) (q : ℕ) (regs : EachOf Span) (cells : ℕ) → has_registers regs ≡ true →
    finish_seen s b (standing q regs) cells ≡ marked_span b.mark cells (seen s (value_in sealed_spans regs (pos 0) (pos 0) b.finish))
finish_is s b q regs cells h =
    ap (λ t. marked_span b.mark cells (seen s (cond t (value_in spans regs (pos 0) (pos 0) b.finish) none_span))) h
    ∙ ap (λ t. marked_span b.mark cells (seen s t)) (finish_sealed b.finish regs (pos 0) (pos 0))

-- the ends of a finish expression, of which the one that isn't kept is infinite, stand for what is seen of its span
pub finish_packs : (s : Sides) (n : ℕ) (b : Body) (xs : List ℤ) (f : Formula) (e shown : Ends) → 6 ≤ n → AreSome n xs → IsFor s b.finish → f ≡ b.finish →
    e ≡ tree_value f (as_read s xs) (pos 0) (pos 0) → shown ≡ shown_ends s e →
    IsPackOf shown (seen s (span_in b.finish (unpacked xs) (pos 0) (pos 0)))
finish_packs s n b xs f e shown big some suits ef is outer =
    let ys = as_read s xs in let value = span_in b.finish (unpacked xs) (pos 0) (pos 0) in
    subst (λ z. IsPackOf z (seen s value)) (sym (outer ∙ ap (shown_ends s) (is ∙ ap (λ g. tree_value g ys (pos 0) (pos 0)) ef)))
    (shown_packs s (tree_value b.finish ys (pos 0) (pos 0)) value
    (tree_packs b.finish s ys (unpacked xs) (pos 0) (pos 0) (read_are s n xs big some) suits zero_small zero_small))

pub finish_taken : (s : Sides) (n : ℕ) (b : Body) (q : ℕ) (xs : List ℤ) (cells : ℕ) (k : Mark) (hull e m result : Ends) (t : Span) →
    6 ≤ n → AreSome n xs → k ≡ b.mark → IsPackOf e (seen s (span_in b.finish (unpacked xs) (pos 0) (pos 0))) →
    ((u : Span) → IsPackOf e u → IsPackOf m (marked_span k cells u)) →
    ((u v : Span) → StandFor hull u → IsPackOf m v → StandFor result (span_hull u v)) → StandFor hull t →
    StandFor result (span_hull t (finish_seen s b (standing q (spans_of (unpacked xs))) cells))
finish_taken s n b q xs cells k hull e m result t big some ek packs marked joined stands =
    let value = seen s (span_in b.finish (unpacked xs) (pos 0) (pos 0)) in
    subst (λ z. StandFor result (span_hull t z))
    (ap (λ z. marked_span z cells value) ek ∙ sym (finish_is s b q (spans_of (unpacked xs)) cells (some_unpacked n xs big some)))
    (joined t (marked_span k cells value) stands (marked value packs))

-- a row has each of its places
pub row_place : (n states count i : ℕ) (row : List (List (PackedHull n))) → IsRow n states count row → i < count → HasPlace n states i row
row_place n states count i row h inside = record {
  len = h.len;
  inside = λ q lt. let e = (h.columns q lt).0 in omega (arith, e, inside);
  packed = λ q lt. (h.columns q lt).1 i inside;
}

-- a row has each place before another
pub row_places : (n states count to : ℕ) (row : List (List (PackedHull n))) → IsRow n states count row → to ≤ count → HavePlaces n states to row
row_places n states count to row h inside = record {
  len = h.len;
  places = λ q lt. (
    let e = (h.columns q lt).0 in omega (arith, e, inside),
    λ i before. (h.columns q lt).1 i (omega (arith, before, inside)),
  );
}
