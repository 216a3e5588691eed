-- One end of a span alone: plain sums of small numbers are the clamped ones, and what an end reaches the span reaches.
use Rattle.std.proofs.Common.{◌≡◌, ◌⊎◌, inl, inr, ℕ, ◌+◌, ◌≤◌, ◌≤ℤ◌, ◌<ℤ◌, ◌+ℤ◌, ℤ, pos, negsuc, neg_ℤ, Bool, true, false, cond, ◌||◌, ◌&&◌, int_le, List, refl, sym, ap, subst, ◌∙◌, arith}
use Rattle.std.specs.Int.{int_max}
use Rattle.std.proofs.lemmas.Int.{ints, clamps}
use Rattle.ts_base.specs.Limits.{IsCellValue}
use Rattle.ts_base.specs.Numbers.{clamp}
use Rattle.ts_base.specs.declared.op.Op.{Op}
use Rattle.ts_base.specs.declared.op.Op.TheVariants.{Add, Max, Min}
use Rattle.ts_base.specs.declared.span.Span.{Span}
use Rattle.ts_automaton.specs.declared.state.Mark.{Mark}
use Rattle.ts_automaton.specs.declared.state.Mark.TheVariants.{Same, Zero, Cells}
use Rattle.ts_automaton.specs.Registers.{EachOf, spans_of, value_in}
use Rattle.ts_automaton.specs.SpanRun.{marked_span}
use Rattle.ts_glue.specs.Glue.{apart, glue_in, held_of, is_join, result_of}
use Rattle.ts_glue.specs.Pairs.{Pair}
use Rattle.ts_hull.specs.Sealed.{sealed_spans}
use Rattle.ts_sweep.specs.declared.packed.Ends.{Ends}
use Rattle.ts_sweep.specs.FrontLaws.{never_added}
use Rattle.ts_sweep.specs.Lanes.{least}
use Rattle.ts_sweep.specs.MoveLaws.{some_unpacked}
use Rattle.ts_sweep.specs.Operators.{crossed}
use Rattle.ts_sweep.specs.Packed.{AreSome, IsPackOf, IsWithin, unpacked}
use Rattle.ts_sweep.specs.Sides.{Sides, BothEnds, seen}
use Rattle.ts_sweep.specs.Trees.{folded_by, sum_above, sum_below}
use Rattle.ts_sweep.proofs.TreeSums.{above_numbers, below_numbers}
use Rattle.ts_meet.specs.declared.gluing.Gluing.{Gluing}
use Rattle.ts_meet.specs.declared.joints.Joints.{Joints}
use Rattle.ts_meet.specs.declared.lane.End.{End}
use Rattle.ts_meet.specs.declared.lane.End.TheVariants.{Below, Above}
use Rattle.ts_meet.specs.Asked.{Reaches}
use Rattle.ts_meet.specs.Ends.{AreFewAdded, IsLanePlain, end_alone, keeps, lane_at, lane_folded}
use Rattle.ts_meet.specs.Joints.{AreJoints, expression, is_add}
use Rattle.ts_meet.specs.Meets.{glued_seen, standing}
use Rattle.ts_meet.specs.SideLaws.{cell_packs, clamped_packs}
use Rattle.ts_meet.specs.Sides.{TakesAny, clamped_values, marked_above, marked_below, marked_ends, pointed_spans, shown_ends, side_of}
use Rattle.ts_meet.proofs.Gluings.{any_takes, apart_is, glued_packs}
use Rattle.ts_meet.proofs.Marks.{marked_packs}
use Rattle.ts_meet.proofs.Meeting.{part_is}
use Rattle.ts_meet.proofs.Pointed.{kept_lane, lanes_pack}
use Rattle.ts_meet.proofs.SeenGlue.{shown_glued}

-- sums

few_sum : (x y : ℤ) → AreFewAdded x y → x +ℤ y ≡ clamp (x +ℤ y)
few_sum x y h = let a = h.0.0 in let b = h.0.1 in let c = h.1.0 in let d = h.1.1 in grind (arith, ints, clamps, a, b, c, d)

few_above : (x y : ℤ) → AreFewAdded x y → x +ℤ y ≡ sum_above x y
few_above x y h =
    let a = h.0.0 in let b = h.0.1 in let c = h.1.0 in let d = h.1.1 in
    few_sum x y h ∙ above_numbers x y (omega (arith, ints, a)) (omega (arith, ints, b)) (omega (arith, ints, c)) (omega (arith, ints, d))

few_below : (x y : ℤ) → AreFewAdded x y → x +ℤ y ≡ sum_below x y
few_below x y h =
    let a = h.0.0 in let b = h.0.1 in let c = h.1.0 in let d = h.1.1 in
    few_sum x y h ∙ below_numbers x y (omega (arith, ints, a)) (omega (arith, ints, b)) (omega (arith, ints, c)) (omega (arith, ints, d))

-- what an operator makes of lanes is the lane of what it makes of ends
pub folded_is : (k : End) (o : Op) (a b : Ends) → (is_add o ≡ true → AreFewAdded (lane_at k a) (lane_at k b)) →
    lane_folded k o (lane_at k a) (lane_at k b) ≡ lane_at k (folded_by o a b)
folded_is Below Add a b h = few_below a.below b.below (h refl)
folded_is Above Add a b h = few_above a.above b.above (h refl)
folded_is Below Max a b h = refl
folded_is Above Max a b h = refl
folded_is Below Min a b h = refl
folded_is Above Min a b h = refl

-- sizes

few_more : (i j : ℕ) (x : ℤ) → i ≤ j → IsWithin i x → IsWithin j x
few_more i j x few h = let a = h.0 in let b = h.1 in (omega (arith, ints, few, a, b), omega (arith, ints, few, a, b))

sum_few : (i j : ℕ) (x y : ℤ) → IsWithin i x → IsWithin j y → IsWithin (i + j) (x +ℤ y)
sum_few i j x y h k = let a = h.0 in let b = h.1 in let c = k.0 in let d = k.1 in (omega (arith, ints, a, b, c, d), omega (arith, ints, a, b, c, d))

-- what is computed of lanes

kept_few : (i j : ℕ) (x y : ℤ) → i ≤ 5 → j ≤ 5 → IsWithin i x → IsWithin j y → AreFewAdded x y
kept_few i j x y a b h k = (few_more i 5 x a h, few_more j 5 y b k)

-- what a run has held, answered, and what both make
pub held_is : (k : End) (s : EachOf Ends) → IsWithin 1 (lane_at k s.c) → IsWithin 1 (lane_at k (crossed s.e)) →
    AreFewAdded (lane_at k s.c) (lane_at k (crossed s.e)) ×
    (lane_folded k Add (lane_at k s.c) (lane_at k (crossed s.e)) ≡ lane_at k (value_in clamped_values s (pos 0) (pos 0) (held_of true)))
held_is k s h j =
    let few = kept_few 1 1 (lane_at k s.c) (lane_at k (crossed s.e)) (omega arith) (omega arith) h j in
    (few, folded_is k Add s.c (crossed s.e) (λ e. few))

-- what is held is small
held_few : (k : End) (wide : Bool) (o : Op) (s : EachOf Ends) → IsLanePlain k wide o s → is_add o ≡ true →
    IsWithin 2 (lane_at k (value_in clamped_values s (pos 0) (pos 0) (held_of wide)))
held_few k true o s plain adds =
    let c = plain.held refl in let e = plain.away refl in
    subst (IsWithin 2) (folded_is k Add s.c (crossed s.e) (λ h. (held_is k s c e).0)) (sum_few 1 1 (lane_at k s.c) (lane_at k (crossed s.e)) c e)
held_few k false o s plain adds = few_more 1 2 (lane_at k s.c) (omega arith) (plain.held adds)

pub answer_added : (k : End) (wide : Bool) (o : Op) (s : EachOf Ends) → IsLanePlain k wide o s → is_add o ≡ true →
    AreFewAdded (lane_at k s.r) (lane_at k (value_in clamped_values s (pos 0) (pos 0) (held_of wide)))
answer_added k wide o s plain adds =
    kept_few 1 2 (lane_at k s.r) (lane_at k (value_in clamped_values s (pos 0) (pos 0) (held_of wide))) (omega arith) (omega arith) (plain.result adds)
    (held_few k wide o s plain adds)

pub answer_is : (k : End) (wide : Bool) (o : Op) (s : EachOf Ends) → IsLanePlain k wide o s →
    lane_folded k o (lane_at k s.r) (lane_at k (value_in clamped_values s (pos 0) (pos 0) (held_of wide)))
    ≡ lane_at k (value_in clamped_values s (pos 0) (pos 0) (result_of wide o))
answer_is k wide o s plain = folded_is k o s.r (value_in clamped_values s (pos 0) (pos 0) (held_of wide)) (answer_added k wide o s plain)

answer_few : (k : End) (wide : Bool) (o : Op) (s : EachOf Ends) → IsLanePlain k wide o s → is_add o ≡ true →
    IsWithin 3 (lane_at k (value_in clamped_values s (pos 0) (pos 0) (result_of wide o)))
answer_few k wide Add s plain adds =
    subst (IsWithin 3) (answer_is k wide Add s plain)
    (sum_few 1 2 (lane_at k s.r) (lane_at k (value_in clamped_values s (pos 0) (pos 0) (held_of wide))) (plain.result adds) (held_few k wide Add s plain adds))
answer_few k wide Max s plain adds = never_added (sym adds)
answer_few k wide Min s plain adds = never_added (sym adds)

pub both_added : (k : End) (wide : Bool) (o : Op) (s t : EachOf Ends) → IsLanePlain k wide o s → IsLanePlain k wide o t → is_add o ≡ true →
    AreFewAdded (lane_at k (value_in clamped_values s (pos 0) (pos 0) (result_of wide o)))
    (lane_at k (value_in clamped_values t (pos 0) (pos 0) (result_of wide o)))
both_added k wide o s t p q adds =
    kept_few 3 3 (lane_at k (value_in clamped_values s (pos 0) (pos 0) (result_of wide o)))
    (lane_at k (value_in clamped_values t (pos 0) (pos 0) (result_of wide o))) (omega arith) (omega arith) (answer_few k wide o s p adds)
    (answer_few k wide o t q adds)

pub both_are : (k : End) (wide : Bool) (o : Op) (s t : EachOf Ends) → IsLanePlain k wide o s → IsLanePlain k wide o t →
    lane_folded k o (lane_at k (value_in clamped_values s (pos 0) (pos 0) (result_of wide o)))
    (lane_at k (value_in clamped_values t (pos 0) (pos 0) (result_of wide o)))
    ≡ lane_at k (glue_in clamped_values s t (apart wide o))
both_are k wide o s t p q =
    folded_is k o (value_in clamped_values s (pos 0) (pos 0) (result_of wide o)) (value_in clamped_values t (pos 0) (pos 0) (result_of wide o))
    (both_added k wide o s t p q)

-- numbers that calls give are small enough to be added
pub added_by : (x y a b : ℤ) → x ≡ a → y ≡ b → AreFewAdded a b → AreFewAdded x y
added_by x y a b e f few = subst (λ z. AreFewAdded z y) (sym e) (subst (AreFewAdded a) (sym f) few)

pub folded_by_parts : (k : End) (o : Op) (x y a b z : ℤ) → x ≡ a → y ≡ b → lane_folded k o a b ≡ z → lane_folded k o x y ≡ z
folded_by_parts k o x y a b z e f is = ap (λ w. lane_folded k o w y) e ∙ ap (lane_folded k o a) f ∙ is

pub and_first : (a b : Bool) → (a && b) ≡ true → a ≡ true
and_first true b e = refl
and_first false b e = e

pub and_second : (a b : Bool) → (a && b) ≡ true → b ≡ true
and_second true b e = e
and_second false b e = never_added (sym e)

pub plain_told : (k : End) (wide : Bool) (o : Op) (s : EachOf Ends) (adds f g h : Bool) (x y z : ℤ) (e : Ends) → adds ≡ is_add o →
    x ≡ lane_at k s.r → y ≡ lane_at k s.c → z ≡ lane_at k e → e ≡ crossed s.e → (f ≡ true → adds ≡ true → IsWithin 1 x) →
    (g ≡ true → (wide || adds) ≡ true → IsWithin 1 y) → (h ≡ true → wide ≡ true → IsWithin 1 z) → ((f && g) && h) ≡ true → IsLanePlain k wide o s
plain_told k wide o s adds f g h x y z e is at_r at_c at_e cross result held away all =
    let two = and_first (f && g) h all in
    record {
      result = λ a. subst (IsWithin 1) at_r (result (and_first f g two) (is ∙ a));
      held = λ a. subst (IsWithin 1) at_c (held (and_second f g two) (ap (λ b. wide || b) is ∙ a));
      away = λ a. subst (IsWithin 1) (at_e ∙ ap (lane_at k) cross) (away (and_second (f && g) h all) a);
    }

-- marks: an end stays, or goes out

max_above : (x y : ℤ) → y ≤ℤ int_max x y
max_above x y = grind (arith, ints)

max_first : (x y : ℤ) → x ≤ℤ int_max x y
max_first x y = grind (arith, ints)

at_most_self : (x : ℤ) → x ≤ℤ x
at_most_self x = grind (arith, ints)

above_zero : (b : Bool) (x : ℤ) → int_le x (negsuc 9223372036854775806) ≡ b → x ≤ℤ cond b (pos 0) x
above_zero true x e = grind (arith, ints, e)
above_zero false x e = at_most_self x

above_cells : (b : Bool) (n : ℕ) (x : ℤ) → int_le (pos 9223372036854775807) x ≡ b → x <ℤ pos 9223372036854775807 → x ≤ℤ cond b (pos n) x
above_cells true n x e h = absurd (grind (arith, ints, e, h))
above_cells false n x e h = at_most_self x

below_zero : (b : Bool) (x : ℤ) → int_le (pos 9223372036854775807) x ≡ b → x <ℤ pos 9223372036854775807 → x ≤ℤ cond b (pos 0) x
below_zero true x e h = absurd (grind (arith, ints, e, h))
below_zero false x e h = at_most_self x

below_cells : (b : Bool) (n : ℕ) (x : ℤ) → n ≤ 4294967295 → int_le x (negsuc 9223372036854775806) ≡ b → x ≤ℤ cond b (neg_ℤ (pos n)) x
below_cells true n x few e = grind (arith, ints, few, e)
below_cells false n x few e = at_most_self x

clash : Zero ≡ Same → ⊥
clash e = cc

other_clash : Cells ≡ Same → ⊥
other_clash e = cc

above_marked : (k : Mark) (n : ℕ) (x : ℤ) → (x <ℤ pos 9223372036854775807) ⊎ (k ≡ Same) → x ≤ℤ marked_above k n x
above_marked Same n x h = at_most_self x
above_marked Zero n x h = above_zero (int_le x (negsuc 9223372036854775806)) x refl
above_marked Cells n x (inl h) = above_cells (int_le (pos 9223372036854775807) x) n x refl h
above_marked Cells n x (inr e) = absurd (other_clash e)

below_marked : (k : Mark) (n : ℕ) (x : ℤ) → n ≤ 4294967295 → (x <ℤ pos 9223372036854775807) ⊎ (k ≡ Same) → x ≤ℤ marked_below k n x
below_marked Same n x few h = at_most_self x
below_marked Zero n x few (inl h) = below_zero (int_le (pos 9223372036854775807) x) x refl h
below_marked Zero n x few (inr e) = absurd (clash e)
below_marked Cells n x few h = below_cells (int_le x (negsuc 9223372036854775806)) n x few refl

three : (x y z w : ℤ) → x ≤ℤ y → y ≤ℤ z → z ≤ℤ w → x ≤ℤ w
three x y z w a b c = grind (arith, ints, a, b, c)

under : (x : ℤ) → least <ℤ x → least ≤ℤ x
under x h = grind (arith, ints, h)

-- a span that ends stand for reaches an end alone, under a mark too
pub end_reached : (mark : Mark) (n : ℕ) → n ≤ 4294967295 → (k : End) (given : ℤ) (e : Ends) → given ≤ℤ lane_at k e →
    (lane_at k e <ℤ pos 9223372036854775807) ⊎ (mark ≡ Same) → (s : Span) → IsPackOf e s → Reaches (end_alone k given) (marked_span mark n s)
end_reached mark n few Above given e h kept s p =
    let packs = marked_packs mark n e s few p in
    let x = marked_below mark n e.below in let y = marked_above mark n e.above in
    record {
      ends = marked_ends mark n e;
      packs = packs;
      below = under (int_max x (neg_ℤ y)) packs.some.below;
      above = three given e.above y (int_max (neg_ℤ x) y) h (above_marked mark n e.above kept) (max_above (neg_ℤ x) y);
    }
end_reached mark n few Below given e h kept s p =
    let packs = marked_packs mark n e s few p in
    let x = marked_below mark n e.below in let y = marked_above mark n e.above in
    record {
      ends = marked_ends mark n e;
      packs = packs;
      below = three given e.below x (int_max x (neg_ℤ y)) h (below_marked mark n e.below few kept) (max_first x (neg_ℤ y));
      above = under (int_max (neg_ℤ x) y) packs.some.above;
    }

-- the span of a pair of states that are apart reaches an end alone
zero_cell : IsCellValue (pos 0)
zero_cell = (grind (arith, ints), grind (arith, ints))

pub apart_reaches : (z : Sides) (n : ℕ) → 6 ≤ n → (p : Pair) (j : Joints) (q r : ℕ) (x : ℤ) (cells : ℕ) (left right : List ℤ) → AreJoints p j →
    is_join p.table q r ≡ false → (z ≡ BothEnds) ⊎ (j.wide ≡ false) → AreSome n left → AreSome n right → cells ≤ 4294967295 → (k : End) (given : ℤ) →
    keeps z k ≡ true → given ≤ℤ lane_at k (glue_in clamped_values (side_of z left) (side_of z right) (apart j.wide j.result)) →
    (lane_at k (glue_in clamped_values (side_of z left) (side_of z right) (apart j.wide j.result)) <ℤ pos 9223372036854775807) ⊎ (j.mark ≡ Same) →
    Reaches (end_alone k given) (glued_seen z p (standing q (spans_of (unpacked left))) (standing r (spans_of (unpacked right))) x cells)
apart_reaches z n big p j q r x cells left right h none alone some others few k given has reached kept =
    let s = spans_of (unpacked left) in let t = spans_of (unpacked right) in
    let g : Gluing =
    record { result = j.result; fold = j.result; worth = pos 0; wide = j.wide; joins = false; trims = false; held_left = false; held_right = false } in
    let e = glue_in clamped_values (side_of z left) (side_of z right) (apart j.wide j.result) in
    let packs : IsPackOf e (glue_in sealed_spans (pointed_spans z s) (pointed_spans z t) (apart j.wide j.result)) =
    glued_packs clamped_values TakesAny cell_packs (λ o a b s t h p q. clamped_packs o a b s t p q) g (side_of z left) (side_of z right) zero_cell
    (any_takes clamped_values (side_of z left) (side_of z right) (expression g)) e refl (pointed_spans z s) (pointed_spans z t)
    (lanes_pack z n left big some) (lanes_pack z n right big others) in
    let stays = sym (kept_lane z k e has) in
    subst (Reaches (end_alone k given))
    (ap (λ m. marked_span m cells (seen z (glue_in sealed_spans s t (apart j.wide j.result)))) h.mark
    ∙ ap (λ u. marked_span p.forward.mark cells (seen z (glue_in sealed_spans s t u))) (apart_is p q r x g h.result h.wide refl none)
    ∙ sym (part_is z p q r s t x cells (some_unpacked n left big some) (some_unpacked n right big others)))
    (end_reached j.mark cells few k given (shown_ends z e) (subst (λ y. given ≤ℤ y) stays reached)
    (subst (λ y. (y <ℤ pos 9223372036854775807) ⊎ (j.mark ≡ Same)) stays kept) _ (shown_glued z g s t e alone packs))
