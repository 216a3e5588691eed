-- What a sweep makes that joins R with the difference of both cells.
use Rattle.std.proofs.Common.{◌≡◌, ◌⊎◌, inl, inr, ◌≤◌, ◌<◌, ◌≤ℤ◌, ℕ, zero, suc, ℤ, Bool, true, false, cond, ◌||◌, List, length, get_or, refl, sym, ap, subst, ◌∙◌, arith}
use Rattle.std.specs.Int.{int_max, int_min}
use Rattle.std.proofs.lemmas.Int.{ints}
use Rattle.ts_base.specs.declared.letter.Letter.{Letter}
use Rattle.ts_base.specs.declared.op.Op.{Op}
use Rattle.ts_base.specs.declared.op.Op.TheVariants.{Max, Min}
use Rattle.ts_automaton.specs.declared.regs.Hull.{Hull}
use Rattle.ts_automaton.specs.Body.{Move}
use Rattle.ts_automaton.specs.Formula.{is_zero}
use Rattle.ts_automaton.specs.Registers.{each, rests}
use Rattle.ts_hull.specs.Hulls.{none, hull_of_both}
use Rattle.ts_hull.specs.Sealed.{after_move}
use Rattle.ts_hull.specs.Sweeps.{compares, total as hull_total}
use Rattle.ts_sweep.specs.declared.packed.Ends.{Ends}
use Rattle.ts_sweep.specs.declared.packed.Name.{Name}
use Rattle.ts_sweep.specs.declared.packed.Name.TheVariants.{C, E, R}
use Rattle.ts_sweep.specs.Columns.{gives, hull_at}
use Rattle.ts_sweep.specs.FrontLaws.{never_added}
use Rattle.ts_sweep.specs.Lanes.{greater_of, least, no_lanes, some_lanes}
use Rattle.ts_sweep.specs.MoveLaws.{all_lanes, none_is}
use Rattle.ts_sweep.specs.Moves.{beside, ends_by, replaced_all}
use Rattle.ts_sweep.specs.Packed.{ArePacked, IsPacked, ends, ends_at, is_wide, max_ends, name_ends, place, unpacked, with_ends_in}
use Rattle.ts_sweep.specs.PackedLaws.{greater_ends, joined_is, joined_packed, none_unpacked, packed_length, packed_takes_none}
use Rattle.ts_sweep.specs.PairMoves.{IsBegun, emission, found_ends, pair_op, start_ends}
use Rattle.ts_sweep.specs.Sides.{Sides, BothEnds, UpperEnds, LowerEnds, as_read, kept_ends, seen_hull}
use Rattle.ts_sweep.specs.Small.{IsSmall}
use Rattle.ts_sweep.specs.Spreads.{apart, end_of, lesser, spread_ends, spread_hull, top, top_of}
use Rattle.ts_sweep.specs.Sweeps.{met_hull, total}
use Rattle.ts_sweep.specs.Trees.{folded_by, tree_value}
use Rattle.ts_sweep.proofs.PairLaws.{found_kept}
use Rattle.ts_sweep.proofs.PairSteps.{moved_nothing, moved_some, nothing_lanes}
use Rattle.ts_sweep.proofs.SeenLaws.{all_seen}
use Rattle.ts_sweep.proofs.SpreadLanes.{above_total, below_total, const_total, no_ends, none_at, none_total, r_at, some_or, ten_of, three_at, three_greater, three_none, total_max, total_mono, with_three}
use Rattle.ts_sweep.proofs.Taken.{total_as}

-- an end of R that the best of the pairs gives, and one that all give

min_of : (a b : ℤ) → a ≤ℤ b → a ≡ int_min a b
min_of a b h = grind (arith, ints)

min_left : (a b : ℤ) → int_min a b ≤ℤ a
min_left a b = grind (arith, ints)

max_nothing : (a : ℤ) → a ≡ least → least ≡ int_max a least
max_nothing a h = grind (arith, ints, h)

module _ (l : Letter) (twin : Bool) (some : ℕ → Bool) (r : ℕ → Ends) (v : ℕ → ℤ) (w : ℤ) (n : ℕ) (idle : (i : ℕ) → i < n → some i ≡ false → r i ≡ no_ends)
    (all : Ends) (all_is : all ≡ total max_ends no_ends (λ i. compares l twin (v i) w) r n) where
  abbrev test : ℕ → Bool
  test i = compares l twin (v i) w

  all_end : (above : Bool) → end_of above all ≡ total int_max least test (λ i. end_of above (r i)) n
  all_end true = ap (λ e. e.above) all_is ∙ above_total test r n
  all_end false = ap (λ e. e.below) all_is ∙ below_total test r n

  least_end : (above : Bool) (e : Ends) → e ≡ no_ends → end_of above e ≡ least
  least_end true e h = ap (λ z. z.above) h
  least_end false e h = ap (λ z. z.below) h

  best_end : (above : Bool) → top above true l twin n some r v w ≡ int_min (top above true l twin n some r v w) (end_of above all)
  best_end above =
      min_of (top above true l twin n some r v w) (end_of above all)
      (subst (λ z. top above true l twin n some r v w ≤ℤ z) (sym (all_end above))
      (total_mono test (λ i. lesser above true (some i) (r i) (v i) w) (λ i. end_of above (r i)) n (λ i lt. go i lt (some i) refl)))
    where
      go : (i : ℕ) → i < n → (b : Bool) → some i ≡ b → lesser above true b (r i) (v i) w ≤ℤ end_of above (r i)
      go i lt true e = min_left (end_of above (r i)) (apart above (v i) w)
      go i lt false e = subst (λ z. least ≤ℤ z) (sym (least_end above (r i) (idle i lt e))) (omega (arith, ints))

  each_end : (above : Bool) → total int_max least test (λ i. int_max (end_of above (r i)) (lesser above false (some i) (r i) (v i) w)) n
      ≡ int_max (end_of above all) (top above false l twin n some r v w)
  each_end above =
      total_max test (λ i. end_of above (r i)) (λ i. lesser above false (some i) (r i) (v i) w) n
      ∙ ap (λ z. int_max z (top above false l twin n some r v w)) (sym (all_end above))

  -- the ends of R
  pub spread_is : (greatest : Bool) → total max_ends no_ends test
      (λ i. cond (some i) (folded_by (pair_op greatest) (r i) (found_ends true Max (v i) w)) no_ends) n
      ≡ spread_ends greatest (λ above bounded. top above bounded l twin n some r v w) all
  spread_is true =
      both_are _ _ _
      (below_total test (λ i. cond (some i) (folded_by Max (r i) (found_ends true Max (v i) w)) no_ends) n
      ∙ total_as int_max least test test _ (λ i. lesser false true (some i) (r i) (v i) w) n (λ i lt. refl) (λ i lt. low (some i) i) ∙ best_end false)
      (above_total test (λ i. cond (some i) (folded_by Max (r i) (found_ends true Max (v i) w)) no_ends) n
      ∙ total_as int_max least test test _ (λ i. int_max (end_of true (r i)) (lesser true false (some i) (r i) (v i) w)) n (λ i lt. refl)
      (λ i lt. high i lt (some i) refl)
      ∙ each_end true)
    where
      low : (b : Bool) (i : ℕ) → (cond b (folded_by Max (r i) (found_ends true Max (v i) w)) no_ends).below ≡ lesser false true b (r i) (v i) w
      low true i = refl
      low false i = refl

      high : (i : ℕ) → i < n → (b : Bool) → some i ≡ b → (cond b (folded_by Max (r i) (found_ends true Max (v i) w)) no_ends).above
          ≡ int_max (end_of true (r i)) (lesser true false b (r i) (v i) w)
      high i lt true e = refl
      high i lt false e = max_nothing (r i).above (least_end true (r i) (idle i lt e))

      both_are : (x : Ends) (a b : ℤ) → x.below ≡ a → x.above ≡ b → x ≡ ends a b
      both_are x a b p q = ap (λ z. ends z x.above) p ∙ ap (ends a) q
  spread_is false =
      both_are _ _ _
      (below_total test (λ i. cond (some i) (folded_by Min (r i) (found_ends true Max (v i) w)) no_ends) n
      ∙ total_as int_max least test test _ (λ i. int_max (end_of false (r i)) (lesser false false (some i) (r i) (v i) w)) n (λ i lt. refl)
      (λ i lt. low i lt (some i) refl)
      ∙ each_end false)
      (above_total test (λ i. cond (some i) (folded_by Min (r i) (found_ends true Max (v i) w)) no_ends) n
      ∙ total_as int_max least test test _ (λ i. lesser true true (some i) (r i) (v i) w) n (λ i lt. refl) (λ i lt. high (some i) i) ∙ best_end true)
    where
      high : (b : Bool) (i : ℕ) → (cond b (folded_by Min (r i) (found_ends true Max (v i) w)) no_ends).above ≡ lesser true true b (r i) (v i) w
      high true i = refl
      high false i = refl

      low : (i : ℕ) → i < n → (b : Bool) → some i ≡ b → (cond b (folded_by Min (r i) (found_ends true Max (v i) w)) no_ends).below
          ≡ int_max (end_of false (r i)) (lesser false false b (r i) (v i) w)
      low i lt true e = refl
      low i lt false e = max_nothing (r i).below (least_end false (r i) (idle i lt e))

      both_are : (x : Ends) (a b : ℤ) → x.below ≡ a → x.above ≡ b → x ≡ ends a b
      both_are x a b p q = ap (λ z. ends z x.above) p ∙ ap (ends a) q

-- what becomes of a hull between two values

abbrev made_lanes : Op → List ℤ → ℤ → ℤ → List ℤ
made_lanes o xs x y =
    three_at xs (cond (some_lanes xs) (start_ends Max) no_ends) (cond (some_lanes xs) (start_ends Min) no_ends)
    (cond (some_lanes xs) (folded_by o (name_ends xs R) (found_ends true Max x y)) no_ends)

abbrev Made : Move → Op → ℕ → List ℤ → ℤ → ℤ → Bool → Type 0
Made m o n xs x y b =
    IsPacked n (three_at xs (cond b (start_ends Max) no_ends) (cond b (start_ends Min) no_ends)
    (cond b (folded_by o (name_ends xs R) (found_ends true Max x y)) no_ends))
    × (unpacked (three_at xs (cond b (start_ends Max) no_ends) (cond b (start_ends Min) no_ends)
    (cond b (folded_by o (name_ends xs R) (found_ends true Max x y)) no_ends)) ≡ seen_hull BothEnds (after_move m (unpacked xs) x y))

pub made_is : (m : Move) (o : Op) (n : ℕ) (xs : List ℤ) (x y : ℤ) → 6 ≤ n → is_wide n ≡ true → m.to ≡ emission true o Max → IsPacked n xs →
    (some_lanes xs ≡ true → IsBegun BothEnds true Max xs) → IsSmall x → IsSmall y →
    IsPacked n (made_lanes o xs x y) × (unpacked (made_lanes o xs x y) ≡ seen_hull BothEnds (after_move m (unpacked xs) x y))
made_is m o n xs x y big wide made p begun sx sy = go (some_lanes xs) refl
  where
    go : (b : Bool) → some_lanes xs ≡ b → Made m o n xs x y b
    go true is =
        moved_some BothEnds m n xs _ x y (name_ends xs C) (name_ends xs E) (start_ends Max) (start_ends Min)
        (folded_by o (name_ends xs R) (found_ends true Max x y)) (inl refl) big (ap (λ b. rests is_zero b m.to) wide) (tt, (tt, (tt, tt))) p is sx sy
        (ap (λ t. tree_value t.c xs x y) (sym made))
        (ap (λ b. beside b (name_ends xs E)) (sym wide) ∙ ap (λ t. beside (is_wide n) (tree_value t.e xs x y)) (sym made))
        (ap (λ t. tree_value t.d xs x y) (sym made))
        (ap (λ b. beside b (start_ends Min)) (sym wide) ∙ ap (λ t. beside (is_wide n) (tree_value t.f xs x y)) (sym made))
        (ap (folded_by o (name_ends xs R)) (found_kept BothEnds true Max xs x y (inl refl) (λ e. refl) (begun is) sx sy)
        ∙ ap (λ t. tree_value t.r xs x y) (sym made))
        (sym (with_three n xs (start_ends Max) (start_ends Min) (folded_by o (name_ends xs R) (found_ends true Max x y)) wide (packed_length n xs p)))
    go false is =
        let e = nothing_lanes n xs big p is in
        let same : three_at xs no_ends no_ends no_ends ≡ xs = ap (λ zs. three_at zs no_ends no_ends no_ends) e ∙ three_none n wide ∙ sym e in
        (subst (IsPacked n) (sym same) p, ap unpacked same ∙ moved_nothing BothEnds m n xs x y big p is)

gives_none : (m : Move) (l : Letter) (twin : Bool) (v : ℕ → ℤ) (h : ℕ → Hull) (w : ℤ) → none ≡ gives m l twin 0 v h w
unfolding gives hull_total
gives_none m l twin v h w = refl

gives_more : (m : Move) (l : Letter) (twin : Bool) (i : ℕ) (v : ℕ → ℤ) (h : ℕ → Hull) (w : ℤ) →
    hull_of_both (gives m l twin i v h w) (cond (compares l twin (v i) w) (after_move m (h i) (v i) w) none) ≡ gives m l twin (suc i) v h w
unfolding gives hull_total
gives_more m l twin i v h w = refl

module _ {X : Type 0} (both : X → X → X) (nothing : X) (lanes : X → List ℤ) (n : ℕ) (both_lanes : (a b : X) → lanes (both a b) ≡ greater_of (lanes a) (lanes b))
    (none_lanes : lanes nothing ≡ no_lanes n) (big : 6 ≤ n) (wide : is_wide n ≡ true) (m : Move) (o : Op) (made : m.to ≡ emission true o Max)
    (l : Letter) (twin : Bool) (v : ℕ → ℤ) (before : List X) (w : ℤ) (sw : IsSmall w) (count : ℕ)
    (packed : (i : ℕ) → i < count → IsPacked n (lanes (get_or before i nothing))) (sv : (i : ℕ) → i < count → IsSmall (v i))
    (begun : (i : ℕ) → i < count → some_lanes (lanes (get_or before i nothing)) ≡ true → IsBegun BothEnds true Max (lanes (get_or before i nothing))) where
  abbrev passes : ℕ → Bool
  passes i = compares l twin (v i) w

  abbrev h : ℕ → List ℤ
  h i = lanes (get_or before i nothing)

  abbrev run : ℕ → X
  run i = total both nothing passes (λ k. get_or before k nothing) i

  run_more : (i : ℕ) → lanes (run (suc i)) ≡ cond (passes i) (greater_of (lanes (run i)) (h i)) (lanes (run i))
  unfolding total
  run_more i = go (passes i)
    where
      go : (b : Bool) → lanes (cond b (both (run i) (get_or before i nothing)) (run i)) ≡ cond b (greater_of (lanes (run i)) (h i)) (lanes (run i))
      go true = both_lanes (run i) (get_or before i nothing)
      go false = refl

  run_begun : lanes (run 0) ≡ no_lanes n
  unfolding total
  run_begun = none_lanes

  pub run_packed : (i : ℕ) → i ≤ count → IsPacked n (lanes (run i))
  run_packed zero lt = inl run_begun
  run_packed (suc i) lt = subst (IsPacked n) (sym (run_more i)) (go (run_packed i (omega (arith, lt))) (passes i))
    where
      go : IsPacked n (lanes (run i)) → (b : Bool) → IsPacked n (cond b (greater_of (lanes (run i)) (h i)) (lanes (run i)))
      go p true = joined_packed n (lanes (run i)) (h i) p (packed i (omega (arith, lt)))
      go p false = p

  some_more : (i : ℕ) → i < count → some_lanes (lanes (run (suc i))) ≡ cond (passes i) (some_lanes (lanes (run i)) || some_lanes (h i))
      (some_lanes (lanes (run i)))
  some_more i lt = ap some_lanes (run_more i) ∙ go (passes i)
    where
      go : (b : Bool) → some_lanes (cond b (greater_of (lanes (run i)) (h i)) (lanes (run i)))
          ≡ cond b (some_lanes (lanes (run i)) || some_lanes (h i)) (some_lanes (lanes (run i)))
      go true = some_or n (lanes (run i)) (h i) big (run_packed i (omega (arith, lt))) (packed i lt)
      go false = refl

  -- the ends of D, F and R
  abbrev fixed : Ends → ℕ → Ends
  fixed c i = total max_ends no_ends passes (λ k. cond (some_lanes (h k)) c no_ends) i

  abbrev joined : ℕ → Ends
  joined i = total max_ends no_ends passes (λ k. cond (some_lanes (h k)) (folded_by o (name_ends (h k) R) (found_ends true Max (v k) w)) no_ends) i

  -- the lanes of what the first i hulls give
  abbrev gift : ℕ → List ℤ
  gift i = three_at (lanes (run i)) (fixed (start_ends Max) i) (fixed (start_ends Min) i) (joined i)

  gift_begun : gift 0 ≡ no_lanes n
  unfolding total
  gift_begun = ap (λ xs. three_at xs no_ends no_ends no_ends) run_begun ∙ three_none n wide

  gift_more : (i : ℕ) → gift (suc i) ≡ cond (passes i) (greater_of (gift i) (made_lanes o (h i) (v i) w)) (gift i)
  unfolding total
  gift_more i =
      ap (λ xs. three_at xs (fixed (start_ends Max) (suc i)) (fixed (start_ends Min) (suc i)) (joined (suc i))) (run_more i) ∙ go (passes i)
    where
      go : (b : Bool) → three_at (cond b (greater_of (lanes (run i)) (h i)) (lanes (run i)))
          (cond b (max_ends (fixed (start_ends Max) i) (cond (some_lanes (h i)) (start_ends Max) no_ends)) (fixed (start_ends Max) i))
          (cond b (max_ends (fixed (start_ends Min) i) (cond (some_lanes (h i)) (start_ends Min) no_ends)) (fixed (start_ends Min) i))
          (cond b (max_ends (joined i) (cond (some_lanes (h i)) (folded_by o (name_ends (h i) R) (found_ends true Max (v i) w)) no_ends)) (joined i))
          ≡ cond b (greater_of (gift i) (made_lanes o (h i) (v i) w)) (gift i)
      go true = sym (three_greater (lanes (run i)) (h i) _ _ _ _ _ _)
      go false = refl

  gift_is : (i : ℕ) → i ≤ count → IsPacked n (gift i) × (unpacked (gift i) ≡ gives m l twin i v (λ k. unpacked (h k)) w)
  gift_is zero lt =
      (subst (IsPacked n) (sym gift_begun) (inl refl), ap unpacked gift_begun ∙ none_unpacked n big ∙ gives_none m l twin v (λ k. unpacked (h k)) w)
  gift_is (suc i) lt =
      let next = go (gift_is i (omega (arith, lt))) (passes i) in (
        subst (IsPacked n) (sym (gift_more i)) next.0,
        ap unpacked (gift_more i) ∙ next.1 ∙ gives_more m l twin i v (λ k. unpacked (h k)) w,
      )
    where
      one : IsPacked n (made_lanes o (h i) (v i) w) × (unpacked (made_lanes o (h i) (v i) w) ≡ seen_hull BothEnds (after_move m (unpacked (h i)) (v i) w))
      one = made_is m o n (h i) (v i) w big wide made (packed i (omega (arith, lt))) (begun i (omega (arith, lt))) (sv i (omega (arith, lt))) sw

      go : IsPacked n (gift i) × (unpacked (gift i) ≡ gives m l twin i v (λ k. unpacked (h k)) w) → (b : Bool) →
          IsPacked n (cond b (greater_of (gift i) (made_lanes o (h i) (v i) w)) (gift i))
          × (unpacked (cond b (greater_of (gift i) (made_lanes o (h i) (v i) w)) (gift i))
          ≡ hull_of_both (gives m l twin i v (λ k. unpacked (h k)) w) (cond b (after_move m (unpacked (h i)) (v i) w) none))
      go so_far true = (
        joined_packed n (gift i) (made_lanes o (h i) (v i) w) so_far.0 one.0,
        joined_is n (gift i) (made_lanes o (h i) (v i) w) big so_far.0 one.0
            ∙ ap (λ g. hull_of_both g (unpacked (made_lanes o (h i) (v i) w))) so_far.1
            ∙ ap (hull_of_both (gives m l twin i v (λ k. unpacked (h k)) w)) (one.1 ∙ all_seen BothEnds (after_move m (unpacked (h i)) (v i) w) refl),
      )
      go so_far false = (so_far.0, sym (packed_takes_none n (gift i) big so_far.0) ∙ ap (λ g. hull_of_both g none) so_far.1)

  -- R in the joined hulls
  r_total : (i : ℕ) → i ≤ count → total max_ends no_ends passes (λ k. ends_at (h k) 4) i ≡ ends_at (lanes (run i)) 4
  unfolding total
  r_total zero lt = let ten = ten_of n wide in sym (ap (λ xs. ends_at xs 4) run_begun ∙ none_at n 4 (omega (arith, ten)))
  r_total (suc i) lt =
      ap (λ z. cond (passes i) (max_ends z (ends_at (h i) 4)) z) (r_total i (omega (arith, lt))) ∙ go (passes i)
      ∙ sym (ap (λ xs. ends_at xs 4) (run_more i))
    where
      ten : 10 ≤ n
      ten = ten_of n wide

      go : (b : Bool) → cond b (max_ends (ends_at (lanes (run i)) 4) (ends_at (h i) 4)) (ends_at (lanes (run i)) 4)
          ≡ ends_at (cond b (greater_of (lanes (run i)) (h i)) (lanes (run i))) 4
      go true =
          sym (greater_ends n (lanes (run i)) (h i) 4 (packed_length n (lanes (run i)) (run_packed i (omega (arith, lt))))
          (packed_length n (h i) (packed i (omega (arith, lt)))) (omega (arith, ten)))
      go false = refl

  r_is : name_ends (lanes (run count)) R ≡ total max_ends no_ends passes (λ k. name_ends (h k) R) count
  r_is =
      r_at n (lanes (run count)) wide (packed_length n (lanes (run count)) (run_packed count (omega arith)))
      ∙ sym (r_total count (omega arith))
      ∙ sym (total_as max_ends no_ends passes passes (λ k. name_ends (h k) R) (λ k. ends_at (h k) 4) count (λ k lt. refl)
      (λ k lt. r_at n (h k) wide (packed_length n (h k) (packed k lt))))

  idle : (k : ℕ) → k < count → some_lanes (h k) ≡ false → name_ends (h k) R ≡ no_ends
  idle k lt is =
      let ten = ten_of n wide in
      r_at n (h k) wide (packed_length n (h k) (packed k lt)) ∙ ap (λ xs. ends_at xs 4) (nothing_lanes n (h k) big (packed k lt) is)
      ∙ none_at n 4 (omega (arith, ten))

  -- what closes the joined hulls
  module _ (replaced : X → Name → Ends → X)
      (replaced_lanes : (h : X) (k : Name) (e : Ends) → lanes (replaced h k e) ≡ with_ends_in (lanes h) (place n k) (kept_ends BothEnds e))
      (greatest : Bool) (op_is : o ≡ pair_op greatest) where
    abbrev tops : Bool → Bool → ℤ
    tops above bounded = top above bounded l twin count (λ k. some_lanes (h k)) (λ k. name_ends (h k) R) v w

    abbrev end : Name → Ends
    end =
        ends_by true (name_ends (lanes (run count)) C) (name_ends (lanes (run count)) E) (start_ends Max) (start_ends Min)
        (spread_ends greatest tops (name_ends (lanes (run count)) R))

    abbrev closed : X → X
    closed t =
        cond (some_lanes (lanes t)) (replaced_all replaced t (ends_by true (name_ends (lanes t) C) (name_ends (lanes t) E) (start_ends Max)
        (start_ends Min) (spread_ends greatest tops (name_ends (lanes t) R)))) t

    joined_is_spread : joined count ≡ spread_ends greatest tops (name_ends (lanes (run count)) R)
    joined_is_spread =
        ap (λ p. total max_ends no_ends passes (λ k. cond (some_lanes (h k)) (folded_by p (name_ends (h k) R) (found_ends true Max (v k) w)) no_ends) count)
        op_is
        ∙ spread_is l twin (λ k. some_lanes (h k)) (λ k. name_ends (h k) R) v w count idle (name_ends (lanes (run count)) R) r_is greatest

    const_is : (c : Ends) → max_ends c c ≡ c → max_ends c no_ends ≡ c → max_ends no_ends c ≡ c → fixed c count ≡ cond (some_lanes (lanes (run count))) c no_ends
    const_is c same left right =
        const_total passes (λ k. some_lanes (h k)) (λ k. some_lanes (lanes (run k))) (ap some_lanes run_begun ∙ none_is n) count some_more c same left right
        count (omega arith)

    pub closed_lanes : lanes (closed (run count)) ≡ gift count
    closed_lanes = go (some_lanes (lanes (run count))) refl
      where
        len : length (lanes (run count)) ≡ n
        len = packed_length n (lanes (run count)) (run_packed count (omega arith))

        start_is : fixed (start_ends Max) count ≡ cond (some_lanes (lanes (run count))) (start_ends Max) no_ends
        start_is = const_is (start_ends Max) refl refl refl

        open_is : fixed (start_ends Min) count ≡ cond (some_lanes (lanes (run count))) (start_ends Min) no_ends
        open_is = const_is (start_ends Min) refl refl refl

        go : (b : Bool) → some_lanes (lanes (run count)) ≡ b → lanes (cond b (replaced_all replaced (run count) end) (run count)) ≡ gift count
        go true is =
            all_lanes BothEnds lanes replaced n nothing none_lanes replaced_lanes (run count) end
            ∙ with_three n (lanes (run count)) (start_ends Max) (start_ends Min) (spread_ends greatest tops (name_ends (lanes (run count)) R)) wide len
            ∙ ap (λ d. three_at (lanes (run count)) d (start_ends Min) (spread_ends greatest tops (name_ends (lanes (run count)) R)))
            (sym (start_is ∙ ap (λ b. cond b (start_ends Max) no_ends) is))
            ∙ ap (λ f. three_at (lanes (run count)) (fixed (start_ends Max) count) f (spread_ends greatest tops (name_ends (lanes (run count)) R)))
            (sym (open_is ∙ ap (λ b. cond b (start_ends Min) no_ends) is))
            ∙ ap (three_at (lanes (run count)) (fixed (start_ends Max) count) (fixed (start_ends Min) count)) (sym joined_is_spread)
        go false is =
            let nothing_is = nothing_lanes n (lanes (run count)) big (run_packed count (omega arith)) is in
            nothing_is ∙ sym (three_none n wide) ∙ ap (λ xs. three_at xs no_ends no_ends no_ends) (sym nothing_is)
            ∙ ap (λ d. three_at (lanes (run count)) d no_ends no_ends) (sym (start_is ∙ ap (λ b. cond b (start_ends Max) no_ends) is))
            ∙ ap (λ f. three_at (lanes (run count)) (fixed (start_ends Max) count) f no_ends) (sym (open_is ∙ ap (λ b. cond b (start_ends Min) no_ends) is))
            ∙ ap (three_at (lanes (run count)) (fixed (start_ends Max) count) (fixed (start_ends Min) count))
            (sym (none_total passes (λ k. some_lanes (h k)) (λ k. some_lanes (lanes (run k))) (ap some_lanes run_begun ∙ none_is n) count some_more
            (λ k. folded_by o (name_ends (h k) R) (found_ends true Max (v k) w)) count (omega arith) is))

    pub closed_is : IsPacked n (lanes (closed (run count))) × (unpacked (lanes (closed (run count))) ≡ gives m l twin count v (λ k. unpacked (h k)) w)
    closed_is =
        let is = gift_is count (omega arith) in
        (subst (IsPacked n) (sym closed_lanes) is.0, ap unpacked closed_lanes ∙ is.1)

-- each next hull takes in what the move gives to it
pub spread_gift : {X : Type 0} (both : X → X → X) (nothing : X) (lanes : X → List ℤ) (n : ℕ)
    (both_lanes : (a b : X) → lanes (both a b) ≡ greater_of (lanes a) (lanes b)) (none_lanes : lanes nothing ≡ no_lanes n) (big : 6 ≤ n)
    (wide : is_wide n ≡ true) (s : Sides) (replaced : X → Name → Ends → X)
    (replaced_lanes : (h : X) (k : Name) (e : Ends) → lanes (replaced h k e) ≡ with_ends_in (lanes h) (place n k) (kept_ends s e))
    (alone : (s ≡ BothEnds) ⊎ (is_wide n ≡ false)) (m : Move) (greatest : Bool) (l : Letter) (twin : Bool) (v : ℕ → ℤ) (before : List X)
    (w : ℤ) (count : ℕ) → m.to ≡ emission true (pair_op greatest) Max → IsSmall w → ArePacked lanes nothing n count before →
    ((i : ℕ) → i < count → IsSmall (v i)) →
    ((i : ℕ) → i < count → some_lanes (lanes (get_or before i nothing)) ≡ true → IsBegun s true Max (as_read s (lanes (get_or before i nothing)))) →
    (closed : X → X) → ((t : X) →
    closed t ≡ cond (some_lanes (lanes t)) (spread_hull lanes s replaced greatest (top_of lanes s nothing before l twin count v w) t) t) →
    IsPacked n (lanes (closed (met_hull both nothing l twin (λ h v. h) before v w)))
    × (unpacked (lanes (closed (met_hull both nothing l twin (λ h v. h) before v w))) ≡ seen_hull s (gives m l twin count v (hull_at lanes nothing before) w))
spread_gift both nothing lanes n both_lanes none_lanes big wide BothEnds replaced replaced_lanes alone m greatest l twin v before w count made sw packed sv
    begun
    closed closed_is_by =
    let run = total both nothing (λ i. compares l twin (v i) w) (λ k. get_or before k nothing) in
    let is = closed_is both nothing lanes n both_lanes none_lanes big wide m (pair_op greatest) made l twin v before w sw count packed.1 sv begun replaced
    replaced_lanes greatest refl in (
      subst (IsPacked n) (sym (ap lanes (ap (λ k. closed (run k)) packed.0 ∙ closed_is_by (run count)))) is.0,
      ap unpacked (ap lanes (ap (λ k. closed (run k)) packed.0 ∙ closed_is_by (run count))) ∙ is.1 ∙ sym (all_seen BothEnds _ refl),
    )
spread_gift both nothing lanes n both_lanes none_lanes big wide UpperEnds replaced replaced_lanes (inl e) m greatest l twin v before w count made sw packed sv
    begun closed closed_is_by = cc
spread_gift both nothing lanes n both_lanes none_lanes big wide UpperEnds replaced replaced_lanes (inr e) m greatest l twin v before w count made sw packed sv
    begun closed closed_is_by = never_added (sym wide ∙ e)
spread_gift both nothing lanes n both_lanes none_lanes big wide LowerEnds replaced replaced_lanes (inl e) m greatest l twin v before w count made sw packed sv
    begun closed closed_is_by = cc
spread_gift both nothing lanes n both_lanes none_lanes big wide LowerEnds replaced replaced_lanes (inr e) m greatest l twin v before w count made sw packed sv
    begun closed closed_is_by = never_added (sym wide ∙ e)
