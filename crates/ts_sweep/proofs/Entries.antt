-- What a sweep gives to a next value stands for what the move gives to it from all values.
use Rattle.std.proofs.Common.{◌≡◌, inl, ℕ, zero, suc, ◌<◌, ◌≤◌, Bool, true, false, cond, ◌||◌, int_lt, int_le, ℤ, List, length, get_or, sym, ap, subst, ◌∙◌, arith}
use Rattle.std.specs.Ordering.{int_eq}
use Rattle.std.proofs.lemmas.Int.{ints}
use Rattle.ts_base.specs.declared.letter.Letter.TheVariants.{Equal}
use Rattle.ts_base.specs.Signature.{letter_of}
use Rattle.ts_automaton.specs.declared.regs.Hull.{Hull}
use Rattle.ts_automaton.specs.Body.{Move}
use Rattle.ts_hull.specs.Hulls.{none as none_hull, hull_of_both}
use Rattle.ts_hull.specs.Sealed.{after_move}
use Rattle.ts_hull.specs.Cuts.{Cut, cut_of, all_swept, front_hull, closed_hull}
use Rattle.ts_hull.specs.Smalls.{small_int, small_hull}
use Rattle.ts_hull.specs.Sweeps.{total as hull_total, same_letter, letter_for, compares}
use Rattle.ts_hull.proofs.SplitLaws.{moved_is, hull_small, small_within, total_closed, closed_hull_none}
use Rattle.ts_hull.proofs.Letters.{less_is, greater_is, equal_is}
use Rattle.ts_hull.proofs.Sums.{total_same}
use Rattle.ts_sweep.specs.Small.{IsSmall}
use Rattle.ts_sweep.specs.Lanes.{no_lanes, greater_of}
use Rattle.ts_sweep.specs.Packed.{unpacked, IsPacked}
use Rattle.ts_sweep.specs.PackedLaws.{joined_packed, joined_is, packed_takes_none, none_unpacked}
use Rattle.ts_sweep.specs.Moves.{IsFrontOf, IsClosingOf}
use Rattle.ts_sweep.specs.Sides.{Sides, seen_hull}
use Rattle.ts_sweep.specs.Sweeps.{total, passes}
use Rattle.ts_sweep.proofs.SeenLaws.{seen_closed, seen_cond, seen_total}

-- a value is passed where it compares as the letter says

or_equal : (v w : ℤ) → (int_lt v w || int_eq v w) ≡ int_le v w
or_equal v w = grind (arith, ints)

or_equal_down : (v w : ℤ) → (int_lt w v || int_eq v w) ≡ int_le w v
or_equal_down v w = grind (arith, ints)

pub passes_is : (up twin : Bool) (v w : ℤ) → passes up twin v w ≡ compares (letter_for up) twin v w
passes_is true false v w = sym (less_is v w)
passes_is true true v w =
    sym (ap (λ b. b || same_letter (letter_of v w) Equal) (less_is v w) ∙ ap (λ b. int_lt v w || b) (equal_is v w) ∙ or_equal v w)
passes_is false false v w = sym (greater_is v w)
passes_is false true v w =
    sym (ap (λ b. b || same_letter (letter_of v w) Equal) (greater_is v w) ∙ ap (λ b. int_lt w v || b) (equal_is v w) ∙ or_equal_down v w)

module _ {X : Type 0} (both : X → X → X) (none : X) (lanes : X → List ℤ) (n : ℕ) (both_lanes : (a b : X) → lanes (both a b) ≡ greater_of (lanes a) (lanes b))
    (none_lanes : lanes none ≡ no_lanes n) (big : 6 ≤ n) where
  -- the total of lanes stands for the total of hulls
  pub total_packed : (test : ℕ → Bool) (f : ℕ → X) (m : ℕ) → ((i : ℕ) → i < m → IsPacked n (lanes (f i))) → IsPacked n (lanes (total both none test f m))
  unfolding total
  total_packed test f zero h = inl none_lanes
  total_packed test f (suc m) h =
      let rest = total_packed test f m (λ i lt. h i (omega (arith, lt))) in
      elim (test m) as (λ b. IsPacked n (lanes (cond b (both (total both none test f m) (f m)) (total both none test f m)))) [
        | true ↦ subst (IsPacked n) (sym (both_lanes (total both none test f m) (f m))) (joined_packed n _ _ rest (h m (omega arith)))
        | false ↦ rest
      ]

  pub total_is : (test : ℕ → Bool) (f : ℕ → X) (m : ℕ) → ((i : ℕ) → i < m → IsPacked n (lanes (f i))) →
      unpacked (lanes (total both none test f m)) ≡ hull_total m (λ i. cond (test i) (unpacked (lanes (f i))) none_hull)
  unfolding total hull_total
  total_is test f zero h = ap unpacked none_lanes ∙ none_unpacked n big
  total_is test f (suc m) h =
      let before : (i : ℕ) → i < m → IsPacked n (lanes (f i)) = λ i lt. h i (omega (arith, lt)) in
      let rest = total_is test f m before in
      let t = total both none test f m in
      elim (test m) as (λ b. unpacked (lanes (cond b (both t (f m)) t))
      ≡ hull_of_both (hull_total m (λ i. cond (test i) (unpacked (lanes (f i))) none_hull)) (cond b (unpacked (lanes (f m))) none_hull)) [
        | true ↦ ap unpacked (both_lanes t (f m)) ∙ joined_is n (lanes t) (lanes (f m)) big (total_packed test f m before) (h m (omega arith))
            ∙ ap (λ z. hull_of_both z (unpacked (lanes (f m)))) rest
        | false ↦ sym (packed_takes_none n (lanes t) big (total_packed test f m before)) ∙ ap (λ z. hull_of_both z none_hull) rest
      ]

  module _ (s : Sides) (fit closable : X → Type 0) (front closing : X → ℤ → X) (cut : Cut) (closable_none : closable none)
      (closable_both : (a b : X) → closable a → closable b → closable (both a b)) (closable_front : (h : X) (v : ℤ) → fit h → IsSmall v → closable (front h v))
      (front_is : (h : X) (v : ℤ) → fit h → IsSmall v → IsFrontOf s cut n (lanes h) v (lanes (front h v)))
      (closing_is : (h : X) (w : ℤ) → closable h → IsSmall w → IsClosingOf s cut n (lanes h) w (lanes (closing h w))) where
    total_closable : (test : ℕ → Bool) (f : ℕ → X) (m : ℕ) → ((i : ℕ) → i < m → closable (f i)) → closable (total both none test f m)
    unfolding total
    total_closable test f zero h = closable_none
    total_closable test f (suc m) h =
        let rest = total_closable test f m (λ i lt. h i (omega (arith, lt))) in
        elim (test m) as (λ b. closable (cond b (both (total both none test f m) (f m)) (total both none test f m))) [
          | true ↦ closable_both (total both none test f m) (f m) rest (h m (omega arith))
          | false ↦ rest
        ]

    -- what is given to a next value by those of the values that pass a test
    pub given_is : (test : ℕ → Bool) (hulls : List X) (value : ℕ → ℤ) (w : ℤ) → ((i : ℕ) → i < length hulls → fit (get_or hulls i none)) →
        ((i : ℕ) → i < length hulls → IsSmall (value i)) → IsSmall w →
        IsPacked n (lanes (closing (total both none test (λ i. front (get_or hulls i none) (value i)) (length hulls)) w))
        × (unpacked (lanes (closing (total both none test (λ i. front (get_or hulls i none) (value i)) (length hulls)) w))
        ≡ seen_hull s (closed_hull cut
        (hull_total (length hulls) (λ i. cond (test i) (front_hull cut (unpacked (lanes (get_or hulls i none))) (value i)) none_hull)) w))
    given_is test hulls value w fits small small_next =
        let f : ℕ → X = λ i. front (get_or hulls i none) (value i) in
        let fronts : ℕ → Hull = λ i. front_hull cut (unpacked (lanes (get_or hulls i none))) (value i) in
        let m = length hulls in
        let t = total both none test f m in
        let packs : (i : ℕ) → i < m → IsPacked n (lanes (f i)) = λ i lt. (front_is (get_or hulls i none) (value i) (fits i lt) (small i lt)).0 in
        let closes = closing_is t w (total_closable test f m (λ i lt. closable_front (get_or hulls i none) (value i) (fits i lt) (small i lt)))
        small_next in
        let seen_is : unpacked (lanes t) ≡ seen_hull s (hull_total m (λ i. cond (test i) (fronts i) none_hull)) =
        total_is test f m packs
        ∙ total_same m (λ i. cond (test i) (unpacked (lanes (f i))) none_hull) (λ i. seen_hull s (cond (test i) (fronts i) none_hull))
        (λ i lt. ap (λ z. cond (test i) z none_hull) (front_is (get_or hulls i none) (value i) (fits i lt) (small i lt)).1
        ∙ sym (seen_cond s (test i) (fronts i)))
        ∙ sym (seen_total s m (λ i. cond (test i) (fronts i) none_hull)) in (
          closes.0,
          closes.1 ∙ ap (λ z. seen_hull s (closed_hull cut z w)) seen_is ∙ seen_closed s cut (hull_total m (λ i. cond (test i) (fronts i) none_hull)) w,
        )

-- what a move gives to a next value from all values that it is taken for, as one closed hull of fronts, where hulls and values are small
pub gives_closed : (m : Move) (test : ℕ → Bool) (n : ℕ) (h : ℕ → Hull) (v : ℕ → ℤ) (w : ℤ) → all_swept (cut_of m) ≡ true →
    ((i : ℕ) → i < n → small_hull (h i) ≡ true) → ((i : ℕ) → i < n → small_int (v i) ≡ true) → small_int w ≡ true →
    hull_total n (λ i. cond (test i) (after_move m (h i) (v i) w) none_hull)
    ≡ closed_hull (cut_of m) (hull_total n (λ i. cond (test i) (front_hull (cut_of m) (h i) (v i)) none_hull)) w
gives_closed m test n h v w swept small small_values small_next =
    total_same n (λ i. cond (test i) (after_move m (h i) (v i) w) none_hull)
    (λ i. closed_hull (cut_of m) (cond (test i) (front_hull (cut_of m) (h i) (v i)) none_hull) w)
    (λ i lt. elim (test i) as (λ b. cond b (after_move m (h i) (v i) w) none_hull
    ≡ closed_hull (cut_of m) (cond b (front_hull (cut_of m) (h i) (v i)) none_hull) w) [
      | true ↦ moved_is m (h i) (v i) w swept (hull_small (h i) (small i lt)) (small_within (v i) (small_values i lt)) (small_within w small_next)
      | false ↦ sym (closed_hull_none (cut_of m) w)
    ])
    ∙ total_closed n (cut_of m) (λ i. cond (test i) (front_hull (cut_of m) (h i) (v i)) none_hull) w
