-- A move that is taken in by a sweep, stated by what packed hulls stand for.
use Rattle.std.proofs.Common.{◌≡◌, ℕ, ◌<◌, ◌≤◌, Bool, true, cond, ℤ, List, length, get_or, sym, ap, ◌∙◌, arith}
use Rattle.ts_base.specs.declared.letter.Letter.{Letter}
use Rattle.ts_automaton.specs.declared.regs.Hull.{Hull}
use Rattle.ts_automaton.specs.Body.{Move}
use Rattle.ts_hull.specs.Hulls.{none, hull_of_both}
use Rattle.ts_hull.specs.Sealed.{after_move}
use Rattle.ts_hull.specs.Cuts.{cut_of, all_swept, all_whole, front_hull, closed_hull}
use Rattle.ts_hull.specs.Smalls.{small_int, small_hull}
use Rattle.ts_hull.specs.Sweeps.{compares, total as hull_total}
use Rattle.ts_hull.proofs.Sums.{total_same}
use Rattle.ts_hull.proofs.Wholes.{moved_whole, closed_whole}
use Rattle.ts_sweep.specs.Columns.{gives, hull_at, IsMoved}
use Rattle.ts_sweep.specs.Lanes.{no_lanes, greater_of}
use Rattle.ts_sweep.specs.Moves.{IsFrontOf, IsClosingOf}
use Rattle.ts_sweep.specs.Packed.{unpacked, IsPacked, ArePacked}
use Rattle.ts_sweep.specs.PackedLaws.{joined_is}
use Rattle.ts_sweep.specs.Sides.{Sides, seen_hull}
use Rattle.ts_sweep.specs.Small.{IsSmall}
use Rattle.ts_sweep.specs.Sweeps.{IsTakenIn, met_hull}
use Rattle.ts_sweep.proofs.Entries.{given_is, gives_closed}
use Rattle.ts_sweep.proofs.HullLanes.{small_value}

-- what a move gives that doesn't read the next cell: the closed hull of fronts
gives_whole : (m : Move) (l : Letter) (twin : Bool) (n : ℕ) (v : ℕ → ℤ) (h : ℕ → Hull) (w : ℤ) → all_whole (cut_of m) ≡ true →
    closed_hull (cut_of m) (hull_total n (λ i. cond (compares l twin (v i) w) (front_hull (cut_of m) (h i) (v i)) none)) w
    ≡ gives m l twin n v h w
unfolding gives
gives_whole m l twin n v h w whole =
    closed_whole (cut_of m) (hull_total n (λ i. cond (compares l twin (v i) w) (front_hull (cut_of m) (h i) (v i)) none)) w whole
    ∙ total_same n (λ i. cond (compares l twin (v i) w) (front_hull (cut_of m) (h i) (v i)) none)
    (λ i. cond (compares l twin (v i) w) (after_move m (h i) (v i) w) none)
    (λ i lt. ap (λ z. cond (compares l twin (v i) w) z none) (sym (moved_whole m (h i) (v i) w whole)))

-- what any move gives that can be swept, from small hulls
gives_small : (m : Move) (l : Letter) (twin : Bool) (n : ℕ) (v : ℕ → ℤ) (h : ℕ → Hull) (w : ℤ) → all_swept (cut_of m) ≡ true →
    ((i : ℕ) → i < n → small_hull (h i) ≡ true) → ((i : ℕ) → i < n → small_int (v i) ≡ true) → small_int w ≡ true →
    closed_hull (cut_of m) (hull_total n (λ i. cond (compares l twin (v i) w) (front_hull (cut_of m) (h i) (v i)) none)) w
    ≡ gives m l twin n v h w
unfolding gives
gives_small m l twin n v h w swept small small_values small_next =
    sym (gives_closed m (λ i. compares l twin (v i) w) n h v w swept small small_values small_next)

module _ {X : Type 0} (both : X → X → X) (nothing : X) (lanes : X → List ℤ) (n : ℕ) (both_lanes : (a b : X) → lanes (both a b) ≡ greater_of (lanes a) (lanes b))
    (none_lanes : lanes nothing ≡ no_lanes n) (big : 6 ≤ n) (s : Sides) (fit closable : X → Type 0) (front closing : X → ℤ → X) (m : Move)
    (closable_none : closable nothing) (closable_both : (a b : X) → closable a → closable b → closable (both a b))
    (closable_front : (h : X) (v : ℤ) → fit h → IsSmall v → closable (front h v))
    (front_is : (h : X) (v : ℤ) → fit h → IsSmall v → IsFrontOf s (cut_of m) n (lanes h) v (lanes (front h v)))
    (closing_is : (h : X) (w : ℤ) → closable h → IsSmall w → IsClosingOf s (cut_of m) n (lanes h) w (lanes (closing h w))) where
  -- a column that took in the closed hulls of fronts has taken in what the move gives
  gives_moved : ((h : X) → IsPacked n (lanes h) → both h nothing ≡ h) → (l : Letter) (twin : Bool) (count k : ℕ) (before old new : List X)
      (value next : ℕ → ℤ) →
      ((w : ℤ) → IsSmall w → closed_hull (cut_of m)
      (hull_total count (λ i. cond (compares l twin (value i) w) (front_hull (cut_of m) (hull_at lanes nothing before i) (value i)) none)) w
      ≡ gives m l twin count value (hull_at lanes nothing before) w) → length before ≡ count →
      ((i : ℕ) → i < count → fit (get_or before i nothing)) → ((i : ℕ) → i < count → IsSmall (value i)) → ((j : ℕ) → j < k → IsSmall (next j)) →
      ArePacked lanes nothing n k old →
      IsTakenIn both nothing nothing (λ j. closing (met_hull both nothing l twin front before value (next j)) (next j)) old new →
      IsMoved s lanes nothing m l twin count value before k next old new
  gives_moved takes l twin count k before old new value next gives_is long fits small_values small_next packed taken j lt =
      let w = next j in
      let test : ℕ → Bool = λ i. compares l twin (value i) w in
      let h : ℕ → Hull = hull_at lanes nothing before in
      let was = get_or old j nothing in
      let gift = closing (met_hull both nothing l twin front before value w) w in
      let given = given_is both nothing lanes n both_lanes none_lanes big s fit closable front closing (cut_of m) closable_none closable_both closable_front
      front_is closing_is test before value w (λ i less. fits i (omega (arith, less, long))) (λ i less. small_values i (omega (arith, less, long)))
      (small_next j lt) in
      let counted = packed.0 in
      ap (λ x. unpacked (lanes x)) (taken.each j (omega (arith, lt, counted)) (takes was (packed.1 j lt)))
      ∙ ap unpacked (both_lanes was gift) ∙ joined_is n (lanes was) (lanes gift) big (packed.1 j lt) given.0
      ∙ ap (hull_of_both (unpacked (lanes was)))
      (given.1 ∙ ap (seen_hull s) (ap (λ z. closed_hull (cut_of m) (hull_total z (λ i. cond (test i) (front_hull (cut_of m) (h i) (value i)) none)) w) long
      ∙ gives_is w (small_next j lt)))

  pub column_moved : ((h : X) → IsPacked n (lanes h) → both h nothing ≡ h) → (l : Letter) (twin : Bool) (count k : ℕ) (before old new : List X)
      (value next : ℕ → ℤ) → all_whole (cut_of m) ≡ true → length before ≡ count → ((i : ℕ) → i < count → fit (get_or before i nothing)) →
      ((i : ℕ) → i < count → IsSmall (value i)) → ((j : ℕ) → j < k → IsSmall (next j)) → ArePacked lanes nothing n k old →
      IsTakenIn both nothing nothing (λ j. closing (met_hull both nothing l twin front before value (next j)) (next j)) old new →
      IsMoved s lanes nothing m l twin count value before k next old new
  column_moved takes l twin count k before old new value next whole long fits small_values small_next packed taken =
      gives_moved takes l twin count k before old new value next (λ w small. gives_whole m l twin count value (hull_at lanes nothing before) w whole) long fits
      small_values small_next packed taken

  -- a column of small hulls has taken in a move in which the next cell may stand
  pub small_moved : ((h : X) → IsPacked n (lanes h) → both h nothing ≡ h) → (l : Letter) (twin : Bool) (count k : ℕ) (before old new : List X)
      (value next : ℕ → ℤ) → all_swept (cut_of m) ≡ true → ((i : ℕ) → i < count → small_hull (hull_at lanes nothing before i) ≡ true) →
      length before ≡ count → ((i : ℕ) → i < count → fit (get_or before i nothing)) → ((i : ℕ) → i < count → IsSmall (value i)) →
      ((j : ℕ) → j < k → IsSmall (next j)) → ArePacked lanes nothing n k old →
      IsTakenIn both nothing nothing (λ j. closing (met_hull both nothing l twin front before value (next j)) (next j)) old new →
      IsMoved s lanes nothing m l twin count value before k next old new
  small_moved takes l twin count k before old new value next swept small long fits small_values small_next packed taken =
      gives_moved takes l twin count k before old new value next
      (λ w small_w. gives_small m l twin count value (hull_at lanes nothing before) w swept small (λ i lt. small_value (value i) (small_values i lt))
      (small_value w small_w)) long fits small_values small_next packed taken
