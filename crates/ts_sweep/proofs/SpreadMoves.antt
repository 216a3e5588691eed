-- A column that has taken in a move which joins R with the difference of both cells.
use Rattle.std.proofs.Common.{◌≡◌, ◌⊎◌, ◌≤◌, ◌<◌, ℕ, ℤ, Bool, true, false, cond, List, get_or, refl, ap, ◌∙◌, arith}
use Rattle.ts_base.specs.declared.letter.Letter.{Letter}
use Rattle.ts_base.specs.declared.op.Op.TheVariants.{Max}
use Rattle.ts_automaton.specs.Body.{Move}
use Rattle.ts_hull.specs.Hulls.{hull_of_both}
use Rattle.ts_sweep.specs.declared.packed.Ends.{Ends}
use Rattle.ts_sweep.specs.declared.packed.Name.{Name}
use Rattle.ts_sweep.specs.Columns.{IsMoved, gives, hull_at}
use Rattle.ts_sweep.specs.Lanes.{greater_of, no_lanes, some_lanes}
use Rattle.ts_sweep.specs.Packed.{ArePacked, IsPacked, is_wide, place, unpacked, with_ends_in}
use Rattle.ts_sweep.specs.PackedLaws.{joined_is}
use Rattle.ts_sweep.specs.PairMoves.{IsBegun, emission, pair_op}
use Rattle.ts_sweep.specs.Sides.{Sides, BothEnds, as_read, kept_ends, seen_hull}
use Rattle.ts_sweep.specs.Small.{IsSmall}
use Rattle.ts_sweep.specs.Spreads.{spread_hull, top_of}
use Rattle.ts_sweep.specs.Sweeps.{IsTakenIn, met_hull}
use Rattle.ts_sweep.proofs.Kept.{kept_packed}
use Rattle.ts_sweep.proofs.SpreadSteps.{spread_gift}

module _ {X : Type 0} (both : X → X → X) (nothing : X) (lanes : X → List ℤ) (n : ℕ) (both_lanes : (a b : X) → lanes (both a b) ≡ greater_of (lanes a) (lanes b))
    (none_lanes : lanes nothing ≡ no_lanes n) (big : 6 ≤ n) (wide : is_wide n ≡ true) (s : Sides) (replaced : X → Name → Ends → X)
    (replaced_lanes : (h : X) (k : Name) (e : Ends) → lanes (replaced h k e) ≡ with_ends_in (lanes h) (place n k) (kept_ends s e))
    (alone : (s ≡ BothEnds) ⊎ (is_wide n ≡ false)) (takes : (h : X) → IsPacked n (lanes h) → both h nothing ≡ h) (greatest : Bool) (l : Letter) (twin : Bool)
    (count : ℕ) (v : ℕ → ℤ) (before : List X) (packed : ArePacked lanes nothing n count before) (sv : (i : ℕ) → i < count → IsSmall (v i))
    (begun : (i : ℕ) → i < count → some_lanes (lanes (get_or before i nothing)) ≡ true → IsBegun s true Max (as_read s (lanes (get_or before i nothing))))
    (closing : X → ℤ → X)
    (closing_is : (t : X) (w : ℤ) →
    closing t w ≡ cond (some_lanes (lanes t)) (spread_hull lanes s replaced greatest (top_of lanes s nothing before l twin count v w) t) t) where
  given : (m : Move) → m.to ≡ emission true (pair_op greatest) Max → (w : ℤ) → IsSmall w →
      IsPacked n (lanes (closing (met_hull both nothing l twin (λ h v. h) before v w) w))
      × (unpacked (lanes (closing (met_hull both nothing l twin (λ h v. h) before v w) w)) ≡ seen_hull s
      (gives m l twin count v (hull_at lanes nothing before) w))
  given m made w small =
      spread_gift both nothing lanes n both_lanes none_lanes big wide s replaced replaced_lanes alone m greatest l twin v before w count made small packed sv
      begun
      (λ t. closing t w) (λ t. closing_is t w)

  module _ (k : ℕ) (next : ℕ → ℤ) (old new : List X) (small : (j : ℕ) → j < k → IsSmall (next j)) (old_packed : ArePacked lanes nothing n k old)
      (taken : IsTakenIn both nothing nothing (λ j. closing (met_hull both nothing l twin (λ h v. h) before v (next j)) (next j)) old new) where
    pub spread_packed : ArePacked lanes nothing n k new
    spread_packed =
        kept_packed both nothing lanes n both_lanes none_lanes big takes _ k old new taken old_packed
        (λ j lt. (given (record { next = 0; to = emission true (pair_op greatest) Max }) refl (next j) (small j lt)).0)

    pub spread_moved : (m : Move) → m.to ≡ emission true (pair_op greatest) Max → IsMoved s lanes nothing m l twin count v before k next old new
    spread_moved m made j lt =
        let was = get_or old j nothing in
        let gift = closing (met_hull both nothing l twin (λ h v. h) before v (next j)) (next j) in
        let is = given m made (next j) (small j lt) in
        let long = old_packed.0 in
        ap (λ x. unpacked (lanes x)) (taken.each j (omega (arith, lt, long)) (takes was (old_packed.1 j lt)))
        ∙ ap unpacked (both_lanes was gift) ∙ joined_is n (lanes was) (lanes gift) big (old_packed.1 j lt) is.0
        ∙ ap (hull_of_both (unpacked (lanes was))) is.1
