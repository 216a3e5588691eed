-- Packed hulls stay packed.
use Rattle.std.proofs.Common.{◌≡◌, ℕ, ◌<◌, ◌≤◌, Bool, ℤ, List, length, get_or, sym, subst, ◌∙◌, arith}
use Rattle.ts_base.specs.declared.letter.Letter.{Letter}
use Rattle.ts_hull.specs.Cuts.{Cut}
use Rattle.ts_hull.specs.Sweeps.{compares}
use Rattle.ts_sweep.specs.Lanes.{no_lanes, greater_of}
use Rattle.ts_sweep.specs.Moves.{IsFrontOf, IsClosingOf}
use Rattle.ts_sweep.specs.Packed.{IsPacked, ArePacked}
use Rattle.ts_sweep.specs.PackedLaws.{joined_packed}
use Rattle.ts_sweep.specs.Sides.{Sides}
use Rattle.ts_sweep.specs.Small.{IsSmall}
use Rattle.ts_sweep.specs.Sweeps.{met_hull, IsTakenIn}
use Rattle.ts_sweep.proofs.Entries.{given_is}

module _ {X : Type 0} (both : X → X → X) (none : X) (lanes : X → List ℤ) (n : ℕ) (both_lanes : (a b : X) → lanes (both a b) ≡ greater_of (lanes a) (lanes b))
    (none_lanes : lanes none ≡ no_lanes n) (big : 6 ≤ n) where
  pub kept_packed : ((h : X) → IsPacked n (lanes h) → both h none ≡ h) → (h : ℕ → X) (m : ℕ) (old new : List X) → IsTakenIn both none none h old new →
      ArePacked lanes none n m old → ((j : ℕ) → j < m → IsPacked n (lanes (h j))) → ArePacked lanes none n m new
  kept_packed takes h m old new taken packed gives =
      let long = packed.0 in (
        taken.len ∙ long,
        λ j lt. subst (λ z. IsPacked n (lanes z)) (sym (taken.each j (omega (arith, lt, long)) (takes (get_or old j none) (packed.1 j lt))))
            (subst (IsPacked n) (sym (both_lanes (get_or old j none) (h j)))
            (joined_packed n (lanes (get_or old j none)) (lanes (h j)) (packed.1 j lt) (gives j lt))),
      )

  pub gives_packed : (s : Sides) (fit closable : X → Type 0) (front closing : X → ℤ → X) (cut : Cut) → closable none →
      ((a b : X) → closable a → closable b → closable (both a b)) → ((h : X) (v : ℤ) → fit h → IsSmall v → closable (front h v)) →
      ((h : X) (v : ℤ) → fit h → IsSmall v → IsFrontOf s cut n (lanes h) v (lanes (front h v))) →
      ((h : X) (w : ℤ) → closable h → IsSmall w → IsClosingOf s cut n (lanes h) w (lanes (closing h w))) →
      (l : Letter) (twin : Bool) (hulls : List X) (value : ℕ → ℤ) (w : ℤ) → ((i : ℕ) → i < length hulls → fit (get_or hulls i none)) →
      ((i : ℕ) → i < length hulls → IsSmall (value i)) → IsSmall w →
      IsPacked n (lanes (closing (met_hull both none l twin front hulls value w) w))
  gives_packed s fit closable front closing cut cn cb cf front_is closing_is l twin hulls value w fits small small_next =
      (given_is both none lanes n both_lanes none_lanes big s fit closable front closing cut cn cb cf front_is closing_is
      (λ i. compares l twin (value i) w) hulls value w fits small small_next).0
