-- Whether registers lie in packed lanes, each lane shows.
use Rattle.std.proofs.Common.{◌≡◌, inl, inr, ℕ, ◌<◌, ◌≤◌, ◌<ℤ◌, ℤ, pos, true, not, List, get_or, sym, ap, subst, ◌∙◌, arith}
use Rattle.std.specs.Ordering.{int_eq}
use Rattle.std.proofs.lemmas.Int.{ints}
use Rattle.std.proofs.lemmas.List.{get_or-replicate}
use Rattle.ts_sweep.specs.Lanes.{least, some_lanes}
use Rattle.ts_sweep.specs.MoveLaws.{first_is, none_is}
use Rattle.ts_sweep.specs.Packed.{IsPacked}
use Rattle.ts_sweep.specs.Sides.{count_by, lane_count, lanes_by, lanes_in}
use Rattle.ts_sweep.specs.SidesLaws.{full}

above_least : (x : ℤ) → least <ℤ x → not (int_eq x least) ≡ true
above_least x h = grind (arith, ints)

pub lane_shows : (n k : ℕ) (xs : List ℤ) → 6 ≤ n → k < n → IsPacked n xs → not (int_eq (get_or xs k (pos 0)) least) ≡ some_lanes xs
lane_shows n k xs big lt (inl e) =
    ap (λ zs. not (int_eq (get_or zs k (pos 0)) least)) e ∙ ap (λ x. not (int_eq x least)) (get_or-replicate n k least (pos 0) lt)
    ∙ sym (ap some_lanes e ∙ none_is n)
lane_shows n k xs big lt (inr p) = above_least (get_or xs k (pos 0)) (p.above k lt) ∙ sym (first_is n xs big p)

-- lanes of both ends are as they are
pub whole_shows : (n k : ℕ) (xs : List ℤ) → 6 ≤ n → k < n → IsPacked (lane_count n) (lanes_in n xs) →
    not (int_eq (get_or xs k (pos 0)) least) ≡ some_lanes (lanes_in n xs)
whole_shows n k xs big lt packed =
    subst (λ s. IsPacked (count_by s n) (lanes_by s xs) → not (int_eq (get_or xs k (pos 0)) least) ≡ some_lanes (lanes_by s xs)) (sym (full n big))
    (lane_shows n k xs big lt) packed
