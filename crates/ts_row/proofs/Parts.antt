-- For crates above: a part of a row, which is that row at some of its places.
use Rattle.std.proofs.Common.{◌≡◌, ℕ, ◌+◌, ◌-◌, ◌<◌, ◌≤◌, List, [], length, get_or, take, drop, slice_range, sym, ap, subst, ◌∙◌, arith}
use Rattle.std.specs.List.{All}
use Rattle.std.proofs.lemmas.List.{get_or-drop, get_or-map, get_or-take, get_or_default, length-drop, length-map, length-take-le, take_rest}
use Rattle.std.proofs.lemmas.List.Folds.{map_fixed}
use Rattle.ts_row.specs.Rows.{IsRow, columns_part, hull_in, lanes_of, nothing}
use Rattle.ts_sweep.specs.declared.packed.PackedHull.{PackedHull}
use Rattle.ts_sweep.specs.Packed.{IsPacked, unpacked}
use Rattle.ts_sweep.specs.Sides.{lane_count}

pub part_length : {X : Type 0} (from to : ℕ) (xs : List X) → to ≤ length xs → length (slice_range xs from to) ≡ to - from
part_length from to xs inside =
    length-take-le (to - from) (drop from xs) (let e = length-drop from xs in omega (arith, e, inside))

pub part_at : {X : Type 0} (from to i : ℕ) (xs : List X) (d : X) → i < to - from → get_or (slice_range xs from to) i d ≡ get_or xs (from + i) d
part_at from to i xs d before = get_or-take (to - from) (drop from xs) i d before ∙ get_or-drop from xs i d

module _ (n states count : ℕ) (row : List (List (PackedHull n))) (is : IsRow n states count row) where
  -- each column goes up to each place of the row
  pub columns_reach : (to : ℕ) → to ≤ count → All (λ column. to ≤ length column) row
  columns_reach to few q d inside =
      let long = (is.columns q (let e = is.len in omega (arith, e, inside))).0 in
      subst (λ column. to ≤ length column) (get_or_default row q [] d inside) (omega (arith, long, few))

  -- all places of a row are the row
  pub whole_part : columns_part 0 count row ≡ row
  whole_part =
      map_fixed (λ column. slice_range column 0 count) row
      (λ q d inside. let column = get_or row q d in
      let long : length column ≡ count =
      ap length (get_or_default row q d [] inside) ∙ (is.columns q (let e = is.len in omega (arith, e, inside))).0 in
      ap (λ m. take (m - 0) column) (sym long) ∙ take_rest column 0)

  part_column : (from to q : ℕ) → q < states → get_or (columns_part from to row) q [] ≡ slice_range (get_or row q []) from to
  part_column from to q lt = get_or-map (λ column. slice_range column from to) row q [] [] (let e = is.len in omega (arith, e, lt))

  -- the hull of a state at a place of a part
  pub part_hull : (from to q i : ℕ) → q < states → i < to - from →
      get_or (get_or (columns_part from to row) q []) i (nothing n) ≡ get_or (get_or row q []) (from + i) (nothing n)
  part_hull from to q i lt before =
      ap (λ z. get_or z i (nothing n)) (part_column from to q lt) ∙ part_at from to i (get_or row q []) (nothing n) before

  pub hull_in_part : (from to q i : ℕ) → q < states → i < to - from → hull_in n (columns_part from to row) q i ≡ hull_in n row q (from + i)
  hull_in_part from to q i lt before = ap (λ (z : PackedHull n). unpacked (lanes_of n z)) (part_hull from to q i lt before)

  -- a part of a row is a row
  pub part_row : (from to : ℕ) → from ≤ to → to ≤ count → IsRow n states (to - from) (columns_part from to row)
  part_row from to order few = record {
    len = length-map row (λ column. slice_range column from to) ∙ is.len;
    columns = λ q lt. let column = is.columns q lt in (
      ap length (part_column from to q lt) ∙ part_length from to (get_or row q []) (let long = column.0 in omega (arith, long, few)),
      λ i before. subst (λ (z : PackedHull n). IsPacked (lane_count n) (lanes_of n z)) (sym (part_hull from to q i lt before))
          (column.1 (from + i) (omega (arith, before, order, few))),
    );
  }
