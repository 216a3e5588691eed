-- The columns of a row, which lie one after another in a list.
use Rattle.std.proofs.Common.{◌≡◌, ◌⊎◌, inl, inr, ℕ, zero, suc, min, ◌+◌, ◌-◌, ◌*◌, ◌<◌, ◌≤◌, List, [], ◌++◌, length, get_or, set, slice_range, map, take, drop, replicate, refl, sym, ap, subst, ◌∙◌, arith}
use Rattle.std.specs.List.{remove_range}
use Rattle.std.proofs.lemmas.Bool.{cases_lt, cases_order}
use Rattle.std.proofs.lemmas.List.{get_or-append_right, get_or-drop, get_or-map, get_or-replicate, get_or-take, get_or_append_left, get_or_default, length-append, length-drop, length-map, length-replicate, length-set, length-take, length-take-le, same_lists, take_at}
use Rattle.std.proofs.Math.Seq.{take-nil}
use Rattle.std.proofs.lemmas.List.FromFn.{get_or-map-range_with_len, length-map-range_with_len}
use Rattle.ts_row.specs.Rows.{IsCleared, columns_in, nothing}
use Rattle.ts_row.proofs.Parts.{part_at, part_length}
use Rattle.ts_row.proofs.Places.{at_each}
use Rattle.ts_sweep.specs.declared.packed.PackedHull.{PackedHull}

-- a column ends where the next one begins
pub column_ends : (stride q states : ℕ) → q < states → q * stride + stride ≤ states * stride
column_ends stride q zero lt = absurd (omega (arith, lt))
column_ends stride zero (suc n) lt = omega arith
column_ends stride (suc q) (suc n) lt = let rest = column_ends stride q n (omega (arith, lt)) in omega (arith, rest)

module _ {X : Type 0} (states stride count : ℕ) where
  pub columns_length : (xs : List X) → length (columns_in states stride count xs) ≡ states
  columns_length xs = length-map-range_with_len (λ q. slice_range xs (q * stride) (q * stride + count)) 0 states

  pub column_is : (xs : List X) (q : ℕ) → q < states → get_or (columns_in states stride count xs) q [] ≡ slice_range xs (q * stride) (q * stride + count)
  column_is xs q lt = get_or-map-range_with_len (λ p. slice_range xs (p * stride) (p * stride + count)) 0 states q q [] lt (omega arith)

  module _ (xs : List X) (room : states * stride ≤ length xs) (few : count ≤ stride) where
    pub column_inside : (q : ℕ) → q < states → q * stride + count ≤ length xs
    column_inside q lt = let ends = column_ends stride q states lt in omega (arith, ends, room, few)

    pub column_length : (q : ℕ) → q < states → length (get_or (columns_in states stride count xs) q []) ≡ count
    column_length q lt =
        ap length (column_is xs q lt) ∙ part_length (q * stride) (q * stride + count) xs (column_inside q lt) ∙ omega arith

  pub place_is : (xs : List X) (q i : ℕ) (d : X) → q < states → i < count →
      get_or (get_or (columns_in states stride count xs) q []) i d ≡ get_or xs (q * stride + i) d
  place_is xs q i d lt less = ap (λ z. get_or z i d) (column_is xs q lt) ∙ part_at (q * stride) (q * stride + count) i xs d (omega (arith, less))

  -- what is known of a row is known of its list
  pub known_state : (xs : List X) (row : List (List X)) → columns_in states stride count xs ≡ row → (q : ℕ) → q < length row → q < states
  known_state xs row is q inside = let all = columns_length xs in let same = ap length is in omega (arith, inside, all, same)

  pub column_shown : (xs : List X) (row : List (List X)) → columns_in states stride count xs ≡ row → (q : ℕ) → q < length row →
      slice_range xs (q * stride) (q * stride + count) ≡ get_or row q []
  column_shown xs row is q inside = sym (column_is xs q (known_state xs row is q inside)) ∙ ap (λ z. get_or z q []) is

  -- a row with these hulls at these places has these columns
  pub are_columns : (xs : List X) (row : List (List X)) → states * stride ≤ length xs → count ≤ stride → length row ≡ states →
      ((q : ℕ) → q < states → length (get_or row q []) ≡ count) →
      ((q i : ℕ) (d : X) → q < states → i < count → get_or xs (q * stride + i) d ≡ get_or (get_or row q []) i d) →
      columns_in states stride count xs ≡ row
  are_columns xs row room few len lens places =
      same_lists (columns_in states stride count xs) row (columns_length xs ∙ sym len)
      (λ q d inside.
      let lt : q < states = let long = columns_length xs in omega (arith, inside, long) in
      get_or_default (columns_in states stride count xs) q d [] inside
      ∙ same_lists (get_or (columns_in states stride count xs) q []) (get_or row q []) (column_length xs room few q lt ∙ sym (lens q lt))
      (λ i e less.
      let fits : i < count = let long = column_length xs room few q lt in omega (arith, less, long) in
      place_is xs q i e lt fits ∙ places q i e lt fits)
      ∙ get_or_default row q [] d (omega (arith, lt, len)))

-- a list with other elements in the middle
module _ {X : Type 0} (xs column new : List X) (at count : ℕ) (inside : at + count ≤ length xs) (long : length column ≡ count)
    (is : new ≡ take at xs ++ (column ++ drop count (drop at xs))) where
  before_long : length (take at xs) ≡ at
  before_long = length-take-le at xs (omega (arith, inside))

  pub pasted_length : length new ≡ length xs
  pasted_length =
      let rest = length-drop count (drop at xs) in
      let tail = length-drop at xs in
      ap length is ∙ length-append (take at xs) (column ++ drop count (drop at xs))
      ∙ (let more = length-append column (drop count (drop at xs)) in let front = before_long in omega (arith, more, front, rest, tail, long, inside))

  pub pasted_here : (i : ℕ) (d : X) → i < count → get_or new (at + i) d ≡ get_or column i d
  pasted_here i d less =
      ap (λ z. get_or z (at + i) d) is
      ∙ get_or-append_right (take at xs) (column ++ drop count (drop at xs)) at (at + i) d before_long (omega arith)
      ∙ ap (λ k. get_or (column ++ drop count (drop at xs)) k d) (let e : at + i - at ≡ i = omega arith in e)
      ∙ get_or_append_left column (drop count (drop at xs)) d i (omega (arith, less, long))

  pub pasted_before : (k : ℕ) (d : X) → k < at → get_or new k d ≡ get_or xs k d
  pasted_before k d less =
      ap (λ z. get_or z k d) is
      ∙ get_or_append_left (take at xs) (column ++ drop count (drop at xs)) d k (let front = before_long in omega (arith, less, front))
      ∙ get_or-take at xs k d less

  pub pasted_after : (k : ℕ) (d : X) → at + count ≤ k → get_or new k d ≡ get_or xs k d
  pasted_after k d more =
      ap (λ z. get_or z k d) is
      ∙ get_or-append_right (take at xs) (column ++ drop count (drop at xs)) at k d before_long (omega (arith, more))
      ∙ get_or-append_right column (drop count (drop at xs)) count (k - at) d long (omega (arith, more))
      ∙ get_or-drop count (drop at xs) (k - at - count) d ∙ get_or-drop at xs (count + (k - at - count)) d
      ∙ ap (λ j. get_or xs j d) (let e : at + (count + (k - at - count)) ≡ k = omega (arith, more) in e)

-- a column that was written anew
module _ {X : Type 0} (states stride count : ℕ) (xs column new : List X) (r : ℕ) (room : states * stride ≤ length xs) (few : count ≤ stride) (lt : r < states)
    (long : length column ≡ count) (is : new ≡ take (r * stride) xs ++ (column ++ drop count (drop (r * stride) xs))) where
  other_places : (q i : ℕ) (d : X) → (r ≡ q → ⊥) → i < count → get_or new (q * stride + i) d ≡ get_or xs (q * stride + i) d
  other_places q i d apart less = go (cases_order r q)
    where
      inside : r * stride + count ≤ length xs
      inside = column_inside states stride count xs room few r lt

      go : (r ≡ q) ⊎ ((r < q) ⊎ (q < r)) → get_or new (q * stride + i) d ≡ get_or xs (q * stride + i) d
      go (inl same) = absurd (apart same)
      go (inr (inl more)) =
          pasted_after xs column new (r * stride) count inside long is (q * stride + i) d (let ends = column_ends stride r q more in omega (arith, ends, few))
      go (inr (inr fewer)) =
          pasted_before xs column new (r * stride) count inside long is (q * stride + i) d
          (let ends = column_ends stride q r fewer in omega (arith, ends, few, less))

  pub still_room : states * stride ≤ length new
  still_room =
      let same = pasted_length xs column new (r * stride) count (column_inside states stride count xs room few r lt) long is in omega (arith, room, same)

  pub column_written : columns_in states stride count new ≡ set (columns_in states stride count xs) r column
  column_written =
      let old = columns_in states stride count xs in
      let inside : r < length old = let all = columns_length states stride count xs in omega (arith, lt, all) in
      are_columns states stride count new (set old r column) still_room few (length-set old r column ∙ columns_length states stride count xs)
      (λ q within. at_each (λ p z. length z ≡ count) old r column [] (set old r column) inside refl long q
      (λ apart. column_length states stride count xs room few q within))
      (λ q i d within less. at_each (λ p z. get_or new (p * stride + i) d ≡ get_or z i d) old r column [] (set old r column) inside refl
      (pasted_here xs column new (r * stride) count (column_inside states stride count xs room few r lt) long is i d less) q
      (λ apart. other_places q i d apart less ∙ sym (place_is states stride count xs q i d within less)))

-- a column of a row whose list is lent, and written anew
module _ {X : Type 0} (states stride count k : ℕ) (xs borrowed : List X) (row : List (List X)) (r : ℕ) (room : states * stride ≤ length xs)
    (few : count ≤ stride) (is : columns_in states stride count xs ≡ row) (inside : r < length row) (lent : borrowed ≡ xs)
    (same : length (get_or row r []) ≡ k) where
  lt : r < states
  lt = known_state states stride count xs row is r inside

  count_is : k ≡ count
  count_is = sym same ∙ ap (λ z. length (get_or z r [])) (sym is) ∙ column_length states stride count xs room few r lt

  pub lent_inside : r * stride + k ≤ length borrowed
  lent_inside = let ends = column_inside states stride count xs room few r lt in let long = ap length lent in omega (arith, ends, long, count_is)

  pub lent_column : slice_range borrowed (r * stride) (r * stride + k) ≡ get_or row r []
  lent_column =
      ap (λ z. slice_range z (r * stride) (r * stride + k)) lent ∙ ap (λ j. slice_range xs (r * stride) (r * stride + j)) count_is
      ∙ column_shown states stride count xs row is r inside

  pub row_written : (column new : List X) (len : ℕ) → length xs ≡ len → length column ≡ k →
      new ≡ take (r * stride) borrowed ++ (column ++ drop k (drop (r * stride) borrowed)) →
      columns_in states stride count (take len (new ++ drop (length new) xs)) ≡ set row r column
  row_written column new len all long written =
      let made : new ≡ take (r * stride) xs ++ (column ++ drop count (drop (r * stride) xs)) =
      written ∙ ap (λ z. take (r * stride) z ++ (column ++ drop k (drop (r * stride) z))) lent
      ∙ ap (λ j. take (r * stride) xs ++ (column ++ drop j (drop (r * stride) xs))) count_is in
      let length_is = pasted_length xs column new (r * stride) count (column_inside states stride count xs room few r lt) (long ∙ count_is) made in
      ap (columns_in states stride count) (take_at new (drop (length new) xs) len (length_is ∙ all))
      ∙ column_written states stride count xs column new r room few lt (long ∙ count_is) made ∙ ap (λ z. set z r column) is

-- hulls are taken out of the first q columns
pub record AreLess {X : Type 0} (states stride count from to : ℕ) (old : List (List X)) (q : ℕ) (xs : List X) : Type 0 where
  pub len : length old ≡ states
  pub few : count ≤ stride
  pub lens : (p : ℕ) → p < states → length (get_or old p []) ≡ count
  pub room : states * stride ≤ length xs
  pub less : (p i : ℕ) (d : X) → p < q → p < states → i < count - (to - from) →
      get_or xs (p * stride + i) d ≡ get_or (remove_range (get_or old p []) from to) i d
  pub same : (p i : ℕ) (d : X) → q ≤ p → p < states → i < count → get_or xs (p * stride + i) d ≡ get_or (get_or old p []) i d

-- a column without some of its hulls
module _ {X : Type 0} (from to count : ℕ) (column : List X) (order : from ≤ to) (long : length column ≡ count) where
  pub without_length : to ≤ count → length (remove_range column from to) ≡ count - (to - from)
  without_length inside =
      let rest = length-drop to column in let front = length-take-le from column (omega (arith, order, inside, long)) in
      length-append (take from column) (drop to column) ∙ omega (arith, rest, front, order, inside, long)

  pub without_before : (i : ℕ) (d : X) → i < from → i < count → get_or (remove_range column from to) i d ≡ get_or column i d
  without_before i d less inside =
      let front = length-take from column in
      get_or_append_left (take from column) (drop to column) d i (omega (arith, front, less, inside, long)) ∙ get_or-take from column i d less

  pub without_after : to ≤ count → (i : ℕ) (d : X) → from ≤ i → get_or (remove_range column from to) i d ≡ get_or column (i + (to - from)) d
  without_after inside i d more =
      get_or-append_right (take from column) (drop to column) from i d (length-take-le from column (omega (arith, order, inside, long))) more
      ∙ get_or-drop to column (i - from) d
      ∙ ap (λ k. get_or column k d) (let e : to + (i - from) ≡ i + (to - from) = omega (arith, order, more) in e)

module _ {X : Type 0} (states stride count from to q n : ℕ) (old : List (List X)) (xs new : List X) (order : from ≤ to) (between : to ≤ count)
    (lt : q < states) (so_far : AreLess states stride count from to old q xs) (len : length new ≡ length xs) (span : n ≡ count - to)
    (copied : (k : ℕ) (d : X) → q * stride + from ≤ k → k < q * stride + from + n →
    get_or new k d ≡ get_or xs (q * stride + to + (k - (q * stride + from))) d)
    (below : (k : ℕ) (d : X) → k < q * stride + from → get_or new k d ≡ get_or xs k d)
    (above : (k : ℕ) (d : X) → q * stride + from + n ≤ k → get_or new k d ≡ get_or xs k d) where
  here_less : (i : ℕ) (d : X) → i < count - (to - from) → get_or new (q * stride + i) d ≡ get_or (remove_range (get_or old q []) from to) i d
  here_less i d less = go (cases_lt i from)
    where
      go : (i < from) ⊎ (from ≤ i) → get_or new (q * stride + i) d ≡ get_or (remove_range (get_or old q []) from to) i d
      go (inl before) =
          below (q * stride + i) d (omega (arith, before)) ∙ so_far.same q i d (omega arith) lt (omega (arith, less))
          ∙ sym (without_before from to count (get_or old q []) order (so_far.lens q lt) i d before (omega (arith, less)))
      go (inr after) =
          copied (q * stride + i) d (omega (arith, after)) (omega (arith, less, span, order, between))
          ∙ ap (λ k. get_or xs k d)
          (let e : q * stride + to + (q * stride + i - (q * stride + from)) ≡ q * stride + (i + (to - from)) = omega (arith, after, order) in e)
          ∙ so_far.same q (i + (to - from)) d (omega arith) lt (omega (arith, less, order, between))
          ∙ sym (without_after from to count (get_or old q []) order (so_far.lens q lt) between i d after)

  pub less_more : AreLess states stride count from to old (q + 1) new
  less_more = record {
    len = so_far.len;
    few = so_far.few;
    lens = so_far.lens;
    room = let room = so_far.room in omega (arith, room, len);
    less = λ p i d before inside less. go p i d before inside less (cases_order p q);
    same = λ p i d after inside less.
        above (p * stride + i) d
        (let ends = column_ends stride q p (omega (arith, after)) in let few = so_far.few in omega (arith, ends, few, span, order, between))
        ∙ so_far.same p i d (omega (arith, after)) inside less;
  }
    where
      go : (p i : ℕ) (d : X) → p < q + 1 → p < states → i < count - (to - from) → (p ≡ q) ⊎ ((p < q) ⊎ (q < p)) →
          get_or new (p * stride + i) d ≡ get_or (remove_range (get_or old p []) from to) i d
      go p i d before inside less (inl same) =
          subst (λ k. get_or new (k * stride + i) d ≡ get_or (remove_range (get_or old k []) from to) i d) (sym same) (here_less i d less)
      go p i d before inside less (inr (inl fewer)) =
          below (p * stride + i) d (let ends = column_ends stride p q fewer in let few = so_far.few in omega (arith, ends, few, less))
          ∙ so_far.less p i d fewer inside less
      go p i d before inside less (inr (inr more)) = absurd (omega (arith, before, more))

-- before the first and after the last column
module _ {X : Type 0} (states stride count from to : ℕ) (old : List (List X)) (xs : List X) where
  pub none_less : states * stride ≤ length xs → count ≤ stride → columns_in states stride count xs ≡ old →
      AreLess states stride count from to old 0 xs
  none_less room few is = subst (λ z. AreLess states stride count from to z 0 xs) is (record {
    len = columns_length states stride count xs;
    few = few;
    lens = column_length states stride count xs room few;
    room = room;
    less = λ p i d before inside less. absurd (omega (arith, before));
    same = λ p i d after inside less. sym (place_is states stride count xs p i d inside less);
  })

  pub all_less : from ≤ to → to ≤ count → AreLess states stride count from to old states xs →
      columns_in states stride (count - (to - from)) xs ≡ map (λ column. remove_range column from to) old
  all_less order between is =
      let f : List X → List X = λ column. remove_range column from to in
      let len = is.len in
      let few = is.few in
      are_columns states stride (count - (to - from)) xs (map f old) is.room (omega (arith, few)) (length-map old f ∙ len)
      (λ q lt. ap length (get_or-map f old q [] [] (omega (arith, lt, len)))
      ∙ without_length from to count (get_or old q []) order (is.lens q lt) between)
      (λ q i d lt less. is.less q i d lt lt less ∙ sym (ap (λ z. get_or z i d) (get_or-map f old q [] [] (omega (arith, lt, len)))))

  -- hulls at the end of all columns are left out
  pub ends_less : states * stride ≤ length xs → count ≤ stride → columns_in states stride count xs ≡ old → from ≤ to → count ≤ to →
      columns_in states stride (min count from) xs ≡ map (λ column. remove_range column from to) old
  ends_less room few view order past =
      let f : List X → List X = λ column. remove_range column from to in
      let is = none_less room few view in
      let len = is.len in
      are_columns states stride (min count from) xs (map f old) room (omega (arith, few)) (length-map old f ∙ len)
      (λ q lt. ap length (get_or-map f old q [] [] (omega (arith, lt, len))) ∙ short (get_or old q []) (is.lens q lt) order past)
      (λ q i d lt less. is.same q i d (omega arith) lt (omega (arith, less))
      ∙ sym (without_before from to count (get_or old q []) order (is.lens q lt) i d (omega (arith, less)) (omega (arith, less)))
      ∙ sym (ap (λ z. get_or z i d) (get_or-map f old q [] [] (omega (arith, lt, len)))))
    where
      short : (column : List X) → length column ≡ count → from ≤ to → count ≤ to → length (remove_range column from to) ≡ min count from
      short column long order past =
          let rest = length-drop to column in
          let front = length-take from column in
          length-append (take from column) (drop to column) ∙ omega (arith, rest, front, order, past, long)

-- a list that is filled with nothing
pub cleared_items : (n all : ℕ) (h : PackedHull n) (xs b : List (PackedHull n)) (la : ℕ) → xs ≡ [] → la ≡ 0 →
    b ≡ take all xs ++ replicate (all - la) h → h ≡ nothing n → b ≡ replicate all (nothing n)
cleared_items n all h xs b la none start made is =
    made ∙ ap (λ z. take all z ++ replicate (all - la) h) none ∙ ap (λ z. z ++ replicate (all - la) h) (take-nil all)
    ∙ ap (replicate (all - la)) is ∙ ap (λ k. replicate k (nothing n)) (let e : all - la ≡ all = omega (arith, start) in e)

-- a row of nothing
module _ (n states count all : ℕ) (xs : List (PackedHull n)) (product : all ≡ states * count) (is : xs ≡ replicate all (nothing n)) where
  cleared_long : length xs ≡ states * count
  cleared_long = ap length is ∙ length-replicate all (nothing n) ∙ product

  pub are_cleared : IsCleared n states count (columns_in states count count xs)
  are_cleared = record {
    len = columns_length states count count xs;
    columns = λ q lt. (
      column_length states count count xs (let long = cleared_long in omega (arith, long)) (omega arith) q lt,
      λ i less. place_is states count count xs q i (nothing n) lt less ∙ ap (λ z. get_or z (q * count + i) (nothing n)) is
          ∙ get_or-replicate all (q * count + i) (nothing n) (nothing n)
          (let ends = column_ends count q states lt in omega (arith, ends, less, product)),
    );
  }

-- a row whose list is lent, and whose first column is filled with copies of one hull
pub first_filled : {X : Type 0} (states stride count : ℕ) (xs borrowed new : List X) (row : List (List X)) (first : X) (len : ℕ) →
    states * stride ≤ length xs → count ≤ stride → columns_in states stride count xs ≡ row → 0 < length row → borrowed ≡ xs → length xs ≡ len →
    new ≡ replicate count first ++ drop count borrowed →
    columns_in states stride count (take len (new ++ drop (length new) xs)) ≡ set row 0 (replicate (length (get_or row 0 [])) first)
first_filled states stride count xs borrowed new row first len room few view some lent all is =
    let k = length (get_or row 0 []) in
    let lt = known_state states stride count xs row view 0 some in
    let long : k ≡ count = ap (λ z. length (get_or z 0 [])) (sym view) ∙ column_length states stride count xs room few 0 lt in
    let at : 0 * stride ≡ 0 = omega arith in
    row_written states stride count k xs borrowed row 0 room few view some lent refl (replicate k first) new len all (length-replicate k first)
    (is ∙ ap (λ i. replicate i first ++ drop i borrowed) (sym long)
    ∙ ap (λ i. take i borrowed ++ (replicate k first ++ drop k (drop i borrowed))) (sym at))
