-- Rows without the hulls of some values, and with those of some values alone, as lists and packed.
use Rattle.std.proofs.Common.{◌≡◌, ◌⊎◌, inl, inr, ℕ, min, zero, suc, ◌+◌, ◌-◌, ◌*◌, ◌<◌, ◌≤◌, ℤ, List, [], ◌∷◌, ◌++◌, length, map, take, drop, get_or, refl, sym, ap, ◌∙◌, subst, arith}
use Rattle.std.specs.Prelude.{flat_map}
use Rattle.std.specs.List.{range_with_len, remove_range, slice_range}
use Rattle.std.proofs.Math.ListN.{get_or-map}
use Rattle.std.proofs.Math.Seq.{take-nil, drop-nil, take-append-add, drop-append-add}
use Rattle.std.proofs.lemmas.Grind.{flat_map-append}
use Rattle.std.proofs.lemmas.List.{take-map, drop-map, map-append, get_or_append_left, get_or-append-add, get_or-take, get_or-drop, length-append, length-drop, length-map, length-take, take-append-drop}
use Rattle.std.proofs.lemmas.List.FromFn.{length-map-range_with_len}
use Rattle.ts_automaton.specs.declared.regs.Hull.{Hull}
use Rattle.ts_automaton.specs.Body.{Body}
use Rattle.ts_domain.specs.Boxes.{Box}
use Rattle.ts_bound.specs.HullTables.{hull_at, hulls_at, row_of}
use Rattle.ts_bound.specs.PackedRows.{seen_row}
use Rattle.ts_row.specs.Rows.{IsColumn, IsRow, columns_part, flat_row, hull_in, lanes_of, nothing}
use Rattle.ts_row.proofs.Parts.{hull_in_part, part_length, part_row}
use Rattle.ts_sweep.specs.declared.packed.PackedHull.{PackedHull}
use Rattle.ts_sweep.specs.Packed.{IsPacked, unpacked}
use Rattle.ts_sweep.specs.Sides.{Sides, lane_count, seen_hull}
use Rattle.ts_bound.specs.declared.any_row.AnyRow.{AnyRow}
use Rattle.ts_bound.specs.declared.any_row.AnyRow.TheVariants.{Narrow, Upper, Lower, Wide}
use Rattle.ts_bound.specs.declared.planned.Planned.{Planned}
use Rattle.ts_bound.specs.AnyRows.{columns_without, row_part, row_without}
use Rattle.ts_bound.specs.RowStacks.{HasStates, hulls_in, values_in}

-- a list that is made of parts of one length

module _ {X Y : Type 0} (f : X → List Y) (s : ℕ) (each : (x : X) → length (f x) ≡ s) where
  front_of_parts : (k : ℕ) (xs : List X) → take (k * s) (flat_map f xs) ≡ flat_map f (take k xs)
  front_of_parts zero xs = let start : 0 * s ≡ 0 = omega arith in ap (λ n. take n (flat_map f xs)) start
  front_of_parts (suc k) [] = take-nil (suc k * s)
  front_of_parts (suc k) (x ∷ xs) =
      let long = each x in let place : suc k * s ≡ length (f x) + k * s = omega (arith, long) in
      ap (λ n. take n (f x ++ flat_map f xs)) place ∙ take-append-add (f x) (flat_map f xs) (k * s) ∙ ap (λ l. f x ++ l) (front_of_parts k xs)

  rest_of_parts : (k : ℕ) (xs : List X) → drop (k * s) (flat_map f xs) ≡ flat_map f (drop k xs)
  rest_of_parts zero xs = let start : 0 * s ≡ 0 = omega arith in ap (λ n. drop n (flat_map f xs)) start
  rest_of_parts (suc k) [] = drop-nil (suc k * s)
  rest_of_parts (suc k) (x ∷ xs) =
      let long = each x in let place : suc k * s ≡ length (f x) + k * s = omega (arith, long) in
      ap (λ n. drop n (f x ++ flat_map f xs)) place ∙ drop-append-add (f x) (flat_map f xs) (k * s) ∙ rest_of_parts k xs

  parts_without : (xs : List X) (i j : ℕ) → remove_range (flat_map f xs) (i * s) (j * s) ≡ flat_map f (remove_range xs i j)
  parts_without xs i j =
      ap (λ l. l ++ drop (j * s) (flat_map f xs)) (front_of_parts i xs) ∙ ap (λ l. flat_map f (take i xs) ++ l) (rest_of_parts j xs)
      ∙ sym (flat_map-append f (take i xs) (drop j xs))

  times_less : (i j : ℕ) → j * s - i * s ≡ (j - i) * s
  times_less zero j = let none : 0 * s ≡ 0 = omega arith in let all : j - 0 ≡ j = omega arith in omega (arith, none, ap (λ n. n * s) all)
  times_less (suc i) zero = let none : 0 * s ≡ 0 = omega arith in let all : 0 - suc i ≡ 0 = omega arith in omega (arith, none, ap (λ n. n * s) all)
  times_less (suc i) (suc j) =
      let here : suc j * s - suc i * s ≡ j * s - i * s = omega arith in let there : j - i ≡ suc j - suc i = omega arith in
      here ∙ times_less i j ∙ ap (λ n. n * s) there

  parts_slice : (xs : List X) (i j : ℕ) → slice_range (flat_map f xs) (i * s) (j * s) ≡ flat_map f (slice_range xs i j)
  parts_slice xs i j =
      ap (λ l. take (j * s - i * s) l) (rest_of_parts i xs) ∙ ap (λ n. take n (flat_map f (drop i xs))) (times_less i j) ∙ front_of_parts (j - i) (drop i xs)

-- the values that went stood side by side
pub lost_between : (before now : List ℤ) (from to : ℕ) → take from now ≡ take from before → drop to before ≡ drop from now →
    now ≡ remove_range before from to
lost_between before now from to same rest =
    sym (take-append-drop from now) ∙ ap (λ l. l ++ drop from now) same ∙ ap (λ l. take from before ++ l) (sym rest)

-- the row of a cell that has lost values: the hulls of the others are as they were

all_lost : (a : Body) (before : Box) (values : List ℤ) (i j : ℕ) →
    remove_range (row_of a before values) (i * length a.states) (j * length a.states) ≡ row_of a before (remove_range values i j)
unfolding row_of hulls_at
all_lost a before values i j =
    parts_without (hulls_at a before) (length a.states) (λ v. length-map-range_with_len (hull_at a before v) 0 (length a.states)) values i j

map_without : {X Y : Type 0} (f : X → Y) (xs : List X) (i j : ℕ) → remove_range (map f xs) i j ≡ map f (remove_range xs i j)
map_without f xs i j =
    ap (λ l. l ++ drop j (map f xs)) (take-map f i xs) ∙ ap (λ l. map f (take i xs) ++ l) (drop-map f j xs) ∙ sym (map-append f (take i xs) (drop j xs))

-- what is seen of the row of a cell that has lost values
pub row_lost : (ends : Sides) (a : Body) (before : Box) (values : List ℤ) (i j : ℕ) →
    remove_range (seen_row ends (row_of a before values)) (i * length a.states) (j * length a.states)
    ≡ seen_row ends (row_of a before (remove_range values i j))
row_lost ends a before values i j =
    map_without (seen_hull ends) (row_of a before values) (i * length a.states) (j * length a.states) ∙ ap (seen_row ends) (all_lost a before values i j)

-- the row of a cell that has some of the values alone

some_values : (a : Body) (before : Box) (values : List ℤ) (i j : ℕ) →
    slice_range (row_of a before values) (i * length a.states) (j * length a.states) ≡ row_of a before (slice_range values i j)
unfolding row_of hulls_at
some_values a before values i j =
    parts_slice (hulls_at a before) (length a.states) (λ v. length-map-range_with_len (hull_at a before v) 0 (length a.states)) values i j

pub row_slice : (ends : Sides) (a : Body) (before : Box) (values : List ℤ) (i j : ℕ) →
    slice_range (seen_row ends (row_of a before values)) (i * length a.states) (j * length a.states)
    ≡ seen_row ends (row_of a before (slice_range values i j))
row_slice ends a before values i j =
    let whole = row_of a before values in let m = i * length a.states in let n = j * length a.states in
    ap (take (n - m)) (drop-map (seen_hull ends) m whole) ∙ take-map (seen_hull ends) (n - m) (drop m whole)
    ∙ ap (seen_row ends) (some_values a before values i j)

-- ranges of places

front_places : (p k f : ℕ) → take f (range_with_len p k) ≡ range_with_len p (min f k)
front_places p k zero = let none : 0 ≡ min 0 k = omega arith in ap (range_with_len p) none
front_places p zero (suc f) = let none : 0 ≡ min (suc f) 0 = omega arith in ap (range_with_len p) none
front_places p (suc k) (suc f) =
    let more : suc (min f k) ≡ min (suc f) (suc k) = omega arith in
    ap (λ l. p ∷ l) (front_places (p + 1) k f) ∙ ap (range_with_len p) more

rest_places : (p k t : ℕ) → drop t (range_with_len p k) ≡ range_with_len (p + t) (k - t)
rest_places p k zero =
    let here : p ≡ p + 0 = omega arith in let all : k ≡ k - 0 = omega arith in ap (λ q. range_with_len q k) here ∙ ap (range_with_len (p + 0)) all
rest_places p zero (suc t) = let none : 0 ≡ 0 - suc t = omega arith in ap (range_with_len (p + suc t)) none
rest_places p (suc k) (suc t) =
    let here : p + 1 + t ≡ p + suc t = omega arith in let left : k - t ≡ suc k - suc t = omega arith in
    rest_places (p + 1) k t ∙ ap (λ q. range_with_len q (k - t)) here ∙ ap (range_with_len (p + suc t)) left

two_ranges : (p m r : ℕ) → range_with_len p (m + r) ≡ range_with_len p m ++ range_with_len (p + m) r
two_ranges p zero r =
    let none : 0 + r ≡ r = omega arith in let here : p ≡ p + 0 = omega arith in ap (range_with_len p) none ∙ ap (λ q. range_with_len q r) here
two_ranges p (suc m) r =
    let more : suc m + r ≡ suc (m + r) = omega arith in let here : p + 1 + m ≡ p + suc m = omega arith in
    ap (range_with_len p) more ∙ ap (λ l. p ∷ l) (two_ranges (p + 1) m r) ∙ ap (λ q. p ∷ (range_with_len (p + 1) m ++ range_with_len q r)) here

-- the hulls at some places of a packed row, one place after the other
abbrev at_places : (n s : ℕ) → List (List (PackedHull n)) → List ℕ → List Hull
at_places n s row places = flat_map (λ i. map (λ q. hull_in n row q i) (range_with_len 0 s)) places

same_states : (f g : ℕ → Hull) (p s m : ℕ) → p + s ≤ m → ((q : ℕ) → q < m → f q ≡ g q) → map f (range_with_len p s) ≡ map g (range_with_len p s)
same_states f g p zero m le h = refl
same_states f g p (suc s) m le h =
    ap (λ x. x ∷ map f (range_with_len (p + 1) s)) (h p (omega (arith, le)))
    ∙ ap (λ l. g p ∷ l) (same_states f g (p + 1) s m (omega (arith, le)) h)

moved_places : (n s : ℕ) (old new : List (List (PackedHull n))) (a b m : ℕ) →
    ((q i : ℕ) → q < s → i < m → hull_in n new q (a + i) ≡ hull_in n old q (b + i)) →
    at_places n s new (range_with_len a m) ≡ at_places n s old (range_with_len b m)
moved_places n s old new a b zero h = refl
moved_places n s old new a b (suc m) h =
    ap (λ l. l ++ at_places n s new (range_with_len (a + 1) m))
    (same_states (λ q. hull_in n new q a) (λ q. hull_in n old q b) 0 s s (omega arith)
    (λ q lt. ap (hull_in n new q) (first a) ∙ h q 0 lt (omega arith) ∙ sym (ap (hull_in n old q) (first b))))
    ∙ ap (λ l. map (λ q. hull_in n old q b) (range_with_len 0 s) ++ l)
    (moved_places n s old new (a + 1) (b + 1) m
    (λ q i lt less. ap (hull_in n new q) (next a i) ∙ h q (suc i) lt (omega (arith, less)) ∙ sym (ap (hull_in n old q) (next b i))))
  where
    first : (p : ℕ) → p ≡ p + 0
    first p = omega arith

    next : (p i : ℕ) → p + 1 + i ≡ p + suc i
    next p i = omega arith

-- a list without some places

module _ {X : Type 0} (xs : List X) (k f t : ℕ) (long : length xs ≡ k) where
  count_without : length (remove_range xs f t) ≡ min f k + (k - t)
  count_without =
      let both = length-append (take f xs) (drop t xs) in let front = length-take f xs in let rest = length-drop t xs in
      omega (arith, both, front, rest, long)

  front_without : (i : ℕ) (d : X) → i < min f k → get_or (remove_range xs f t) i d ≡ get_or xs i d
  front_without i d lt =
      let front = length-take f xs in
      get_or_append_left (take f xs) (drop t xs) d i (omega (arith, front, lt, long)) ∙ get_or-take f xs i d (omega (arith, lt))

  rest_without : (i : ℕ) (d : X) → get_or (remove_range xs f t) (min f k + i) d ≡ get_or xs (t + i) d
  rest_without i d =
      let front = length-take f xs in let count : min f k ≡ length (take f xs) = omega (arith, front, long) in
      ap (λ m. get_or (remove_range xs f t) (m + i) d) count ∙ get_or-append-add (take f xs) (drop t xs) i d ∙ get_or-drop t xs i d

-- a packed row without some places

column_without : {X : Type 0} (f t : ℕ) (columns : List (List X)) (q : ℕ) →
    get_or (columns_without f t columns) q [] ≡ remove_range (get_or columns q []) f t
column_without {X} f t columns q =
    let none : remove_range {X = X} [] f t ≡ [] = ap (λ l. l ++ drop {A = X} t []) (take-nil f) ∙ drop-nil t in
    ap (λ d. get_or (columns_without f t columns) q d) (sym none) ∙ get_or-map (λ column. remove_range column f t) columns q []

module _ (n s f t k : ℕ) (old : List (List (PackedHull n))) (h : IsRow n s k old) where
  abbrev new : List (List (PackedHull n))
  new = columns_without f t old

  packed_column : (q : ℕ) → q < s → IsColumn n (min f k + (k - t)) (get_or new q [])
  packed_column q lt =
      let column = get_or old q [] in let c = h.columns q lt in
      subst (IsColumn n (min f k + (k - t))) (sym (column_without f t old q)) (
        count_without column k f t c.0,
        λ i less. packed_at i less column c (split i (min f k)),
      )
    where
      split : (i m : ℕ) → (i < m) ⊎ (m ≤ i)
      split i m = grind arith

      packed_at : (i : ℕ) → i < min f k + (k - t) → (column : List (PackedHull n)) → IsColumn n k column → (i < min f k) ⊎ (min f k ≤ i) →
          IsPacked (lane_count n) (lanes_of n (get_or (remove_range column f t) i (nothing n)))
      packed_at i less column c (inl lt) =
          subst (λ x. IsPacked (lane_count n) (lanes_of n x)) (sym (front_without column k f t c.0 i (nothing n) lt)) (c.1 i (omega (arith, lt)))
      packed_at i less column c (inr le) =
          let j = i - min f k in let sum : min f k + j ≡ i = omega (arith, le) in
          subst (λ x. IsPacked (lane_count n) (lanes_of n x))
          (sym (ap (λ z. get_or (remove_range column f t) z (nothing n)) (sym sum) ∙ rest_without column k f t c.0 j (nothing n)))
          (c.1 (t + j) (omega (arith, less, le)))

  row_left : IsRow n s (min f k + (k - t)) new
  row_left = record { len = length-map old (λ column. remove_range column f t) ∙ h.len; columns = packed_column }

  front_hull : (q i : ℕ) → q < s → i < min f k → hull_in n new q (0 + i) ≡ hull_in n old q (0 + i)
  front_hull q i lt less =
      let here : 0 + i ≡ i = omega arith in
      ap (hull_in n new q) here ∙ ap (λ column. unpacked (lanes_of n (get_or column i (nothing n)))) (column_without f t old q)
      ∙ ap (λ (x : PackedHull n). unpacked (lanes_of n x)) (front_without (get_or old q []) k f t (h.columns q lt).0 i (nothing n) less)
      ∙ sym (ap (hull_in n old q) here)

  rest_hull : (q i : ℕ) → q < s → i < k - t → hull_in n new q (0 + min f k + i) ≡ hull_in n old q (0 + t + i)
  rest_hull q i lt less =
      let here : 0 + min f k + i ≡ min f k + i = omega arith in let there : 0 + t + i ≡ t + i = omega arith in
      ap (hull_in n new q) here ∙ ap (λ column. unpacked (lanes_of n (get_or column (min f k + i) (nothing n)))) (column_without f t old q)
      ∙ ap (λ (x : PackedHull n). unpacked (lanes_of n x)) (rest_without (get_or old q []) k f t (h.columns q lt).0 i (nothing n))
      ∙ sym (ap (hull_in n old q) there)

  flat_left : flat_row n s (min f k + (k - t)) new ≡ remove_range (flat_row n s k old) (f * s) (t * s)
  unfolding flat_row
  flat_left =
      let at = λ (i : ℕ). map (λ q. hull_in n old q i) (range_with_len 0 s) in
      ap (at_places n s new) (two_ranges 0 (min f k) (k - t))
      ∙ flat_map-append (λ i. map (λ q. hull_in n new q i) (range_with_len 0 s)) (range_with_len 0 (min f k)) (range_with_len (0 + min f k) (k - t))
      ∙ ap (λ l. l ++ at_places n s new (range_with_len (0 + min f k) (k - t))) (moved_places n s old new 0 0 (min f k) front_hull)
      ∙ ap (λ l. at_places n s old (range_with_len 0 (min f k)) ++ l) (moved_places n s old new (0 + min f k) (0 + t) (k - t) rest_hull)
      ∙ sym (flat_map-append at (range_with_len 0 (min f k)) (range_with_len (0 + t) (k - t)))
      ∙ ap (λ l. at_places n s old (l ++ range_with_len (0 + t) (k - t))) (sym (front_places 0 k f))
      ∙ ap (λ l. at_places n s old (take f (range_with_len 0 k) ++ l)) (sym (rest_places 0 k t))
      ∙ sym (parts_without at s (λ i. length-map-range_with_len (λ q. hull_in n old q i) 0 s) (range_with_len 0 k) f t)

-- some places of a packed row alone

column_part : {X : Type 0} (f t : ℕ) (columns : List (List X)) (q : ℕ) → get_or (columns_part f t columns) q [] ≡ slice_range (get_or columns q []) f t
column_part {X} f t columns q =
    let none : slice_range {X = X} [] f t ≡ [] = ap (take (t - f)) (drop-nil f) ∙ take-nil (t - f) in
    ap (λ d. get_or (columns_part f t columns) q d) (sym none) ∙ get_or-map (λ column. slice_range column f t) columns q []

module _ (n s f t k : ℕ) (old : List (List (PackedHull n))) (h : IsRow n s k old) (order : f ≤ t) (inside : t ≤ k) where
  abbrev part : List (List (PackedHull n))
  part = columns_part f t old

  hull_shown : (q i : ℕ) → q < s → i < t - f → hull_in n part q (0 + i) ≡ hull_in n old q (f + i)
  hull_shown q i lt less = let here : 0 + i ≡ i = omega arith in ap (hull_in n part q) here ∙ hull_in_part n s k old h f t q i lt less

  flat_part : flat_row n s (t - f) part ≡ slice_range (flat_row n s k old) (f * s) (t * s)
  unfolding flat_row
  flat_part =
      let at = λ (i : ℕ). map (λ q. hull_in n old q i) (range_with_len 0 s) in
      let start : f ≡ 0 + f = omega arith in let count : t - f ≡ min (t - f) (k - f) = omega (arith, order, inside) in
      moved_places n s old part 0 f (t - f) hull_shown
      ∙ ap (λ m. at_places n s old (range_with_len f m)) count ∙ ap (λ p. at_places n s old (range_with_len p (min (t - f) (k - f)))) start
      ∙ ap (at_places n s old) (sym (front_places (0 + f) (k - f) (t - f)) ∙ ap (take (t - f)) (sym (rest_places 0 k f)))
      ∙ sym (parts_slice at s (λ i. length-map-range_with_len (λ q. hull_in n old q i) 0 s) (range_with_len 0 k) f t)

-- the row that shows some places of a packed row

part_of : (n s f t : ℕ) (old : List (List (PackedHull n))) → IsRow n s (length (get_or old 0 [])) old → f ≤ t → t ≤ length (get_or old 0 []) →
    IsRow n s (length (get_or (columns_part f t old) 0 [])) (columns_part f t old)
    × (flat_row n s (length (get_or (columns_part f t old) 0 [])) (columns_part f t old)
    ≡ slice_range (flat_row n s (length (get_or old 0 [])) old) (f * s) (t * s))
part_of n s f t old h order inside =
    let k = length (get_or old 0 []) in
    let long = ap length (column_part f t old 0) ∙ part_length f t (get_or old 0 []) inside in (
      subst (λ m. IsRow n s m (columns_part f t old)) (sym long) (part_row n s k old h f t order inside),
      ap (λ m. flat_row n s m (columns_part f t old)) long ∙ flat_part n s f t k old h order inside,
    )

pub made_part : (p : Planned) (f t : ℕ) (row : AnyRow) → HasStates p row → f ≤ t → t ≤ values_in row →
    HasStates p (row_part f t row) × (hulls_in p.states (row_part f t row) ≡ slice_range (hulls_in p.states row) (f * p.states) (t * p.states))
made_part p f t (Narrow row) h order inside =
    let l = part_of 6 p.states f t row h.is_row order inside in (record { form = h.form; is_row = l.0 }, l.1)
made_part p f t (Upper row) h order inside =
    let l = part_of 3 p.states f t row h.is_row order inside in (record { form = h.form; is_row = l.0 }, l.1)
made_part p f t (Lower row) h order inside =
    let l = part_of 4 p.states f t row h.is_row order inside in (record { form = h.form; is_row = l.0 }, l.1)
made_part p f t (Wide row) h order inside =
    let l = part_of 10 p.states f t row h.is_row order inside in (record { form = h.form; is_row = l.0 }, l.1)

count_in_column : {X : Type 0} (f t : ℕ) (old : List (List X)) → f ≤ t → t ≤ length (get_or old 0 []) →
    length (get_or (columns_without f t old) 0 []) ≡ length (get_or old 0 []) - (t - f)
count_in_column f t old order inside =
    let k = length (get_or old 0 []) in
    ap length (column_without f t old 0) ∙ (let both = count_without (get_or old 0 []) k f t refl in omega (arith, both, order, inside))

-- a packed row without some places, as a stack holds it

left_of : (n s f t : ℕ) (old : List (List (PackedHull n))) → IsRow n s (length (get_or old 0 [])) old →
    IsRow n s (length (get_or (columns_without f t old) 0 [])) (columns_without f t old)
    × (flat_row n s (length (get_or (columns_without f t old) 0 [])) (columns_without f t old)
    ≡ remove_range (flat_row n s (length (get_or old 0 [])) old) (f * s) (t * s))
left_of n s f t old h =
    let k = length (get_or old 0 []) in
    let long : length (get_or (columns_without f t old) 0 []) ≡ min f k + (k - t) =
    ap length (column_without f t old 0) ∙ count_without (get_or old 0 []) k f t refl in (
      subst (λ m. IsRow n s m (columns_without f t old)) (sym long) (row_left n s f t k old h),
      ap (λ m. flat_row n s m (columns_without f t old)) long ∙ flat_left n s f t k old h,
    )

pub made_without : (p : Planned) (f t : ℕ) (row : AnyRow) → HasStates p row → HasStates p (row_without f t row)
    × (hulls_in p.states (row_without f t row) ≡ remove_range (hulls_in p.states row) (f * p.states) (t * p.states))
made_without p f t (Narrow row) h = let l = left_of 6 p.states f t row h.is_row in (record { form = h.form; is_row = l.0 }, l.1)
made_without p f t (Upper row) h = let l = left_of 3 p.states f t row h.is_row in (record { form = h.form; is_row = l.0 }, l.1)
made_without p f t (Lower row) h = let l = left_of 4 p.states f t row h.is_row in (record { form = h.form; is_row = l.0 }, l.1)
made_without p f t (Wide row) h = let l = left_of 10 p.states f t row h.is_row in (record { form = h.form; is_row = l.0 }, l.1)

-- how many values a row has without those of some places
pub count_left : (f t : ℕ) (row : AnyRow) → f ≤ t → t ≤ values_in row → values_in (row_without f t row) ≡ values_in row - (t - f)
count_left f t (Narrow row) order inside = count_in_column f t row order inside
count_left f t (Upper row) order inside = count_in_column f t row order inside
count_left f t (Lower row) order inside = count_in_column f t row order inside
count_left f t (Wide row) order inside = count_in_column f t row order inside
