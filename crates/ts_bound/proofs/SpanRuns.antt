-- What the loops over the values of a cell and over the states of a value keep, where spans are read off rows.
use Rattle.std.proofs.Common.{◌≡◌, true, ℕ, zero, suc, ◌+◌, ◌*◌, ◌-◌, ◌<◌, ◌≤◌, ℤ, List, [], ◌∷◌, ◌++◌, length, map, take, drop, get_or, slice_get, refl, sym, ap, ◌∙◌, subst, arith}
use Rattle.std.specs.Prelude.{IsSome, fold, flat_map, reverse, slice_range, Option, None, Some, IfSome}
use Rattle.std.specs.List.{range_with_len}
use Rattle.std.proofs.lemmas.List.{append-nil, append_assoc, get_or_default, length-append, reverse-append, map_push}
use Rattle.std.proofs.lemmas.List.Sums.{fold-append}
use Rattle.std.proofs.lemmas.List.FromFn.{length-map-range_with_len}
use Rattle.std.proofs.Math.Seq.{take-append_seam, drop-append-add}
use Rattle.ts_base.specs.declared.span.Span.{Span}
use Rattle.ts_base.specs.Spans.{none_span, span_hull}
use Rattle.ts_automaton.specs.declared.regs.Hull.{Hull}
use Rattle.ts_automaton.specs.Registers.{spans_of}
use Rattle.ts_automaton.specs.Body.{Body}
use Rattle.ts_automaton.specs.AutomatonRun.{Standing}
use Rattle.ts_automaton.specs.SpanRun.{finish_span_of}
use Rattle.ts_glue.specs.Pairs.{Pair}
use Rattle.ts_glue.specs.Glued.{glued_span}
use Rattle.ts_hull.specs.Hulls.{none}
use Rattle.ts_meet.specs.Meets.{hull_of_spans}
use Rattle.ts_bound.specs.HullTables.{hull_at, hulls_at, row_of, cells_before, cells_after, rows_behind, forward_rows, backward_rows, forward_table, backward_table}
use Rattle.ts_bound.specs.Blocks.{standing_of, glued_by, finishes, glued_with, glued_all, OfReverse, AreBackRows, back_hulls, back_states}
use Rattle.ts_bound.proofs.TableLaws.{length-forward, length-backward}
use Rattle.ts_bound.specs.Rows.{IsRow, row_at, windowed}
use Rattle.ts_bound.specs.Looks.{is_looked, count_looked, place_in}
use Rattle.ts_bound.proofs.Looking.{looked_length, looked_get, place_bounds, windowed_at, windowed_length}
use Rattle.ts_base.specs.declared.range.Range.{Range}
use Rattle.ts_base.specs.Windows.{LooksInside, looked_at}
use Rattle.ts_domain.specs.Boxes.{values_at}

-- the loops over states

range_more : (m q : ℕ) → q ≡ m → range_with_len 0 (m + 1) ≡ range_with_len 0 m ++ q ∷ []
range_more m q e = go 0 m q (let f : 0 + m ≡ q = omega (arith, e) in f)
  where
    go : (a m q : ℕ) → a + m ≡ q → range_with_len a (m + 1) ≡ range_with_len a m ++ q ∷ []
    go a zero q e = let f : a ≡ q = omega (arith, e) in ap (λ k. k ∷ []) f
    go a (suc m) q e =
        let on : suc m + 1 ≡ suc (m + 1) = omega arith in
        ap (range_with_len a) on ∙ ap (λ l. a ∷ l) (go (a + 1) m q (omega (arith, e)))

flat_push : {A B : Type 0} (f : A → List B) (xs : List A) (x : A) → flat_map f (xs ++ x ∷ []) ≡ flat_map f xs ++ f x
flat_push f [] x = append-nil (f x)
flat_push f (y ∷ xs) x = ap (λ l. f y ++ l) (flat_push f xs x) ∙ sym (append_assoc (f y) (flat_map f xs) (f x))

pub finish_begun : (b : Body) (hulls : List Hull) (n : ℕ) (span : Span) → span ≡ none_span → span ≡ hull_of_spans (finishes b hulls n 0)
unfolding finishes
finish_begun b hulls n span e = e

pub with_begun : (p : Option Pair) (left : Standing Span) (right : List Hull) (x : ℤ) (n : ℕ) (before : Span) →
    before ≡ fold span_hull before (glued_with p left right x n 0)
unfolding glued_with
with_begun p left right x n before = refl

pub all_begun : (p : Option Pair) (left right : List Hull) (x : ℤ) (n m : ℕ) (span : Span) → span ≡ none_span →
    span ≡ hull_of_spans (glued_all p left right x n m 0)
unfolding glued_all
all_begun p left right x n m span e = e

pub finish_more : (b : Body) (hulls : List Hull) (n q : ℕ) (h d : Hull) (span one : Span) → q < length hulls → h ≡ get_or hulls q d →
    one ≡ finish_span_of b (record { state = q; regs = spans_of h }) n → span ≡ hull_of_spans (finishes b hulls n q) →
    span_hull span one ≡ hull_of_spans (finishes b hulls n (q + 1))
unfolding finishes
finish_more b hulls n q h d span one lt is_h is_one inv =
    let f : ℕ → Span = λ q. finish_span_of b (standing_of hulls q) n in
    let here : h ≡ get_or hulls q none = is_h ∙ get_or_default hulls q d none lt in
    ap (λ s. span_hull s one) inv ∙ ap (span_hull (hull_of_spans (map f (range_with_len 0 q))))
    (is_one ∙ ap (λ x. finish_span_of b (record { state = q; regs = spans_of x }) n) here)
    ∙ sym (ap hull_of_spans (ap (map f) (range_more q q refl) ∙ map_push f (range_with_len 0 q) q)
    ∙ fold-append span_hull none_span (map f (range_with_len 0 q)) (f q ∷ []))

pub split_some : (p : Option Pair) (P : Body → Type 0) → OfReverse p P → IsSome p
split_some None P h = absurd h
split_some (Some p) P h = refl

glued_is : (p : Option Pair) (left right : Standing Span) (x : ℤ) (n : ℕ) (s : Span) → IsSome p → IfSome p (λ p. s ≡ glued_span p left right x n) →
    s ≡ glued_by p left right x n
glued_is None left right x n s k h = cc
glued_is (Some p) left right x n s k h = h

pub with_more : (p : Option Pair) (left : Standing Span) (right : List Hull) (x x' : ℤ) (n q : ℕ) (h d : Hull) (before span one : Span) → IsSome p →
    x' ≡ x → q < length right →
    h ≡ get_or right q d → IfSome p (λ p. one ≡ glued_span p left (record { state = q; regs = spans_of h }) x' n) →
    span ≡ fold span_hull before (glued_with p left right x n q) → span_hull span one ≡ fold span_hull before (glued_with p left right x n (q + 1))
unfolding glued_with
with_more p left right x x' n q h d before span one k is_x lt is_h is_one inv =
    let f : ℕ → Span = λ r. glued_by p left (standing_of right r) x n in
    let here : h ≡ get_or right q none = is_h ∙ get_or_default right q d none lt in
    let o : one ≡ f q =
    glued_is p left (record { state = q; regs = spans_of h }) x' n one k is_one ∙ ap (λ y. glued_by p left (record { state = q; regs = spans_of h }) y n) is_x
    ∙ ap (λ z. glued_by p left (record { state = q; regs = spans_of z }) x n) here in
    ap (λ s. span_hull s one) inv ∙ ap (span_hull (fold span_hull before (map f (range_with_len 0 q)))) o
    ∙ sym (ap (fold span_hull before) (ap (map f) (range_more q q refl) ∙ map_push f (range_with_len 0 q) q)
    ∙ fold-append span_hull before (map f (range_with_len 0 q)) (f q ∷ []))

pub all_more : (p : Option Pair) (left right : List Hull) (x x' : ℤ) (n m q : ℕ) (h d : Hull) (span span' : Span) → x' ≡ x → q < length left →
    h ≡ get_or left q d →
    span' ≡ fold span_hull span (glued_with p (record { state = q; regs = spans_of h }) right x' n m) → span ≡ hull_of_spans (glued_all p left right x n m q) →
    span' ≡ hull_of_spans (glued_all p left right x n m (q + 1))
unfolding glued_all
all_more p left right x x' n m q h d span span' is_x lt is_h step inv =
    let f : ℕ → List Span = λ q. glued_with p (standing_of left q) right x n m in
    let here : h ≡ get_or left q none = is_h ∙ get_or_default left q d none lt in
    step ∙ ap (λ y. fold span_hull span (glued_with p (record { state = q; regs = spans_of h }) right y n m)) is_x
    ∙ ap (λ z. fold span_hull span (glued_with p (record { state = q; regs = spans_of z }) right x n m)) here
    ∙ ap (λ s. fold span_hull s (f q)) inv
    ∙ sym (ap hull_of_spans (ap (flat_map f) (range_more q q refl) ∙ flat_push f (range_with_len 0 q) q)
    ∙ fold-append span_hull none_span (flat_map f (range_with_len 0 q)) (f q))

-- the hulls of one value of a row

pub none_some : {X : Type 0} (v : X) → None ≡ Some v → ⊥
none_some v e = cc

pub same_some : {X : Type 0} (x v : X) → Some x ≡ Some v → x ≡ v
same_some x v e = cc

pub block_fits : (n m : ℕ) (f : ℤ → List Hull) → ((v : ℤ) → length (f v) ≡ n) → (vs : List ℤ) (i : ℕ) (v : ℤ) (row : List Hull) → m ≡ n →
    slice_get vs i ≡ Some v → row ≡ flat_map f vs → i * m + m ≤ length row
block_fits n m f size [] i v row is_m at is = absurd (none_some v at)
block_fits n m f size (x ∷ vs) zero v row is_m at is =
    let e = ap length is in let a = length-append (f x) (flat_map f vs) in let s = size x in omega (arith, is_m, e, a, s)
block_fits n m f size (x ∷ vs) (suc i) v row is_m at is =
    let e = ap length is in let a = length-append (f x) (flat_map f vs) in let s = size x in
    let rest = block_fits n m f size vs i v (flat_map f vs) is_m at refl in
    let w : suc i * m ≡ m + i * m = omega arith in omega (arith, is_m, e, a, s, rest, w)

block_at : (n : ℕ) (f : ℤ → List Hull) → ((v : ℤ) → length (f v) ≡ n) → (vs : List ℤ) (i : ℕ) (v : ℤ) → slice_get vs i ≡ Some v →
    take n (drop (i * n) (flat_map f vs)) ≡ f v
block_at n f size [] i v at = absurd (none_some v at)
block_at n f size (x ∷ vs) zero v at =
    let s = size x in let z : 0 * n ≡ 0 = omega arith in let w : n ≡ length (f x) = omega (arith, s) in
    ap (λ k. take n (drop k (f x ++ flat_map f vs))) z ∙ ap (λ k. take k (f x ++ flat_map f vs)) w ∙ take-append_seam (f x) (flat_map f vs)
    ∙ ap f (same_some x v at)
block_at n f size (x ∷ vs) (suc i) v at =
    let s = size x in let w : suc i * n ≡ length (f x) + i * n = (let z : suc i * n ≡ n + i * n = omega arith in omega (arith, s, z)) in
    ap (λ k. take n (drop k (f x ++ flat_map f vs))) w ∙ ap (take n) (drop-append-add (f x) (flat_map f vs) (i * n)) ∙ block_at n f size vs i v at

pub block_is : (n m : ℕ) (f : ℤ → List Hull) → ((v : ℤ) → length (f v) ≡ n) → (vs : List ℤ) (i : ℕ) (v : ℤ) (row hs : List Hull) → m ≡ n →
    slice_get vs i ≡ Some v → row ≡ flat_map f vs → hs ≡ slice_range row (i * m) (i * m + m) → hs ≡ f v
block_is n m f size vs i v row hs is_m at is is_hs =
    let w : i * m + m - i * m ≡ m = omega arith in
    is_hs ∙ ap (λ k. take k (drop (i * m) row)) w ∙ ap (λ k. take k (drop (i * k) row)) is_m ∙ ap (λ r. take n (drop (i * n) r)) is
    ∙ block_at n f size vs i v at

pub length-hulls_at : (b : Body) (before : List (List ℤ)) (v : ℤ) → length (hulls_at b before v) ≡ length b.states
unfolding hulls_at
length-hulls_at b before v = length-map-range_with_len (hull_at b before v) 0 (length b.states)

pub back_length : (o : Option Pair) (behind : List (List ℤ)) (v : ℤ) → length (back_hulls o behind v) ≡ back_states o
back_length None behind v = refl
back_length (Some p) behind v = length-hulls_at p.reverse behind v

-- the row of a cell, in the table

pub forward_row : (b : Body) (before cells : List (List ℤ)) (i : ℕ) → i < length cells →
    get_or (rows_behind b before cells) i [] ≡ row_of b (reverse (take i cells) ++ before) (get_or cells i [])
unfolding rows_behind
forward_row b before [] i h = absurd (omega (arith, h))
forward_row b before (c ∷ cells) zero h = refl
forward_row b before (c ∷ cells) (suc i) h =
    forward_row b (c ∷ before) cells i (omega (arith, h))
    ∙ ap (λ z. row_of b z (get_or cells i [])) (sym (append_assoc (reverse (take i cells)) (c ∷ []) before)
    ∙ ap (λ z. z ++ before) (sym (reverse-append (c ∷ []) (take i cells))))

pub backward_row : (b : Body) (cells : List (List ℤ)) (i : ℕ) → i < length cells → get_or (backward_rows b cells) i [] ≡ row_of b (drop (suc i) cells)
    (get_or cells i [])
unfolding backward_rows
backward_row b [] i h = absurd (omega (arith, h))
backward_row b (c ∷ cells) zero h = refl
backward_row b (c ∷ cells) (suc i) h = backward_row b cells i (omega (arith, h))

ahead_inner : (b : Body) (cells : List (List ℤ)) (k : ℕ) → 1 ≤ k → k ≤ length cells →
    row_at k (forward_rows b cells) ≡ flat_map (hulls_at b (cells_before k cells)) (values_at k cells)
unfolding row_of
ahead_inner b cells k some to =
    forward_row b [] cells (k - 1) (omega (arith, some, to)) ∙ ap (λ z. row_of b z (values_at k cells)) (append-nil (cells_before k cells))

back_inner : (b : Body) (cells : List (List ℤ)) (k : ℕ) → 1 ≤ k → k ≤ length cells →
    row_at k (backward_rows b cells) ≡ flat_map (hulls_at b (cells_after k cells)) (values_at k cells)
unfolding row_of
back_inner b cells k some to =
    let back : suc (k - 1) ≡ k = omega (arith, some) in
    backward_row b cells (k - 1) (omega (arith, some, to)) ∙ ap (λ j. row_of b (drop j cells) (values_at k cells)) back

-- a cell that is looked at has its row where the window puts it
module _ (w : Option Range) (cells : List (List ℤ)) (looks : LooksInside (length cells) w) (k : ℕ) (some : 1 ≤ k) (to : k ≤ length cells) where
  abbrev pub inner : List (List ℤ)
  inner = looked_at w cells

  bounds : (1 ≤ place_in w k) × (place_in w k ≤ length inner)
  bounds =
      let b = place_bounds w (length cells) k looks some to in
      (b.0, subst (λ n. place_in w k ≤ n) (sym (looked_length w cells looks)) b.1)

  read_row : (rows : List (List Hull)) (f : ℤ → List Hull) (t : List (List Hull)) (row : List Hull) (left : List ℤ) → length rows ≡ length inner →
      row_at (place_in w k) rows ≡ flat_map f (values_at (place_in w k) inner) → is_looked w k ≡ true → t ≡ windowed w (length cells) rows →
      row ≡ get_or t (k - 1) [] → left ≡ get_or cells (k - 1) [] → row ≡ flat_map f left
  read_row rows f t row left long is there is_t is_row is_left =
      is_row ∙ ap (row_at k) is_t ∙ windowed_at (length cells) rows k w looks (long ∙ looked_length w cells looks) there ∙ is
      ∙ ap (flat_map f) (looked_get cells k w [] looks there ∙ sym is_left)

  pub ahead_begun : (b : Body) (t : List (List Hull)) (row : List Hull) (left : List ℤ) → is_looked w k ≡ true → t ≡ forward_table b w cells →
      row ≡ get_or t (k - 1) [] → left ≡ get_or cells (k - 1) [] → row ≡ flat_map (hulls_at b (cells_before (place_in w k) inner)) left
  ahead_begun b t row left there is_t is_row is_left =
      read_row (forward_rows b inner) (hulls_at b (cells_before (place_in w k) inner)) t row left (length-forward b [] inner)
      (ahead_inner b inner (place_in w k) bounds.0 bounds.1) there is_t is_row is_left

  pub behind_begun : (b : Body) (t : List (List Hull)) (row : List Hull) (left : List ℤ) → is_looked w k ≡ true → t ≡ backward_table b w cells →
      row ≡ get_or t (k - 1) [] → left ≡ get_or cells (k - 1) [] → row ≡ flat_map (hulls_at b (cells_after (place_in w k) inner)) left
  behind_begun b t row left there is_t is_row is_left =
      read_row (backward_rows b inner) (hulls_at b (cells_after (place_in w k) inner)) t row left (length-backward b inner)
      (back_inner b inner (place_in w k) bounds.0 bounds.1) there is_t is_row is_left

  back_begun : (p : Option Pair) (t : List (List Hull)) (row : List Hull) (left : List ℤ) → is_looked w k ≡ true → AreBackRows p w cells t →
      row ≡ get_or t (k - 1) [] → left ≡ get_or cells (k - 1) [] → row ≡ flat_map (back_hulls p (cells_after (place_in w k) inner)) left
  back_begun None t row left there is_t is_row is_left = absurd is_t
  back_begun (Some p) t row left there is_t is_row is_left = behind_begun p.reverse t row left there is_t is_row is_left

  -- the hulls of the value v at place i of the cell
  module _ (i : ℕ) (v : ℤ) (at : slice_get (get_or cells (k - 1) []) i ≡ Some v) (m : ℕ) (row : List Hull) (there : is_looked w k ≡ true) where
    module _ (b : Body) (t : List (List Hull)) (is_m : m ≡ length b.states) (is_t : t ≡ forward_table b w cells) (is_row : row ≡ get_or t (k - 1) []) where
      pub ahead_fits : i * m + m ≤ length row
      ahead_fits =
          block_fits (length b.states) m (hulls_at b (cells_before (place_in w k) inner)) (length-hulls_at b (cells_before (place_in w k) inner))
          (get_or cells (k - 1) []) i v row is_m at (ahead_begun b t row (get_or cells (k - 1) []) there is_t is_row refl)

      pub ahead_block : (hs : List Hull) → hs ≡ slice_range row (i * m) (i * m + m) → hs ≡ hulls_at b (cells_before (place_in w k) inner) v
      ahead_block hs is =
          block_is (length b.states) m (hulls_at b (cells_before (place_in w k) inner)) (length-hulls_at b (cells_before (place_in w k) inner))
          (get_or cells (k - 1) []) i v row hs is_m at (ahead_begun b t row (get_or cells (k - 1) []) there is_t is_row refl) is

    module _ (p : Option Pair) (t : List (List Hull)) (is_m : m ≡ back_states p) (is_t : AreBackRows p w cells t) (is_row : row ≡ get_or t (k - 1) []) where
      pub back_fits : i * m + m ≤ length row
      back_fits =
          block_fits (back_states p) m (back_hulls p (cells_after (place_in w k) inner)) (back_length p (cells_after (place_in w k) inner))
          (get_or cells (k - 1) []) i v row is_m at (back_begun p t row (get_or cells (k - 1) []) there is_t is_row refl)

      pub back_block : (hs : List Hull) → hs ≡ slice_range row (i * m) (i * m + m) → hs ≡ back_hulls p (cells_after (place_in w k) inner) v
      back_block hs is =
          block_is (back_states p) m (back_hulls p (cells_after (place_in w k) inner)) (back_length p (cells_after (place_in w k) inner))
          (get_or cells (k - 1) []) i v row hs is_m at (back_begun p t row (get_or cells (k - 1) []) there is_t is_row refl) is

  row_of_all : (rows t : List (List Hull)) → length rows ≡ length inner → t ≡ windowed w (length cells) rows → IsRow k t
  row_of_all rows t long is =
      let l = ap length is ∙ windowed_length (length cells) rows w looks (long ∙ looked_length w cells looks) in (some, omega (arith, l, to))

  pub row_there : (b : Body) (t : List (List Hull)) → t ≡ forward_table b w cells → IsRow k t
  row_there b t is = row_of_all (forward_rows b inner) t (length-forward b [] inner) is

  pub back_row_there : (p : Option Pair) (t : List (List Hull)) → AreBackRows p w cells t → IsRow k t
  back_row_there None t is = absurd is
  back_row_there (Some p) t is = row_of_all (backward_rows p.reverse inner) t (length-backward p.reverse inner) is

  -- the number that a mark takes
  pub count_is : (n total : ℕ) → total ≡ length cells → n ≡ count_looked w total → n ≡ length inner
  count_is n total is_total is = is ∙ ap (count_looked w) is_total ∙ sym (looked_length w cells looks)
