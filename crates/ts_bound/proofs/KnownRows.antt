-- Rows that are known of a box: one more of them, what a change leaves of them, and which hulls they have.
use Rattle.std.proofs.Common.{◌≡◌, ℕ, min, zero, suc, ◌+◌, ◌*◌, ◌-◌, ◌<◌, ◌≤◌, ℤ, List, [], ◌∷◌, ◌++◌, length, map, take, drop, reverse, get_or, Option, Some, None, refl, sym, ap, ◌∙◌, arith}
use Rattle.std.proofs.lemmas.List.{append-nil, take_more, take-map, take_at, drop_at, length-append, length-map, length-take, length-drop, take_min, take-take, take-append-drop, reverse-append, length-reverse, reverse-reverse, get_or-take, get_or-reverse, get_or_default}
use Rattle.std.proofs.Math.ListN.{get_or-map}
use Rattle.ts_automaton.specs.declared.regs.Hull.{Hull}
use Rattle.ts_automaton.specs.Body.{Body}
use Rattle.ts_domain.specs.Boxes.{Box, values_at}
use Rattle.ts_bound.specs.Blocks.{OfReverse}
use Rattle.ts_bound.specs.HullTables.{row_of, rows_behind, forward_rows, cells_before, cells_after}
use Rattle.ts_bound.specs.NextRow.{next_row}
use Rattle.ts_bound.specs.PackedRows.{seen_row}
use Rattle.ts_bound.proofs.SeenRows.{row_seen}
use Rattle.ts_bound.proofs.SpanRuns.{forward_row}
use Rattle.ts_bound.proofs.TableLaws.{length-forward, length-row_of, row_on}
use Rattle.ts_sweep.specs.Sides.{Sides}
use Rattle.ts_glue.specs.Pairs.{Pair}
use Rattle.ts_bound.specs.declared.reading.Direction.{Direction}
use Rattle.ts_bound.specs.declared.reading.Direction.TheVariants.{FromFirst, FromLast}
use Rattle.ts_bound.specs.BoxRows.{AreFirst, AreBehind}
use Rattle.ts_bound.specs.Reading.{in_order}
use Rattle.ts_bound.specs.RowStacks.{IsSound, Rows, Sight, next_seen, rows_seen, sight}

-- lists from their ends

pub reverse_take : {X : Type 0} (m : ℕ) (xs : List X) → reverse (take m xs) ≡ drop (length xs - m) (reverse xs)
reverse_take m xs =
    sym (ap (λ l. drop (length xs - m) (reverse l)) (sym (take-append-drop m xs)) ∙ ap (drop (length xs - m)) (reverse-append (take m xs) (drop m xs))
    ∙ drop_at (reverse (drop m xs)) (reverse (take m xs)) (length xs - m) (length-reverse (drop m xs) ∙ length-drop m xs))

pub reverse_drop : {X : Type 0} (d : ℕ) (xs : List X) → reverse (drop d xs) ≡ take (length xs - d) (reverse xs)
reverse_drop d xs =
    sym (ap (λ l. take (length xs - d) (reverse l)) (sym (take-append-drop d xs)) ∙ ap (take (length xs - d)) (reverse-append (take d xs) (drop d xs))
    ∙ take_at (reverse (drop d xs)) (reverse (take d xs)) (length xs - d) (length-reverse (drop d xs) ∙ length-drop d xs))

pub order_long : (w : Direction) (b : Box) → length (in_order w b) ≡ length b
order_long FromFirst b = refl
order_long FromLast b = length-reverse b

-- the rows of an automaton

rows_of_front : (b : Body) (before cells : Box) (k : ℕ) → rows_behind b before (take k cells) ≡ take k (rows_behind b before cells)
unfolding rows_behind
rows_of_front b before cells zero = refl
rows_of_front b before [] (suc k) = refl
rows_of_front b before (vs ∷ cells) (suc k) = ap (λ l. row_of b before vs ∷ l) (rows_of_front b (vs ∷ before) cells k)

-- what is seen of the rows of an automaton

seen_of_front : (a : Sight) (cells : Box) (k : ℕ) → rows_seen a (take k cells) ≡ take k (rows_seen a cells)
seen_of_front a cells k =
    ap (map (seen_row a.ends)) (rows_of_front a.body [] cells k) ∙ sym (take-map (seen_row a.ends) k (forward_rows a.body cells))

seen_long : (a : Sight) (cells : Box) → length (rows_seen a cells) ≡ length cells
seen_long a cells = length-map (forward_rows a.body cells) (seen_row a.ends) ∙ length-forward a.body [] cells

seen_at : (a : Sight) (cells : Box) (i : ℕ) → get_or (rows_seen a cells) i [] ≡ seen_row a.ends (get_or (forward_rows a.body cells) i [])
seen_at a cells i = get_or-map (seen_row a.ends) (forward_rows a.body cells) i []

-- what is seen of each row is made of what is seen of the one before
pub row_on_seen : (a : Sight) → IsSound a → (cells : Box) (i : ℕ) → i + 1 < length cells →
    get_or (rows_seen a cells) (i + 1) [] ≡ next_seen a (get_or cells i []) (get_or (rows_seen a cells) i []) (get_or cells (i + 1) [])
row_on_seen a sound cells i lt =
    let b = a.body in let us = get_or cells i [] in let row = get_or (forward_rows b cells) i [] in let vs = get_or cells (i + 1) [] in
    let on : i + 1 ≡ suc i = omega arith in
    let is = forward_row b [] cells i (omega (arith, lt)) in
    let long : length row ≡ length us * length b.states = ap length is ∙ length-row_of b (reverse (take i cells) ++ []) us in
    seen_at a cells (i + 1)
    ∙ ap (seen_row a.ends)
    (ap (λ j. get_or (forward_rows b cells) j []) on ∙ row_on b [] cells i (omega (arith, lt)) ∙ ap (λ j. next_row b us row (get_or cells j [])) (sym on))
    ∙ sym (row_seen a.ends b sound.rules sound.alone us row vs long) ∙ ap (λ r. next_seen a us r vs) (sym (seen_at a cells i))

-- there are no more known rows than cells
pub few_known : (a : Sight) (cells : Box) (rows : Rows) → AreFirst a cells rows → length rows ≤ length cells
few_known a cells rows h =
    let l = ap length h ∙ length-take (length rows) (rows_seen a cells) in let f = seen_long a cells in omega (arith, l, f)

-- one more row is known
pub one_more : (a : Sight) (cells : Box) (rows : Rows) (row : List Hull) → AreFirst a cells rows → length rows < length cells →
    row ≡ get_or (rows_seen a cells) (length rows) [] → AreFirst a cells (rows ++ row ∷ [])
one_more a cells rows row h lt is =
    let all = rows_seen a cells in
    let l = length-append rows (row ∷ []) in let f = seen_long a cells in
    let more : length (rows ++ row ∷ []) ≡ length rows + 1 = omega (arith, l) in
    ap (λ r. r ++ row ∷ []) h ∙ ap (λ w. take (length rows) all ++ w ∷ []) is ∙ sym (take_more all (length rows) [] (omega (arith, lt, f)))
    ∙ ap (λ m. take m all) (sym more)

-- the row at a place
pub known_at : (a : Sight) (cells : Box) (rows : Rows) (i : ℕ) → AreFirst a cells rows → i < length rows →
    get_or rows i [] ≡ get_or (rows_seen a cells) i []
known_at a cells rows i h lt = ap (λ l. get_or l i []) h ∙ get_or-take (length rows) (rows_seen a cells) i [] lt

pub row_at_place : (a : Sight) (cells : Box) (i : ℕ) → i < length cells →
    get_or (rows_seen a cells) i [] ≡ seen_row a.ends (row_of a.body (reverse (take i cells)) (get_or cells i []))
row_at_place a cells i lt =
    seen_at a cells i ∙ ap (seen_row a.ends)
    (forward_row a.body [] cells i lt ∙ ap (λ z. row_of a.body z (get_or cells i [])) (append-nil (reverse (take i cells))))

-- what a change leaves

pub stay_first : (a : Sight) (cells later : Box) (k : ℕ) (old left : Rows) → left ≡ take k old → take k later ≡ take k cells → AreFirst a cells old →
    AreFirst a later left
stay_first a cells later k old left is same h =
    let n = length left in
    let count : n ≡ min k (length old) = ap length is ∙ length-take k old in
    let short : n ≤ k = omega (arith, count) in let few : n ≤ length old = omega (arith, count) in
    let all = rows_seen a cells in
    let fronts : take n later ≡ take n cells = sym (take-take n k later short) ∙ ap (take n) same ∙ take-take n k cells short in
    let rows : take n all ≡ take n (rows_seen a later) = sym (seen_of_front a cells n) ∙ ap (rows_seen a) (sym fronts) ∙ seen_of_front a later n in
    is ∙ sym (take_min k old) ∙ ap (λ m. take m old) (sym count) ∙ ap (take n) h ∙ take-take n (length old) all few ∙ rows

pub turned_front : (n last : ℕ) (b later : Box) → length b ≡ n → length later ≡ n → drop last later ≡ drop last b →
    take (n - last) (reverse later) ≡ take (n - last) (reverse b)
turned_front n last b later e f same =
    ap (λ m. take (m - last) (reverse later)) (sym f) ∙ sym (reverse_drop last later) ∙ ap reverse same ∙ reverse_drop last b
    ∙ ap (λ m. take (m - last) (reverse b)) e

-- the row that comes after

pub first_behind : (a : Sight) (cells : Box) (rows : Rows) (row : List Hull) (values : List ℤ) → length rows ≡ 0 → length rows < length cells →
    values ≡ get_or cells (length rows) [] → row ≡ seen_row a.ends (row_of a.body [] values) → row ≡ get_or (rows_seen a cells) (length rows) []
first_behind a cells rows row values none lt is_values is =
    is ∙ ap (λ v. seen_row a.ends (row_of a.body [] v)) (is_values ∙ ap (λ i. get_or cells i []) none)
    ∙ sym (ap (λ i. get_or (rows_seen a cells) i []) none ∙ row_at_place a cells 0 (omega (arith, none, lt)))

pub before_is : (a : Sight) (cells : Box) (rows : Rows) (before d : List Hull) (i : ℕ) → AreFirst a cells rows → i < length rows →
    before ≡ get_or rows i d → before ≡ get_or (rows_seen a cells) i []
before_is a cells rows before d i h lt is = is ∙ get_or_default rows i d [] lt ∙ known_at a cells rows i h lt

-- the rows of a cell

pub ahead_there : (a : Sight) (b : Box) (rows : Rows) (row d : List Hull) (k : ℕ) → AreFirst a b rows → 1 ≤ k → k ≤ length rows →
    row ≡ get_or rows (k - 1) d → row ≡ seen_row a.ends (row_of a.body (cells_before k b) (values_at k b))
ahead_there a b rows row d k h some to is =
    let few = few_known a b rows h in
    before_is a b rows row d (k - 1) h (omega (arith, some, to)) is ∙ row_at_place a b (k - 1) (omega (arith, some, to, few))

turned_before : (b : Box) (k : ℕ) → k ≤ length b → reverse (take (length b - k) (reverse b)) ≡ drop k b
turned_before b k to =
    let l = length-reverse b in let count : length (reverse b) - (length b - k) ≡ k = omega (arith, l, to) in
    reverse_take (length b - k) (reverse b) ∙ ap (λ m. drop m (reverse (reverse b))) count ∙ ap (drop k) (reverse-reverse b)

turned_at : (b : Box) (k : ℕ) → 1 ≤ k → k ≤ length b → get_or (reverse b) (length b - k) [] ≡ get_or b (k - 1) []
turned_at b k some to =
    let at : length b - 1 - (length b - k) ≡ k - 1 = omega (arith, some, to) in
    get_or-reverse b (length b - k) [] (omega (arith, some, to)) ∙ ap (λ i. get_or b i []) at

pub back_there : (a : Sight) (b : Box) (rows : Rows) (row d : List Hull) (k : ℕ) → AreFirst a (reverse b) rows → 1 ≤ k → k ≤ length b →
    length b - k < length rows →
    row ≡ get_or rows (length b - k) d → row ≡ seen_row a.ends (row_of a.body (cells_after k b) (values_at k b))
back_there a b rows row d k h some to lt is =
    let l = length-reverse b in let row_after = λ (z : Box) (vs : List ℤ). seen_row a.ends (row_of a.body z vs) in
    before_is a (reverse b) rows row d (length b - k) h lt is ∙ row_at_place a (reverse b) (length b - k) (omega (arith, l, some, to))
    ∙ ap (λ z. row_after z (get_or (reverse b) (length b - k) [])) (turned_before b k to) ∙ ap (row_after (drop k b)) (turned_at b k some to)

pub behind_there : (p : Option Pair) (ends : Sides) (b : Box) (rows : Rows) (row d : List Hull) (k : ℕ) → (p ≡ None → ⊥) → AreBehind p ends b rows →
    1 ≤ k → k ≤ length b → length b - k < length rows → row ≡ get_or rows (length b - k) d →
    OfReverse p (λ a. row ≡ seen_row ends (row_of a (cells_after k b) (values_at k b)))
behind_there None ends b rows row d k some h from to lt is = absurd (some refl)
behind_there (Some p) ends b rows row d k some h from to lt is = back_there (sight p.reverse ends) b rows row d k h from to lt is
