-- Tables that are filled row by row: what the loops over the cells keep.
use Rattle.std.proofs.Common.{◌≡◌, ◌⊎◌, inl, inr, ℕ, zero, suc, ◌+◌, ◌-◌, ◌*◌, ◌<◌, ◌≤◌, Bool, true, false, cond, ℤ, Option, List, [], ◌∷◌, length, map, set, get_or, replicate, refl, sym, ap, ◌∙◌, subst, arith}
use Rattle.std.proofs.lemmas.List.{length-map, get_or-map, length-replicate, length-set, get_or-set_same, length-reverse}
use Rattle.ts_base.specs.declared.range.Range.{Range}
use Rattle.ts_base.specs.Windows.{LooksInside, looked_at}
use Rattle.ts_automaton.specs.declared.regs.Hull.{Hull}
use Rattle.ts_automaton.specs.Body.{Body}
use Rattle.ts_hull.specs.Hulls.{none}
use Rattle.ts_bound.specs.HullTables.{row_of, cells_before, cells_after, forward_rows, backward_rows, only_looked, forward_table, backward_table}
use Rattle.ts_bound.specs.Looks.{is_looked, first_looked, last_looked, place_in}
use Rattle.ts_bound.specs.Rows.{row_at}
use Rattle.ts_bound.specs.BoxRows.{AreFirst}
use Rattle.ts_bound.specs.PackedRows.{seen_row}
use Rattle.ts_bound.specs.PlainRows.{place_by, table_by}
use Rattle.ts_bound.specs.Reading.{in_order}
use Rattle.ts_bound.specs.RowStacks.{sight}
use Rattle.ts_bound.specs.declared.reading.Direction.{Direction}
use Rattle.ts_bound.specs.declared.reading.Direction.TheVariants.{FromFirst, FromLast}
use Rattle.ts_sweep.specs.Sides.{Sides, BothEnds}
use Rattle.ts_bound.proofs.Emptied.{only_length, only_size}
use Rattle.ts_bound.proofs.KnownRows.{ahead_there, back_there}
use Rattle.ts_bound.proofs.Looking.{looked_bounds, looked_by, looked_length, looked_get, place_inside, place_bounds, ends_inside, windowed_length, windowed_outside}
use Rattle.ts_bound.proofs.SpanRuns.{ahead_begun, behind_begun}
use Rattle.ts_bound.proofs.TableLaws.{length-row_of, length-forward, length-backward}

-- the rows of the cells from lo to hi are those of the table T, and every row is as long as there
pub record IsFilled (T : List (List Hull)) (lo hi : ℕ) (t : List (List Hull)) : Type 0 where
  pub long : length t ≡ length T
  pub sizes : (k : ℕ) → 1 ≤ k → k ≤ length T → length (row_at k t) ≡ length (row_at k T)
  pub rows : (k : ℕ) → lo ≤ k → k ≤ hi → row_at k t ≡ row_at k T

set_size : (t : List (List Hull)) (j : ℕ) (row : List Hull) (i : ℕ) → length row ≡ length (get_or t j []) →
    length (get_or (set t j row) i []) ≡ length (get_or t i [])
set_size [] j row i e = refl
set_size (x ∷ t) zero row zero e = e
set_size (x ∷ t) zero row (suc i) e = refl
set_size (x ∷ t) (suc j) row zero e = refl
set_size (x ∷ t) (suc j) row (suc i) e = set_size t j row i e

set_stays : (t : List (List Hull)) (R : ℕ → List Hull) (j i : ℕ) → get_or t i [] ≡ R i → get_or (set t j (R j)) i [] ≡ R i
set_stays [] R j i e = e
set_stays (x ∷ t) R zero zero e = refl
set_stays (x ∷ t) R zero (suc i) e = e
set_stays (x ∷ t) R (suc j) zero e = e
set_stays (x ∷ t) R (suc j) (suc i) e = set_stays t (λ n. R (suc n)) j i e

-- the row of cell k is filled besides
pub filled_with : (T t t' : List (List Hull)) (lo hi lo' hi' k : ℕ) (row : List Hull) → IsFilled T lo hi t → 1 ≤ k → k ≤ length T →
    t' ≡ set t (k - 1) row → row ≡ row_at k T → ((j : ℕ) → lo' ≤ j → j ≤ hi' → (j ≡ k) ⊎ ((lo ≤ j) × (j ≤ hi))) → IsFilled T lo' hi' t'
filled_with T t t' lo hi lo' hi' k row f some few is here cover = record {
  long = ap length is ∙ length-set t (k - 1) row ∙ f.long;
  sizes = λ j a b. ap (λ z. length (row_at j z)) is ∙ set_size t (k - 1) row (j - 1) (ap length here ∙ sym (f.sizes k some few)) ∙ f.sizes j a b;
  rows = λ j low high. ap (row_at j) is ∙ go j (cover j low high);
}
  where
    go : (j : ℕ) → (j ≡ k) ⊎ ((lo ≤ j) × (j ≤ hi)) → row_at j (set t (k - 1) row) ≡ row_at j T
    go j (inl e) =
        let long = f.long in
        ap (λ i. row_at i (set t (k - 1) row)) e ∙ get_or-set_same t (k - 1) row [] (omega (arith, long, some, few)) ∙ here ∙ ap (λ i. row_at i T) (sym e)
    go j (inr h) = ap (λ r. row_at j (set t (k - 1) r)) here ∙ set_stays t (λ i. get_or T i []) (k - 1) (j - 1) (f.rows j h.0 h.1)

same_rows : (t u : List (List Hull)) → length t ≡ length u → ((i : ℕ) → i < length u → get_or t i [] ≡ get_or u i []) → t ≡ u
same_rows [] [] l h = refl
same_rows [] (y ∷ u) l h = absurd (omega (arith, l))
same_rows (x ∷ t) [] l h = absurd (omega (arith, l))
same_rows (x ∷ t) (y ∷ u) l h =
    ap (λ z. z ∷ t) (h 0 (omega arith)) ∙ ap (λ z. y ∷ z) (same_rows t u (omega (arith, l)) (λ i lt. h (suc i) (omega (arith, lt))))

no_hulls : (xs : List Hull) → length xs ≡ 0 → xs ≡ []
no_hulls [] e = refl
no_hulls (x ∷ xs) e = absurd (omega (arith, e))

-- all rows are filled, but for those that are empty
pub filled_all : (T t : List (List Hull)) (lo hi : ℕ) → IsFilled T lo hi t →
    ((k : ℕ) → 1 ≤ k → k ≤ length T → ((lo ≤ k) × (k ≤ hi)) ⊎ (row_at k T ≡ [])) → t ≡ T
filled_all T t lo hi f cover = same_rows t T f.long at
  where
    go : (k : ℕ) → 1 ≤ k → k ≤ length T → ((lo ≤ k) × (k ≤ hi)) ⊎ (row_at k T ≡ []) → row_at k t ≡ row_at k T
    go k some few (inl h) = f.rows k h.0 h.1
    go k some few (inr e) = no_hulls (row_at k t) (f.sizes k some few ∙ ap length e) ∙ sym e

    at : (i : ℕ) → i < length T → get_or t i [] ≡ get_or T i []
    at i lt =
        let e : (i + 1) - 1 ≡ i = omega arith in
        ap (λ j. get_or t j []) (sym e) ∙ go (i + 1) (omega arith) (omega (arith, lt)) (cover (i + 1) (omega arith) (omega (arith, lt)))
        ∙ ap (λ j. get_or T j []) e

-- each cell that is looked at has its row in T, where runs have read the cells on one side of it; the other rows are empty
pub record IsTable (b : Body) (w : Option Range) (cells : List (List ℤ)) (T : List (List Hull)) (side : ℕ → List (List ℤ)) : Type 0 where
  pub long : length T ≡ length cells
  pub rows : (k : ℕ) → 1 ≤ k → k ≤ length cells → is_looked w k ≡ true → row_at k T ≡ row_of b (side k) (get_or cells (k - 1) [])
  pub outside : (k : ℕ) → 1 ≤ k → k ≤ length cells → is_looked w k ≡ false → row_at k T ≡ []

module _ (b : Body) (w : Option Range) (cells : List (List ℤ)) (looks : LooksInside (length cells) w) where
  abbrev inner : List (List ℤ)
  inner = looked_at w cells

  abbrev pub before_cell : ℕ → List (List ℤ)
  before_cell k = cells_before (place_in w k) inner

  abbrev pub after_cell : ℕ → List (List ℤ)
  after_cell k = cells_after (place_in w k) inner

  pub forward_is : IsTable b w cells (forward_table b w cells) before_cell
  unfolding row_of
  forward_is =
      let rows = forward_rows b inner in
      let long = length-forward b [] inner ∙ looked_length w cells looks in
      record {
        long = windowed_length (length cells) rows w looks long;
        rows = λ k some few there. ahead_begun w cells looks k some few b (forward_table b w cells) _ _ there refl refl refl;
        outside = λ k some few away. windowed_outside (length cells) rows k w looks long some few away;
      }

  pub backward_is : IsTable b w cells (backward_table b w cells) after_cell
  unfolding row_of
  backward_is =
      let rows = backward_rows b inner in
      let long = length-backward b inner ∙ looked_length w cells looks in
      record {
        long = windowed_length (length cells) rows w looks long;
        rows = λ k some few there. behind_begun w cells looks k some few b (backward_table b w cells) _ _ there refl refl refl;
        outside = λ k some few away. windowed_outside (length cells) rows k w looks long some few away;
      }

  module _ (T : List (List Hull)) (side : ℕ → List (List ℤ)) (made : IsTable b w cells T side) where
    -- at first no row is filled
    pub filled_none : (m : ℕ) (t : List (List Hull)) (lo hi : ℕ) → hi < lo → m ≡ length b.states →
        t ≡ map (λ d. replicate (length d * m) none) (only_looked w cells) → IsFilled T lo hi t
    filled_none m t lo hi nothing is_m is = record {
      long = ap length is ∙ length-map (only_looked w cells) f ∙ only_length w cells looks ∙ sym made.long;
      sizes = λ k some few. size k some (subst (λ n. k ≤ n) made.long few);
      rows = λ k low high. absurd (omega (arith, nothing, low, high));
    }
      where
        f : List ℤ → List Hull
        f d = replicate (length d * m) none

        by_look : (k : ℕ) → 1 ≤ k → k ≤ length cells → (v : Bool) → is_looked w k ≡ v →
            cond v (length (get_or cells (k - 1) [])) 0 * m ≡ length (row_at k T)
        by_look k some few true e =
            ap (λ n. length (get_or cells (k - 1) []) * n) is_m ∙ sym (length-row_of b (side k) (get_or cells (k - 1) []))
            ∙ sym (ap length (made.rows k some few e))
        by_look k some few false e = let z : 0 * m ≡ 0 = omega arith in z ∙ sym (ap length (made.outside k some few e))

        size : (k : ℕ) → 1 ≤ k → k ≤ length cells → length (row_at k t) ≡ length (row_at k T)
        size k some few =
            let l = only_length w cells looks in
            ap (λ z. length (row_at k z)) is
            ∙ ap length (get_or-map f (only_looked w cells) (k - 1) [] [] (omega (arith, l, some, few)))
            ∙ length-replicate (length (get_or (only_looked w cells) (k - 1) []) * m) none
            ∙ ap (λ n. n * m) (sym (only_size w cells k (cond (is_looked w k) (length (get_or cells (k - 1) [])) 0) looks some few refl))
            ∙ by_look k some few (is_looked w k) refl

    -- the length of a row that isn't filled yet
    pub sized : (t : List (List Hull)) (lo hi k : ℕ) → IsFilled T lo hi t → 1 ≤ k → k ≤ length cells → length (row_at k t) ≡ length (row_at k T)
    sized t lo hi k f some few = let long = made.long in f.sizes k some (omega (arith, long, few))

    -- the rows of all cells that are looked at are filled
    pub filled_whole : (t : List (List Hull)) (lo hi : ℕ) → lo ≤ first_looked w → last_looked w (length cells) ≤ hi → IsFilled T lo hi t → t ≡ T
    filled_whole t lo hi below above f = filled_all T t lo hi f (λ k some few. go k some few (is_looked w k) refl)
      where
        go : (k : ℕ) → 1 ≤ k → k ≤ length T → (v : Bool) → is_looked w k ≡ v → ((lo ≤ k) × (k ≤ hi)) ⊎ (row_at k T ≡ [])
        go k some few true there =
            let b = looked_bounds w (length cells) k some (subst (λ n. k ≤ n) made.long few) there in let low = b.0 in let high = b.1 in
            inl (omega (arith, below, low), omega (arith, above, high))
        go k some few false away = inr (made.outside k some (subst (λ n. k ≤ n) made.long few) away)

  -- by the order in which cells are read

  abbrev pub side_by : Direction → ℕ → List (List ℤ)
  side_by FromFirst = before_cell
  side_by FromLast = after_cell

  pub table_is : (d : Direction) → IsTable b w cells (table_by d b w cells) (side_by d)
  table_is FromFirst = forward_is
  table_is FromLast = backward_is

  seen_whole : (ends : Sides) (row : List Hull) → ends ≡ BothEnds → seen_row ends row ≡ row
  seen_whole ends row e = ap (λ s. seen_row s row) e ∙ go row
    where
      go : (row : List Hull) → seen_row BothEnds row ≡ row
      go [] = refl
      go (h ∷ row) = ap (λ l. h ∷ l) (go row)

  -- the row that was made for a cell is the row of the table
  pub made_is : (d : Direction) (ends : Sides) (known : List (List Hull)) (k i : ℕ) → ends ≡ BothEnds → AreFirst (sight b ends) (in_order d inner) known →
      length (in_order d inner) ≤ length known → first_looked w ≤ k → k ≤ last_looked w (length cells) →
      i ≡ place_by d (first_looked w) (last_looked w (length cells)) k →
      (i < length known) × (get_or known i [] ≡ row_at k (table_by d b w cells))
  made_is FromFirst ends known k i e h all low high is =
      let n = length cells in let p = place_in w k in
      let bounds = ends_inside w n looks in let first = bounds.0 in let last = bounds.1 in
      let there = looked_by w n k low high in let some : 1 ≤ k = omega (arith, first, low) in let few : k ≤ n = omega (arith, last, high) in
      let place = place_inside w k there in let within = place_bounds w n k looks some few in let from = within.0 in let to = within.1 in
      let long = looked_length w cells looks in
      let at : i ≡ p - 1 = omega (arith, is, place, low, first) in (
        omega (arith, at, from, to, long, all),
        ahead_there (sight b ends) inner known (get_or known i []) [] p h from (omega (arith, to, long, all)) (ap (λ j. get_or known j []) at)
            ∙ seen_whole ends (row_of b (before_cell k) (get_or inner (p - 1) [])) e
            ∙ ap (row_of b (before_cell k)) (looked_get cells k w [] looks there) ∙ sym (forward_is.rows k some few there),
      )
  made_is FromLast ends known k i e h all low high is =
      let n = length cells in let p = place_in w k in
      let bounds = ends_inside w n looks in let first = bounds.0 in let last = bounds.1 in
      let there = looked_by w n k low high in let some : 1 ≤ k = omega (arith, first, low) in let few : k ≤ n = omega (arith, last, high) in
      let place = place_inside w k there in let within = place_bounds w n k looks some few in let from = within.0 in let to = within.1 in
      let long = looked_length w cells looks in let turned = length-reverse inner in
      let at : i ≡ length inner - p = omega (arith, is, place, low, high, first, long) in (
        omega (arith, at, from, to, long, turned, all),
        back_there (sight b ends) inner known (get_or known i []) [] p h from (omega (arith, to, long)) (omega (arith, from, to, long, turned, all))
            (ap (λ j. get_or known j []) at)
            ∙ seen_whole ends (row_of b (after_cell k) (get_or inner (p - 1) [])) e
            ∙ ap (row_of b (after_cell k)) (looked_get cells k w [] looks there) ∙ sym (backward_is.rows k some few there),
      )

pub last_or : (lo k j : ℕ) → lo ≤ j → j ≤ k + 1 → (j ≡ k + 1) ⊎ ((lo ≤ j) × (j ≤ k))
last_or lo k j low high = grind arith
