-- The cells that are looked at: where each of them stands, and the rows of all cells where these have rows.
use Rattle.std.proofs.Common.{◌≡◌, ℕ, ◌+◌, ◌-◌, ◌<◌, ◌≤◌, ◌⊎◌, inl, inr, ⊎_elim, ℤ, Bool, true, false, cond, ◌&&◌, nat_le, Option, Some, None, List, [], ◌++◌, length, map, take, drop, set, get_or, replicate, refl, sym, ap, ◌∙◌, subst, arith}
use Rattle.std.proofs.lemmas.Bool.{leb-true, leb-false, le-leb}
use Rattle.std.proofs.lemmas.List.{length-append, length-replicate, take-set-le, drop-set-lt, drop-set-add, get_or-take, get_or-drop, get_or_append_left, get_or-append-add, get_or-replicate, take-map, drop-map}
use Rattle.std.proofs.Math.Seq.{take-set-lt}
use Rattle.ts_base.specs.declared.range.Range.{Range}
use Rattle.ts_base.specs.Windows.{LooksInside, cells_of, looked_at}
use Rattle.ts_base.proofs.WindowLaws.{cells_count}
use Rattle.ts_bound.specs.Looks.{is_looked, first_looked, last_looked, count_looked, read_at, place_in}
use Rattle.ts_bound.specs.Rows.{row_at, windowed}
use Rattle.ts_bound.specs.TermSpans.{Automata, LooksIn, IsUsable}

-- what the test of a cell shows

inside_bounds : (r : Range) (k : ℕ) → is_looked (Some r) k ≡ true → (r.first ≤ k) × (k ≤ r.last)
inside_bounds r k h = go (nat_le r.first k) (nat_le k r.last) refl refl h
  where
    go : (a b : Bool) → nat_le r.first k ≡ a → nat_le k r.last ≡ b → (a && b) ≡ true → (r.first ≤ k) × (k ≤ r.last)
    go true true e f h = (leb-true r.first k e, leb-true k r.last f)
    go true false e f h = cc
    go false b e f h = cc

outside_bounds : (r : Range) (k : ℕ) → is_looked (Some r) k ≡ false → (k < r.first) ⊎ (r.last < k)
outside_bounds r k h = go (nat_le r.first k) (nat_le k r.last) refl refl h
  where
    go : (a b : Bool) → nat_le r.first k ≡ a → nat_le k r.last ≡ b → (a && b) ≡ false → (k < r.first) ⊎ (r.last < k)
    go true true e f h = cc
    go true false e f h = inr (leb-false k r.last f)
    go false b e f h = inl (leb-false r.first k e)

-- how many cells are looked at, and the place of each

pub looked_length : {A : Type 0} (w : Option Range) (xs : List A) → LooksInside (length xs) w → length (looked_at w xs) ≡ count_looked w (length xs)
looked_length None xs h = omega arith
looked_length (Some r) xs h = cells_count r xs h

pub read_inside : (w : Option Range) (k : ℕ) → is_looked w k ≡ true → read_at w k ≡ k
read_inside None k h = refl
read_inside (Some r) k h = ap (λ v. cond v k r.last) h

pub read_outside : (w : Option Range) (n k : ℕ) → is_looked w k ≡ false → read_at w k ≡ last_looked w n
read_outside None n k h = cc
read_outside (Some r) n k h = ap (λ v. cond v k r.last) h

pub looked_by : (w : Option Range) (n k : ℕ) → first_looked w ≤ k → k ≤ last_looked w n → is_looked w k ≡ true
looked_by None n k low high = refl
looked_by (Some r) n k low high = ap (λ a. a && nat_le k r.last) (le-leb r.first k low) ∙ le-leb k r.last high

pub looked_bounds : (w : Option Range) (n k : ℕ) → 1 ≤ k → k ≤ n → is_looked w k ≡ true → (first_looked w ≤ k) × (k ≤ last_looked w n)
looked_bounds None n k some few h = (some, few)
looked_bounds (Some r) n k some few h = inside_bounds r k h

pub ends_inside : (w : Option Range) (n : ℕ) → LooksInside n w → (1 ≤ first_looked w) × (last_looked w n ≤ n) × (1 ≤ n → first_looked w ≤ last_looked w n)
ends_inside None n h = (omega arith, omega arith, λ some. some)
ends_inside (Some r) n h = (h.0, h.2, λ some. h.1)

pub read_inside_box : (w : Option Range) (n k : ℕ) → LooksInside n w → 1 ≤ k → k ≤ n →
    (1 ≤ read_at w k) × (read_at w k ≤ n) × (is_looked w (read_at w k) ≡ true)
read_inside_box None n k h some few = (some, few, refl)
read_inside_box (Some r) n k h some few = go (is_looked (Some r) k) refl
  where
    go : (t : Bool) → is_looked (Some r) k ≡ t → (1 ≤ cond t k r.last) × (cond t k r.last ≤ n) × (is_looked (Some r) (cond t k r.last) ≡ true)
    go true e = (some, few, e)
    go false e = let a = h.0 in let b = h.1 in (omega (arith, a, b), h.2, looked_by (Some r) n r.last b (omega arith))

pub place_inside : (w : Option Range) (k : ℕ) → is_looked w k ≡ true → place_in w k ≡ k - (first_looked w - 1)
place_inside w k h = ap (λ i. i - (first_looked w - 1)) (read_inside w k h)

pub place_outside : (w : Option Range) (n k : ℕ) → is_looked w k ≡ false → place_in w k ≡ count_looked w n
place_outside w n k h = ap (λ i. i - (first_looked w - 1)) (read_outside w n k h)

-- the cell that is read stands at the same place
pub place_read : (w : Option Range) (n k : ℕ) → LooksInside n w → 1 ≤ k → k ≤ n → place_in w (read_at w k) ≡ place_in w k
place_read w n k h some few = place_inside w (read_at w k) (read_inside_box w n k h some few).2

pub place_bounds : (w : Option Range) (n k : ℕ) → LooksInside n w → 1 ≤ k → k ≤ n → (1 ≤ place_in w k) × (place_in w k ≤ count_looked w n)
place_bounds w n k h some few =
    let r = read_inside_box w n k h some few in
    let from = r.0 in let to = r.1 in
    let b = looked_bounds w n (read_at w k) from to r.2 in
    let low = b.0 in let high = b.1 in
    let first = (ends_inside w n h).0 in
    (omega (arith, low, first), omega (arith, low, high, first))

-- the last cell of all is read where the last of those is that are looked at
pub place_end : (w : Option Range) (n : ℕ) → LooksInside n w → place_in w n ≡ count_looked w n
place_end None n h = refl
place_end (Some r) n h = go (is_looked (Some r) n) refl
  where
    go : (t : Bool) → is_looked (Some r) n ≡ t → place_in (Some r) n ≡ count_looked (Some r) n
    go false e = place_outside (Some r) n n e
    go true e =
        let b = (inside_bounds r n e).1 in let c = h.2 in
        let z : n ≡ r.last = omega (arith, b, c) in place_inside (Some r) n e ∙ ap (λ i. i - (r.first - 1)) z

pub place_usable : (m : Automata) (k : ℕ) (cells : List (List ℤ)) → LooksIn m cells → IsUsable m k cells →
    IsUsable m (place_in m.window k) (looked_at m.window cells)
place_usable m k cells h u =
    let n = length cells in
    let w = m.window in
    let l = looked_length w cells h in
    let b = place_bounds w n k h u.from u.to in
    record {
      from = b.0;
      to = subst (λ i. place_in w k ≤ i) (sym l) b.1;
      last = λ plain. ap (place_in w) (u.last plain) ∙ place_end w n h ∙ sym l;
    }

-- what stands at the places of the cells that are looked at

module _ {A : Type 0} (xs : List A) (k : ℕ) where
  pub looked_get : (w : Option Range) (d : A) → LooksInside (length xs) w → is_looked w k ≡ true →
      get_or (looked_at w xs) (place_in w k - 1) d ≡ get_or xs (k - 1) d
  looked_get None d h is = let e : k - (1 - 1) - 1 ≡ k - 1 = omega arith in ap (λ i. get_or xs i d) e
  looked_get (Some r) d h is =
      let b = inside_bounds r k is in let low = b.0 in let high = b.1 in let first = h.0 in
      let f = r.first - 1 in
      let i = k - f - 1 in
      let at : f + i ≡ k - 1 = omega (arith, low, first) in
      ap (λ p. get_or (cells_of r xs) (p - 1) d) (place_inside (Some r) k is)
      ∙ get_or-take (r.last - f) (drop f xs) i d (omega (arith, low, high, first)) ∙ get_or-drop f xs i d ∙ ap (λ j. get_or xs j d) at

  pub looked_set : (w : Option Range) (x : A) → LooksInside (length xs) w → is_looked w k ≡ true →
      looked_at w (set xs (k - 1) x) ≡ set (looked_at w xs) (place_in w k - 1) x
  looked_set None x h is = let e : k - 1 ≡ k - (1 - 1) - 1 = omega arith in ap (λ i. set xs i x) e
  looked_set (Some r) x h is =
      let b = inside_bounds r k is in let low = b.0 in let high = b.1 in let first = h.0 in
      let f = r.first - 1 in
      let i = k - f - 1 in
      let at : k - 1 ≡ f + i = omega (arith, low, first) in
      ap (λ j. take (r.last - f) (drop f (set xs j x))) at ∙ ap (take (r.last - f)) (drop-set-add f xs i x)
      ∙ take-set-lt (r.last - f) (drop f xs) i x (omega (arith, low, high, first))
      ∙ ap (λ p. set (cells_of r xs) (p - 1) x) (sym (place_inside (Some r) k is))

  pub looked_miss : (w : Option Range) (x : A) → LooksInside (length xs) w → 1 ≤ k → is_looked w k ≡ false → looked_at w (set xs (k - 1) x) ≡ looked_at w xs
  looked_miss None x h some is = cc
  looked_miss (Some r) x h some is =
      let f = r.first - 1 in
      let first = h.0 in let order = h.1 in
      ⊎_elim (λ low. ap (take (r.last - f)) (drop-set-lt f xs (k - 1) x (omega (arith, low, some))))
      (λ high.
      let i = k - 1 - f in
      let at : k - 1 ≡ f + i = omega (arith, high, order, first) in
      ap (λ j. take (r.last - f) (drop f (set xs j x))) at ∙ ap (take (r.last - f)) (drop-set-add f xs i x)
      ∙ take-set-le (r.last - f) (drop f xs) i x (omega (arith, high, order, first)))
      (outside_bounds r k is)

pub looked_map : {A B : Type 0} (f : A → B) (w : Option Range) (xs : List A) → looked_at w (map f xs) ≡ map f (looked_at w xs)
looked_map f None xs = refl
looked_map f (Some r) xs =
    ap (take (r.last - (r.first - 1))) (drop-map f (r.first - 1) xs) ∙ take-map f (r.last - (r.first - 1)) (drop (r.first - 1) xs)

-- the rows of all cells

module _ {X : Type 0} (n : ℕ) (rows : List (List X)) where
  abbrev before : Range → List (List X)
  before r = replicate (r.first - 1) []

  before_length : (r : Range) → length (before r) ≡ r.first - 1
  before_length r = length-replicate (r.first - 1) []

  pub windowed_length : (w : Option Range) → LooksInside n w → length rows ≡ count_looked w n → length (windowed w n rows) ≡ n
  windowed_length None h l = l ∙ omega arith
  windowed_length (Some r) h l =
      let a = length-append (before r) (rows ++ replicate (n - r.last) []) in
      let b = length-append rows (replicate (n - r.last) []) in
      let c = length-replicate {A = List X} (n - r.last) [] in
      let d = before_length r in
      let first = h.0 in let order = h.1 in let last = h.2 in
      omega (arith, a, b, c, d, l, first, order, last)

  module _ (k : ℕ) where
    pub windowed_at : (w : Option Range) → LooksInside n w → length rows ≡ count_looked w n → is_looked w k ≡ true →
        row_at k (windowed w n rows) ≡ row_at (place_in w k) rows
    windowed_at None h l is = let e : k - 1 ≡ k - (1 - 1) - 1 = omega arith in ap (λ i. get_or rows i []) e
    windowed_at (Some r) h l is =
        let b = inside_bounds r k is in let low = b.0 in let high = b.1 in let first = h.0 in
        let f = r.first - 1 in
        let i = k - f - 1 in
        let d = before_length r in
        let at : k - 1 ≡ length (before r) + i = omega (arith, d, low, first) in
        ap (λ j. get_or (before r ++ (rows ++ replicate (n - r.last) [])) j []) at
        ∙ get_or-append-add (before r) (rows ++ replicate (n - r.last) []) i []
        ∙ get_or_append_left rows (replicate (n - r.last) []) [] i (omega (arith, l, low, high, first))
        ∙ ap (λ p. get_or rows (p - 1) []) (sym (place_inside (Some r) k is))

    pub windowed_outside : (w : Option Range) → LooksInside n w → length rows ≡ count_looked w n → 1 ≤ k → k ≤ n → is_looked w k ≡ false →
        row_at k (windowed w n rows) ≡ []
    windowed_outside None h l some few is = cc
    windowed_outside (Some r) h l some few is =
        let f = r.first - 1 in
        let d = before_length r in
        let first = h.0 in let order = h.1 in
        ⊎_elim
        (λ low. get_or_append_left (before r) (rows ++ replicate (n - r.last) []) [] (k - 1) (omega (arith, d, low, some))
        ∙ get_or-replicate f (k - 1) [] [] (omega (arith, low, some)))
        (λ high.
        let i = k - 1 - f in
        let at : k - 1 ≡ length (before r) + i = omega (arith, d, high, order, first) in
        let j = k - 1 - r.last in
        let on : i ≡ length rows + j = omega (arith, l, high, order, first) in
        ap (λ j. get_or (before r ++ (rows ++ replicate (n - r.last) [])) j []) at
        ∙ get_or-append-add (before r) (rows ++ replicate (n - r.last) []) i []
        ∙ ap (λ j. get_or (rows ++ replicate (n - r.last) []) j []) on ∙ get_or-append-add rows (replicate (n - r.last) []) j []
        ∙ get_or-replicate (n - r.last) j [] [] (omega (arith, high, few)))
        (outside_bounds r k is)
