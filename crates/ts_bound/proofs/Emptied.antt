-- A table whose rows are filled with one thing: where its rows begin.
use Rattle.std.proofs.Common.{◌≡◌, Bool, true, false, cond, Option, ℕ, ◌+◌, ◌-◌, ◌<◌, ◌≤◌, List, [], ◌∷◌, ◌++◌, length, map, take, replicate, get_or, ℤ, ◌*◌, refl, sym, ap, ◌∙◌, arith, subst}
use Rattle.std.specs.Prelude.{sum}
use Rattle.std.proofs.lemmas.List.{take_more, length-replicate, take_all, drop-replicate, take-replicate}
use Rattle.std.proofs.lemmas.List.Sums.{fold_more, sum_by-append}
use Rattle.std.proofs.lemmas.List.{get_or-map, length-map}
use Rattle.ts_base.specs.declared.range.Range.{Range}
use Rattle.ts_base.specs.Windows.{LooksInside, looked_at}
use Rattle.ts_bound.specs.HullTables.{only_looked}
use Rattle.ts_bound.specs.Looks.{is_looked}
use Rattle.ts_bound.specs.Rows.{rows_from, rows_of, Ends, Starts}
use Rattle.ts_bound.proofs.Looking.{looked_length, looked_get, windowed_at, windowed_length, windowed_outside}

-- where the rows of these sizes end, the first beginning at a
abbrev pub ends_of : ℕ → List ℕ → List ℕ
ends_of a [] = []
ends_of a (n ∷ ns) = (a + n) ∷ ends_of (a + n) ns

sum_first : (n : ℕ) (ns : List ℕ) → sum (n ∷ ns) ≡ n + sum ns
sum_first n ns = let e = sum_by-append (λ x. x) (n ∷ []) ns in let f : sum (n ∷ []) ≡ n = omega arith in e ∙ ap (λ m. m + sum ns) f

sum_more : (ns : List ℕ) (i : ℕ) → i < length ns → sum (take (i + 1) ns) ≡ sum (take i ns) + get_or ns i 0
sum_more ns i h = fold_more (λ a x. a + x) 0 ns i 0 h

ends_more : (a : ℕ) (ns : List ℕ) (n : ℕ) → ends_of a (ns ++ n ∷ []) ≡ ends_of a ns ++ (a + sum ns + n) ∷ []
ends_more a [] n = let e : a + n ≡ a + 0 + n = omega arith in ap (λ m. m ∷ []) e
ends_more a (x ∷ ns) n =
    let s = sum_first x ns in let e : (a + x) + sum ns + n ≡ a + sum (x ∷ ns) + n = omega (arith, s) in
    ap (λ l. (a + x) ∷ l) (ends_more (a + x) ns n ∙ ap (λ m. ends_of (a + x) ns ++ m ∷ []) e)

ends_ok : (a : ℕ) (ns : List ℕ) → Ends a (ends_of a ns) (a + sum ns)
unfolding Ends
ends_ok a [] = omega arith
ends_ok a (n ∷ ns) = let s = sum_first n ns in let e : (a + n) + sum ns ≡ a + sum (n ∷ ns) = omega (arith, s) in
    (omega arith, subst (Ends (a + n) (ends_of (a + n) ns)) e (ends_ok (a + n) ns))

rows_same : {X : Type 0} (a m : ℕ) (ns : List ℕ) (x : X) → a + sum ns ≤ m → rows_from a (ends_of a ns) (replicate m x) ≡ map (λ n. replicate n x) ns
unfolding rows_from
rows_same a m [] x h = refl
rows_same a m (n ∷ ns) x h =
    let s = sum_first n ns in let e : a + n - a ≡ n = omega arith in
    ap (λ l. take (a + n - a) l ∷ rows_from (a + n) (ends_of (a + n) ns) (replicate m x)) (drop-replicate a m x)
    ∙ ap (λ k. take k (replicate (m - a) x) ∷ rows_from (a + n) (ends_of (a + n) ns) (replicate m x)) e ∙
    ap (λ l. l ∷ rows_from (a + n) (ends_of (a + n) ns) (replicate m x)) (take-replicate n (m - a) x (omega (arith, s, h)))
    ∙ ap (λ l. replicate n x ∷ l) (rows_same (a + n) m ns x (omega (arith, s, h)))

-- the loop over the sizes
abbrev pub Begun : List ℕ → ℕ → List ℕ → ℕ → Type 0
Begun starts total ns i = (starts ≡ 0 ∷ ends_of 0 (take i ns)) × (total ≡ sum (take i ns))

pub sizes_more : (starts starts' : List ℕ) (total : ℕ) (ns : List ℕ) (i : ℕ) → i < length ns → starts' ≡ starts ++ (total + get_or ns i 0) ∷ [] →
    Begun starts total ns i → Begun starts' (total + get_or ns i 0) ns (i + 1)
sizes_more starts starts' total ns i h is b =
    let m = sum_more ns i h in let e : total + get_or ns i 0 ≡ 0 + sum (take i ns) + get_or ns i 0 = omega (arith, b.1) in (
      is ∙ ap (λ l. l ++ (total + get_or ns i 0) ∷ []) b.0 ∙ ap (λ n. 0 ∷ (ends_of 0 (take i ns) ++ n ∷ [])) e
          ∙ ap (λ l. 0 ∷ l) (sym (ends_more 0 (take i ns) (get_or ns i 0))) ∙
          ap (λ l. 0 ∷ ends_of 0 l) (sym (take_more ns i 0 h)),
      omega (arith, b.1, m),
    )

whole : (starts : List ℕ) (total : ℕ) (ns : List ℕ) (i : ℕ) → length ns ≤ i → Begun starts total ns i → (starts ≡ 0 ∷ ends_of 0 ns) × (total ≡ 0 + sum ns)
whole starts total ns i h b = let t = take_all i ns h in let s = ap sum t in (b.0 ∙ ap (λ l. 0 ∷ ends_of 0 l) t, omega (arith, s, b.1))

pub empty_starts : {X : Type 0} (starts : List ℕ) (total : ℕ) (ns : List ℕ) (i : ℕ) (xs : List X) (x : X) → length ns ≤ i → Begun starts total ns i →
    xs ≡ replicate total x → Starts starts (length xs)
unfolding Starts
empty_starts starts total ns i xs x h b is =
    let w = whole starts total ns i h b in let l : length xs ≡ 0 + sum ns = ap length is ∙ length-replicate total x ∙ w.1 in
    subst (λ s. Starts s (length xs)) (sym w.0) (refl, subst (Ends 0 (ends_of 0 ns)) (sym l) (ends_ok 0 ns))

pub empty_rows : {X : Type 0} (starts : List ℕ) (total : ℕ) (ns : List ℕ) (i : ℕ) (xs : List X) (x : X) → length ns ≤ i → Begun starts total ns i →
    xs ≡ replicate total x → rows_of starts xs ≡ map (λ n. replicate n x) ns
unfolding rows_of
empty_rows starts total ns i xs x h b is =
    let w = whole starts total ns i h b in
    ap (λ s. rows_of s xs) w.0 ∙ ap (λ l. rows_from 0 (ends_of 0 ns) l) is ∙ rows_same 0 total ns x (omega (arith, w.1))

-- the sizes of the rows of a box, for n states
abbrev pub sizes : ℕ → List (List ℤ) → List ℕ
sizes n cells = map (λ d. length d * n) cells

map_twice : {X Y Z : Type 0} (f : Y → Z) (g : X → Y) (xs : List X) → map f (map g xs) ≡ map (λ x. f (g x)) xs
map_twice f g [] = refl
map_twice f g (x ∷ xs) = ap (λ l. f (g x) ∷ l) (map_twice f g xs)

-- one row more
pub box_more : (n : ℕ) (starts starts' : List ℕ) (total total' : ℕ) (cells : List (List ℤ)) (k size : ℕ) (d : List ℤ) → k < length cells → size ≡ length d →
    d ≡ get_or cells ((k + 1) - 1) [] → total' ≡ total + size * n → starts' ≡ starts ++ total' ∷ [] → Begun starts total (sizes n cells) k →
    Begun starts' total' (sizes n cells) (k + 1)
box_more n starts starts' total total' cells k size d lt is_size is_d is_total is b =
    let back : (k + 1) - 1 ≡ k = omega arith in
    let here : get_or (sizes n cells) k 0 ≡ size * n =
    get_or-map (λ d. length d * n) cells k [] 0 lt ∙ ap (λ x. length x * n) (ap (λ i. get_or cells i []) (sym back) ∙ sym is_d)
    ∙ ap (λ x. x * n) (sym is_size) in
    let sum : total' ≡ total + get_or (sizes n cells) k 0 = is_total ∙ ap (λ x. total + x) (sym here) in
    subst (λ t. Begun starts' t (sizes n cells) (k + 1)) (sym sum)
    (sizes_more starts starts' total (sizes n cells) k (let l = length-map cells (λ d. length d * n) in omega (arith, l, lt))
    (is ∙ ap (λ t. starts ++ t ∷ []) sum) b)

pub box_starts : {X : Type 0} (n : ℕ) (starts : List ℕ) (total : ℕ) (cells : List (List ℤ)) (k : ℕ) (xs : List X) (x : X) → length cells ≤ k →
    Begun starts total (sizes n cells) k →
    xs ≡ replicate total x → Starts starts (length xs)
box_starts n starts total cells k xs x h b is =
    empty_starts starts total (sizes n cells) k xs x (let l = length-map cells (λ d. length d * n) in omega (arith, l, h)) b is

pub box_rows : {X : Type 0} (n : ℕ) (starts : List ℕ) (total : ℕ) (cells : List (List ℤ)) (k : ℕ) (xs : List X) (x : X) → length cells ≤ k →
    Begun starts total (sizes n cells) k →
    xs ≡ replicate total x → rows_of starts xs ≡ map (λ d. replicate (length d * n) x) cells
box_rows n starts total cells k xs x h b is =
    empty_rows starts total (sizes n cells) k xs x (let l = length-map cells (λ d. length d * n) in omega (arith, l, h)) b is
    ∙ map_twice (λ m. replicate m x) (λ d. length d * n) cells

-- the box of which a table has rows

pub only_length : (w : Option Range) (cells : List (List ℤ)) → LooksInside (length cells) w → length (only_looked w cells) ≡ length cells
only_length w cells looks = windowed_length (length cells) (looked_at w cells) w looks (looked_length w cells looks)

pub only_size : (w : Option Range) (cells : List (List ℤ)) (k size : ℕ) → LooksInside (length cells) w → 1 ≤ k → k ≤ length cells →
    size ≡ cond (is_looked w k) (length (get_or cells (k - 1) [])) 0 → size ≡ length (get_or (only_looked w cells) (k - 1) [])
only_size w cells k size looks some few is = is ∙ go (is_looked w k) refl
  where
    go : (t : Bool) → is_looked w k ≡ t → cond t (length (get_or cells (k - 1) [])) 0 ≡ length (get_or (only_looked w cells) (k - 1) [])
    go true there =
        ap length (sym (windowed_at (length cells) (looked_at w cells) k w looks (looked_length w cells looks) there ∙ looked_get cells k w [] looks there))
    go false there = ap length (sym (windowed_outside (length cells) (looked_at w cells) k w looks (looked_length w cells looks) some few there))
