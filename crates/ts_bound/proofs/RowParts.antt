-- Some places of a row, of which some are left out: the places that are shown then.
use Rattle.std.proofs.Common.{◌≡◌, ◌⊎◌, inl, inr, ℕ, min, ◌+◌, ◌-◌, ◌≤◌, List, [], ◌∷◌, ◌++◌, length, map, take, drop, refl, sym, ap, ◌∙◌, arith}
use Rattle.std.specs.List.{remove_range, slice_range}
use Rattle.std.proofs.Math.Seq.{take-nil, drop-nil, take-add, take-append-add}
use Rattle.std.proofs.lemmas.List.{append-nil, append_assoc, drop-drop, drop-take, drop_all, drop_at, length-take, take-take, take_all}
use Rattle.std.proofs.lemmas.Simd.{map-map}
use Rattle.ts_row.specs.Rows.{columns_part}
use Rattle.ts_bound.specs.declared.any_row.AnyRow.{AnyRow}
use Rattle.ts_bound.specs.declared.any_row.AnyRow.TheVariants.{Narrow, Upper, Lower, Wide}
use Rattle.ts_bound.specs.AnyRows.{columns_without, row_part, row_without}

either : (i j : ℕ) → (i ≤ j) ⊎ (j ≤ i)
either i j = grind arith

-- a list

front_and_rest : {X : Type 0} (ys : List X) (f t r : ℕ) → f ≤ t → take (f + r) (take f ys ++ drop t ys) ≡ take f ys ++ take r (drop t ys)
front_and_rest {X} ys f t r le = go (either f (length ys))
  where
    go : (f ≤ length ys) ⊎ (length ys ≤ f) → take (f + r) (take f ys ++ drop t ys) ≡ take f ys ++ take r (drop t ys)
    go (inl le') =
        let front = length-take f ys in let long : f ≡ length (take f ys) = omega (arith, front, le') in
        ap (λ n. take (n + r) (take f ys ++ drop t ys)) long ∙ take-append-add (take f ys) (drop t ys) r
    go (inr out) =
        let none : drop t ys ≡ [] = drop_all t ys (omega (arith, le, out)) in let front = length-take f ys in
        ap (λ l. take (f + r) (take f ys ++ l)) none ∙ ap (take (f + r)) (append-nil (take f ys)) ∙ take_all (f + r) (take f ys) (omega (arith, front))
        ∙ sym (ap (λ l. take f ys ++ take r l) none ∙ ap (λ l. take f ys ++ l) (take-nil {A = X} r) ∙ append-nil (take f ys))

behind : {X : Type 0} (xs : List X) (a f t : ℕ) → drop a (remove_range xs (a + f) (a + t)) ≡ remove_range (drop a xs) f t
behind {X} xs a f t = go (either a (length xs))
  where
    go : (a ≤ length xs) ⊎ (length xs ≤ a) → drop a (remove_range xs (a + f) (a + t)) ≡ remove_range (drop a xs) f t
    go (inl le') =
        let front = length-take a xs in
        ap (λ l. drop a (l ++ drop (a + t) xs)) (take-add a f xs) ∙ ap (drop a) (append_assoc (take a xs) (take f (drop a xs)) (drop (a + t) xs))
        ∙ drop_at (take a xs) (take f (drop a xs) ++ drop (a + t) xs) a (omega (arith, front, le'))
        ∙ ap (λ l. take f (drop a xs) ++ l) (sym (drop-drop t a xs))
    go (inr out) =
        let rest : drop a xs ≡ [] = drop_all a xs out in
        let none : remove_range (drop a xs) f t ≡ [] =
        ap (λ l. remove_range l f t) rest ∙ ap (λ l. l ++ drop {A = X} t []) (take-nil f) ∙ drop-nil t in
        ap (λ l. drop a (l ++ drop (a + t) xs)) (take_all (a + f) xs (omega (arith, out)))
        ∙ ap (λ l. drop a (xs ++ l)) (drop_all (a + t) xs (omega (arith, out))) ∙ ap (drop a) (append-nil xs) ∙ rest ∙ sym none

rest_of_front : {X : Type 0} (ys : List X) (n g : ℕ) → drop g (take n ys) ≡ take (n - g) (drop g ys)
rest_of_front {X} ys n g = go (either g n)
  where
    go : (g ≤ n) ⊎ (n ≤ g) → drop g (take n ys) ≡ take (n - g) (drop g ys)
    go (inl le') = let sum : n ≡ g + (n - g) = omega (arith, le') in ap (λ m. drop g (take m ys)) sum ∙ drop-take g (n - g) ys
    go (inr out) =
        let front = length-take n ys in let none : 0 ≡ n - g = omega (arith, out) in
        drop_all g (take n ys) (omega (arith, front, out)) ∙ ap (λ m. take m (drop g ys)) none

pub front_of_front : {X : Type 0} (ys : List X) (f n : ℕ) → take f (take n ys) ≡ take (min f n) ys
front_of_front {X} ys f n = go (either f n)
  where
    go : (f ≤ n) ⊎ (n ≤ f) → take f (take n ys) ≡ take (min f n) ys
    go (inl le') = let least : f ≡ min f n = omega (arith, le') in take-take f n ys le' ∙ ap (λ m. take m ys) least
    go (inr out) =
        let front = length-take n ys in let least : n ≡ min f n = omega (arith, out) in
        take_all f (take n ys) (omega (arith, front, out)) ∙ ap (λ m. take m ys) least

-- the places from a up to b of a list, without those at the front, at the back and between others

pub front_gone : {X : Type 0} (xs : List X) (a b g : ℕ) → slice_range xs (a + min g (b - a)) b ≡ remove_range (slice_range xs a b) 0 g
front_gone {X} xs a b g = go (either g (b - a))
  where
    go : (g ≤ b - a) ⊎ (b - a ≤ g) → slice_range xs (a + min g (b - a)) b ≡ remove_range (slice_range xs a b) 0 g
    go (inl le') =
        let least : min g (b - a) ≡ g = omega (arith, le') in let left : b - (a + g) ≡ b - a - g = omega arith in
        ap (λ m. slice_range xs (a + m) b) least ∙ ap (λ m. take m (drop (a + g) xs)) left ∙ ap (take (b - a - g)) (sym (drop-drop g a xs))
        ∙ sym (rest_of_front (drop a xs) (b - a) g)
    go (inr out) =
        let least : b - (a + min g (b - a)) ≡ 0 = omega (arith, out) in let none : 0 ≡ b - a - g = omega (arith, out) in
        ap (λ m. take m (drop (a + min g (b - a)) xs)) least ∙ ap (λ m. take m (drop g (drop a xs))) none ∙ sym (rest_of_front (drop a xs) (b - a) g)

pub back_gone : {X : Type 0} (xs : List X) (a b f t : ℕ) → b - a ≤ t → slice_range xs a (a + min f (b - a)) ≡ remove_range (slice_range xs a b) f t
back_gone xs a b f t le =
    let shown = take (b - a) (drop a xs) in let front = length-take (b - a) (drop a xs) in
    let count : a + min f (b - a) - a ≡ min f (b - a) = omega arith in
    ap (λ m. take m (drop a xs)) count ∙ sym (front_of_front (drop a xs) f (b - a)) ∙ sym (append-nil (take f shown))
    ∙ ap (λ l. take f shown ++ l) (sym (drop_all t shown (omega (arith, front, le))))

pub middle_gone : {X : Type 0} (xs : List X) (a b f t : ℕ) → f ≤ t → a + t ≤ b →
    slice_range (remove_range xs (a + f) (a + t)) a (b - (a + t - (a + f))) ≡ remove_range (slice_range xs a b) f t
middle_gone xs a b f t le within =
    let ys = drop a xs in let r = b - a - t in
    let count : b - (a + t - (a + f)) - a ≡ f + r = omega (arith, le, within) in
    let left : b - a - t ≡ r = omega arith in
    ap (λ m. take m (drop a (remove_range xs (a + f) (a + t)))) count ∙ ap (take (f + r)) (behind xs a f t) ∙ front_and_rest ys f t r le
    ∙ ap (λ l. l ++ take r (drop t ys)) (sym (take-take f (b - a) ys (omega (arith, le, within))))
    ∙ ap (λ l. take f (take (b - a) ys) ++ l) (sym (rest_of_front ys (b - a) t))

-- columns, and a row, without some of their places

map_alike : {X Y : Type 0} (f g : X → Y) → ((x : X) → f x ≡ g x) → (xs : List X) → map f xs ≡ map g xs
map_alike f g h [] = refl
map_alike f g h (x ∷ xs) = ap (λ y. y ∷ map f xs) (h x) ∙ ap (λ l. g x ∷ l) (map_alike f g h xs)

columns_less : {X : Type 0} (f t a b c d : ℕ) (old : List (List X)) → ((xs : List X) → slice_range xs c d ≡ remove_range (slice_range xs a b) f t) →
    columns_part c d old ≡ columns_without f t (columns_part a b old)
columns_less f t a b c d old h =
    map_alike (λ column. slice_range column c d) (λ column. remove_range (slice_range column a b) f t) h old
    ∙ sym (map-map (λ column. remove_range column f t) (λ column. slice_range column a b) old)

columns_middle : {X : Type 0} (a b f t : ℕ) (old : List (List X)) → f ≤ t → a + t ≤ b →
    columns_part a (b - (a + t - (a + f))) (columns_without (a + f) (a + t) old) ≡ columns_without f t (columns_part a b old)
columns_middle a b f t old le within =
    map-map (λ column. slice_range column a (b - (a + t - (a + f)))) (λ column. remove_range column (a + f) (a + t)) old
    ∙ map_alike (λ column. slice_range (remove_range column (a + f) (a + t)) a (b - (a + t - (a + f))))
    (λ column. remove_range (slice_range column a b) f t) (λ xs. middle_gone xs a b f t le within) old
    ∙ sym (map-map (λ column. remove_range column f t) (λ column. slice_range column a b) old)

pub row_front : (row : AnyRow) (a b g : ℕ) → row_part (a + min g (b - a)) b row ≡ row_without 0 g (row_part a b row)
row_front (Narrow row) a b g = ap Narrow (columns_less 0 g a b (a + min g (b - a)) b row (λ xs. front_gone xs a b g))
row_front (Upper row) a b g = ap Upper (columns_less 0 g a b (a + min g (b - a)) b row (λ xs. front_gone xs a b g))
row_front (Lower row) a b g = ap Lower (columns_less 0 g a b (a + min g (b - a)) b row (λ xs. front_gone xs a b g))
row_front (Wide row) a b g = ap Wide (columns_less 0 g a b (a + min g (b - a)) b row (λ xs. front_gone xs a b g))

pub row_back : (row : AnyRow) (a b f t : ℕ) → b - a ≤ t → row_part a (a + min f (b - a)) row ≡ row_without f t (row_part a b row)
row_back (Narrow row) a b f t le = ap Narrow (columns_less f t a b a (a + min f (b - a)) row (λ xs. back_gone xs a b f t le))
row_back (Upper row) a b f t le = ap Upper (columns_less f t a b a (a + min f (b - a)) row (λ xs. back_gone xs a b f t le))
row_back (Lower row) a b f t le = ap Lower (columns_less f t a b a (a + min f (b - a)) row (λ xs. back_gone xs a b f t le))
row_back (Wide row) a b f t le = ap Wide (columns_less f t a b a (a + min f (b - a)) row (λ xs. back_gone xs a b f t le))

pub row_middle : (row : AnyRow) (a b f t : ℕ) → f ≤ t → a + t ≤ b →
    row_part a (b - (a + t - (a + f))) (row_without (a + f) (a + t) row) ≡ row_without f t (row_part a b row)
row_middle (Narrow row) a b f t le within = ap Narrow (columns_middle a b f t row le within)
row_middle (Upper row) a b f t le within = ap Upper (columns_middle a b f t row le within)
row_middle (Lower row) a b f t le within = ap Lower (columns_middle a b f t row le within)
row_middle (Wide row) a b f t le within = ap Wide (columns_middle a b f t row le within)
