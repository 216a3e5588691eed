-- Rows in one list: where they begin, and what they are after one was written.
use Rattle.std.proofs.Common.{◌≡◌, ℕ, zero, suc, ◌+◌, ◌-◌, ◌<◌, ◌≤◌, List, [], ◌∷◌, ◌++◌, length, take, drop, set, get_or, slice_get, Some, refl, sym, ap, ◌∙◌, arith}
use Rattle.std.specs.Prelude.{slice_range}
use Rattle.std.proofs.lemmas.List.{take-append-le, take_all, append_assoc, length-append, drop_all, length-drop, length-take-le, drop-take, take-take}
use Rattle.std.proofs.lemmas.Option.{get_or_from_slice_get}
use Rattle.std.proofs.lemmas.List.Folds.{drop_split}
use Rattle.std.proofs.Math.Seq.{drop-append_seam, drop-append-add, take-append_seam, take-append-add}
use Rattle.ts_bound.specs.Rows.{IsRow, row_at, concat_rows, place, cut_like, written_over, refill, with_written, rows_from, rows_of, Ends, Starts}

-- the rows

pub place_rises : {X : Type 0} (t : List (List X)) (i : ℕ) → place t i ≤ place t (suc i)
unfolding place
place_rises [] i = omega arith
place_rises (r ∷ rs) zero = omega arith
place_rises (r ∷ rs) (suc i) = let h = place_rises rs i in omega (arith, h)

pub place_inside : {X : Type 0} (t : List (List X)) (i : ℕ) → place t i ≤ length (concat_rows t)
unfolding place concat_rows
place_inside [] i = omega arith
place_inside (r ∷ rs) zero = omega arith
place_inside (r ∷ rs) (suc i) = let h = place_inside rs i in let l = length-append r (concat_rows rs) in omega (arith, h, l)

place_zero : {X : Type 0} (t : List (List X)) → place t 0 ≡ 0
unfolding place
place_zero [] = refl
place_zero (r ∷ rs) = refl

pub row_got : {X : Type 0} (t : List (List X)) (i : ℕ) → i < length t → slice_get t i ≡ Some (slice_range (concat_rows t) (place t i) (place t (suc i)))
unfolding place concat_rows
row_got [] i h = absurd (omega (arith, h))
row_got (r ∷ rs) zero h =
    let none : length r + place rs 0 - 0 ≡ length r = let z = place_zero rs in omega (arith, z) in
    ap Some (sym (ap (λ n. take n (r ++ concat_rows rs)) none ∙ take-append_seam r (concat_rows rs)))
row_got (r ∷ rs) (suc i) h =
    let less : (length r + place rs (suc i)) - (length r + place rs i) ≡ place rs (suc i) - place rs i = omega arith in
    row_got rs i (omega (arith, h)) ∙ ap Some (sym (ap (λ n. take n (drop (length r + place rs i) (r ++ concat_rows rs))) less
    ∙ ap (λ l. take (place rs (suc i) - place rs i) l) (drop-append-add r (concat_rows rs) (place rs i))))

-- writing

over_first : {X : Type 0} (ws r j : List X) → length ws ≡ length r → written_over (r ++ j) 0 ws ≡ ws ++ j
over_first ws r j e = ap (λ l. ws ++ l) (ap (λ n. drop n (r ++ j)) e ∙ drop-append_seam r j)

over_later : {X : Type 0} (ws r j : List X) (p : ℕ) → written_over (r ++ j) (length r + p) ws ≡ r ++ written_over j p ws
over_later ws r j p =
    ap (λ l. l ++ (ws ++ drop (length ws) (drop (length r + p) (r ++ j)))) (take-append-add r j p) ∙
    ap (λ l. (r ++ take p j) ++ (ws ++ drop (length ws) l)) (drop-append-add r j p) ∙
    append_assoc r (take p j) (ws ++ drop (length ws) (drop p j))

pub over_row : {X : Type 0} (t : List (List X)) (i : ℕ) (ws : List X) → i < length t → length ws ≡ length (get_or t i []) →
    written_over (concat_rows t) (place t i) ws ≡ concat_rows (set t i ws)
unfolding place concat_rows
over_row [] i ws h e = absurd (omega (arith, h))
over_row (r ∷ rs) zero ws h e = over_first ws r (concat_rows rs) e
over_row (r ∷ rs) (suc i) ws h e = over_later ws r (concat_rows rs) (place rs i) ∙ ap (λ l. r ++ l) (over_row rs i ws (omega (arith, h)) e)

pub over_two : {X : Type 0} (t : List (List X)) (i : ℕ) (a b : List X) → suc i < length t → length a ≡ length (get_or t i []) →
    length b ≡ length (get_or t (suc i) []) →
    written_over (concat_rows t) (place t i) (a ++ b) ≡ concat_rows (set (set t i a) (suc i) b)
unfolding place concat_rows
over_two [] i a b h e f = absurd (omega (arith, h))
over_two (r ∷ []) zero a b h e f = absurd (omega (arith, h))
over_two (r ∷ s ∷ rs) zero a b h e f =
    let long : length (a ++ b) ≡ length (r ++ s) = length-append a b ∙ ap (λ n. n + length b) e ∙ ap (λ n. length r + n) f ∙ sym (length-append r s) in
    ap (λ l. written_over l 0 (a ++ b)) (sym (append_assoc r s (concat_rows rs))) ∙ over_first (a ++ b) (r ++ s) (concat_rows rs) long ∙
    append_assoc a b (concat_rows rs)
over_two (r ∷ rs) (suc i) a b h e f = over_later (a ++ b) r (concat_rows rs) (place rs i) ∙ ap (λ l. r ++ l) (over_two rs i a b (omega (arith, h)) e f)

-- two tables whose rows are as long
unfoldable SameLengths : {X : Type 0} → List (List X) → List (List X) → Type 0
SameLengths [] [] = Unit {0}
SameLengths [] (u ∷ us) = ⊥
SameLengths (t ∷ ts) [] = ⊥
SameLengths (t ∷ ts) (u ∷ us) = (length u ≡ length t) × SameLengths ts us

same_self : {X : Type 0} (t : List (List X)) → SameLengths t t
unfolding SameLengths
same_self [] = tt
same_self (r ∷ rs) = (refl, same_self rs)

same_set : {X : Type 0} (t u : List (List X)) (i : ℕ) (ws : List X) → SameLengths t u → length ws ≡ length (get_or t i []) → SameLengths t (set u i ws)
unfolding SameLengths
same_set [] [] i ws s e = tt
same_set [] (u ∷ us) i ws s e = absurd s
same_set (t ∷ ts) [] i ws s e = absurd s
same_set (t ∷ ts) (u ∷ us) zero ws s e = (e, s.1)
same_set (t ∷ ts) (u ∷ us) (suc i) ws s e = (s.0, same_set ts us i ws s.1 e)

same_length : {X : Type 0} (t u : List (List X)) → SameLengths t u → length (concat_rows u) ≡ length (concat_rows t)
unfolding SameLengths concat_rows
same_length [] [] s = refl
same_length [] (u ∷ us) s = absurd s
same_length (t ∷ ts) [] s = absurd s
same_length (t ∷ ts) (u ∷ us) s = let h = same_length ts us s.1 in let a = length-append u (concat_rows us) in let b = length-append t (concat_rows ts)
    in let e = s.0 in omega (arith, h, a, b, e)

cut_same : {X : Type 0} (t u : List (List X)) → SameLengths t u → cut_like t (concat_rows u) ≡ u
unfolding SameLengths concat_rows cut_like
cut_same [] [] s = refl
cut_same [] (u ∷ us) s = absurd s
cut_same (t ∷ ts) [] s = absurd s
cut_same (t ∷ ts) (u ∷ us) s =
    ap (λ n. take n (u ++ concat_rows us) ∷ cut_like ts (drop n (u ++ concat_rows us))) (sym s.0) ∙
    ap (λ l. l ∷ cut_like ts (drop (length u) (u ++ concat_rows us))) (take-append_seam u (concat_rows us)) ∙
    ap (λ l. u ∷ cut_like ts l) (drop-append_seam u (concat_rows us)) ∙ ap (λ l. u ∷ l) (cut_same ts us s.1)

refilled_same : {X : Type 0} (xs us : List X) → length us ≡ length xs → refill xs us ≡ us
refilled_same xs us e = take-append-le (length xs) us (drop (length us) xs) (omega (arith, e)) ∙ take_all (length xs) us (omega (arith, e))

written : {X : Type 0} (t u : List (List X)) (i : ℕ) (ws : List X) → SameLengths t u → written_over (concat_rows t) (place t i) ws ≡ concat_rows u →
    with_written t i ws ≡ u
unfolding with_written
written t u i ws s e = ap (λ l. cut_like t (refill (concat_rows t) l)) e ∙ ap (cut_like t) (refilled_same (concat_rows t) (concat_rows u) (same_length t u s))
    ∙ cut_same t u s

-- a row that is as long stands in its place, and every other row stays
pub row_written : {X : Type 0} (t : List (List X)) (i : ℕ) (ws : List X) → i < length t → length ws ≡ length (get_or t i []) →
    with_written t i ws ≡ set t i ws
row_written t i ws h e = written t (set t i ws) i ws (same_set t t i ws (same_self t) e) (over_row t i ws h e)

-- two rows that are as long, one after the other, stand in their places, and every other row stays
pub two_written : {X : Type 0} (t : List (List X)) (i : ℕ) (a b : List X) → suc i < length t → length a ≡ length (get_or t i []) →
    length b ≡ length (get_or t (suc i) []) →
    with_written t i (a ++ b) ≡ set (set t i a) (suc i) b
two_written t i a b h e f =
    written t (set (set t i a) (suc i) b) i (a ++ b) (same_set t (set t i a) (suc i) b (same_set t t i a (same_self t) e) f) (over_two t i a b h e f)

-- the rows of cells k and k + 1, written as one, stand in their places
pub rows_written : {X : Type 0} (t : List (List X)) (k : ℕ) (a b : List X) → 1 ≤ k → k + 1 ≤ length t → length a ≡ length (row_at k t) →
    length b ≡ length (row_at (k + 1) t) → with_written t (k - 1) (a ++ b) ≡ set (set t (k - 1) a) k b
rows_written t k a b some few e f =
    let back : suc (k - 1) ≡ k = omega (arith, some) in let on : (k + 1) - 1 ≡ suc (k - 1) = omega (arith, some) in
    two_written t (k - 1) a b (omega (arith, some, few)) e (f ∙ ap (λ i. length (get_or t i [])) on) ∙ ap (λ i. set (set t (k - 1) a) i b) back

-- the vector and the starts

length-from : {X : Type 0} (from : ℕ) (ends : List ℕ) (xs : List X) → length (rows_from from ends xs) ≡ length ends
unfolding rows_from
length-from from [] xs = refl
length-from from (to ∷ ends) xs = ap suc (length-from to ends xs)

pub length-rows : {X : Type 0} (ss : List ℕ) (xs : List X) → Starts ss (length xs) → length ss ≡ suc (length (rows_of ss xs))
unfolding rows_of Starts
length-rows [] xs h = absurd h
length-rows (from ∷ ends) xs h = ap suc (sym (length-from from ends xs))

in_order : (from : ℕ) (ends : List ℕ) (n : ℕ) → Ends from ends n → from ≤ n
unfolding Ends
in_order from [] n h = omega (arith, h)
in_order from (to ∷ ends) n h = let rest = in_order to ends n h.1 in let here = h.0 in omega (arith, rest, here)

length-range : {X : Type 0} (xs : List X) (from to : ℕ) → from ≤ to → to ≤ length xs → length (slice_range xs from to) ≡ to - from
length-range xs from to h k = let l = length-drop from xs in length-take-le (to - from) (drop from xs) (omega (arith, l, h, k))

joined_from : {X : Type 0} (from : ℕ) (ends : List ℕ) (xs : List X) → Ends from ends (length xs) → concat_rows (rows_from from ends xs) ≡ drop from xs
unfolding concat_rows rows_from Ends
joined_from from [] xs h = sym (drop_all from xs (omega (arith, h)))
joined_from from (to ∷ ends) xs h = ap (λ l. slice_range xs from to ++ l) (joined_from to ends xs h.1) ∙ sym (drop_split xs from to h.0)

pub joined_rows : {X : Type 0} (ss : List ℕ) (xs : List X) → Starts ss (length xs) → concat_rows (rows_of ss xs) ≡ xs
unfolding rows_of Starts
joined_rows [] xs h = absurd h
joined_rows (from ∷ ends) xs h = joined_from from ends xs h.1 ∙ ap (λ n. drop n xs) h.0

place_from : {X : Type 0} (from : ℕ) (ends : List ℕ) (xs : List X) (i d : ℕ) → Ends from ends (length xs) → i < length (from ∷ ends) →
    from + place (rows_from from ends xs) i ≡ get_or (from ∷ ends) i d
unfolding place rows_from Ends
place_from from [] xs zero d h lt = omega arith
place_from from [] xs (suc i) d h lt = absurd (omega (arith, lt))
place_from from (to ∷ ends) xs zero d h lt = omega arith
place_from from (to ∷ ends) xs (suc i) d h lt =
    let rest = place_from to ends xs i d h.1 (omega (arith, lt)) in
    let inside = in_order to ends (length xs) h.1 in let here = h.0 in
    let l = length-range xs from to here inside in
    let sum : from + (length (slice_range xs from to) + place (rows_from to ends xs) i) ≡ to + place (rows_from to ends xs) i = omega (arith, l, here) in
    sum ∙ rest

pub place_is : {X : Type 0} (ss : List ℕ) (xs : List X) (i d : ℕ) → Starts ss (length xs) → i < length ss → place (rows_of ss xs) i ≡ get_or ss i d
unfolding rows_of Starts
place_is [] xs i d h lt = absurd h
place_is (from ∷ ends) xs i d h lt = let e = place_from from ends xs i d h.1 lt in let z = h.0 in let f : place (rows_from from ends xs) i ≡ from +
    place (rows_from from ends xs) i = omega (arith, z) in f ∙ e

drop_drop : {X : Type 0} (xs : List X) (from to : ℕ) → from ≤ to → drop (to - from) (drop from xs) ≡ drop to xs
drop_drop xs zero to h = let e : to - 0 ≡ to = omega arith in ap (λ n. drop n xs) e
drop_drop [] (suc from) zero h = absurd (omega (arith, h))
drop_drop [] (suc from) (suc to) h = drop_all (suc to - suc from) [] (omega arith)
drop_drop (x ∷ xs) (suc from) zero h = absurd (omega (arith, h))
drop_drop (x ∷ xs) (suc from) (suc to) h = let e : suc to - suc from ≡ to - from = omega arith in ap (λ n. drop n (drop from xs)) e
    ∙ drop_drop xs from to (omega (arith, h))

cut_from : {X : Type 0} (from : ℕ) (ends : List ℕ) (xs ys : List X) → Ends from ends (length xs) →
    cut_like (rows_from from ends xs) (drop from ys) ≡ rows_from from ends ys
unfolding cut_like rows_from Ends
cut_from from [] xs ys h = refl
cut_from from (to ∷ ends) xs ys h =
    let l = length-range xs from to h.0 (in_order to ends (length xs) h.1) in
    ap (λ n. take n (drop from ys) ∷ cut_like (rows_from to ends xs) (drop n (drop from ys))) l ∙
    ap (λ m. slice_range ys from to ∷ cut_like (rows_from to ends xs) m) (drop_drop ys from to h.0)
    ∙ ap (λ m. slice_range ys from to ∷ m) (cut_from to ends xs ys h.1)

pub cut_rows : {X : Type 0} (ss : List ℕ) (xs ys : List X) → Starts ss (length xs) → cut_like (rows_of ss xs) ys ≡ rows_of ss ys
unfolding rows_of Starts
cut_rows [] xs ys h = absurd h
cut_rows (from ∷ ends) xs ys h = ap (λ n. cut_like (rows_from from ends xs) (drop n ys)) (sym h.0) ∙ cut_from from ends xs ys h.1

pub start_below : {X : Type 0} (ss : List ℕ) (xs : List X) (v : List (List X)) (i n : ℕ) → Starts ss (length xs) → rows_of ss xs ≡ v → i ≤ length v →
    n ≡ length ss → i < n
start_below ss xs v i n h e le is = let l = length-rows ss xs h in let m = ap length e in omega (arith, l, m, le, is)

pub start_is : {X : Type 0} (ss : List ℕ) (xs : List X) (v : List (List X)) (i r : ℕ) → Starts ss (length xs) → rows_of ss xs ≡ v → i ≤ length v →
    r ≡ get_or ss i r → r ≡ place v i
start_is ss xs v i r h e le is = is ∙ sym (place_is ss xs i r h (start_below ss xs v i _ h e le refl)) ∙ ap (λ t. place t i) e

-- the bounds of row i
pub bounds_rise : {X : Type 0} (v : List (List X)) (k p q : ℕ) → 1 ≤ k → p ≡ place v (k - 1) → q ≡ place v k → p ≤ q
bounds_rise v k p q h is_p is_q =
    let up = place_rises v (k - 1) in let e : suc (k - 1) ≡ k = omega (arith, h) in let f = ap (place v) e in omega (arith, up, f, is_p, is_q)

pub bounds_inside : {X : Type 0} (ss : List ℕ) (xs : List X) (v : List (List X)) (k q n : ℕ) → Starts ss (length xs) → rows_of ss xs ≡ v →
    q ≡ place v k → n ≡ length xs → q ≤ n
bounds_inside ss xs v k q n h e is_q is_n =
    let in_all = place_inside v k in
    let all = ap (λ t. length (concat_rows t)) (sym e) ∙ ap length (joined_rows ss xs h) in omega (arith, in_all, all, is_q, is_n)

pub row_is : {X : Type 0} (ss : List ℕ) (xs ys : List X) (v : List (List X)) (k p q : ℕ) → Starts ss (length xs) → rows_of ss xs ≡ v → 1 ≤ k →
    k ≤ length v → p ≡ place v (k - 1) → q ≡ place v k →
    ys ≡ slice_range xs p q → slice_get v (k - 1) ≡ Some ys
row_is ss xs ys v k p q h e first last is_p is_q is =
    let back : suc (k - 1) ≡ k = omega (arith, first) in
    row_got v (k - 1) (omega (arith, first, last)) ∙
    ap Some (ap (λ l. slice_range l (place v (k - 1)) (place v (suc (k - 1)))) (ap concat_rows (sym e) ∙ joined_rows ss xs h) ∙
    ap (λ n. slice_range xs (place v (k - 1)) (place v n)) back ∙ ap (λ n. slice_range xs n (place v k)) (sym is_p)
    ∙ ap (λ n. slice_range xs p n) (sym is_q) ∙ sym is)

pub view_written : {X : Type 0} (ss : List ℕ) (xs : List X) (v : List (List X)) (n p i : ℕ) (ws : List X) → Starts ss (length xs) →
    rows_of ss xs ≡ v → n ≡ length xs → p ≡ place v i →
    rows_of ss (take n (written_over xs p ws ++ drop (length (written_over xs p ws)) xs)) ≡ with_written v i ws
unfolding with_written
view_written ss xs v n p i ws h e is_n is_p =
    let all = ap concat_rows (sym e) ∙ joined_rows ss xs h in
    ap (λ m. rows_of ss (take m (written_over xs p ws ++ drop (length (written_over xs p ws)) xs))) is_n
    ∙ ap (λ m. rows_of ss (refill xs (written_over xs m ws))) is_p ∙
    sym (cut_rows ss xs (refill xs (written_over xs (place v i) ws)) h) ∙ ap (λ t. cut_like t (refill xs (written_over xs (place v i) ws))) e ∙
    ap (λ l. cut_like v (refill l (written_over l (place v i) ws))) (sym all)

pub bounds_rise_two : {X : Type 0} (v : List (List X)) (k p q : ℕ) → 1 ≤ k → p ≡ place v (k - 1) → q ≡ place v (k + 1) → p ≤ q
bounds_rise_two v k p q h is_p is_q =
    let up = bounds_rise v k (place v (k - 1)) (place v k) h refl refl in let more = place_rises v k in
    let f = ap (place v) (let e : k + 1 ≡ suc k = omega arith in e) in omega (arith, up, more, f, is_p, is_q)

pub both_are : {X : Type 0} (ss : List ℕ) (xs ys : List X) (v : List (List X)) (p q p' q' : ℕ) → Starts ss (length xs) → rows_of ss xs ≡ v → p ≡ p' →
    q ≡ q' → ys ≡ slice_range xs p q → ys ≡ slice_range (concat_rows v) p' q'
both_are ss xs ys v p q p' q' h e is_p is_q is =
    is ∙ ap (λ n. slice_range xs n q) is_p ∙ ap (λ n. slice_range xs p' n) is_q
    ∙ ap (λ l. slice_range l p' q') (sym (ap concat_rows (sym e) ∙ joined_rows ss xs h))

-- the first of two rows ends inside them
pub cut_inside : {X : Type 0} (v : List (List X)) (k n : ℕ) (r : List X) → 1 ≤ k → place v (k - 1) + n ≡ place v k →
    r ≡ slice_range (concat_rows v) (place v (k - 1)) (place v (k + 1)) → n ≤ length r
cut_inside v k n r first wide is =
    let l = ap length is ∙ length-range (concat_rows v) (place v (k - 1)) (place v (k + 1))
    (bounds_rise_two v k _ _ first refl refl) (place_inside v (k + 1)) in
    let more = place_rises v k in let e : suc k ≡ k + 1 = omega arith in let f = ap (place v) e in omega (arith, l, wide, more, f)

pub first_row : {X : Type 0} (v : List (List X)) (k n : ℕ) (r a : List X) → 1 ≤ k → k + 1 ≤ length v → place v (k - 1) + n ≡ place v k →
    r ≡ slice_range (concat_rows v) (place v (k - 1)) (place v (k + 1)) → a ≡ take n r → slice_get v (k - 1) ≡ Some a
first_row v k n r a first last wide is_r is_a =
    let e : suc (k - 1) ≡ k = omega (arith, first) in let f : place v (suc (k - 1)) - place v (k - 1) ≡ n = let g = ap (place v) e in omega
    (arith, g, wide) in
    let more = place_rises v k in let e' : suc k ≡ k + 1 = omega arith in let f' = ap (place v) e' in
    row_got v (k - 1) (omega (arith, first, last)) ∙ ap Some (ap (λ m. take m (drop (place v (k - 1)) (concat_rows v))) f ∙
    sym (is_a ∙ ap (take n) is_r ∙ take-take n (place v (k + 1) - place v (k - 1)) (drop (place v (k - 1)) (concat_rows v)) (omega (arith, wide, more, f'))))

pub second_row : {X : Type 0} (v : List (List X)) (k n : ℕ) (r a : List X) → 1 ≤ k → k + 1 ≤ length v → place v (k - 1) + n ≡ place v k →
    r ≡ slice_range (concat_rows v) (place v (k - 1)) (place v (k + 1)) → a ≡ drop n r → slice_get v k ≡ Some a
second_row v k n r a first last wide is_r is_a =
    let e : suc k ≡ k + 1 = omega arith in let f = ap (place v) e in
    let D = drop (place v (k - 1)) (concat_rows v) in let left = place v (suc k) - place v k in
    let m : n ≡ place v k - place v (k - 1) = omega (arith, wide) in
    let more = place_rises v k in
    let all : place v (k + 1) - place v (k - 1) ≡ n + left = omega (arith, wide, f, more) in
    row_got v k (omega (arith, last)) ∙ ap Some (sym (is_a ∙ ap (drop n) is_r ∙ ap (λ w. drop n (take w D)) all ∙ drop-take n left D ∙
    ap (λ t. take left (drop t D)) m ∙ ap (take left) (drop_drop (concat_rows v) (place v (k - 1)) (place v k) (omega (arith, wide)))))

-- the row of cell k, and that of cell k + 1, out of what was lent as one
pub row_before : {X : Type 0} (v : List (List X)) (k n : ℕ) (r a : List X) → 1 ≤ k → k + 1 ≤ length v → place v (k - 1) + n ≡ place v k →
    r ≡ slice_range (concat_rows v) (place v (k - 1)) (place v (k + 1)) →
    a ≡ take n r → get_or v (k - 1) [] ≡ a
row_before v k n r a first last wide is_r is_a = get_or_from_slice_get v (k - 1) a [] (first_row v k n r a first last wide is_r is_a)

pub row_after : {X : Type 0} (v : List (List X)) (k n : ℕ) (r b : List X) → 1 ≤ k → k + 1 ≤ length v → place v (k - 1) + n ≡ place v k →
    r ≡ slice_range (concat_rows v) (place v (k - 1)) (place v (k + 1)) →
    b ≡ drop n r → get_or v k [] ≡ b
row_after v k n r b first last wide is_r is_b = get_or_from_slice_get v k b [] (second_row v k n r b first last wide is_r is_b)

-- the end of one row, and of two, from where their first begins
pub one_row : {X : Type 0} (v : List (List X)) (k q : ℕ) → 1 ≤ k → q ≡ place v (k - 1 + 1) → q ≡ place v k
one_row v k q h is = is ∙ ap (place v) (let e : k - 1 + 1 ≡ k = omega (arith, h) in e)

pub two_rows : {X : Type 0} (v : List (List X)) (k q : ℕ) → 1 ≤ k → q ≡ place v (k - 1 + 2) → q ≡ place v (k + 1)
two_rows v k q h is = is ∙ ap (place v) (let e : k - 1 + 2 ≡ k + 1 = omega (arith, h) in e)

-- what was lent is the row
pub row_read : {X : Type 0} (ss : List ℕ) (xs ys : List X) (v : List (List X)) (k p q : ℕ) → Starts ss (length xs) → rows_of ss xs ≡ v → IsRow k v →
    p ≡ place v (k - 1) →
    q ≡ place v k → ys ≡ slice_range xs p q → ys ≡ row_at k v
row_read ss xs ys v k p q h e row is_p is_q is = sym (get_or_from_slice_get v (k - 1) ys [] (row_is ss xs ys v k p q h e row.0 row.1 is_p is_q is))

pub row_after_at : {X : Type 0} (v : List (List X)) (k n : ℕ) (r b : List X) → 1 ≤ k → k + 1 ≤ length v → place v (k - 1) + n ≡ place v k →
    r ≡ slice_range (concat_rows v) (place v (k - 1)) (place v (k + 1)) → b ≡ drop n r → row_at (k + 1) v ≡ b
row_after_at v k n r b first last wide is_r is_b =
    ap (λ i. get_or v i []) (let e : k + 1 - 1 ≡ k = omega arith in e) ∙ row_after v k n r b first last wide is_r is_b
