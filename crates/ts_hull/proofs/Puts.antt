-- What a row has at each place into whose hulls of a state others were taken in.
use Rattle.std.proofs.Common.{◌≡◌, ℕ, zero, suc, ◌+◌, ◌*◌, ◌<◌, ◌≤◌, ◌⊎◌, inl, inr, Bool, true, false, cond, nat_eq, ℤ, List, length, get_or, set, refl, sym, ◌∙◌, ap, arith}
use Rattle.std.proofs.lemmas.Bool.{eqb-true, eqb-false}
use Rattle.std.proofs.lemmas.List.{get_or-set_other, get_or-set_same, length-set}
use Rattle.std.proofs.Math.Nat.{mul-le-mul_right}
use Rattle.ts_base.specs.declared.letter.Letter.{Letter}
use Rattle.ts_base.specs.declared.letter.Letter.TheVariants.{Less, Equal, Greater}
use Rattle.ts_automaton.specs.declared.regs.Hull.{Hull}
use Rattle.ts_automaton.specs.Body.{Move}
use Rattle.ts_hull.specs.Hulls.{none, hull_of_both}
use Rattle.ts_hull.specs.Sweeps.{step_place, puts}
use Rattle.ts_hull.proofs.HullLaws.{TakesNone}

-- places

place_row : (s j k t r : ℕ) → t < s → r < s → j * s + t ≡ k * s + r → j ≡ k
place_row s j k t r a b e = go (three j k)
  where
    three : (j k : ℕ) → (j < k) ⊎ ((j ≡ k) ⊎ (k < j))
    three j k = grind arith

    apart : (j k t r : ℕ) → t < s → j < k → j * s + t ≡ k * s + r → ⊥
    apart j k t r a lt e = let m : suc j * s ≤ k * s = mul-le-mul_right s lt in let w : suc j * s ≡ j * s + s = omega arith in omega arith

    go : (j < k) ⊎ ((j ≡ k) ⊎ (k < j)) → j ≡ k
    go (inl h) = absurd (apart j k t r a h e)
    go (inr (inl h)) = h
    go (inr (inr h)) = absurd (apart k j r t b h (sym e))

place_state : (s j t r : ℕ) → j * s + t ≡ j * s + r → t ≡ r
place_state s j t r e = omega arith

pub place_inside : (s n j t : ℕ) → j < n → t < s → j * s + t < n * s
place_inside s n j t lt h = let m : suc j * s ≤ n * s = mul-le-mul_right s lt in let w : suc j * s ≡ j * s + s = omega arith in omega arith

pub length-puts : (s r : ℕ) (order : ℕ → ℕ) (f : ℕ → Hull) (next : List Hull) (n : ℕ) → length (puts s r order f next n) ≡ length next
unfolding puts
length-puts s r order f next zero = refl
length-puts s r order f next (suc n) = length-set (puts s r order f next n) (order n * s + r) _ ∙ length-puts s r order f next n

-- a place that no step takes stays
puts_other : (s r : ℕ) (order : ℕ → ℕ) (f : ℕ → Hull) (next : List Hull) (n j t : ℕ) → t < s → r < s → ((i : ℕ) → i < n → order i ≡ j → ⊥) →
    get_or (puts s r order f next n) (j * s + t) none ≡ get_or next (j * s + t) none
unfolding puts
puts_other s r order f next zero j t a b h = refl
puts_other s r order f next (suc n) j t a b h =
    get_or-set_other (puts s r order f next n) (order n * s + r) (j * s + t) _ none (λ e. h n (omega arith) (sym (place_row s j (order n) t r a b e)))
    ∙ puts_other s r order f next n j t a b (λ i lt. h i (omega arith))

-- a place that step k takes
puts_here : (s r : ℕ) (order : ℕ → ℕ) (f : ℕ → Hull) (next : List Hull) (n k j t : ℕ) → t < s → r < s → j * s + t < length next → k < n →
    order k ≡ j → ((i : ℕ) → i < n → order i ≡ j → i ≡ k) →
    get_or (puts s r order f next n) (j * s + t) none ≡ cond (nat_eq r t) (hull_of_both (get_or next (j * s + t) none) (f j)) (get_or next (j * s + t) none)
unfolding puts
puts_here s r order f next zero k j t a b c d e h = absurd (omega arith)
puts_here s r order f next (suc n) k j t a b c d e h = go (puts_here s r order f next n k j t a b c) (last k n d)
  where
    last : (k n : ℕ) → k < suc n → (k ≡ n) ⊎ (k < n)
    last k n d = grind arith

    here : k ≡ n → (b : Bool) → nat_eq r t ≡ b →
        get_or (set (puts s r order f next n) (order n * s + r)
        (hull_of_both (get_or (puts s r order f next n) (order n * s + r) none) (f (order n)))) (j * s + t) none
        ≡ cond b (hull_of_both (get_or next (j * s + t) none) (f j)) (get_or next (j * s + t) none)
    here same true is =
        let t_is : r ≡ t = eqb-true r t is in
        let j_is : order n ≡ j = ap order (sym same) ∙ e in
        let p_is : order n * s + r ≡ j * s + t = ap (λ z. z * s + r) j_is ∙ ap (λ z. j * s + z) t_is in
        let long = length-puts s r order f next n in
        ap (λ p. get_or (set (puts s r order f next n) p (hull_of_both (get_or (puts s r order f next n) p none) (f (order n)))) (j * s + t) none) p_is
        ∙ get_or-set_same (puts s r order f next n) (j * s + t) _ none (omega arith)
        ∙ ap (λ z. hull_of_both z (f (order n))) (puts_other s r order f next n j t a b (λ i l q. (let z : i ≡ k = h i (omega arith) q in omega arith)))
        ∙ ap (λ z. hull_of_both (get_or next (j * s + t) none) (f z)) j_is
    here same false is =
        let j_is : order n ≡ j = ap order (sym same) ∙ e in
        get_or-set_other (puts s r order f next n) (order n * s + r) (j * s + t) _ none
        (λ p. eqb-false r t is (sym (place_state s j t r (p ∙ ap (λ z. z * s + r) j_is))))
        ∙ puts_other s r order f next n j t a b (λ i l q. (let z : i ≡ k = h i (omega arith) q in omega arith))

    go : (k < n → order k ≡ j → ((i : ℕ) → i < n → order i ≡ j → i ≡ k) →
        get_or (puts s r order f next n) (j * s + t) none ≡ cond (nat_eq r t) (hull_of_both (get_or next (j * s + t) none) (f j))
        (get_or next (j * s + t) none)) →
        (k ≡ n) ⊎ (k < n) →
        get_or (set (puts s r order f next n) (order n * s + r)
        (hull_of_both (get_or (puts s r order f next n) (order n * s + r) none) (f (order n)))) (j * s + t) none
        ≡ cond (nat_eq r t) (hull_of_both (get_or next (j * s + t) none) (f j)) (get_or next (j * s + t) none)
    go again (inl same) = here same (nat_eq r t) refl
    go again (inr lt) =
        get_or-set_other (puts s r order f next n) (order n * s + r) (j * s + t) _ none
        (λ p. (let z : n ≡ k = h n (omega arith) (sym (place_row s j (order n) t r a b p)) in omega arith))
        ∙ again lt e (λ i l. h i (omega arith))

-- the order of a letter takes each place once

place_place : (l : Letter) (n j : ℕ) → j < n → step_place l n (step_place l n j) ≡ j
place_place Less n j h = refl
place_place Equal n j h = refl
place_place Greater n j h = omega arith

pub place_below : (l : Letter) (n j : ℕ) → j < n → step_place l n j < n
place_below Less n j h = h
place_below Equal n j h = h
place_below Greater n j h = omega arith

place_once : (l : Letter) (n j i : ℕ) → j < n → i < n → step_place l n i ≡ j → i ≡ step_place l n j
place_once Less n j i h k e = e
place_once Equal n j i h k e = e
place_once Greater n j i h k e = omega arith

chosen : (b : Bool) (x e : Hull) → TakesNone x → cond b (hull_of_both x e) x ≡ hull_of_both x (cond b e none)
chosen true x e c = refl
chosen false x e c = sym c

pub puts_at : (m : Move) (l : Letter) (s : ℕ) (ws : List ℤ) (f : ℕ → Hull) (next : List Hull) (j t : ℕ) → j < length ws → t < s →
    m.next < s → length next ≡ length ws * s → (x : Hull) → get_or next (j * s + t) none ≡ x → TakesNone x →
    get_or (puts s m.next (step_place l (length ws)) f next (length ws)) (j * s + t) none ≡ hull_of_both x (cond (nat_eq m.next t) (f j) none)
puts_at m l s ws f next j t lt a b long x is c =
    let n = length ws in
    let inside : j * s + t < length next = let p = place_inside s n j t lt a in omega arith in
    puts_here s m.next (step_place l n) f next n (step_place l n j) j t a b inside
    (place_below l n j lt) (place_place l n j lt) (λ i h e. place_once l n j i lt h e)
    ∙ ap (λ z. cond (nat_eq m.next t) (hull_of_both z (f j)) z) is
    ∙ chosen (nat_eq m.next t) x (f j) c
