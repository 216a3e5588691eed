-- A move taken in, hull by hull.
use Rattle.std.proofs.Common.{◌≡◌, ℕ, zero, suc, ◌+◌, ◌*◌, ◌<◌, false, cond, ℤ, pos, List, [], ◌∷◌, length, get_or, set, replicate, refl, sym, ◌∙◌, ap, subst, arith}
use Rattle.ts_base.specs.declared.letter.Letter.{Letter}
use Rattle.ts_automaton.specs.declared.regs.Hull.{Hull}
use Rattle.ts_automaton.specs.Body.{Move}
use Rattle.ts_hull.specs.Hulls.{none, hull_of_both}
use Rattle.ts_hull.specs.Sealed.{after_move}
use Rattle.ts_hull.specs.Sweeps.{AllTakeNone, compares, hull_in, total, pair_gives, move_entry, step_place, puts, with_move}
use Rattle.ts_hull.proofs.HullLaws.{TakesNone, both_takes_none, none_takes_none}

-- each hull of a row that was filled with none is none
pub all_none : (n : ℕ) (h : Hull) (row : List Hull) → row ≡ replicate n h → h ≡ none → (p : ℕ) → get_or row p none ≡ none
all_none n h row is e p = ap (λ r. get_or r p none) (is ∙ ap (replicate n) e) ∙ go n p
  where
    go : (n p : ℕ) → get_or (replicate n none) p none ≡ none
    go zero p = refl
    go (suc n) zero = refl
    go (suc n) (suc p) = go n p

-- each hull stays as it is beside none

set_canonical : (xs : List Hull) (q : ℕ) (v : Hull) → AllTakeNone xs → TakesNone v → AllTakeNone (set xs q v)
set_canonical [] q v h c p = none_takes_none
set_canonical (x ∷ xs) zero v h c zero = c
set_canonical (x ∷ xs) zero v h c (suc p) = h (suc p)
set_canonical (x ∷ xs) (suc q) v h c zero = h 0
set_canonical (x ∷ xs) (suc q) v h c (suc p) = set_canonical xs q v (λ n. h (suc n)) c p

puts_canonical : (s r : ℕ) (order : ℕ → ℕ) (f : ℕ → Hull) (next : List Hull) (n : ℕ) → AllTakeNone next → AllTakeNone (puts s r order f next n)
unfolding puts
puts_canonical s r order f next zero h = h
puts_canonical s r order f next (suc n) h =
    set_canonical (puts s r order f next n) (order n * s + r) (hull_of_both (get_or (puts s r order f next n) (order n * s + r) none) (f (order n)))
    (puts_canonical s r order f next n h)
    (both_takes_none (get_or (puts s r order f next n) (order n * s + r) none) (f (order n)))

pub with_move_canonical : (m : Move) (l : Letter) (s q : ℕ) (vs : List ℤ) (row : List Hull) (ws : List ℤ) (next next' : List Hull) →
    next' ≡ with_move m l s q vs row ws next → AllTakeNone next → AllTakeNone next'
unfolding with_move
with_move_canonical m l s q vs row ws next next' e h =
    subst (λ (z : List Hull). AllTakeNone z) (sym e) (puts_canonical s m.next (step_place l (length ws))
    (λ j. move_entry m l s q vs row (get_or ws j (pos 0))) next (length ws) h)

-- by pairs: what is given to a next value

pub entry_begun : (m : Move) (l : Letter) (s q : ℕ) (vs : List ℤ) (row : List Hull) (w : ℤ) (h : Hull) → h ≡ none →
    h ≡ total 0 (pair_gives m l s q vs row w)
unfolding total
entry_begun m l s q vs row w h e = e

pub entry_more : (m : Move) (l : Letter) (s q : ℕ) (vs : List ℤ) (row : List Hull) (w : ℤ) (i : ℕ) (h g h' : Hull) → h ≡ total i (pair_gives m l s q vs row w) →
    g ≡ pair_gives m l s q vs row w i → h' ≡ hull_of_both h g → h' ≡ total (i + 1) (pair_gives m l s q vs row w)
unfolding total
entry_more m l s q vs row w i h g h' e f step =
    let more : suc i ≡ i + 1 = omega arith in
    step ∙ ap (λ z. hull_of_both z g) e ∙ ap (hull_of_both (total i (pair_gives m l s q vs row w))) f ∙ ap (λ n. total n (pair_gives m l s q vs row w)) more

pub entry_done : (m : Move) (l : Letter) (s q : ℕ) (vs : List ℤ) (row : List Hull) (w : ℤ) (i : ℕ) (h : Hull) → i ≡ length vs →
    h ≡ total i (pair_gives m l s q vs row w) → h ≡ move_entry m l s q vs row w
unfolding move_entry
entry_done m l s q vs row w i h same e = e ∙ ap (λ n. total n (pair_gives m l s q vs row w)) same

-- what a move gives is put into the next values, one after the other

pub puts_begun : (s to : ℕ) (order : ℕ → ℕ) (f : ℕ → Hull) (first : List Hull) → first ≡ puts s to order f first 0
unfolding puts
puts_begun s to order f first = refl

pub puts_more : (s to : ℕ) (order : ℕ → ℕ) (f : ℕ → Hull) (first next next' : List Hull) (k j : ℕ) (h : Hull) → j ≡ order k →
    next ≡ puts s to order f first k → h ≡ f j →
    next' ≡ set next (j * s + to) (hull_of_both (get_or next (j * s + to) none) h) → next' ≡ puts s to order f first (k + 1)
unfolding puts
puts_more s to order f first next next' k j h is inv e step =
    let more : k + 1 ≡ suc k = omega arith in
    step ∙ ap (λ z. set next (j * s + to) (hull_of_both (get_or next (j * s + to) none) z)) e
    ∙ ap (λ z. set z (j * s + to) (hull_of_both (get_or z (j * s + to) none) (f j))) inv
    ∙ ap (λ n. set (puts s to order f first k) (n * s + to) (hull_of_both (get_or (puts s to order f first k) (n * s + to) none) (f n))) is
    ∙ sym (ap (puts s to order f first) more)

-- one more next value takes in a move, with the number of states as the code has it
pub puts_more_as : (m : Move) (l : Letter) (s s' q : ℕ) (vs : List ℤ) (row : List Hull) (ws : List ℤ) (first next next' : List Hull) (k j : ℕ) (h : Hull) →
    s' ≡ s → j ≡ step_place l (length ws) k → h ≡ move_entry m l s q vs row (get_or ws j (pos 0)) →
    next ≡ puts s m.next (step_place l (length ws)) (λ j. move_entry m l s q vs row (get_or ws j (pos 0))) first k →
    next' ≡ set next (j * s' + m.next) (hull_of_both (get_or next (j * s' + m.next) none) h) →
    next' ≡ puts s m.next (step_place l (length ws)) (λ j. move_entry m l s q vs row (get_or ws j (pos 0))) first (k + 1)
puts_more_as m l s s' q vs row ws first next next' k j h is_s is e inv step =
    puts_more s m.next (step_place l (length ws)) (λ j. move_entry m l s q vs row (get_or ws j (pos 0))) first next next' k j h is inv e
    (step ∙ ap (λ z. set next (j * z + m.next) (hull_of_both (get_or next (j * z + m.next) none) h)) is_s)

pub puts_done : (m : Move) (l : Letter) (s q : ℕ) (vs : List ℤ) (row : List Hull) (ws : List ℤ) (first next : List Hull) (k : ℕ) → k ≡ length ws →
    next ≡ puts s m.next (step_place l (length ws)) (λ j. move_entry m l s q vs row (get_or ws j (pos 0))) first k → next ≡ with_move m l s q vs row ws first
unfolding with_move
puts_done m l s q vs row ws first next k same e =
    e ∙ ap (puts s m.next (step_place l (length ws)) (λ j. move_entry m l s q vs row (get_or ws j (pos 0))) first) same

-- what a sweep has taken in is the move
pub swept_move : (m : Move) (l : Letter) (s t q n k : ℕ) (vs : List ℤ) (row : List Hull) (ws : List ℤ) (next next' : List Hull) → s ≡ t →
    n ≡ length vs → k ≡ length ws →
    ((g : ℕ → Hull) → ((j : ℕ) → j < k → g j ≡ total n
    (λ i. cond (compares l false (get_or vs i (pos 0)) (get_or ws j (pos 0)))
    (after_move m (hull_in s q row i) (get_or vs i (pos 0)) (get_or ws j (pos 0))) none)) →
    next' ≡ puts s m.next (step_place l k) g next k) →
    next' ≡ with_move m l t q vs row ws next
unfolding with_move move_entry
swept_move m l s t q n k vs row ws next next' is_s is_n is_k taken =
    taken (λ j. move_entry m l t q vs row (get_or ws j (pos 0)))
    (λ j lt. ap (λ z. total (length vs) (pair_gives m l z q vs row (get_or ws j (pos 0)))) (sym is_s)
    ∙ ap (λ z. total z (pair_gives m l s q vs row (get_or ws j (pos 0)))) (sym is_n))
    ∙ ap (λ z. puts z m.next (step_place l k) (λ j. move_entry m l t q vs row (get_or ws j (pos 0))) next k) is_s
    ∙ ap (λ z. puts t m.next (step_place l z) (λ j. move_entry m l t q vs row (get_or ws j (pos 0))) next z) is_k
