-- How sweeps make a row: move by move, each over the values in the order of its letter.
use Rattle.std.specs.Prelude.{◌≡◌, ℕ, zero, suc, ◌+◌, ◌-◌, ◌*◌, Bool, true, false, cond}
use Rattle.std.specs.Prelude.{◌||◌, ℤ, pos, List, length, get_or, set}
use Rattle.ts_base.specs.declared.letter.Letter.{Letter}
use Rattle.ts_base.specs.declared.letter.Letter.TheVariants.{Less, Equal, Greater}
use Rattle.ts_base.specs.Signature.{letter_of}
use Rattle.ts_automaton.specs.declared.regs.Hull.{Hull}
use Rattle.ts_automaton.specs.Body.{Body, Move}
use Rattle.ts_hull.specs.Hulls.{none, hull_of_both}
use Rattle.ts_hull.specs.Sealed.{after_move, move_at}

-- the hull of f 0, .., f (n - 1)
unfoldable pub total : ℕ → (ℕ → Hull) → Hull
total zero f = none
total (suc n) f = hull_of_both (total n f) (f n)

abbrev pub same_letter : Letter → Letter → Bool
same_letter Less Less = true
same_letter Less Equal = false
same_letter Less Greater = false
same_letter Equal Less = false
same_letter Equal Equal = true
same_letter Equal Greater = false
same_letter Greater Less = false
same_letter Greater Equal = false
same_letter Greater Greater = true

-- the letter of a sweep on `<`, or else on `>`
abbrev pub letter_for : Bool → Letter
letter_for true = Less
letter_for false = Greater

-- the hull at place i, state q of s
abbrev pub hull_in : ℕ → ℕ → List Hull → ℕ → Hull
hull_in s q row i = get_or row (i * s + q) none

-- what the move of state q on a letter gives from place i to the next value w, and from all places
abbrev pub pair_gives : Move → Letter → ℕ → ℕ → List ℤ → List Hull → ℤ → ℕ → Hull
pair_gives m l s q vs row w i =
    cond (same_letter (letter_of (get_or vs i (pos 0)) w) l)
    (after_move m (hull_in s q row i) (get_or vs i (pos 0)) w) none

unfoldable pub move_entry : Move → Letter → ℕ → ℕ → List ℤ → List Hull → ℤ → Hull
move_entry m l s q vs row w = total (length vs) (λ i. pair_gives m l s q vs row w i)

-- the place of n values that comes at step k, in the order of a letter: from the top for `>`, else from the first
abbrev pub step_place : Letter → ℕ → ℕ → ℕ
step_place Less n k = k
step_place Equal n k = k
step_place Greater n k = n - suc k

-- h is taken in at a place
abbrev pub with_hull_at : List Hull → ℕ → Hull → List Hull
with_hull_at next p h = set next p (hull_of_both (get_or next p none) h)

-- a hull for each of the first n places in an order is taken in, at state r of s
unfoldable pub puts : ℕ → ℕ → (ℕ → ℕ) → (ℕ → Hull) → List Hull → ℕ → List Hull
puts s r order f next zero = next
puts s r order f next (suc n) = with_hull_at (puts s r order f next n) (order n * s + r) (f (order n))

-- a move is taken in
unfoldable pub with_move : Move → Letter → ℕ → ℕ → List ℤ → List Hull → List ℤ → List Hull → List Hull
with_move m l s q vs row ws next =
    puts s m.next (step_place l (length ws)) (λ j. move_entry m l s q vs row (get_or ws j (pos 0))) next (length ws)

-- the moves of state q, and of the first n states
unfoldable pub with_state : Body → List ℤ → List Hull → List ℤ → ℕ → List Hull → List Hull
with_state b vs row ws q next =
    with_move (move_at b q Greater) Greater (length b.states) q vs row ws
    (with_move (move_at b q Equal) Equal (length b.states) q vs row ws
    (with_move (move_at b q Less) Less (length b.states) q vs row ws next))

unfoldable pub with_states : Body → List ℤ → List Hull → List ℤ → ℕ → List Hull → List Hull
with_states b vs row ws zero next = next
with_states b vs row ws (suc n) next = with_state b vs row ws n (with_states b vs row ws n next)

-- a value compares with the next one as the letter says, or is equal where a twin is taken in too
abbrev pub compares : Letter → Bool → ℤ → ℤ → Bool
compares l twin v w =
    cond twin (same_letter (letter_of v w) l || same_letter (letter_of v w) Equal) (same_letter (letter_of v w) l)

-- each hull of the row stays as it is beside none
abbrev pub AllTakeNone : List Hull → Type 0
AllTakeNone row = (p : ℕ) → hull_of_both (get_or row p none) none ≡ get_or row p none
