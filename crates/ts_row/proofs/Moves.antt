-- A row that takes in all moves of a state, as they are planned.
use Rattle.std.proofs.Common.{◌≡◌, ℕ, Bool, true, false, ℤ, List, length, refl, sym, ap, ◌∙◌}
use Rattle.ts_base.specs.declared.letter.Letter.{Letter}
use Rattle.ts_base.specs.declared.letter.Letter.TheVariants.{Less, Equal, Greater}
use Rattle.ts_automaton.specs.declared.regs.Hull.{Hull}
use Rattle.ts_automaton.specs.Body.{Body, Move}
use Rattle.ts_hull.specs.Hulls.{hull_of_both}
use Rattle.ts_hull.specs.Sealed.{move_at}
use Rattle.ts_row.specs.declared.between.Between.{Between}
use Rattle.ts_row.specs.declared.between.On.{On}
use Rattle.ts_row.specs.Rows.{nothing, lanes_of, gives_to, seen_gives, HasTaken, IsRow}
use Rattle.ts_row.specs.Takings.{count_in, value_in, taken_to, two_taken_to}
use Rattle.ts_row.proofs.Steps.{taken_as, two_taken}
use Rattle.ts_row.proofs.Twins.{with_less, with_greater, with_neither}
use Rattle.ts_sweep.specs.declared.packed.PackedHull.{PackedHull}
use Rattle.ts_sweep.specs.Columns.{hull_at}
use Rattle.ts_sweep.specs.Sides.{seen_hull, sides}
use Rattle.ts_sweep.proofs.SeenLaws.{seen_both}

-- what is seen of what the move k of a state on a letter gives, and of what all of its moves give
abbrev pub given_to : (n : ℕ) → Between n → Move → Letter → Bool → ℤ → ℕ → Hull
given_to n t k l twin w u =
    seen_hull (sides n) (gives_to k l twin (count_in t.values.now) (value_in t.values.now) (hull_at (lanes_of n) (nothing n) t.before.now) w u)

abbrev pub all_given : (n : ℕ) → Between n → Body → ℕ → ℤ → ℕ → Hull
all_given n t b q = seen_gives n b q (count_in t.values.now) (value_in t.values.now) (hull_at (lanes_of n) (nothing n) t.before.now)

planned_gives : (n : ℕ) (t : Between n) (on : On) (m k : Move) (l : Letter) (twin : Bool) → m ≡ k → on.letter ≡ l → on.twin ≡ twin → (w : ℤ) (u : ℕ) →
    taken_to n t on m w u ≡ given_to n t k l twin w u
planned_gives n t on m k l twin move letter same w u =
    ap (λ z. given_to n t z on.letter on.twin w u) move ∙ ap (λ z. given_to n t k z on.twin w u) letter ∙ ap (λ z. given_to n t k l z w u) same

two_given : (n : ℕ) (t : Between n) (on on' : On) (m m' k k' : Move) (l l' : Letter) (twin twin' : Bool) → m ≡ k → on.letter ≡ l → on.twin ≡ twin →
    m' ≡ k' → on'.letter ≡ l' → on'.twin ≡ twin' → (w : ℤ) (u : ℕ) →
    two_taken_to n t on m on' m' w u ≡ hull_of_both (given_to n t k l twin w u) (given_to n t k' l' twin' w u)
two_given n t on on' m m' k k' l l' twin twin' move letter same move' letter' same' w u =
    ap (λ z. hull_of_both z (taken_to n t on' m' w u)) (planned_gives n t on m k l twin move letter same w u)
    ∙ ap (hull_of_both (given_to n t k l twin w u)) (planned_gives n t on' m' k' l' twin' move' letter' same' w u)

pub taken_with_less : (n s c : ℕ) (b : Body) (q : ℕ) (t : Between n) (less greater : On) (m g : Move) (x y : List (List (PackedHull n))) →
    m ≡ move_at b q Less → less.letter ≡ Less → less.twin ≡ true → g ≡ move_at b q Greater → greater.letter ≡ Greater → greater.twin ≡ false →
    move_at b q Equal ≡ move_at b q Less → HasTaken n s c (value_in t.next_values.now) (two_taken_to n t less m greater g) x y →
    HasTaken n s c (value_in t.next_values.now) (all_given n t b q) x y
taken_with_less n s c b q t less greater m g x y move letter twin move' letter' twin' same taken =
    taken_as n s c (value_in t.next_values.now) (two_taken_to n t less m greater g) (all_given n t b q) x y
    (λ w u. two_given n t less greater m g (move_at b q Less) (move_at b q Greater) Less Greater true false move letter twin move' letter' twin' w u
    ∙ sym (seen_both (sides n) _ _)
    ∙ ap (seen_hull (sides n)) (with_less b q (count_in t.values.now) (value_in t.values.now) (hull_at (lanes_of n) (nothing n) t.before.now) w u
    (move_at b q Less) (move_at b q Greater) refl refl same)) taken

pub taken_with_greater : (n s c : ℕ) (b : Body) (q : ℕ) (t : Between n) (less greater : On) (m g : Move) (x y : List (List (PackedHull n))) →
    m ≡ move_at b q Less → less.letter ≡ Less → less.twin ≡ false → g ≡ move_at b q Greater → greater.letter ≡ Greater → greater.twin ≡ true →
    move_at b q Equal ≡ move_at b q Greater → HasTaken n s c (value_in t.next_values.now) (two_taken_to n t less m greater g) x y →
    HasTaken n s c (value_in t.next_values.now) (all_given n t b q) x y
taken_with_greater n s c b q t less greater m g x y move letter twin move' letter' twin' same taken =
    taken_as n s c (value_in t.next_values.now) (two_taken_to n t less m greater g) (all_given n t b q) x y
    (λ w u. two_given n t less greater m g (move_at b q Less) (move_at b q Greater) Less Greater false true move letter twin move' letter' twin' w u
    ∙ sym (seen_both (sides n) _ _)
    ∙ ap (seen_hull (sides n)) (with_greater b q (count_in t.values.now) (value_in t.values.now) (hull_at (lanes_of n) (nothing n) t.before.now) w u
    (move_at b q Less) (move_at b q Greater) refl refl same)) taken

pub taken_each : (n s c : ℕ) (b : Body) (q : ℕ) (t : Between n) (less equal greater : On) (m e g : Move) (x y z : List (List (PackedHull n))) →
    m ≡ move_at b q Less → less.letter ≡ Less → less.twin ≡ false → e ≡ move_at b q Equal → equal.letter ≡ Equal → equal.twin ≡ false →
    g ≡ move_at b q Greater → greater.letter ≡ Greater → greater.twin ≡ false → IsRow n s c y →
    HasTaken n s c (value_in t.next_values.now) (two_taken_to n t less m equal e) x y →
    HasTaken n (length y) c (value_in t.next_values.now) (taken_to n t greater g) y z → HasTaken n s c (value_in t.next_values.now) (all_given n t b q) x z
taken_each n s c b q t less equal greater m e g x y z move letter twin move' letter' twin' move'' letter'' twin'' row two last =
    two_taken n s c (value_in t.next_values.now) (two_taken_to n t less m equal e) (taken_to n t greater g) (all_given n t b q) x y z row two last
    (λ w u. ap (λ a. hull_of_both a (taken_to n t greater g w u))
    (two_given n t less equal m e (move_at b q Less) (move_at b q Equal) Less Equal false false move letter twin move' letter' twin' w u)
    ∙ ap (hull_of_both (hull_of_both (given_to n t (move_at b q Less) Less false w u) (given_to n t (move_at b q Equal) Equal false w u)))
    (planned_gives n t greater g (move_at b q Greater) Greater false move'' letter'' twin'' w u)
    ∙ ap (λ a. hull_of_both a (given_to n t (move_at b q Greater) Greater false w u)) (sym (seen_both (sides n) _ _))
    ∙ sym (seen_both (sides n) _ _)
    ∙ ap (seen_hull (sides n)) (with_neither b q (count_in t.values.now) (value_in t.values.now) (hull_at (lanes_of n) (nothing n) t.before.now) w u
    (move_at b q Less) (move_at b q Equal) (move_at b q Greater) refl refl refl))
