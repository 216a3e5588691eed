-- What the moves of a state give, where the one on `=` is taken in with another.
use Rattle.std.proofs.Common.{◌≡◌, ℕ, true, false, cond, ◌||◌, nat_eq, ℤ, refl, sym, ap, ◌∙◌}
use Rattle.ts_base.specs.declared.letter.Letter.{Letter}
use Rattle.ts_base.specs.declared.letter.Letter.TheVariants.{Less, Equal, Greater}
use Rattle.ts_base.specs.Signature.{letter_of}
use Rattle.ts_automaton.specs.declared.regs.Hull.{Hull}
use Rattle.ts_automaton.specs.Body.{Body, Move}
use Rattle.ts_hull.specs.Hulls.{none, hull_of_both}
use Rattle.ts_hull.specs.Sealed.{after_move, move_at}
use Rattle.ts_hull.specs.Sweeps.{same_letter}
use Rattle.ts_hull.proofs.HullLaws.{none_takes_none}
use Rattle.ts_hull.proofs.SpanHulls.{both_comm, both_assoc}
use Rattle.ts_hull.proofs.Sums.{total_same, total_join, total_canon}
use Rattle.ts_sweep.specs.Columns.{gives}
use Rattle.ts_row.specs.Rows.{gives_to, state_gives}

-- one place, where a value is equal or compares as the letter says
twin_gives : (x l : Letter) (g : Hull) → same_letter l Equal ≡ false →
    hull_of_both (cond (same_letter x l) g none) (cond (same_letter x Equal) g none)
    ≡ hull_of_both (cond (same_letter x l || same_letter x Equal) g none) none
twin_gives Less Less g u = refl
twin_gives Less Greater g u = refl
twin_gives Equal Less g u = both_comm none g
twin_gives Equal Greater g u = both_comm none g
twin_gives Greater Less g u = refl
twin_gives Greater Greater g u = refl
twin_gives x Equal g u = cc

twin_is : (m : Move) (l : Letter) (n : ℕ) (v : ℕ → ℤ) (h : ℕ → Hull) (w : ℤ) → same_letter l Equal ≡ false →
    gives m l true n v h w ≡ hull_of_both (gives m l false n v h w) (gives m Equal false n v h w)
unfolding gives
twin_is m l n v h w u =
    let g : ℕ → Hull = λ i. after_move m (h i) (v i) w in
    let x : ℕ → Letter = λ i. letter_of (v i) w in
    sym (total_canon n (λ i. cond (same_letter (x i) l || same_letter (x i) Equal) (g i) none))
    ∙ total_same n (λ i. hull_of_both (cond (same_letter (x i) l || same_letter (x i) Equal) (g i) none) none)
    (λ i. hull_of_both (cond (same_letter (x i) l) (g i) none) (cond (same_letter (x i) Equal) (g i) none))
    (λ i lt. sym (twin_gives (x i) l (g i) u))
    ∙ total_join n (λ i. cond (same_letter (x i) l) (g i) none) (λ i. cond (same_letter (x i) Equal) (g i) none)

-- what a move with a twin gives to a state
pub twin_to : (m : Move) (l : Letter) (n : ℕ) (v : ℕ → ℤ) (h : ℕ → Hull) (w : ℤ) (t : ℕ) → same_letter l Equal ≡ false →
    gives_to m l true n v h w t ≡ hull_of_both (gives_to m l false n v h w t) (gives_to m Equal false n v h w t)
twin_to m l n v h w t u =
    elim (nat_eq m.next t) as (λ b. cond b (gives m l true n v h w) none
    ≡ hull_of_both (cond b (gives m l false n v h w) none) (cond b (gives m Equal false n v h w) none)) [
      | true ↦ twin_is m l n v h w u
      | false ↦ sym none_takes_none
    ]

-- what all moves of a state give, by who takes in the equal values
pub with_less : (b : Body) (q n : ℕ) (v : ℕ → ℤ) (h : ℕ → Hull) (w : ℤ) (t : ℕ) (less greater : Move) → less ≡ move_at b q Less →
    greater ≡ move_at b q Greater → move_at b q Equal ≡ move_at b q Less →
    hull_of_both (gives_to less Less true n v h w t) (gives_to greater Greater false n v h w t) ≡ state_gives b q n v h w t
unfolding state_gives
with_less b q n v h w t less greater e f same =
    ap (λ z. hull_of_both z (gives_to greater Greater false n v h w t)) (twin_to less Less n v h w t refl)
    ∙ ap (λ k. hull_of_both (hull_of_both (gives_to k Less false n v h w t) (gives_to k Equal false n v h w t)) (gives_to greater Greater false n v h w t)) e
    ∙ ap (λ k. hull_of_both (hull_of_both (gives_to (move_at b q Less) Less false n v h w t) (gives_to k Equal false n v h w t))
    (gives_to greater Greater false n v h w t)) (sym same)
    ∙ ap (λ k. hull_of_both (hull_of_both (gives_to (move_at b q Less) Less false n v h w t) (gives_to (move_at b q Equal) Equal false n v h w t))
    (gives_to k Greater false n v h w t)) f

pub with_greater : (b : Body) (q n : ℕ) (v : ℕ → ℤ) (h : ℕ → Hull) (w : ℤ) (t : ℕ) (less greater : Move) → less ≡ move_at b q Less →
    greater ≡ move_at b q Greater → move_at b q Equal ≡ move_at b q Greater →
    hull_of_both (gives_to less Less false n v h w t) (gives_to greater Greater true n v h w t) ≡ state_gives b q n v h w t
unfolding state_gives
with_greater b q n v h w t less greater e f same =
    let a = gives_to less Less false n v h w t in
    ap (hull_of_both a)
    (twin_to greater Greater n v h w t refl ∙ both_comm (gives_to greater Greater false n v h w t) (gives_to greater Equal false n v h w t))
    ∙ sym (both_assoc a (gives_to greater Equal false n v h w t) (gives_to greater Greater false n v h w t))
    ∙ ap (λ k. hull_of_both (hull_of_both a (gives_to k Equal false n v h w t)) (gives_to k Greater false n v h w t)) f
    ∙ ap (λ k. hull_of_both (hull_of_both a (gives_to k Equal false n v h w t)) (gives_to (move_at b q Greater) Greater false n v h w t)) (sym same)
    ∙ ap (λ k. hull_of_both (hull_of_both (gives_to k Less false n v h w t) (gives_to (move_at b q Equal) Equal false n v h w t))
    (gives_to (move_at b q Greater) Greater false n v h w t)) e

pub with_neither : (b : Body) (q n : ℕ) (v : ℕ → ℤ) (h : ℕ → Hull) (w : ℤ) (t : ℕ) (less equal greater : Move) → less ≡ move_at b q Less →
    equal ≡ move_at b q Equal → greater ≡ move_at b q Greater →
    hull_of_both (hull_of_both (gives_to less Less false n v h w t) (gives_to equal Equal false n v h w t)) (gives_to greater Greater false n v h w t)
    ≡ state_gives b q n v h w t
unfolding state_gives
with_neither b q n v h w t less equal greater e f k =
    ap (λ m. hull_of_both (hull_of_both (gives_to m Less false n v h w t) (gives_to equal Equal false n v h w t)) (gives_to greater Greater false n v h w t)) e
    ∙ ap (λ m. hull_of_both (hull_of_both (gives_to (move_at b q Less) Less false n v h w t) (gives_to m Equal false n v h w t))
    (gives_to greater Greater false n v h w t)) f
    ∙ ap (λ m. hull_of_both (hull_of_both (gives_to (move_at b q Less) Less false n v h w t) (gives_to (move_at b q Equal) Equal false n v h w t))
    (gives_to m Greater false n v h w t)) k
