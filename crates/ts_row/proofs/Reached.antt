-- A state that no series reaches gives nothing.
use Rattle.std.proofs.Common.{◌≡◌, inl, inr, ℕ, ◌<◌, ◌≤◌, Bool, true, false, cond, nat_eq, ℤ, List, [], get_or, refl, sym, ap, ◌∙◌}
use Rattle.ts_base.specs.declared.letter.Letter.{Letter}
use Rattle.ts_base.specs.declared.letter.Letter.TheVariants.{Less, Equal, Greater}
use Rattle.ts_automaton.specs.declared.regs.Hull.{Hull}
use Rattle.ts_automaton.specs.Body.{Body, Move}
use Rattle.ts_automaton.proofs.Five.{none_registers}
use Rattle.ts_hull.specs.Hulls.{none, hull_of_both}
use Rattle.ts_hull.specs.Sealed.{some_hull, after_move, move_at}
use Rattle.ts_hull.specs.Sweeps.{compares}
use Rattle.ts_hull.proofs.HullLaws.{none_takes_none}
use Rattle.ts_hull.proofs.SplitLaws.{after_is}
use Rattle.ts_hull.proofs.Sums.{total_same, total_none}
use Rattle.ts_row.specs.Rows.{nothing, lanes_of, IsRow, hull_in, gives_to, seen_gives, state_gives, HasTaken}
use Rattle.ts_sweep.specs.declared.packed.PackedHull.{PackedHull}
use Rattle.ts_sweep.specs.Columns.{gives}
use Rattle.ts_sweep.specs.FrontLaws.{never_added}
use Rattle.ts_sweep.specs.Lanes.{some_lanes}
use Rattle.ts_sweep.specs.MoveLaws.{first_is}
use Rattle.ts_sweep.specs.Packed.{unpacked, IsPacked}
use Rattle.ts_sweep.specs.PackedLaws.{none_unpacked, packed_takes_none}
use Rattle.ts_sweep.specs.Sides.{lane_count, seen_hull, sides}
use Rattle.ts_sweep.proofs.SeenLaws.{none_seen}

-- a packed hull in which no registers lie
pub hull_nothing : (n : ℕ) (h : PackedHull n) → 6 ≤ lane_count n → IsPacked (lane_count n) (lanes_of n h) →
    some_lanes (lanes_of n h) ≡ false → unpacked (lanes_of n h) ≡ none
hull_nothing n h big (inl e) empty = ap unpacked e ∙ none_unpacked (lane_count n) big
hull_nothing n h big (inr p) empty = never_added (sym (first_is (lane_count n) (lanes_of n h) big p) ∙ empty)

gives_nothing : (m : Move) (l : Letter) (twin : Bool) (n : ℕ) (v : ℕ → ℤ) (h : ℕ → Hull) (w : ℤ) → ((i : ℕ) → i < n → h i ≡ none) →
    gives m l twin n v h w ≡ none
unfolding gives
gives_nothing m l twin n v h w empty =
    total_same n (λ i. cond (compares l twin (v i) w) (after_move m (h i) (v i) w) none) (λ i. none)
    (λ i lt. elim (compares l twin (v i) w) as (λ b. cond b (after_move m (h i) (v i) w) none ≡ none) [
      | true ↦ after_is m (h i) (v i) w false (ap some_hull (empty i lt) ∙ none_registers)
      | false ↦ refl
    ])
    ∙ total_none n

to_nothing : (m : Move) (l : Letter) (n : ℕ) (v : ℕ → ℤ) (h : ℕ → Hull) (w : ℤ) (t : ℕ) → ((i : ℕ) → i < n → h i ≡ none) → gives_to m l false n v h w t ≡ none
to_nothing m l n v h w t empty = elim (nat_eq m.next t) as (λ b. cond b (gives m l false n v h w) none ≡ none)
    [ true ↦ gives_nothing m l false n v h w empty | false ↦ refl ]

state_nothing : (b : Body) (q n : ℕ) (v : ℕ → ℤ) (h : ℕ → Hull) (w : ℤ) (t : ℕ) → ((i : ℕ) → i < n → h i ≡ none) → state_gives b q n v h w t ≡ none
unfolding state_gives
state_nothing b q n v h w t empty =
    ap (λ z. hull_of_both (hull_of_both z (gives_to (move_at b q Equal) Equal false n v h w t)) (gives_to (move_at b q Greater) Greater false n v h w t))
    (to_nothing (move_at b q Less) Less n v h w t empty)
    ∙ ap (λ z. hull_of_both (hull_of_both none z) (gives_to (move_at b q Greater) Greater false n v h w t))
    (to_nothing (move_at b q Equal) Equal n v h w t empty)
    ∙ ap (λ z. hull_of_both z (gives_to (move_at b q Greater) Greater false n v h w t)) none_takes_none
    ∙ ap (hull_of_both none) (to_nothing (move_at b q Greater) Greater n v h w t empty) ∙ none_takes_none

pub taken_nothing : (b : Body) (q m n : ℕ) (v : ℕ → ℤ) (h : ℕ → Hull) (s k : ℕ) (w : ℕ → ℤ) (row : List (List (PackedHull m))) → 6 ≤ lane_count m →
    IsRow m s k row → ((i : ℕ) → i < n → h i ≡ none) → HasTaken m s k w (seen_gives m b q n v h) row row
taken_nothing b q m n v h s k w row big is empty t j lt less =
    sym (packed_takes_none (lane_count m) (lanes_of m (get_or (get_or row t []) j (nothing m))) big ((is.columns t lt).1 j less))
    ∙ ap (hull_of_both (hull_in m row t j)) (sym (ap (seen_hull (sides m)) (state_nothing b q n v h (w j) t empty) ∙ none_seen (sides m)))
