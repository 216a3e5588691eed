-- A move that is taken in as an emission, by the sweep of one that makes the same where cells compare as its letter says.
use Rattle.std.proofs.Common.{◌≡◌, ℕ, Bool, true, false, List, refl, sym, ap, subst, ◌∙◌}
use Rattle.ts_base.specs.declared.letter.Letter.{Letter}
use Rattle.ts_base.specs.declared.letter.Letter.TheVariants.{Less, Greater}
use Rattle.ts_base.specs.declared.op.Op.{Op}
use Rattle.ts_base.specs.declared.op.Op.TheVariants.{Add, Max}
use Rattle.ts_automaton.specs.declared.expr.Atom.TheVariants.{R, This}
use Rattle.ts_automaton.specs.declared.expr.Operator.{Operator}
use Rattle.ts_automaton.specs.declared.expr.Operator.TheVariants.{Fold, Sub}
use Rattle.ts_automaton.specs.Body.{move_of}
use Rattle.ts_automaton.specs.Formula.{Formula, Join, Leaf}
use Rattle.ts_hull.specs.Cuts.{Cut, all_swept, cut_of}
use Rattle.ts_hull.specs.Splits.{Split, FrontOf, TailOf, is_swept, split_formula}
use Rattle.ts_row.specs.declared.between.Between.{Between}
use Rattle.ts_row.specs.declared.between.On.{On}
use Rattle.ts_row.specs.Plans.{emitted_cut}
use Rattle.ts_row.specs.Rows.{lanes_of, nothing}
use Rattle.ts_row.specs.Takings.{AreEmitted, HasMoved, IsCovered, MovesAs, TurnsAs, count_in, value_in}
use Rattle.ts_sweep.specs.declared.packed.PackedHull.{PackedHull}
use Rattle.ts_sweep.specs.declared.pair_move.Emission.{Emission}
use Rattle.ts_sweep.specs.Fronts.{IsMoveFor}
use Rattle.ts_sweep.specs.Moves.{of_width}
use Rattle.ts_sweep.specs.PairMoves.{emission, pair_op, start_atom}
use Rattle.ts_sweep.specs.Sides.{has_wide, lane_count, sides}
use Rattle.ts_sweep.specs.SidesLaws.{alone}
use Rattle.ts_sweep.proofs.PairSweeps.{cell_formula, cell_taken, emission_with, fall_added, fall_taken, rise_added, rise_taken}

-- an emission can be swept, whatever the width, if what becomes of R can be
pub emitted_swept : (wide : Bool) (d : Formula) (r : Split) → is_swept r ≡ true → all_swept (of_width wide (emitted_cut d r)) ≡ true
emitted_swept true d r h = h
emitted_swept false d r h = h

-- how an emission is split
emitted_split : (wide greatest : Bool) (r : Formula) →
    cut_of (record { next = 0; to = emission_with wide greatest r }) ≡ of_width wide (emitted_cut (Leaf (start_atom (pair_op greatest))) (split_formula r))
emitted_split true true r = refl
emitted_split true false r = refl
emitted_split false true r = refl
emitted_split false false r = refl

module _ (n : ℕ) (t : Between n) (on : On) (by : Emission) (greatest : Bool) (o : Op) (cells : by.cells ≡ pair_op greatest)
    (old new : List (PackedHull n)) (ranges : by.ranges ≡ o)
    (made : (move_of by.turn.now).to ≡ emission (has_wide n) by.ranges by.cells) (suits : IsMoveFor (sides n) (move_of by.turn.now))
    (covered : IsCovered n t) (fit : AreEmitted n by (count_in t.values.now) t.before.now) where
  pub cell_moved : has_wide n ≡ false →
      MovesAs n t on (emitted_cut (Leaf (start_atom (pair_op greatest))) (split_formula (cell_formula o on.letter greatest))) old new →
      HasMoved n t on (move_of by.turn.now) old new
  cell_moved narrow moves =
      let v = t.values.now in
      let w = t.next_values.now in
      let r = cell_formula o on.letter greatest in
      cell_taken (sides n) (lanes_of n) (nothing n) (lane_count n) (alone n) t.registers by greatest o cells ranges made suits on.letter on.twin (count_in v)
      (value_in v) t.before.now covered.packed v.small fit (count_in w) (value_in w) w.small old new narrow
      (moves (record { next = 0; to = emission_with false greatest r })
      (emitted_split false greatest r ∙ ap (λ b. of_width b (emitted_cut (Leaf (start_atom (pair_op greatest))) (split_formula r))) (sym narrow)))

  pub rise_moved : o ≡ Add → has_wide n ≡ true → greatest ≡ true → on.letter ≡ Less →
      MovesAs n t on (emitted_cut (Leaf (start_atom Max)) (TailOf Add (Join Sub (Leaf R) (Leaf This)))) old new →
      HasMoved n t on (move_of by.turn.now) old new
  rise_moved adds wide one less moves =
      let v = t.values.now in
      let w = t.next_values.now in
      let cut : Bool → Bool → Cut = λ b g. of_width b (emitted_cut (Leaf (start_atom (pair_op g))) (split_formula rise_added)) in
      rise_taken (sides n) (lanes_of n) (nothing n) (lane_count n) (alone n) t.registers by greatest o cells ranges made suits on.letter on.twin (count_in v)
      (value_in v) t.before.now covered.packed v.small fit (count_in w) (value_in w) w.small old new adds wide one less
      (moves (record { next = 0; to = emission_with true greatest rise_added })
      (emitted_split true greatest rise_added ∙ ap (cut true) one ∙ ap (λ b. cut b true) (sym wide)))

  pub fall_moved : o ≡ Add → has_wide n ≡ true → greatest ≡ true → on.letter ≡ Greater →
      TurnsAs n t on (emitted_cut (Leaf (start_atom Max)) (TailOf Add (Join (Fold Add) (Leaf R) (Leaf This)))) old new →
      HasMoved n t on (move_of by.turn.now) old new
  fall_moved adds wide one greater moves =
      let v = t.values.now in
      let w = t.next_values.now in
      fall_taken (sides n) (lanes_of n) (nothing n) (lane_count n) (alone n) t.registers by greatest o cells ranges made suits on.letter on.twin (count_in v)
      (value_in v) t.before.now covered.packed v.small fit (count_in w) (value_in w) w.small old new adds wide one greater
      (moves (record { next = 0; to = emission_with true true fall_added })
      (emitted_split true true fall_added ∙ ap (λ b. of_width b (emitted_cut (Leaf (start_atom Max)) (split_formula fall_added))) (sym wide)))

-- a sweep for a letter and for the greatest or the least
pub known_cell : (n : ℕ) (t : Between n) (on : On) (o : Op) (l : Letter) (greatest g : Bool) (old new : List (PackedHull n)) → on.letter ≡ l → greatest ≡ g →
    MovesAs n t on (emitted_cut (Leaf (start_atom (pair_op g))) (split_formula (cell_formula o l g))) old new →
    MovesAs n t on (emitted_cut (Leaf (start_atom (pair_op greatest))) (split_formula (cell_formula o on.letter greatest))) old new
known_cell n t on o l greatest g old new letter same moves =
    subst (λ z. MovesAs n t on (emitted_cut (Leaf (start_atom (pair_op greatest))) (split_formula (cell_formula o z greatest))) old new) (sym letter)
    (subst (λ z. MovesAs n t on (emitted_cut (Leaf (start_atom (pair_op z))) (split_formula (cell_formula o l z))) old new) (sym same) moves)

-- joined with the cell, by an operator and by its fold, and by the operator that is known
pub this_joined : (n : ℕ) (t : Between n) (on : On) (d : Formula) (p : Operator) (o : Op) (old new : List (PackedHull n)) → p ≡ Fold o →
    MovesAs n t on (emitted_cut d (FrontOf (Join p (Leaf R) (Leaf This)))) old new →
    MovesAs n t on (emitted_cut d (FrontOf (Join (Fold o) (Leaf R) (Leaf This)))) old new
this_joined n t on d p o old new same = subst (λ q. MovesAs n t on (emitted_cut d (FrontOf (Join q (Leaf R) (Leaf This)))) old new) same

pub known_op : (n : ℕ) (t : Between n) (on : On) (p o : Op) (greatest : Bool) (old new : List (PackedHull n)) → o ≡ p →
    MovesAs n t on (emitted_cut (Leaf (start_atom (pair_op greatest))) (split_formula (cell_formula p on.letter greatest))) old new →
    MovesAs n t on (emitted_cut (Leaf (start_atom (pair_op greatest))) (split_formula (cell_formula o on.letter greatest))) old new
known_op n t on p o greatest old new same =
    subst (λ q. MovesAs n t on (emitted_cut (Leaf (start_atom (pair_op greatest))) (split_formula (cell_formula q on.letter greatest))) old new) (sym same)
