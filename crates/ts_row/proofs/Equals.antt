-- A move on `=` that is taken in.
use Rattle.std.proofs.Common.{◌≡◌, ℕ, Bool, true, false, List, refl, sym, subst}
use Rattle.ts_base.specs.declared.letter.Letter.{Letter}
use Rattle.ts_base.specs.declared.letter.Letter.TheVariants.{Less, Equal, Greater}
use Rattle.ts_automaton.specs.Body.{Move}
use Rattle.ts_row.specs.declared.between.Between.{Between}
use Rattle.ts_row.specs.declared.between.On.{On}
use Rattle.ts_row.specs.Plans.{is_equal}
use Rattle.ts_row.specs.Rows.{nothing, lanes_of}
use Rattle.ts_row.specs.Takings.{HasMoved, count_in, value_in}
use Rattle.ts_sweep.specs.declared.packed.PackedHull.{PackedHull}
use Rattle.ts_sweep.specs.Columns.{IsMoved}
use Rattle.ts_sweep.specs.Here.{here_move}
use Rattle.ts_sweep.specs.Sides.{sides}
use Rattle.ts_sweep.proofs.Equals.{moved_here, plain_move}

-- a move on `=` has no twin
pub moved_equal : (n : ℕ) (t : Between n) (on : On) (m : Move) (old new : List (PackedHull n)) → on.letter ≡ Equal →
    IsMoved (sides n) (lanes_of n) (nothing n) m Equal false (count_in t.values.now) (value_in t.values.now) t.before.now (count_in t.next_values.now)
    (value_in t.next_values.now) old new → HasMoved n t on m old new
moved_equal n t on m old new is moved =
    subst (λ l. IsMoved (sides n) (lanes_of n) (nothing n) m l on.twin (count_in t.values.now) (value_in t.values.now) t.before.now (count_in t.next_values.now)
    (value_in t.next_values.now) old new) (sym is)
    (subst (λ b. IsMoved (sides n) (lanes_of n) (nothing n) m Equal b (count_in t.values.now) (value_in t.values.now) t.before.now (count_in t.next_values.now)
    (value_in t.next_values.now) old new) (sym (on.alone is)) moved)

-- a move on `=` may read the next cell as the cell; any other move is read as it is
pub moved_read : (n : ℕ) (t : Between n) (on : On) (m : Move) (old new : List (PackedHull n)) → HasMoved n t on (here_move (is_equal on.letter) m) old new →
    HasMoved n t on m old new
moved_read n t on m old new moved = go on.letter on.twin on.alone moved
  where
    taken : Move → Letter → Bool → Type 0
    taken k l twin =
        IsMoved (sides n) (lanes_of n) (nothing n) k l twin (count_in t.values.now) (value_in t.values.now) t.before.now (count_in t.next_values.now)
        (value_in t.next_values.now) old new

    go : (l : Letter) (twin : Bool) → (l ≡ Equal → twin ≡ false) → taken (here_move (is_equal l) m) l twin → taken m l twin
    go Less twin alone moved = subst (λ k. taken k Less twin) (plain_move m) moved
    go Equal twin alone moved =
        subst (taken m Equal) (sym (alone refl))
        (moved_here (sides n) (lanes_of n) (nothing n) m (count_in t.values.now) (value_in t.values.now) t.before.now (count_in t.next_values.now)
        (value_in t.next_values.now) old new (subst (taken (here_move true m) Equal) (alone refl) moved))
    go Greater twin alone moved = subst (λ k. taken k Greater twin) (plain_move m) moved
