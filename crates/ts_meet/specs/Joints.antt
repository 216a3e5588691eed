-- How the two runs of a machine are glued, found once for a machine.
use Rattle.std.specs.Prelude.{◌≡◌, ◌⊎◌, ◌≤ℤ◌, ℕ, pos, nat_eq, ℤ, Bool, true, false, ◌||◌, length, if◌then◌else◌}
use Rattle.ts_base.specs.declared.op.Op.{Op}
use Rattle.ts_base.specs.declared.op.Op.TheVariants.{Add, Max, Min}
use Rattle.ts_automaton.specs.declared.state.Mark.{Mark}
use Rattle.ts_automaton.specs.declared.state.Mark.TheVariants.{Same, Zero as ZeroMark, Cells}
use Rattle.ts_automaton.specs.declared.expr.Operator.TheVariants.{Fold}
use Rattle.ts_automaton.specs.Registers.{EachOf, Values, value_in}
use Rattle.ts_glue.specs.Glue.{Glue, apart, fold_of, folded_between, folded_both, fold_op, glue_of, held_in, is_wide, join_of, open_in, result_op, worth}
use Rattle.ts_glue.specs.declared.operand.Part.{Part}
use Rattle.ts_glue.specs.declared.operand.Part.TheVariants.{Whole, Away}
use Rattle.ts_glue.specs.Pairs.{Pair}
use Rattle.ts_glue.specs.Shapes.{AreShapeRows}
use Rattle.ts_sweep.specs.declared.packed.Ends.{Ends}
use Rattle.ts_sweep.specs.Fronts.{ArePlain}
use Rattle.ts_meet.specs.declared.gluing.Gluing.{Gluing}
use Rattle.ts_meet.specs.declared.joints.Joints.{Joints}
use Rattle.ts_meet.specs.Sides.{IsInfinity, plain_values}

-- what both sides have folded, less the cell where the operator would count it twice
abbrev pub once : Values Ends → Op → Ends → Ends → Ends
once m Add both less = m.join (Fold Add) both less
once m Max both less = both
once m Min both less = both

-- a part of the one occurrence, folded by an operator, where the cell has a worth
abbrev pub part_by : Gluing → Op → Part → Glue
part_by g o p = if g.trims then folded_between o p g.held_left g.held_right g.worth else folded_both o p g.worth

-- the expression of a pair of states between which one occurrence goes on, and of any pair
abbrev pub joined_expression : Gluing → Glue
joined_expression g = join_of g.result (fold_of g.wide g.fold (part_by g))

abbrev pub expression : Gluing → Glue
expression g = if g.joins then joined_expression g else apart g.wide g.result

-- what is glued where an occurrence goes on, by the parts of the gluing
abbrev pub told_joined : (o fold : Op) → ℤ → (wide trims held_left held_right : Bool) → Glue
told_joined o fold worth wide trims held_left held_right =
    joined_expression (record {
      result = o;
      fold = fold;
      worth = worth;
      wide = wide;
      joins = true;
      trims = trims;
      held_left = held_left;
      held_right = held_right;
    })

-- a gluing where the cell has another worth
abbrev pub with_worth : Gluing → ℤ → Gluing
with_worth g d = record {
  result = g.result;
  fold = g.fold;
  worth = d;
  wide = g.wide;
  joins = g.joins;
  trims = g.trims;
  held_left = g.held_left;
  held_right = g.held_right;
}

-- two states of a pair are glued so, whatever the value of the cell: with what that is worth
abbrev pub IsGluing : Pair → (q r : ℕ) → Gluing → Type 0
IsGluing p q r g = (x : ℤ) → expression (with_worth g (worth p.table.unit x)) ≡ glue_of p q r x

-- the operator that has a number
abbrev pub numbered : ℕ → Op
numbered k = if nat_eq k 0 then Add else if nat_eq k 1 then Max else Min

-- the mark that has a number
abbrev pub numbered_mark : ℕ → Mark
numbered_mark k = if nat_eq k 0 then Same else if nat_eq k 1 then ZeroMark else Cells

-- the operator adds
abbrev pub is_add : Op → Bool
is_add Add = true
is_add Max = false
is_add Min = false

-- C is folded: where it is held, or both sides have folded the cell
abbrev pub folds_held : Bool → Bool → Bool
folds_held trims held = if trims then held else true

-- cells that may be none leave a fold with a small number small: no end that it may take from them is above 10^16
abbrev pub IsOpenPlain : Op → Ends → Type 0
IsOpenPlain Add e = ArePlain e
IsOpenPlain Max e = e.above ≤ℤ pos 10000000000000000
IsOpenPlain Min e = e.below ≤ℤ pos 10000000000000000

-- the ends of what is held of a part, and of what may come to it
abbrev pub held_ends : Part → EachOf Ends → Ends
held_ends p s = value_in plain_values s (pos 0) (pos 0) (held_in p)

abbrev pub open_ends : Part → EachOf Ends → Ends
open_ends p s = value_in plain_values s (pos 0) (pos 0) (open_in p)

-- no end of a number that is folded into a part by an operator is above 10^16
pub record IsFoldPlain (p : Part) (o : Op) (g : Gluing) (left right : EachOf Ends) : Type 0 where
  pub left_open : IsOpenPlain o (open_ends p left)
  pub right_open : IsOpenPlain o (open_ends p right)
  pub left_held : folds_held g.trims g.held_left ≡ true → ArePlain (held_ends p left)
  pub right_held : folds_held g.trims g.held_right ≡ true → ArePlain (held_ends p right)

-- nor of what is held of one, if something is added to it or taken away from it; where nothing is held it is infinite,
-- which is as good if results aren't added
abbrev pub IsHeldPlain : Bool → Bool → EachOf Ends → Type 0
IsHeldPlain wide adds s =
    (wide ≡ true → ArePlain s.e) × ((wide || adds) ≡ true → ArePlain s.c ⊎ ((adds ≡ false) × IsInfinity s.c))

-- something is added to what is folded or taken away from it
abbrev pub adds_any : Gluing → Bool
adds_any g = g.wide || (is_add g.result || is_add g.fold)

-- no end of any number that is added or taken away is above 10^16
pub record IsPlain (g : Gluing) (left right : EachOf Ends) : Type 0 where
  pub results : is_add g.result ≡ true → ArePlain left.r × ArePlain right.r
  pub held :
      g.joins ≡ false → IsHeldPlain g.wide (is_add g.result) left × IsHeldPlain g.wide (is_add g.result) right
  pub folded : g.joins ≡ true → adds_any g ≡ true → IsFoldPlain Whole g.fold g left right
  pub away : g.joins ≡ true → g.wide ≡ true → (is_add g.fold ≡ false) × IsFoldPlain Away Min g left right

-- what is kept of a pair
pub record AreJoints (p : Pair) (j : Joints) : Type 0 where
  pub result : j.result ≡ result_op p
  pub fold : j.fold ≡ fold_op p.table.op
  pub unit : j.unit ≡ p.table.unit
  pub wide : j.wide ≡ is_wide p
  pub mark : j.mark ≡ p.forward.mark
  pub left_states : j.left_states ≡ length p.forward.states
  pub right_states : j.right_states ≡ length p.reverse.states
  pub shapes : AreShapeRows p j.shapes
