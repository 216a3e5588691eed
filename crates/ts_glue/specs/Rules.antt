-- What is asked of a pair of automata and a glue table, each rule as a test.
use Rattle.std.specs.Prelude.{ℕ, pos, Bool, true, false, not, ◌&&◌, ◌||◌, nat_eq, nat_le, nat_lt, is_some, length, IsTrue, Option, Some}
use Rattle.std.specs.List.{list_all}
use Rattle.std.specs.Ordering.{int_eq}
use Rattle.ts_base.specs.declared.ext.Ext.{Ext}
use Rattle.ts_base.specs.declared.ext.Ext.TheVariants.{NegInf, Int, PosInf}
use Rattle.ts_base.specs.declared.range.Join.{Join}
use Rattle.ts_base.specs.declared.op.Op.{Op}
use Rattle.ts_base.specs.declared.op.Op.TheVariants.{Add, Max, Min}
use Rattle.ts_automaton.specs.declared.expr.Atom.TheVariants.{C, E, R}
use Rattle.ts_automaton.specs.declared.expr.Operator.TheVariants.{Fold, Sub}
use Rattle.ts_automaton.specs.declared.kind.RegKind.{RegKind}
use Rattle.ts_automaton.specs.Formula.{Formula, Leaf, Join as Joined, is_same_op}
use Rattle.ts_automaton.specs.Registers.{EachOf, map_each}
use Rattle.ts_automaton.specs.Kinds.{kinds}
use Rattle.ts_automaton.specs.Body.{Body}
use Rattle.ts_automaton.specs.Typing.{kinds_at, is_number_zero}
use Rattle.ts_glue.specs.Pairs.{Pair}
use Rattle.ts_glue.specs.Glue.{glue_in, glue_of, is_wide, result_op}
use Rattle.ts_glue.specs.Glued.{Local}

-- an occurrence leaves one cell or none at its end
abbrev pub has_trim : Pair → Bool
has_trim p = nat_le p.table.a 1

-- both automata are wide where the table folds a pair, and both are narrow where it doesn't
abbrev pub has_width : Bool → Body → Bool
has_width true b = b.wide
has_width false b = not b.wide

abbrev pub has_widths : Pair → Bool
has_widths p = has_width (is_wide p) p.forward && has_width (is_wide p) p.reverse

-- the expression is C, of a wide automaton `sub C E`
abbrev pub is_held : Bool → Formula → Bool
is_held false (Leaf C) = true
is_held true (Joined Sub (Leaf C) (Leaf E)) = true
is_held wide f = false

-- the expression is `o R C`, of a wide automaton `o R sub C E`
abbrev pub gives_result : Bool → Op → Formula → Bool
gives_result wide o (Joined (Fold p) (Leaf R) f) = is_same_op o p && is_held wide f
gives_result wide o f = false

-- both finish expressions are so with one operator
abbrev pub has_results : Pair → Bool
has_results p =
    gives_result (is_wide p) (result_op p) p.forward.finish && gives_result (is_wide p) (result_op p) p.reverse.finish

-- the operator leaves each value as it is beside this one
abbrev pub is_neutral : Op → Ext → Bool
is_neutral Add (Int x) = int_eq x (pos 0)
is_neutral Max NegInf = true
is_neutral Min PosInf = true
is_neutral o e = false

-- the reverse run starts without a result, a wide one with E at 0
abbrev pub starts_neutral : Pair → Bool
starts_neutral p =
    is_neutral (result_op p) p.reverse.start.c
    && is_neutral (result_op p) p.reverse.start.r
    && (not (is_wide p) || is_number_zero p.reverse.start.e)

-- both states of each Join pair exist
abbrev pub has_join_states : Pair → Bool
has_join_states p =
    list_all
    (λ j. nat_lt j.forward (length p.forward.states) && nat_lt j.reverse (length p.reverse.states))
    p.table.joins

-- the reverse start state stands in no Join pair
abbrev pub starts_apart : Pair → Bool
starts_apart p = list_all (λ j. not (nat_eq j.reverse 0)) p.table.joins

-- the kinds of the registers in a state
abbrev pub some_kinds : Body → ℕ → EachOf (Option RegKind)
some_kinds b q = map_each (λ k. Some k) (kinds_at b q)

-- the kind of the glued value where the two runs stand in these states; none where it is against the typing
abbrev pub glue_kind : Pair → ℕ → ℕ → Option RegKind
glue_kind p q r = glue_in kinds (some_kinds p.forward q) (some_kinds p.reverse r) (glue_of p q r (pos 0))

-- the glued value at each Join pair is well typed
abbrev pub is_typed_at : Pair → Join → Bool
is_typed_at p j = is_some (glue_kind p j.forward j.reverse)

abbrev pub has_typed_joins : Pair → Bool
has_typed_joins p = list_all (is_typed_at p) p.table.joins

-- all rules hold
abbrev pub keeps_rules : Pair → Bool
keeps_rules p =
    has_trim p
    && has_widths p
    && has_results p
    && starts_neutral p
    && has_join_states p
    && starts_apart p
    && has_typed_joins p

-- the pair may stand for its forward automaton at every cell
abbrev pub IsGluing : Pair → Type 0
IsGluing p = IsTrue (keeps_rules p) × Local p
