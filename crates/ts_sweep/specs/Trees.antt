-- Ends of expressions in lanes, with sums that are clamped.
use Rattle.std.specs.Prelude.{ℤ, pos, negsuc, ◌≤ℤ◌, List}
use Rattle.ts_base.specs.declared.ext.Ext.{Ext}
use Rattle.ts_base.specs.declared.ext.Ext.TheVariants.{NegInf, Int, PosInf}
use Rattle.ts_base.specs.Numbers.{ext_plus}
use Rattle.ts_automaton.specs.declared.expr.Atom.{Atom}
use Rattle.ts_automaton.specs.declared.expr.Atom.TheVariants.{C, E, D, F, R, This, Next, Zero, Unit as UnitAtom, NegInf as LowAtom, PosInf as HighAtom}
use Rattle.ts_automaton.specs.declared.expr.Operator.{Operator}
use Rattle.ts_automaton.specs.declared.expr.Operator.TheVariants.{Fold, Sub}
use Rattle.ts_base.specs.declared.op.Op.{Op}
use Rattle.ts_base.specs.declared.op.Op.TheVariants.{Add, Max, Min}
use Rattle.ts_automaton.specs.Formula.{Formula, Leaf, Join}
use Rattle.ts_sweep.specs.declared.packed.Ends.{Ends}
use Rattle.ts_sweep.specs.declared.packed.Name.TheVariants.{C as NameC, E as NameE, D as NameD, F as NameF, R as NameR}
use Rattle.ts_sweep.specs.Packed.{upper, negated, ends, name_ends, number_ends}
use Rattle.ts_sweep.specs.Operators.{crossed, greater_of_ends, lesser_of_ends}

-- a number or infinity as a lane
abbrev pub lane_of : Ext → ℤ
lane_of NegInf = negsuc 9223372036854775806
lane_of (Int x) = x
lane_of PosInf = pos 9223372036854775807

-- at most half of the clamp in size
abbrev pub IsHalf : ℤ → Type 0
IsHalf x = (negsuc 49999999999999999 ≤ℤ x) × (x ≤ℤ pos 50000000000000000)

-- the sum of what two lanes stand for, as upper ends and as lower ones
abbrev pub sum_above : ℤ → ℤ → ℤ
sum_above x y = lane_of (ext_plus (upper x) (upper y))

abbrev pub sum_below : ℤ → ℤ → ℤ
sum_below x y = lane_of (negated (ext_plus (negated (upper x)) (negated (upper y))))

abbrev pub folded_by : Op → Ends → Ends → Ends
folded_by Add a b = ends (sum_below a.below b.below) (sum_above a.above b.above)
folded_by Max a b = greater_of_ends a b
folded_by Min a b = lesser_of_ends a b

abbrev pub joined_by : Operator → Ends → Ends → Ends
joined_by (Fold o) a b = folded_by o a b
joined_by Sub a b = folded_by Add a (crossed b)

-- the ends of a word, at the cell x and the next cell y
abbrev pub word_ends : Atom → List ℤ → ℤ → ℤ → Ends
word_ends C xs x y = name_ends xs NameC
word_ends E xs x y = name_ends xs NameE
word_ends D xs x y = name_ends xs NameD
word_ends F xs x y = name_ends xs NameF
word_ends R xs x y = name_ends xs NameR
word_ends This xs x y = number_ends x
word_ends Next xs x y = number_ends y
word_ends Zero xs x y = number_ends (pos 0)
word_ends UnitAtom xs x y = number_ends (pos 1)
word_ends LowAtom xs x y = ends (pos 9223372036854775807) (negsuc 9223372036854775806)
word_ends HighAtom xs x y = ends (negsuc 9223372036854775806) (pos 9223372036854775807)

abbrev pub tree_value : Formula → List ℤ → ℤ → ℤ → Ends
tree_value (Leaf a) xs x y = word_ends a xs x y
tree_value (Join o f g) xs x y = joined_by o (tree_value f xs x y) (tree_value g xs x y)
