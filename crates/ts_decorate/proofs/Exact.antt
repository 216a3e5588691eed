-- The operators of a term, with held and with exact sums, and the laws of the exact ones.
use Rattle.std.specs.Prelude.{ℤ, pos, ◌+ℤ◌, ◌-ℤ◌, Option, None, Some}
use Rattle.std.proofs.Common.{◌≡◌, refl, sym, ◌∙◌, ap, arith}
use Rattle.std.proofs.lemmas.Int.{ints}
use Rattle.ts_base.specs.declared.ext.Ext.{Ext}
use Rattle.ts_base.specs.declared.ext.Ext.TheVariants.{NegInf, Int, PosInf}
use Rattle.ts_base.specs.Numbers.{ext_max, ext_min}
use Rattle.ts_base.proofs.Order.{le_trans, le_antisym, max_left, max_right, max_least, min_left, min_right, min_greatest}
use Rattle.ts_pattern.specs.declared.name.Aggregator.{Aggregator}
use Rattle.ts_pattern.specs.declared.name.Aggregator.TheVariants.{Sum, Max as MaxOf, Min as MinOf}
use Rattle.ts_pattern.specs.declared.name.Feature.{Feature}
use Rattle.ts_pattern.specs.declared.name.Feature.TheVariants.{One, Width, Surf, Max as MaxFeature, Min as MinFeature, Range}
use Rattle.ts_pattern.specs.declared.arithmetic.CellFold.{CellFold}
use Rattle.ts_pattern.specs.Arithmetic.{cell_op, cell_value, neutral_value, less_fold, range_op, default_value}
use Rattle.ts_base.specs.declared.op.Op.{Op}
use Rattle.ts_base.specs.declared.op.Op.TheVariants.{Add, Max, Min}
use Rattle.ts_base.specs.Operators.{constant_value}
use Rattle.ts_automaton.specs.declared.expr.Operator.{Operator}
use Rattle.ts_automaton.specs.declared.expr.Operator.TheVariants.{Fold, Sub}
use Rattle.ts_decorate.specs.Operators.{Operators}
use Rattle.ts_decorate.specs.Rows.{phi_by, neutral_by, read_by, operators_by}
use Rattle.ts_decorate.specs.Decoration.{number_operators}
use Rattle.ts_decorate.proofs.Folds.{FoldLaws}

-- the sum of numbers as it is
abbrev pub exact_plus : Ext → Ext → Ext
exact_plus NegInf b = NegInf
exact_plus (Int x) NegInf = NegInf
exact_plus (Int x) (Int y) = Int (x +ℤ y)
exact_plus (Int x) PosInf = PosInf
exact_plus PosInf NegInf = NegInf
exact_plus PosInf (Int y) = PosInf
exact_plus PosInf PosInf = PosInf

abbrev pub exact_op : Op → Ext → Ext → Ext
exact_op Add a b = exact_plus a b
exact_op Max a b = ext_max a b
exact_op Min a b = ext_min a b

-- the difference of numbers as it is
abbrev pub exact_difference : Ext → Ext → Ext
exact_difference NegInf b = NegInf
exact_difference (Int x) NegInf = PosInf
exact_difference (Int x) (Int y) = Int (x -ℤ y)
exact_difference (Int x) PosInf = NegInf
exact_difference PosInf NegInf = PosInf
exact_difference PosInf (Int y) = PosInf
exact_difference PosInf PosInf = NegInf

abbrev pub exact_operator : Operator → Ext → Ext → Ext
exact_operator (Fold o) a b = exact_op o a b
exact_operator Sub a b = exact_difference a b

-- the operators of a term
abbrev pub exact : Aggregator → Feature → Operators Ext
exact g f = operators_by constant_value exact_operator g f

-- as the automaton computes them
abbrev pub held_at_limit : Aggregator → Feature → Operators Ext
held_at_limit g f = number_operators g f

-- the values that the feature joins: those of `one` are 1, all others may be any
abbrev pub IsGood : Feature → Ext → Type 0
IsGood One u = u ≡ Int (pos 1)
IsGood Width u = Unit {0}
IsGood Surf u = Unit {0}
IsGood MaxFeature u = Unit {0}
IsGood MinFeature u = Unit {0}
IsGood Range u = Unit {0}

-- what is taken away may be any number
abbrev pub IsAny : Ext → Type 0
IsAny u = Unit {0}

pub cell_good : (f : Feature) (x : ℤ) → IsGood f (cell_value f x)
cell_good One x = refl
cell_good Width x = tt
cell_good Surf x = tt
cell_good MaxFeature x = tt
cell_good MinFeature x = tt
cell_good Range x = tt

pub max_assoc : (a b c : Ext) → ext_max (ext_max a b) c ≡ ext_max a (ext_max b c)
max_assoc a b c =
    let u = ext_max (ext_max a b) c in
    let v = ext_max a (ext_max b c) in
    le_antisym u v
    (max_least (ext_max a b) c v
    (max_least a b v (max_left a (ext_max b c)) (le_trans b (ext_max b c) v (max_left b c) (max_right a (ext_max b c))))
    (le_trans c (ext_max b c) v (max_right b c) (max_right a (ext_max b c))))
    (max_least a (ext_max b c) u (le_trans a (ext_max a b) u (max_left a b) (max_left (ext_max a b) c))
    (max_least b c u (le_trans b (ext_max a b) u (max_right a b) (max_left (ext_max a b) c)) (max_right (ext_max a b) c)))

pub min_assoc : (a b c : Ext) → ext_min (ext_min a b) c ≡ ext_min a (ext_min b c)
min_assoc a b c =
    let u = ext_min (ext_min a b) c in
    let v = ext_min a (ext_min b c) in
    le_antisym u v
    (min_greatest a (ext_min b c) u (le_trans u (ext_min a b) a (min_left (ext_min a b) c) (min_left a b))
    (min_greatest b c u (le_trans u (ext_min a b) b (min_left (ext_min a b) c) (min_right a b)) (min_right (ext_min a b) c)))
    (min_greatest (ext_min a b) c v
    (min_greatest a b v (min_left a (ext_min b c)) (le_trans v (ext_min b c) b (min_right a (ext_min b c)) (min_left b c)))
    (le_trans v (ext_min b c) c (min_right a (ext_min b c)) (min_right b c)))

pub plus_assoc : (a b c : Ext) → exact_plus (exact_plus a b) c ≡ exact_plus a (exact_plus b c)
plus_assoc NegInf b c = refl
plus_assoc (Int x) NegInf c = refl
plus_assoc (Int x) (Int y) NegInf = refl
plus_assoc (Int x) (Int y) (Int z) = ap Int (omega (arith, ints))
plus_assoc (Int x) (Int y) PosInf = refl
plus_assoc (Int x) PosInf NegInf = refl
plus_assoc (Int x) PosInf (Int z) = refl
plus_assoc (Int x) PosInf PosInf = refl
plus_assoc PosInf NegInf c = refl
plus_assoc PosInf (Int y) NegInf = refl
plus_assoc PosInf (Int y) (Int z) = refl
plus_assoc PosInf (Int y) PosInf = refl
plus_assoc PosInf PosInf NegInf = refl
plus_assoc PosInf PosInf (Int z) = refl
plus_assoc PosInf PosInf PosInf = refl

pub plus_zero : (a : Ext) → exact_plus a (Int (pos 0)) ≡ a
plus_zero NegInf = refl
plus_zero (Int x) = ap Int (omega (arith, ints))
plus_zero PosInf = refl

pub max_low : (a : Ext) → ext_max a NegInf ≡ a
max_low NegInf = refl
max_low (Int x) = refl
max_low PosInf = refl

pub min_high : (a : Ext) → ext_min a PosInf ≡ a
min_high NegInf = refl
min_high (Int x) = refl
min_high PosInf = refl

pub cell_laws : (f : Feature) → FoldLaws (exact_op (cell_op f)) (neutral_value f) (IsGood f)
cell_laws One = record {
  closed = λ x y p q. ap (λ z. ext_max z y) p ∙ ap (ext_max (Int (pos 1))) q;
  neutral_good = refl;
  assoc = λ x y z p q r. max_assoc x y z;
  right = λ x p. ap (λ z. ext_max z (Int (pos 1))) p ∙ sym p;
}
cell_laws Width =
    record { closed = λ x y p q. tt; neutral_good = tt; assoc = λ x y z p q r. plus_assoc x y z; right = λ x p. plus_zero x }
cell_laws Surf =
    record { closed = λ x y p q. tt; neutral_good = tt; assoc = λ x y z p q r. plus_assoc x y z; right = λ x p. plus_zero x }
cell_laws MaxFeature =
    record { closed = λ x y p q. tt; neutral_good = tt; assoc = λ x y z p q r. max_assoc x y z; right = λ x p. max_low x }
cell_laws MinFeature =
    record { closed = λ x y p q. tt; neutral_good = tt; assoc = λ x y z p q r. min_assoc x y z; right = λ x p. min_high x }
cell_laws Range =
    record { closed = λ x y p q. tt; neutral_good = tt; assoc = λ x y z p q r. max_assoc x y z; right = λ x p. max_low x }

-- a half at rest stays as it is
rest_laws : FoldLaws (λ u v. phi_by exact_operator None u v) (Int (pos 0)) IsAny
rest_laws = record { closed = λ x y p q. tt; neutral_good = tt; assoc = λ x y z p q r. refl; right = λ x p. refl }

pub less_laws : (f : Feature) → FoldLaws (λ u v. phi_by exact_operator (less_fold f) u v) (constant_value (neutral_by (less_fold f))) IsAny
less_laws One = rest_laws
less_laws Width = rest_laws
less_laws Surf = rest_laws
less_laws MaxFeature = rest_laws
less_laws MinFeature = rest_laws
less_laws Range =
    record { closed = λ x y p q. tt; neutral_good = tt; assoc = λ x y z p q r. min_assoc x y z; right = λ x p. min_high x }

-- no range is worth the default, whatever is taken away
pub idle_read : (g : Aggregator) (row : Option CellFold) → read_by exact_operator row (default_value g) (Int (pos 0)) ≡ default_value g
idle_read Sum None = refl
idle_read Sum (Some row) = refl
idle_read MaxOf None = refl
idle_read MaxOf (Some row) = refl
idle_read MinOf None = refl
idle_read MinOf (Some row) = refl

-- where there is no range, g leaves the others as they are
pub range_right : (g : Aggregator) (y : Ext) → exact_op (range_op g) y (default_value g) ≡ y
range_right Sum y = plus_zero y
range_right MaxOf y = max_low y
range_right MinOf y = min_high y

pub idle_right : (g : Aggregator) (f : Feature) (y : Ext) → (exact g f).g y ((exact g f).read (exact g f).whole.idle (exact g f).less.idle) ≡ y
idle_right g f y = ap (exact_op (range_op g) y) (idle_read g (less_fold f)) ∙ range_right g y
