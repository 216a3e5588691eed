-- Whole numbers with -∞ and +∞, their order and their sum.
use Rattle.std.specs.Prelude.{ℤ, pos, neg_ℤ, ◌+ℤ◌, Bool, true, false, int_le, if◌then◌else◌}
use Rattle.std.specs.Int.{int_max, int_min}
use Rattle.ts_base.specs.declared.ext.Ext.{Ext}
use Rattle.ts_base.specs.declared.ext.Ext.TheVariants.{NegInf, Int, PosInf}

-- a is at most b
abbrev pub ext_le : Ext → Ext → Bool
ext_le NegInf b = true
ext_le (Int x) NegInf = false
ext_le (Int x) (Int y) = int_le x y
ext_le (Int x) PosInf = true
ext_le PosInf NegInf = false
ext_le PosInf (Int y) = false
ext_le PosInf PosInf = true

-- the number, or the nearer of -10^17 and 10^17 where it is beyond them
abbrev pub clamp : ℤ → ℤ
clamp x = int_max (neg_ℤ (pos 100000000000000000)) (int_min x (pos 100000000000000000))

-- the sum: -∞ where an operand is -∞, else +∞ where one is +∞, else that of the numbers, clamped
abbrev pub ext_plus : Ext → Ext → Ext
ext_plus NegInf b = NegInf
ext_plus (Int x) NegInf = NegInf
ext_plus (Int x) (Int y) = Int (clamp (x +ℤ y))
ext_plus (Int x) PosInf = PosInf
ext_plus PosInf NegInf = NegInf
ext_plus PosInf (Int y) = PosInf
ext_plus PosInf PosInf = PosInf

-- the greater of two
abbrev pub ext_max : Ext → Ext → Ext
ext_max a b = if ext_le a b then b else a

-- the lesser of two
abbrev pub ext_min : Ext → Ext → Ext
ext_min a b = if ext_le a b then a else b
