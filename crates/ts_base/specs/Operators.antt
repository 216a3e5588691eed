-- Operators over two numbers, and the constants with which a fold begins.
use Rattle.std.specs.Prelude.{ℤ, pos, ◌+ℤ◌}
use Rattle.std.specs.Int.{int_max, int_min}
use Rattle.ts_base.specs.declared.ext.Ext.{Ext}
use Rattle.ts_base.specs.declared.ext.Ext.TheVariants.{NegInf, Int, PosInf}
use Rattle.ts_base.specs.declared.op.Op.{Op}
use Rattle.ts_base.specs.declared.op.Op.TheVariants.{Add, Max, Min}
use Rattle.ts_base.specs.declared.constant.Constant.{Constant}
use Rattle.ts_base.specs.declared.constant.Constant.TheVariants.{Zero, Unit as UnitConstant, NegInf as LowConstant, PosInf as HighConstant}
use Rattle.ts_base.specs.Numbers.{ext_max, ext_min, ext_plus}

-- the sum, clamped, the greater or the lesser of two
abbrev pub ext_op : Op → Ext → Ext → Ext
ext_op Add a b = ext_plus a b
ext_op Max a b = ext_max a b
ext_op Min a b = ext_min a b

-- of whole numbers, without a clamp
abbrev pub int_op : Op → ℤ → ℤ → ℤ
int_op Add x y = x +ℤ y
int_op Max x y = int_max x y
int_op Min x y = int_min x y

abbrev pub constant_value : Constant → Ext
constant_value Zero = Int (pos 0)
constant_value UnitConstant = Int (pos 1)
constant_value LowConstant = NegInf
constant_value HighConstant = PosInf
