-- The six comparisons of a value with a bound, infinities in their order.
use Rattle.std.specs.Prelude.{Bool, not, ◌&&◌}
use Rattle.ts_base.specs.declared.ext.Ext.{Ext}
use Rattle.ts_base.specs.Numbers.{ext_le}
use Rattle.ts_model.specs.declared.model.Op.{Op}
use Rattle.ts_model.specs.declared.model.Op.TheVariants.{Equal, Unequal, AtMost, AtLeast, Below, Above}

-- the value stands so to the bound
abbrev pub compares : Op → Ext → Ext → Bool
compares Equal bound v = ext_le v bound && ext_le bound v
compares Unequal bound v = not (ext_le v bound && ext_le bound v)
compares AtMost bound v = ext_le v bound
compares AtLeast bound v = ext_le bound v
compares Below bound v = not (ext_le bound v)
compares Above bound v = not (ext_le v bound)
