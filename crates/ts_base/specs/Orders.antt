-- The order of numbers with infinities: what it keeps, and as an answer of a comparison.
use Rattle.std.specs.Prelude.{◌≡◌, ◌⊎◌, Bool, IsTrue, if◌then◌else◌}
use Rattle.std.specs.declared.cmp.Ordering.{Ordering}
use Rattle.std.specs.declared.cmp.Ordering.TheVariants.{Less, Equal, Greater}
use Rattle.ts_base.specs.declared.ext.Ext.{Ext}
use Rattle.ts_base.specs.Numbers.{ext_le}

-- any two can be compared
pub record IsTotalOrder (le : Ext → Ext → Bool) : Type 0 where
  pub same : (a : Ext) → IsTrue (le a a)
  pub chain : (a b c : Ext) → IsTrue (le a b) → IsTrue (le b c) → IsTrue (le a c)
  pub equal : (a b : Ext) → IsTrue (le a b) → IsTrue (le b a) → a ≡ b
  pub either : (a b : Ext) → IsTrue (le a b) ⊎ IsTrue (le b a)

-- the least that is at least both
pub record IsGreater (greater : Ext → Ext → Ext) : Type 0 where
  pub first : (a b : Ext) → IsTrue (ext_le a (greater a b))
  pub second : (a b : Ext) → IsTrue (ext_le b (greater a b))
  pub least : (a b c : Ext) → IsTrue (ext_le a c) → IsTrue (ext_le b c) → IsTrue (ext_le (greater a b) c)

-- the greatest that is at most both
pub record IsLesser (lesser : Ext → Ext → Ext) : Type 0 where
  pub first : (a b : Ext) → IsTrue (ext_le (lesser a b) a)
  pub second : (a b : Ext) → IsTrue (ext_le (lesser a b) b)
  pub greatest : (a b c : Ext) → IsTrue (ext_le c a) → IsTrue (ext_le c b) → IsTrue (ext_le c (lesser a b))

-- greater operands give no lesser result
abbrev pub IsMonotone : (Ext → Ext → Ext) → Type 0
IsMonotone op =
    (a b c d : Ext) → IsTrue (ext_le a b) → IsTrue (ext_le c d) → IsTrue (ext_le (op a c) (op b d))

-- how a compares with b
abbrev pub ext_cmp : Ext → Ext → Ordering
ext_cmp a b = if ext_le a b then if ext_le b a then Equal else Less else Greater
