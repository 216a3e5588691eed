-- The order of numbers with infinities: an order in which any two can be compared, with a greater and a lesser of two.
use Rattle.std.proofs.Common.{◌≡◌, ◌⊎◌, Bool, true, false, cond, IsTrue, inl, inr, refl, ap, rules, arith}
use Rattle.std.proofs.lemmas.Int.{ints}
use Rattle.ts_base.specs.Numbers.{ext_le, ext_max, ext_min}
use Rattle.ts_base.specs.Orders.{IsTotalOrder, IsGreater, IsLesser}
use Rattle.ts_base.specs.declared.ext.Ext.{Ext}
use Rattle.ts_base.specs.declared.ext.Ext.TheVariants.{NegInf, Int, PosInf}

-- each is at most itself
pub le_refl : (a : Ext) → IsTrue (ext_le a a)
le_refl NegInf = search rules
le_refl (Int x) = grind (arith, ints)
le_refl PosInf = search rules

pub le_trans : (a b c : Ext) → IsTrue (ext_le a b) → IsTrue (ext_le b c) → IsTrue (ext_le a c)
le_trans NegInf b c p q = search rules
le_trans (Int x) NegInf c p q = grind arith
le_trans (Int x) (Int y) NegInf p q = grind arith
le_trans (Int x) (Int y) (Int z) p q = grind (arith, ints)
le_trans (Int x) (Int y) PosInf p q = search rules
le_trans (Int x) PosInf NegInf p q = grind arith
le_trans (Int x) PosInf (Int z) p q = grind arith
le_trans (Int x) PosInf PosInf p q = search rules
le_trans PosInf NegInf c p q = grind arith
le_trans PosInf (Int y) c p q = grind arith
le_trans PosInf PosInf c p q = q

-- of two, one is at most the other
pub le_total : (a b : Ext) → IsTrue (ext_le a b) ⊎ IsTrue (ext_le b a)
le_total NegInf b = inl (search rules)
le_total (Int x) NegInf = inr (search rules)
le_total (Int x) (Int y) = grind (arith, ints)
le_total (Int x) PosInf = inl (search rules)
le_total PosInf NegInf = inr (search rules)
le_total PosInf (Int y) = inr (search rules)
le_total PosInf PosInf = inl (search rules)

pub le_antisym : (a b : Ext) → IsTrue (ext_le a b) → IsTrue (ext_le b a) → a ≡ b
le_antisym NegInf NegInf p q = refl
le_antisym NegInf (Int y) p q = grind arith
le_antisym NegInf PosInf p q = grind arith
le_antisym (Int x) NegInf p q = grind arith
le_antisym (Int x) (Int y) p q = ap Int (grind (arith, ints))
le_antisym (Int x) PosInf p q = grind arith
le_antisym PosInf NegInf p q = grind arith
le_antisym PosInf (Int y) p q = grind arith
le_antisym PosInf PosInf p q = refl

-- where a is not at most b, b is at most a
pub le_other : (a b : Ext) → ext_le a b ≡ false → IsTrue (ext_le b a)
le_other a b e = elim (le_total a b) [ inl p ↦ grind arith | inr q ↦ q ]

max_above : (test : Bool) (a b : Ext) → ext_le a b ≡ test → IsTrue (ext_le a (cond test b a))
max_above true a b e = grind arith
max_above false a b e = le_refl a

max_over : (test : Bool) (a b : Ext) → ext_le a b ≡ test → IsTrue (ext_le b (cond test b a))
max_over true a b e = le_refl b
max_over false a b e = le_other a b e

min_below : (test : Bool) (a b : Ext) → ext_le a b ≡ test → IsTrue (ext_le (cond test a b) a)
min_below true a b e = le_refl a
min_below false a b e = le_other a b e

min_under : (test : Bool) (a b : Ext) → ext_le a b ≡ test → IsTrue (ext_le (cond test a b) b)
min_under true a b e = grind arith
min_under false a b e = le_refl b

-- the greater of two is at least each, and at most what both are at most
pub max_left : (a b : Ext) → IsTrue (ext_le a (ext_max a b))
max_left a b = max_above (ext_le a b) a b refl

pub max_right : (a b : Ext) → IsTrue (ext_le b (ext_max a b))
max_right a b = max_over (ext_le a b) a b refl

pub max_least : (a b c : Ext) → IsTrue (ext_le a c) → IsTrue (ext_le b c) → IsTrue (ext_le (ext_max a b) c)
max_least a b c p q = elim (ext_le a b) as (λ v. IsTrue (ext_le (cond v b a) c)) [ true ↦ q | false ↦ p ]

-- the lesser of two is at most each, and at least what both are at least
pub min_left : (a b : Ext) → IsTrue (ext_le (ext_min a b) a)
min_left a b = min_below (ext_le a b) a b refl

pub min_right : (a b : Ext) → IsTrue (ext_le (ext_min a b) b)
min_right a b = min_under (ext_le a b) a b refl

pub min_greatest : (a b c : Ext) → IsTrue (ext_le c a) → IsTrue (ext_le c b) → IsTrue (ext_le c (ext_min a b))
min_greatest a b c p q = elim (ext_le a b) as (λ v. IsTrue (ext_le c (cond v a b))) [ true ↦ p | false ↦ q ]

pub total_order : IsTotalOrder ext_le
total_order = record { same = le_refl; chain = le_trans; equal = le_antisym; either = le_total }

pub max_is_greater : IsGreater ext_max
max_is_greater = record { first = max_left; second = max_right; least = max_least }

pub min_is_lesser : IsLesser ext_min
min_is_lesser = record { first = min_left; second = min_right; greatest = min_greatest }
