-- The branches of a clamped sum of ends in lanes.
use Rattle.std.proofs.Common.{◌≡◌, inl, inr, ◌≤ℤ◌, ◌<ℤ◌, ◌+ℤ◌, ℤ, pos, negsuc, neg_ℤ, refl, sym, ap, ◌∙◌, arith}
use Rattle.std.proofs.lemmas.Int.{ints, clamps}
use Rattle.ts_base.specs.Numbers.{ext_plus, clamp}
use Rattle.ts_base.specs.declared.ext.Ext.{Ext}
use Rattle.ts_base.specs.declared.ext.Ext.TheVariants.{NegInf, Int, PosInf}
use Rattle.ts_sweep.specs.Packed.{upper, negated}
use Rattle.ts_sweep.specs.Trees.{lane_of, sum_above, sum_below}
use Rattle.ts_sweep.specs.UpperLaws.{upper_low, upper_high, upper_mid, low_or_not, high_or_not}

plus_low : (a : Ext) → ext_plus a NegInf ≡ NegInf
plus_low NegInf = refl
plus_low (Int x) = refl
plus_low PosInf = refl

-- the sum of upper ends

pub above_left : (x y : ℤ) → x ≤ℤ negsuc 9223372036854775806 → negsuc 9223372036854775806 ≡ sum_above x y
above_left x y h = sym (ap (λ a. lane_of (ext_plus a (upper y))) (upper_low x h))

pub above_right : (x y : ℤ) → y ≤ℤ negsuc 9223372036854775806 → negsuc 9223372036854775806 ≡ sum_above x y
above_right x y h = sym (ap (λ b. lane_of (ext_plus (upper x) b)) (upper_low y h) ∙ ap lane_of (plus_low (upper x)))

pub above_first : (x y : ℤ) → pos 9223372036854775807 ≤ℤ x → negsuc 9223372036854775806 <ℤ y → pos 9223372036854775807 ≡ sum_above x y
above_first x y h k =
    sym (ap (λ a. lane_of (ext_plus a (upper y))) (upper_high x h) ∙ elim (high_or_not y) [
      | inl high ↦ ap (λ b. lane_of (ext_plus PosInf b)) (upper_high y high)
      | inr below ↦ ap (λ b. lane_of (ext_plus PosInf b)) (upper_mid y k below)
    ])

pub above_second : (x y : ℤ) → negsuc 9223372036854775806 <ℤ x → pos 9223372036854775807 ≤ℤ y → pos 9223372036854775807 ≡ sum_above x y
above_second x y k h =
    sym (ap (λ b. lane_of (ext_plus (upper x) b)) (upper_high y h) ∙ elim (high_or_not x) [
      | inl high ↦ ap (λ a. lane_of (ext_plus a PosInf)) (upper_high x high)
      | inr below ↦ ap (λ a. lane_of (ext_plus a PosInf)) (upper_mid x k below)
    ])

pub above_numbers : (x y : ℤ) → negsuc 9223372036854775806 <ℤ x → x <ℤ pos 9223372036854775807 → negsuc 9223372036854775806 <ℤ y →
    y <ℤ pos 9223372036854775807 → clamp (x +ℤ y) ≡ sum_above x y
above_numbers x y a b c d =
    sym (ap (λ e. lane_of (ext_plus e (upper y))) (upper_mid x a b) ∙ ap (λ e. lane_of (ext_plus (Int x) e)) (upper_mid y c d))

-- the sum of lower ends, which are negated

pub below_left : (x y : ℤ) → pos 9223372036854775807 ≤ℤ x → pos 9223372036854775807 ≡ sum_below x y
below_left x y h = sym (ap (λ a. lane_of (negated (ext_plus (negated a) (negated (upper y))))) (upper_high x h))

pub below_first : (x y : ℤ) → x ≤ℤ negsuc 9223372036854775806 → y <ℤ pos 9223372036854775807 → negsuc 9223372036854775806 ≡ sum_below x y
below_first x y h k =
    sym (ap (λ a. lane_of (negated (ext_plus (negated a) (negated (upper y))))) (upper_low x h) ∙ elim (low_or_not y) [
      | inl low ↦ ap (λ b. lane_of (negated (ext_plus PosInf (negated b)))) (upper_low y low)
      | inr above ↦ ap (λ b. lane_of (negated (ext_plus PosInf (negated b)))) (upper_mid y above k)
    ])

turned : (x y : ℤ) → clamp (x +ℤ y) ≡ neg_ℤ (clamp (neg_ℤ x +ℤ neg_ℤ y))
turned x y = omega (arith, ints, clamps)

pub below_numbers : (x y : ℤ) → negsuc 9223372036854775806 <ℤ x → x <ℤ pos 9223372036854775807 → negsuc 9223372036854775806 <ℤ y →
    y <ℤ pos 9223372036854775807 → clamp (x +ℤ y) ≡ sum_below x y
below_numbers x y a b c d =
    turned x y
    ∙ sym (ap (λ e. lane_of (negated (ext_plus (negated e) (negated (upper y))))) (upper_mid x a b)
    ∙ ap (λ e. lane_of (negated (ext_plus (Int (neg_ℤ x)) (negated e)))) (upper_mid y c d))
