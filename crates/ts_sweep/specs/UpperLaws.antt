-- A lane as an upper end, and negated as a lower one: order, and what is a number.
-- Lemmas, no definitions: they are here since ghost members of impls cite them.
use Rattle.std.proofs.Common.{◌≡◌, ◌⊎◌, inl, inr, ◌≤ℤ◌, ◌<ℤ◌, ℤ, pos, negsuc, neg_ℤ, Bool, true, false, cond, int_le, refl, sym, ap, ◌∙◌, arith}
use Rattle.std.specs.Int.{int_max, int_min}
use Rattle.std.proofs.lemmas.Int.{ints}
use Rattle.ts_base.specs.Numbers.{ext_le, ext_max, ext_min}
use Rattle.ts_base.specs.declared.ext.Ext.{Ext}
use Rattle.ts_base.specs.declared.ext.Ext.TheVariants.{NegInf, Int, PosInf}
use Rattle.ts_sweep.specs.Packed.{upper, negated}

pub low_or_not : (x : ℤ) → (x ≤ℤ negsuc 9223372036854775806) ⊎ (negsuc 9223372036854775806 <ℤ x)
low_or_not x = grind (arith, ints)

pub high_or_not : (x : ℤ) → (pos 9223372036854775807 ≤ℤ x) ⊎ (x <ℤ pos 9223372036854775807)
high_or_not x = grind (arith, ints)

le_or_not : (x y : ℤ) → (x ≤ℤ y) ⊎ (y ≤ℤ x)
le_or_not x y = grind (arith, ints)

le_true : (x y : ℤ) → x ≤ℤ y → int_le x y ≡ true
le_true x y h = grind (arith, ints)

le_false : (x y : ℤ) → y <ℤ x → int_le x y ≡ false
le_false x y h = grind (arith, ints)

max_right : (x y : ℤ) → x ≤ℤ y → int_max x y ≡ y
max_right x y h = grind (arith, ints)

max_left : (x y : ℤ) → y ≤ℤ x → int_max x y ≡ x
max_left x y h = grind (arith, ints)

min_right : (x y : ℤ) → y ≤ℤ x → int_min x y ≡ y
min_right x y h = grind (arith, ints)

min_left : (x y : ℤ) → x ≤ℤ y → int_min x y ≡ x
min_left x y h = grind (arith, ints)

pub upper_low : (x : ℤ) → x ≤ℤ negsuc 9223372036854775806 → upper x ≡ NegInf
upper_low x h = ap (λ b. cond b NegInf (cond (int_le (pos 9223372036854775807) x) PosInf (Int x)))
    (le_true x (negsuc 9223372036854775806) h)

pub upper_high : (x : ℤ) → pos 9223372036854775807 ≤ℤ x → upper x ≡ PosInf
upper_high x h =
    let above : negsuc 9223372036854775806 <ℤ x = omega (arith, ints, h) in
    ap (λ b. cond b NegInf (cond (int_le (pos 9223372036854775807) x) PosInf (Int x)))
    (le_false x (negsuc 9223372036854775806) above)
    ∙ ap (λ b. cond b PosInf (Int x)) (le_true (pos 9223372036854775807) x h)

pub upper_mid : (x : ℤ) → negsuc 9223372036854775806 <ℤ x → x <ℤ pos 9223372036854775807 → upper x ≡ Int x
upper_mid x low high =
    ap (λ b. cond b NegInf (cond (int_le (pos 9223372036854775807) x) PosInf (Int x)))
    (le_false x (negsuc 9223372036854775806) low)
    ∙ ap (λ b. cond b PosInf (Int x)) (le_false (pos 9223372036854775807) x high)

top_of : (a : Ext) → ext_le a PosInf ≡ true
top_of NegInf = refl
top_of (Int x) = refl
top_of PosInf = refl

-- a greater lane stands for a greater end
pub upper_mono : (x y : ℤ) → x ≤ℤ y → ext_le (upper x) (upper y) ≡ true
upper_mono x y h = elim (low_or_not x) [
  | inl low ↦ ap (λ a. ext_le a (upper y)) (upper_low x low)
  | inr above ↦ elim (high_or_not y) [
    | inl high ↦ ap (ext_le (upper x)) (upper_high y high) ∙ top_of (upper x)
    | inr below ↦ ap (λ a. ext_le a (upper y)) (upper_mid x above (omega (arith, ints, h, below)))
        ∙ ap (ext_le (Int x)) (upper_mid y (omega (arith, ints, h, above)) below) ∙ le_true x y h
  ]
]

-- of two ends the greater has the lesser negative: so lower ends are kept as upper ones
pub negated_mono : (a b : Ext) → ext_le a b ≡ true → ext_le (negated b) (negated a) ≡ true
negated_mono NegInf b h = top_of (negated b)
negated_mono (Int x) NegInf h = cc
negated_mono (Int x) (Int y) h =
    let le : x ≤ℤ y = grind (arith, ints) in le_true (neg_ℤ y) (neg_ℤ x) (omega (arith, ints, le))
negated_mono (Int x) PosInf h = refl
negated_mono PosInf NegInf h = cc
negated_mono PosInf (Int y) h = cc
negated_mono PosInf PosInf h = refl

pub lower_mono : (x y : ℤ) → x ≤ℤ y → ext_le (negated (upper y)) (negated (upper x)) ≡ true
lower_mono x y h = negated_mono (upper x) (upper y) (upper_mono x y h)

antisym : (a b : Ext) → ext_le a b ≡ true → ext_le b a ≡ true → a ≡ b
antisym NegInf NegInf h k = refl
antisym NegInf (Int y) h k = cc
antisym NegInf PosInf h k = cc
antisym (Int x) NegInf h k = cc
antisym (Int x) (Int y) h k = ap Int (grind (arith, ints))
antisym (Int x) PosInf h k = cc
antisym PosInf NegInf h k = cc
antisym PosInf (Int y) h k = cc
antisym PosInf PosInf h k = refl

pick_max : (a b : Ext) → ext_le a b ≡ true → ext_max a b ≡ b
pick_max a b h = ap (λ t. cond t b a) h

pick_max_left : (a b : Ext) → ext_le b a ≡ true → ext_max a b ≡ a
pick_max_left a b h = go (ext_le a b) refl
  where
    go : (t : Bool) → ext_le a b ≡ t → ext_max a b ≡ a
    go true e = ap (λ t. cond t b a) e ∙ antisym b a h e
    go false e = ap (λ t. cond t b a) e

pick_min : (a b : Ext) → ext_le a b ≡ true → ext_min a b ≡ a
pick_min a b h = ap (λ t. cond t a b) h

pick_min_right : (a b : Ext) → ext_le b a ≡ true → ext_min a b ≡ b
pick_min_right a b h = go (ext_le a b) refl
  where
    go : (t : Bool) → ext_le a b ≡ t → ext_min a b ≡ b
    go true e = ap (λ t. cond t a b) e ∙ antisym a b e h
    go false e = ap (λ t. cond t a b) e

pub upper_max : (x y : ℤ) → upper (int_max x y) ≡ ext_max (upper x) (upper y)
upper_max x y = elim (le_or_not x y) [
  | inl le ↦ ap upper (max_right x y le) ∙ sym (pick_max (upper x) (upper y) (upper_mono x y le))
  | inr ge ↦ ap upper (max_left x y ge) ∙ sym (pick_max_left (upper x) (upper y) (upper_mono y x ge))
]

pub upper_min : (x y : ℤ) → upper (int_min x y) ≡ ext_min (upper x) (upper y)
upper_min x y = elim (le_or_not x y) [
  | inl le ↦ ap upper (min_left x y le) ∙ sym (pick_min (upper x) (upper y) (upper_mono x y le))
  | inr ge ↦ ap upper (min_right x y ge) ∙ sym (pick_min_right (upper x) (upper y) (upper_mono y x ge))
]

-- the greater lane of lower ends stands for the lesser end, the lesser for the greater
pub lower_max : (x y : ℤ) → negated (upper (int_max x y)) ≡ ext_min (negated (upper x)) (negated (upper y))
lower_max x y = elim (le_or_not x y) [
  | inl le ↦ ap (λ z. negated (upper z)) (max_right x y le)
      ∙ sym (pick_min_right (negated (upper x)) (negated (upper y)) (lower_mono x y le))
  | inr ge ↦ ap (λ z. negated (upper z)) (max_left x y ge)
      ∙ sym (pick_min (negated (upper x)) (negated (upper y)) (lower_mono y x ge))
]

pub lower_min : (x y : ℤ) → negated (upper (int_min x y)) ≡ ext_max (negated (upper x)) (negated (upper y))
lower_min x y = elim (le_or_not x y) [
  | inl le ↦ ap (λ z. negated (upper z)) (min_left x y le)
      ∙ sym (pick_max_left (negated (upper x)) (negated (upper y)) (lower_mono x y le))
  | inr ge ↦ ap (λ z. negated (upper z)) (min_right x y ge)
      ∙ sym (pick_max (negated (upper x)) (negated (upper y)) (lower_mono y x ge))
]
