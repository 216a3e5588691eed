-- Spans whose ends reach others have what is asked: one of their ends shows it, or the bound itself.
use Rattle.std.proofs.Common.{◌≡◌, ◌≤ℤ◌, ◌<ℤ◌, ℤ, neg_ℤ, to_z, of_z, w64, Bool, true, false, not, int_le, refl, sym, ap, subst, ◌∙◌, arith}
use Rattle.std.specs.Int.{int_max}
use Rattle.std.specs.Prelude.{◌+ℤ◌, pos, Option, None, Some, IfSome}
use Rattle.std.proofs.lemmas.Bool.{and_from, not-false}
use Rattle.std.proofs.lemmas.Int.{ints, to_z-of_z}
use mir.Val.{SFits}
use Rattle.ts_base.specs.declared.ext.Ext.{Ext}
use Rattle.ts_base.specs.declared.ext.Ext.TheVariants.{Int}
use Rattle.ts_base.specs.declared.goal.Goal.TheVariants.{Maximise, Minimise}
use Rattle.ts_base.specs.declared.span.Span.{Span}
use Rattle.ts_base.specs.Numbers.{ext_le}
use Rattle.ts_base.specs.Spans.{has_some}
use Rattle.ts_base.proofs.Order.{le_refl, le_trans}
use Rattle.ts_model.specs.declared.model.Op.TheVariants.{Equal, AtMost, AtLeast, Below, Above}
use Rattle.ts_sweep.specs.declared.packed.Ends.{Ends}
use Rattle.ts_sweep.specs.Packed.{IsWithin, max_ends, negated, upper}
use Rattle.ts_sweep.specs.UpperLaws.{lower_mono, upper_mid, upper_mono}
use Rattle.ts_meet.specs.Asked.{AreEnough, Reaches}
use Rattle.ts_filter.specs.declared.bar.Bar.TheVariants.{AsGood}
use Rattle.ts_filter.specs.Excluded.{Cuts, Refutes}
use Rattle.ts_filter.proofs.SoundLaws.{clash}

some_reached : (given : Ends) (s : Span) → Reaches given s → has_some s ≡ true
some_reached given s r = ap has_some (sym r.packs.span) ∙ r.packs.some.some

at_most_so : (x y : ℤ) → x ≤ℤ y → int_le x y ≡ true
at_most_so x y h = grind (arith, ints)

at_most_self : (x : ℤ) → x ≤ℤ x
at_most_self x = grind (arith, ints)

left_under : (x y z : ℤ) → int_max x y ≤ℤ z → x ≤ℤ z
left_under x y z h = grind (arith, ints)

right_under : (x y z : ℤ) → int_max x y ≤ℤ z → y ≤ℤ z
right_under x y z h = grind (arith, ints)

not_not_false : (t : Bool) → not (not t) ≡ false → t ≡ false
not_not_false true h = h
not_not_false false h = refl

-- what lies below the lanes given lies below the ends of the span

high_reached : (given : Ends) (s : Span) (x : ℤ) → Reaches given s → given.above ≡ x → ext_le (upper x) s.hi ≡ true
high_reached given s x r e =
    let above = r.above in
    subst (λ (z : Span). ext_le (upper x) z.hi ≡ true) r.packs.span (upper_mono x r.ends.above (subst (λ z. z ≤ℤ r.ends.above) e above))

low_reached : (given : Ends) (s : Span) (x : ℤ) → Reaches given s → given.below ≡ x → ext_le s.lo (negated (upper x)) ≡ true
low_reached given s x r e =
    let below = r.below in
    subst (λ (z : Span). ext_le z.lo (negated (upper x)) ≡ true) r.packs.span (lower_mono x r.ends.below (subst (λ z. z ≤ℤ r.ends.below) e below))

-- the lanes given are numbers, no infinities

number : (x : ℤ) → IsWithin 101 x → upper x ≡ Int x
number x w = let a = w.0 in let b = w.1 in upper_mid x (omega (arith, ints, a)) (omega (arith, ints, b))

high_number : (given : Ends) (s : Span) (b x : ℤ) → Reaches given s → given.above ≡ x → IsWithin 101 x → b ≤ℤ x → ext_le (Int b) s.hi ≡ true
high_number given s b x r e w le =
    le_trans (Int b) (Int x) s.hi (at_most_so b x le) (ap (λ z. ext_le z s.hi) (sym (number x w)) ∙ high_reached given s x r e)

low_number : (given : Ends) (s : Span) (b x : ℤ) → Reaches given s → given.below ≡ x → IsWithin 101 x → neg_ℤ x ≤ℤ b → ext_le s.lo (Int b) ≡ true
low_number given s b x r e w le =
    le_trans s.lo (Int (neg_ℤ x)) (Int b) (ap (λ z. ext_le s.lo (negated z)) (sym (number x w)) ∙ low_reached given s x r e) (at_most_so (neg_ℤ x) b le)

-- a number above the bound, or below it, isn't at it
beyond : (x b : ℤ) → b <ℤ x → int_le x b ≡ true → ⊥
beyond x b lt le = grind (arith, ints)

pub at_least : (b x : ℤ) (given : Ends) → given.above ≡ x → IsWithin 101 x → b ≤ℤ x → AreEnough (Refutes AtLeast (Int b)) given
at_least b x given e w le s r none = clash _ (high_number given s b x r e w le) (none s.hi (some_reached given s r, le_refl s.hi))

pub at_most : (b x : ℤ) (given : Ends) → given.below ≡ x → IsWithin 101 x → neg_ℤ x ≤ℤ b → AreEnough (Refutes AtMost (Int b)) given
at_most b x given e w le s r none = clash _ (low_number given s b x r e w le) (none s.lo (le_refl s.lo, some_reached given s r))

pub above : (b x : ℤ) (given : Ends) → given.above ≡ x → IsWithin 101 x → b <ℤ x → AreEnough (Refutes Above (Int b)) given
above b x given e w lt s r none =
    beyond x b lt
    (le_trans (Int x) s.hi (Int b) (high_number given s x x r e w (at_most_self x))
    (not-false (ext_le s.hi (Int b)) (none s.hi (some_reached given s r, le_refl s.hi))))

pub below : (b x : ℤ) (given : Ends) → given.below ≡ x → IsWithin 101 x → neg_ℤ x <ℤ b → AreEnough (Refutes Below (Int b)) given
below b x given e w lt s r none =
    beyond b (neg_ℤ x) lt
    (le_trans (Int b) s.lo (Int (neg_ℤ x)) (not-false (ext_le (Int b) s.lo) (none s.lo (le_refl s.lo, some_reached given s r)))
    (low_number given s (neg_ℤ x) x r e w (at_most_self (neg_ℤ x))))

-- numbers that were passed on

passed : (x : ℤ) → IsWithin 101 x → to_z w64 (of_z w64 x) ≡ x
passed x w = let a = w.0 in let b = w.1 in let fits : SFits w64 x = grind (arith, ints) in to_z-of_z w64 x fits

wider : (x : ℤ) → IsWithin 100 x → IsWithin 101 x
wider x w = let low = w.0 in let high = w.1 in (omega (arith, ints, low), omega (arith, ints, high))

more_within : (x : ℤ) → IsWithin 100 x → IsWithin 101 (x +ℤ pos 1)
more_within x w = let low = w.0 in let high = w.1 in (omega (arith, ints, low), omega (arith, ints, high))

below_more : (x : ℤ) → x <ℤ (x +ℤ pos 1)
below_more x = grind (arith, ints)

pub at_least_passed : (b : ℤ) (given : Ends) → IsWithin 100 b → given.above ≡ to_z w64 (of_z w64 b) → AreEnough (Refutes AtLeast (Int b)) given
at_least_passed b given w e = at_least b b given (e ∙ passed b (wider b w)) (wider b w) (at_most_self b)

pub above_passed : (b : ℤ) (given : Ends) → IsWithin 100 b → given.above ≡ to_z w64 (of_z w64 (to_z w64 (of_z w64 b) +ℤ pos 1)) →
    AreEnough (Refutes Above (Int b)) given
above_passed b given w e =
    let more = b +ℤ pos 1 in
    above b more given (e ∙ ap (λ z. to_z w64 (of_z w64 (z +ℤ pos 1))) (passed b (wider b w)) ∙ passed more (more_within b w)) (more_within b w) (below_more b)

pub equal : (b x y : ℤ) (given : Ends) → given.below ≡ x → given.above ≡ y → IsWithin 101 x → IsWithin 101 y → neg_ℤ x ≤ℤ b → b ≤ℤ y →
    AreEnough (Refutes Equal (Int b)) given
equal b x y given e f v w low high s r none =
    clash _ (and_from (ext_le (Int b) (Int b)) (ext_le (Int b) (Int b)) (le_refl (Int b)) (le_refl (Int b)))
    (none (Int b) (low_number given s b x r e v low, high_number given s b y r f w high))

-- a number that counts meets a comparison with that of the bar

pub greatest_counts : (w : Ext) (o : Option Ends) → IfSome o (AreEnough (Refutes AtLeast w)) → IfSome o (AreEnough (Cuts Maximise (AsGood w)))
greatest_counts w None h = h
greatest_counts w (Some given) h = λ s r none. h s r (λ v held. not_not_false (ext_le w v) (none v held))

pub least_counts : (w : Ext) (o : Option Ends) → IfSome o (AreEnough (Refutes AtMost w)) → IfSome o (AreEnough (Cuts Minimise (AsGood w)))
least_counts w None h = h
least_counts w (Some given) h = λ s r none. h s r (λ v held. not_not_false (ext_le v w) (none v held))

-- what reaches the farther one of two ends reaches both
pub reaches_both : (a b both : Ends) (s : Span) → both ≡ max_ends a b → Reaches both s → Reaches a s × Reaches b s
reaches_both a b both s e r =
    let low : int_max a.below b.below ≤ℤ r.ends.below = subst (λ (z : Ends). z.below ≤ℤ r.ends.below) e r.below in
    let high : int_max a.above b.above ≤ℤ r.ends.above = subst (λ (z : Ends). z.above ≤ℤ r.ends.above) e r.above in (
      record { ends = r.ends; packs = r.packs; below = left_under _ _ _ low; above = left_under _ _ _ high },
      record { ends = r.ends; packs = r.packs; below = right_under _ _ _ low; above = right_under _ _ _ high },
    )
