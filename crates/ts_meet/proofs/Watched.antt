-- Ends that lie under small ones are small; so are numbers that are added of such hulls.
use mir.Val.{SFits}
use Rattle.std.proofs.Common.{w64, ◌≡◌, ◌⊎◌, ◌+◌, ◌<◌, ◌<ℤ◌, ◌≤ℤ◌, ℕ, ℤ, pos, negsuc, Bool, true, false, ◌||◌, List, get_or, inl, inr, refl, sym, ap, subst, ◌∙◌, ⊎_elim, arith}
use Rattle.std.proofs.lemmas.Int.{ints}
use Rattle.std.specs.Int.{int_max}
use Rattle.std.specs.Prelude.{Option, Some, IfSome}
use Rattle.ts_base.specs.Numbers.{ext_le}
use Rattle.ts_base.specs.declared.ext.Ext.TheVariants.{NegInf, PosInf}
use Rattle.ts_base.specs.declared.op.Op.{Op}
use Rattle.ts_base.specs.declared.op.Op.TheVariants.{Add, Max, Min}
use Rattle.ts_automaton.specs.Registers.{EachOf, each}
use Rattle.ts_row.specs.Rows.{lanes_of, nothing}
use Rattle.ts_sweep.specs.declared.packed.Ends.{Ends}
use Rattle.ts_sweep.specs.declared.packed.PackedHull.{PackedHull}
use Rattle.ts_sweep.specs.FrontLaws.{never_added}
use Rattle.ts_sweep.specs.Fronts.{ArePlain}
use Rattle.ts_sweep.specs.Lanes.{least}
use Rattle.ts_sweep.specs.Packed.{IsPacked, IsSomeEnds, ends, max_ends, negated, upper}
use Rattle.ts_sweep.specs.Sides.{lane_count, sides}
use Rattle.ts_sweep.specs.UpperLaws.{high_or_not, low_or_not, upper_low, upper_mid}
use Rattle.ts_meet.specs.declared.gluing.Gluing.{Gluing}
use Rattle.ts_meet.specs.declared.column.Watched.{Watched}
use Rattle.ts_meet.specs.Joints.{IsHeldPlain, IsOpenPlain, IsPlain, is_add}
use Rattle.ts_meet.specs.Peaks.{AreBelow, ArePlainHeld, AreTaken, AreWatched, HoldsInHull, HoldsInHulls, IsAnswerHeld, IsAtMost, IsHeldBy, IsKnown, IsUnder, IsUnheld, IsUnheldWith, higher}
use Rattle.ts_meet.specs.Settled.{ArePlaces}
use Rattle.ts_meet.specs.Sides.{IsInfinity, IsNeutral, side_of}
use Rattle.ts_meet.proofs.Asking.{read_there}

-- end by end

left_low : (x y : ℤ) → int_max x y <ℤ pos 9223372036854775807 → x <ℤ pos 9223372036854775807
left_low x y h = grind (arith, ints)

left_below : (x y z : ℤ) → z ≤ℤ x → z ≤ℤ int_max x y
left_below x y z h = grind (arith, ints)

below_either : (x y z : ℤ) → IsAtMost z x → IsAtMost z (int_max x y)
below_either x y z h low = left_below x y z (h (left_low x y low))

below_other : (x y : ℤ) → y ≤ℤ int_max x y
below_other x y = grind (arith, ints)

ends_still : (a b e : Ends) → AreBelow e a → AreBelow e (max_ends a b)
ends_still a b e h = (below_either a.below b.below e.below h.0, below_either a.above b.above e.above h.1)

ends_now : (a b : Ends) → AreBelow b (max_ends a b)
ends_now a b = (λ l. below_other a.below b.below, λ l. below_other a.above b.above)

left_under : (x y z : ℤ) → int_max x y ≤ℤ z → x ≤ℤ z
left_under x y z h = grind (arith, ints)

right_under : (x y z : ℤ) → int_max x y ≤ℤ z → y ≤ℤ z
right_under x y z h = grind (arith, ints)

unheld_still : (k b c : Ends) → IsUnheldWith k c → IsUnheldWith (max_ends k b) c
unheld_still k b c h Add low = low
unheld_still k b c h Max low = h Max (left_under k.above b.above _ low)
unheld_still k b c h Min low = h Min (left_under k.below b.below _ low)

-- ends of a register, one of which lies at the infinity inwards, are that infinity

lowest : (x : ℤ) → least <ℤ x → x ≤ℤ negsuc 9223372036854775806 → x ≡ negsuc 9223372036854775806
lowest x some low = grind (arith, ints, some, low)

highest : (x : ℤ) → SFits w64 x → pos 9223372036854775807 ≤ℤ x → x ≡ pos 9223372036854775807
highest x fits high = grind (arith, ints, fits)

none_above : (x : ℤ) → ext_le (negated (upper x)) NegInf ≡ true → pos 9223372036854775807 ≤ℤ x
none_above x some = elim (high_or_not x) [
  | inl high ↦ high
  | inr below ↦ elim (low_or_not x) [
    | inl low ↦ never_added (sym some ∙ ap (λ z. ext_le (negated z) NegInf) (upper_low x low))
    | inr above ↦ never_added (sym some ∙ ap (λ z. ext_le (negated z) NegInf) (upper_mid x above below))
  ]
]

none_below : (x : ℤ) → ext_le PosInf (upper x) ≡ true → pos 9223372036854775807 ≤ℤ x
none_below x some = elim (high_or_not x) [
  | inl high ↦ high
  | inr below ↦ elim (low_or_not x) [
    | inl low ↦ never_added (sym some ∙ ap (ext_le PosInf) (upper_low x low))
    | inr above ↦ never_added (sym some ∙ ap (ext_le PosInf) (upper_mid x above below))
  ]
]

neutral_now : (c : Ends) → SFits w64 c.below → SFits w64 c.above → IsSomeEnds c → IsUnheldWith c c
neutral_now c f g some Add low = low
neutral_now c f g some Max low =
    let has = subst (λ z. ext_le (negated (upper c.below)) z ≡ true) (upper_low c.above low) some.some in
    (highest c.below f (none_above c.below has), lowest c.above some.above low)
neutral_now c f g some Min low =
    let has = subst (λ z. ext_le (negated z) (upper c.above) ≡ true) (upper_low c.below low) some.some in
    (lowest c.below some.below low, highest c.above g (none_below c.above has))

unheld_now : (k c : Ends) → SFits w64 c.below → SFits w64 c.above → IsSomeEnds c → IsUnheldWith (max_ends k c) c
unheld_now k c f g some Add low = low
unheld_now k c f g some Max low = neutral_now c f g some Max (right_under k.above c.above _ low)
unheld_now k c f g some Min low = neutral_now c f g some Min (right_under k.below c.below _ low)

-- what was under the peaks stays so, and what is joined to them is so

pub under_still : (k b a : EachOf Ends) → IsUnder k a → IsUnder (higher k b) a
under_still k b a h = (
  ends_still k.c b.c a.c h.0,
  ends_still k.e b.e a.e h.1,
  ends_still k.d b.d a.d h.2,
  ends_still k.f b.f a.f h.3,
  ends_still k.r b.r a.r h.4,
  unheld_still k.c b.c a.c h.5,
)

pub under_now : (k a : EachOf Ends) → SFits w64 a.c.below → SFits w64 a.c.above → IsSomeEnds a.c → IsUnder (higher k a) a
under_now k a f g some =
    (ends_now k.c a.c, ends_now k.e a.e, ends_now k.d a.d, ends_now k.f a.f, ends_now k.r a.r, unheld_now k.c a.c f g some)

-- of the greatest numbers nothing is known

abbrev unknown : Ends
unknown = ends (pos 9223372036854775807) (pos 9223372036854775807)

never_low : (x : ℤ) → IsAtMost x (pos 9223372036854775807)
never_low x low = absurd (omega (arith, ints, low))

under_unknown : (e : Ends) → AreBelow e unknown
under_unknown e = (never_low e.below, never_low e.above)

unknown_unheld : (c : Ends) → IsUnheldWith unknown c
unknown_unheld c Add low = low
unknown_unheld c Max low = absurd (omega (arith, ints, low))
unknown_unheld c Min low = absurd (omega (arith, ints, low))

pub all_known : (a : EachOf Ends) → IsUnder (each unknown unknown unknown unknown unknown) a
all_known a = (under_unknown a.c, under_unknown a.e, under_unknown a.d, under_unknown a.f, under_unknown a.r, unknown_unheld a.c)

-- what lies under small numbers is small

plain_at_most : (x peak : ℤ) → IsAtMost x peak → peak ≤ℤ pos 10000000000000000 → x ≤ℤ pos 10000000000000000
plain_at_most x peak h p = let k = h (omega (arith, ints, p)) in omega (arith, ints, k, p)

plain_below : (e peak : Ends) → AreBelow e peak → ArePlain peak → ArePlain e
plain_below e peak h p = (plain_at_most e.below peak.below h.0 p.0, plain_at_most e.above peak.above h.1 p.1)

left_or : (u v : Bool) → u ≡ true → (u || v) ≡ true
left_or u v e = ap (λ z. z || v) e

open_below : (o : Op) (e peak : Ends) → AreBelow e peak → IsOpenPlain o peak → IsOpenPlain o e
open_below Add e peak h p = plain_below e peak h p
open_below Max e peak h p = plain_at_most e.above peak.above h.1 p
open_below Min e peak h p = plain_at_most e.below peak.below h.0 p

right_or : (u v : Bool) → v ≡ true → (u || v) ≡ true
right_or true v e = refl
right_or false v e = e

pub plain_within : (g : Gluing) (k l a b : EachOf Ends) → g.joins ≡ true → IsPlain g k l → IsUnder k a → IsUnder l b → IsPlain g a b
plain_within g k l a b joins p u v = record {
  results = λ e. let rs = p.results e in (plain_below a.r k.r u.4 rs.0, plain_below b.r l.r v.4 rs.1);
  held = λ j. never_added (sym joins ∙ j);
  folded = λ j e. let f = p.folded j e in record {
    left_open = open_below g.fold a.d k.d u.2 f.left_open;
    right_open = open_below g.fold b.d l.d v.2 f.right_open;
    left_held = λ h. plain_below a.c k.c u.0 (f.left_held h);
    right_held = λ h. plain_below b.c l.c v.0 (f.right_held h);
  };
  away = λ j w. let f = p.away j w in (
    f.0,
    record {
      left_open = open_below Min a.f k.f u.3 f.1.left_open;
      right_open = open_below Min b.f l.f v.3 f.1.right_open;
      left_held = λ h. plain_below a.e k.e u.1 (f.1.left_held h);
      right_held = λ h. plain_below b.e l.e v.1 (f.1.right_held h);
    },
  );
}

-- answers of both runs
pub answers_plain : (g : Gluing) (a b : EachOf Ends) → g.joins ≡ false → (is_add g.result ≡ true → ArePlain a.r × ArePlain b.r) →
    IsHeldPlain g.wide (is_add g.result) a → IsHeldPlain g.wide (is_add g.result) b → IsPlain g a b
answers_plain g a b none results p q = record {
  results = results;
  held = λ j. (p, q);
  folded = λ j e. never_added (sym j ∙ none);
  away = λ j w. never_added (sym j ∙ none);
}

-- where C isn't held it is infinite, which is as good where results aren't added
infinite : (o : Op) (c : Ends) → IsNeutral o c → ArePlain c ⊎ ((is_add o ≡ false) × IsInfinity c)
infinite Add c n = absurd n
infinite Max c n = inr (refl, inl n)
infinite Min c n = inr (refl, inr n)

pub held_side : (wide : Bool) (o : Op) (held : Bool) (a : EachOf Ends) → ArePlain a.e → IsHeldBy true o held a.c →
    IsHeldPlain wide (is_add o) a × IsHeldBy wide o held a.c
held_side wide o true a e c = ((λ w. e, λ w. inl (c refl)), λ w. c refl)
held_side wide o false a e c = ((λ w. e, λ w. infinite o a.c c), c)

-- under peaks that are small where that is needed C is held, or as if held
pub under_held : (wide : Bool) (o : Op) (k a : EachOf Ends) → IsUnder k a → (is_add o ≡ true → ArePlain k.r) → (wide ≡ true → ArePlain k.e) →
    ((wide || is_add o) ≡ true → ArePlain k.c) → IsAnswerHeld wide o true a
under_held wide o k a u r e c = (
  λ h. plain_below a.r k.r u.4 (r h),
  (λ w. plain_below a.e k.e u.1 (e w), λ h. inl (plain_below a.c k.c u.0 (c h))),
  λ w. plain_below a.c k.c u.0 (c (left_or wide (is_add o) w)),
)

-- or it isn't held anywhere
pub under_unheld : (wide : Bool) (o : Op) (k a : EachOf Ends) → IsUnder k a → (is_add o ≡ true → ArePlain k.r) → (wide ≡ true → ArePlain k.e) →
    IsUnheld o k.c → IsAnswerHeld wide o false a
under_unheld wide o k a u r e low = (
  λ h. plain_below a.r k.r u.4 (r h),
  (λ w. plain_below a.e k.e u.1 (e w), λ h. infinite o a.c (u.5 o low)),
  u.5 o low,
)

-- hulls of which enough is known are taken at each place
pub all_taken : (n : ℕ) (g : Gluing) (k l : Watched) (left right : List (PackedHull n)) (from count : ℕ) →
    ((a b : EachOf Ends) → IsKnown k a → IsKnown l b → IsPlain g a b) →
    AreWatched n k left from count → AreWatched n l right from count → AreTaken n (IsPlain g) left right from count
all_taken n g k l left right from count plain first second i before here there =
    plain (side_of (sides n) (lanes_of n (get_or left (from + i) (nothing n)))) (side_of (sides n) (lanes_of n (get_or right (from + i) (nothing n))))
    (first i before here) (second i before there)

-- so where it is told on both sides whether C is held

told_by : (r : Option Bool) (held : Bool) (Holds : Bool → Type 0) → r ≡ Some held → IfSome r Holds → Holds held
told_by r held Holds is h = subst (λ z. IfSome z Holds) is h

pub held_taken : (n : ℕ) (here there : Bool) (g : Gluing) (k l : Watched) (r s : Option Bool) (left right : List (PackedHull n)) (from count : ℕ) →
    g.joins ≡ false → r ≡ Some here → s ≡ Some there →
    ((a : EachOf Ends) → IfSome r (λ held. IsKnown k a → IsAnswerHeld g.wide g.result held a)) →
    ((b : EachOf Ends) → IfSome s (λ held. IsKnown l b → IsAnswerHeld g.wide g.result held b)) →
    AreWatched n k left from count → AreWatched n l right from count → AreTaken n (ArePlainHeld here there g) left right from count
held_taken n here there g k l r s left right from count none first_is second_is p q first second i before u v =
    let a = side_of (sides n) (lanes_of n (get_or left (from + i) (nothing n))) in
    let b = side_of (sides n) (lanes_of n (get_or right (from + i) (nothing n))) in
    let x = told_by r here (λ held. IsKnown k a → IsAnswerHeld g.wide g.result held a) first_is (p a) (first i before u) in
    let y = told_by s there (λ held. IsKnown l b → IsAnswerHeld g.wide g.result held b) second_is (q b) (second i before v) in
    (answers_plain g a b none (λ e. (x.0 e, y.0 e)) x.1 y.1, x.2, y.2)

pub told_taken : (n : ℕ) (here there h t : Bool) (g : Gluing) (left right : List (PackedHull n)) (from count : ℕ) → here ≡ h → there ≡ t →
    AreTaken n (ArePlainHeld here there g) left right from count → AreTaken n (ArePlainHeld h t g) left right from count
told_taken n here there h t g left right from count e f taken =
    subst (λ z. AreTaken n (ArePlainHeld z t g) left right from count) e
    (subst (λ z. AreTaken n (ArePlainHeld here z g) left right from count) f taken)

below_or_same : (i k : ℕ) → i < k + 1 → (i < k) ⊎ (i ≡ k)
below_or_same i k l = grind arith

-- the hull that was read at one of `count` places is packed
pub hull_there : (n from count i : ℕ) (hulls : List (PackedHull n)) (h : PackedHull n) → ArePlaces n (from + count) hulls → i < count →
    h ≡ get_or hulls (from + i) h → h ≡ get_or hulls (from + i) (nothing n)
hull_there n from count i hulls h places before is =
    let long = places.0 in read_there n hulls (from + i) h is (omega (arith, long, before))

pub packed_there : (n from count i : ℕ) (hulls : List (PackedHull n)) (h : PackedHull n) → ArePlaces n (from + count) hulls → i < count →
    h ≡ get_or hulls (from + i) h → IsPacked (lane_count n) (lanes_of n h)
packed_there n from count i hulls h places before is =
    subst (λ z. IsPacked (lane_count n) (lanes_of n z)) (sym (hull_there n from count i hulls h places before is))
    (places.1 (from + i) (omega (arith, before)))

-- what holds of one hull more
pub holds_more : (n : ℕ) (Held Holds : EachOf Ends → Type 0) (hulls : List (PackedHull n)) (from i : ℕ) (h : PackedHull n) →
    ((a : EachOf Ends) → Held a → Holds a) → HoldsInHull n Holds h → h ≡ get_or hulls (from + i) (nothing n) →
    HoldsInHulls n Held hulls from i → HoldsInHulls n Holds hulls from (i + 1)
holds_more n Held Holds hulls from i h kept added is before j l =
    ⊎_elim
    (λ b some. kept (side_of (sides n) (lanes_of n (get_or hulls (from + j) (nothing n)))) (before j b some))
    (λ e. subst (λ x. HoldsInHull n Holds (get_or hulls (from + x) (nothing n))) (sym e) (subst (HoldsInHull n Holds) is added))
    (below_or_same j i l)
