-- The laws of fronts.
-- Lemmas, no definitions: they are here since ghost members of impls cite them.
use Rattle.std.proofs.Common.{◌≡◌, ◌⊎◌, ℕ, ◌+◌, ◌*◌, ◌<◌, ◌≤◌, ◌≤ℤ◌, ◌<ℤ◌, ℤ, pos, negsuc, neg_ℤ, Bool, true, false, ◌||◌, min, Option, None, Some, List, length, int_le, inl, inr, refl, sym, ap, subst, ◌∙◌, arith}
use Rattle.std.proofs.lemmas.Bool.{and_parts}
use Rattle.std.proofs.lemmas.Int.{ints}
use Rattle.ts_base.specs.declared.ext.Ext.{Ext}
use Rattle.ts_base.specs.declared.ext.Ext.TheVariants.{NegInf, Int, PosInf}
use Rattle.ts_base.specs.declared.span.Span.{Span}
use Rattle.ts_base.specs.Numbers.{ext_le}
use Rattle.ts_base.specs.Spans.{has_some, one_span}
use Rattle.ts_base.proofs.SpanLaws.{one_some}
use Rattle.ts_automaton.specs.declared.expr.Operator.{Operator}
use Rattle.ts_automaton.specs.declared.expr.Operator.TheVariants.{Fold, Sub}
use Rattle.ts_automaton.specs.declared.regs.Hull.{Hull}
use Rattle.ts_automaton.specs.Body.{Move}
use Rattle.ts_automaton.specs.Formula.{Formula, Leaf, Join, is_narrow}
use Rattle.ts_base.specs.declared.op.Op.{Op}
use Rattle.ts_hull.specs.Sealed.{sealed_op, span_in}
use Rattle.ts_sweep.specs.declared.packed.Ends.{Ends}
use Rattle.ts_sweep.specs.declared.packed.Name.{Name}
use Rattle.ts_sweep.specs.declared.packed.Name.TheVariants.{C, E, D, F, R}
use Rattle.ts_sweep.specs.Small.{IsSmall}
use Rattle.ts_sweep.specs.Lanes.{least}
use Rattle.ts_sweep.specs.Packed.{upper, negated, ends, ends_span, ends_at, number_ends, place, ends_in, name_ends, span_in_lanes, name_span, unpacked, IsPlace, IsSomeEnds, AreSome, IsPackOf, IsWithin, AreWithin, IsUnder}
use Rattle.ts_sweep.specs.PackedLaws.{placed, placed_by, rests_at}
use Rattle.ts_sweep.specs.Fronts.{word_of, IsFitRegister, ArePlain, AreEndsOf, Serves, IsFor, IsMoveFor, IsNarrowMove}
use Rattle.ts_sweep.specs.Sides.{Sides, BothEnds, UpperEnds, LowerEnds, IfBelow, IfAbove, IsLower, IsUpper, IsEndsOf}
use Rattle.ts_sweep.specs.UpperLaws.{upper_low, upper_mid, low_or_not}

-- numbers

pub if_below : (s : Sides) (P : Type 0) → P → IfBelow s P
if_below BothEnds P p = p
if_below UpperEnds P p = tt
if_below LowerEnds P p = p

pub if_above : (s : Sides) (P : Type 0) → P → IfAbove s P
if_above BothEnds P p = p
if_above UpperEnds P p = p
if_above LowerEnds P p = tt

pub small_number : (x : ℤ) → IsSmall x → IsWithin 1 x
small_number x h = let a = h.0 in let b = h.1 in (omega (arith, ints, a, b), omega (arith, ints, a, b))

pub one_is_small : IsWithin 1 (pos 1)
one_is_small = (grind (arith, ints), grind (arith, ints))

pub zero_is_small : IsWithin 1 (pos 0)
zero_is_small = (grind (arith, ints), grind (arith, ints))

pub neg_small : (x : ℤ) → IsWithin 1 x → IsWithin 1 (neg_ℤ x)
neg_small x h = let a = h.0 in let b = h.1 in (omega (arith, ints, a, b), omega (arith, ints, a, b))

pub number_within : (x : ℤ) → IsWithin 1 x → AreWithin 1 (ends (neg_ℤ x) x)
number_within x h = (neg_small x h, h)

pub upper_small : (x : ℤ) → IsWithin 1 x → upper x ≡ Int x
upper_small x h = let a = h.0 in let b = h.1 in upper_mid x (omega (arith, ints, a, b)) (omega (arith, ints, a, b))

pub neg_neg : (x : ℤ) → neg_ℤ (neg_ℤ x) ≡ x
neg_neg x = grind (arith, ints)

abbrev pub span_from : Ext → Ext → Span
span_from lo hi = record { lo = lo; hi = hi }

both_ends : (a b c d : Ext) → a ≡ c → b ≡ d → span_from a b ≡ span_from c d
both_ends a b c d p q = cc

pub above_least : (x : ℤ) → IsWithin 1 x → least <ℤ x
above_least x h = let a = h.0 in omega (arith, ints, a)

pub number_packs : (x : ℤ) → IsWithin 1 x → IsPackOf (ends (neg_ℤ x) x) (one_span (Int x))
number_packs x h =
    let is : ends_span (ends (neg_ℤ x) x) ≡ one_span (Int x) =
    both_ends _ _ _ _ (ap negated (upper_small (neg_ℤ x) (neg_small x h)) ∙ ap Int (neg_neg x)) (upper_small x h) in
    record {
      some = record {
        below = above_least (neg_ℤ x) (neg_small x h);
        above = above_least x h;
        some = ap has_some is ∙ one_some (Int x);
      };
      span = is;
    }

-- the kept ends of a number, and of an infinity

number_low : (x : ℤ) → IsWithin 1 x → IsLower (neg_ℤ x) (Int x)
number_low x h =
    (above_least (neg_ℤ x) (neg_small x h), ap negated (upper_small (neg_ℤ x) (neg_small x h)) ∙ ap Int (neg_neg x))

number_high : (x : ℤ) → IsWithin 1 x → IsUpper x (Int x)
number_high x h = (above_least x h, upper_small x h)

pub number_ends_of : (s : Sides) (x : ℤ) → IsWithin 1 x → IsEndsOf s (ends (neg_ℤ x) x) (one_span (Int x))
number_ends_of s x h = record {
  some = one_some (Int x);
  below = if_below s (IsLower (neg_ℤ x) (Int x)) (number_low x h);
  above = if_above s (IsUpper x (Int x)) (number_high x h);
}

low_above : least <ℤ negsuc 9223372036854775806
low_above = grind (arith, ints)

high_above : least <ℤ pos 9223372036854775807
high_above = grind (arith, ints)

pub low_ends : (s : Sides) → IsEndsOf s (ends (pos 9223372036854775807) (negsuc 9223372036854775806)) (one_span NegInf)
low_ends s = record {
  some = refl;
  below = if_below s (IsLower (pos 9223372036854775807) NegInf) (high_above, refl);
  above = if_above s (IsUpper (negsuc 9223372036854775806) NegInf) (low_above, refl);
}

pub high_ends : (s : Sides) → IsEndsOf s (ends (negsuc 9223372036854775806) (pos 9223372036854775807)) (one_span PosInf)
high_ends s = record {
  some = refl;
  below = if_below s (IsLower (negsuc 9223372036854775806) PosInf) (low_above, refl);
  above = if_above s (IsUpper (pos 9223372036854775807) PosInf) (high_above, refl);
}

pub never_added : {A : Type 0} → true ≡ false → A
never_added h = cc

-- registers

pub register_looser : (k : Name) (xs : List ℤ) → IsFitRegister k true xs → IsFitRegister k false xs
register_looser k xs h = λ e. h refl

pub register_within : (k : Name) (xs : List ℤ) → IsFitRegister k true xs → AreWithin 1 (name_ends xs k)
register_within k xs h = h refl

pub some_ends : (n k : ℕ) (xs : List ℤ) → 2 * k + 1 < n → AreSome n xs → IsSomeEnds (ends_at xs k)
some_ends n k xs lt h =
    record { below = h.above (2 * k) (omega (arith, lt)); above = h.above (2 * k + 1) lt; some = h.some k lt }

-- a register stands for its span, by its place and by its name
pub pack_at : (n : ℕ) (xs : List ℤ) (o : Option ℕ) → IsPlace n o → AreSome n xs →
    IsPackOf (ends_in xs o) (span_in_lanes xs o)
pack_at n xs None lt h =
    subst (IsPackOf (number_ends (pos 0))) (sym (rests_at n xs lt h)) (number_packs (pos 0) zero_is_small)
pack_at n xs (Some p) lt h = record { some = some_ends n p xs lt h; span = refl }

pub name_packs : (n : ℕ) (xs : List ℤ) (k : Name) → 6 ≤ n → AreSome n xs → IsPackOf (name_ends xs k) (name_span xs k)
name_packs n xs k big h = pack_at n xs (place (length xs) k) (placed_by n xs k big h.len) h

pub register_packs : (s : Sides) (k : Name) (xs : List ℤ) (h : Hull) (x y : ℤ) → AreEndsOf s xs h →
    IsEndsOf s (name_ends xs k) (span_in (Leaf (word_of k)) h x y)
register_packs s C xs h x y are = are C
register_packs s E xs h x y are = are E
register_packs s D xs h x y are = are D
register_packs s F xs h x y are = are F
register_packs s R xs h x y are = are R

-- which ends serve an expression, its parts and its operator
pub for_parts : (s : Sides) (o : Op) (f g : Formula) → IsFor s (Join (Fold o) f g) → IsFor s f × IsFor s g
for_parts BothEnds o f g h = (tt, tt)
for_parts UpperEnds o f g h = and_parts (is_narrow f) (is_narrow g) h
for_parts LowerEnds o f g h = and_parts (is_narrow f) (is_narrow g) h

pub parts_served : (s : Sides) (o : Operator) (f g : Formula) → IsFor s (Join o f g) → Serves s o × IsFor s f ×
    IsFor s g
parts_served s (Fold o) f g h = let p = for_parts s o f g h in (tt, p.0, p.1)
parts_served BothEnds Sub f g h = (refl, tt, tt)
parts_served UpperEnds Sub f g h = cc
parts_served LowerEnds Sub f g h = cc

-- narrow moves serve one end alone, others both
pub move_for : (s : Sides) (wide : Bool) (m : Move) → (s ≡ BothEnds) ⊎ (wide ≡ false) →
    (wide ≡ false → IsNarrowMove m) → IsMoveFor s m
move_for BothEnds wide m alone narrow = (tt, (tt, (tt, tt)))
move_for UpperEnds wide m (inl e) narrow = cc
move_for UpperEnds wide m (inr f) narrow = narrow f
move_for LowerEnds wide m (inl e) narrow = cc
move_for LowerEnds wide m (inr f) narrow = narrow f

-- a register that is no more than 10^16 in a cover is a small number in all lanes under it

no_top : (y : ℤ) → y ≤ℤ pos 10000000000000000 → ext_le PosInf (upper y) ≡ false
no_top y h = elim (low_or_not y) [
  | inl low ↦ ap (ext_le PosInf) (upper_low y low)
  | inr above ↦ ap (ext_le PosInf) (upper_mid y above (omega (arith, ints, h)))
]

le_means : (x y : ℤ) → int_le x y ≡ true → x ≤ℤ y
le_means x y h = grind (arith, ints)

within_of : (x y : ℤ) → neg_ℤ x ≤ℤ y → x ≤ℤ pos 10000000000000000 → y ≤ℤ pos 10000000000000000 → AreWithin 1 (ends x y)
within_of x y le px py = (
  (omega (arith, ints, le, py), omega (arith, ints, px)),
  (omega (arith, ints, le, px), omega (arith, ints, py)),
)

plain_within : (x y : ℤ) → has_some (ends_span (ends x y)) ≡ true → x ≤ℤ pos 10000000000000000 →
    y ≤ℤ pos 10000000000000000 → AreWithin 1 (ends x y)
plain_within x y some px py = elim (low_or_not x) [
  | inl low ↦ never_added (sym some ∙ ap (λ a. ext_le (negated a) (upper y)) (upper_low x low) ∙ no_top y py)
  | inr ax ↦ elim (low_or_not y) [
    | inl low ↦ never_added (sym some ∙ ap (ext_le (negated (upper x))) (upper_low y low)
        ∙ ap (λ a. ext_le (negated a) NegInf) (upper_mid x ax (omega (arith, ints, px))))
    | inr ay ↦ (let number : int_le (neg_ℤ x) y ≡ true =
        sym (ap (λ a. ext_le (negated a) (upper y)) (upper_mid x ax (omega (arith, ints, px)))
        ∙ ap (ext_le (Int (neg_ℤ x))) (upper_mid y ay (omega (arith, ints, py)))) ∙ some in
        within_of x y (le_means (neg_ℤ x) y number) px py)
  ]
]

pub plain_at : (n : ℕ) (o : Option ℕ) (cover xs : List ℤ) → IsPlace n o → AreSome n xs → IsUnder xs cover →
    ArePlain (ends_in cover o) → AreWithin 1 (ends_in xs o)
plain_at n None cover xs lt h under plain = number_within (pos 0) zero_is_small
plain_at n (Some p) cover xs lt h under plain =
    let a = under (2 * p) in
    let b = under (2 * p + 1) in
    let c = plain.0 in
    let d = plain.1 in
    plain_within _ _ (h.some p lt) (omega (arith, ints, a, c)) (omega (arith, ints, b, d))

pub plain_register : (n : ℕ) (k : Name) (cover xs : List ℤ) → 6 ≤ n → AreSome n xs → IsUnder xs cover →
    ArePlain (ends_in cover (place n k)) →
    AreWithin 1 (name_ends xs k)
plain_register n k cover xs big h under plain =
    subst (λ m. AreWithin 1 (ends_in xs (place m k))) (sym h.len)
    (plain_at n (place n k) cover xs (placed n k big) h under plain)

-- joins

any_looser : (b : Bool) (P : Bool → Type 0) → (P true → P false) → P true → P b
any_looser true P l h = h
any_looser false P l h = l h

pub to_loose : (b : Bool) (P : Bool → Type 0) → (P true → P false) → P b → P false
to_loose true P l h = l h
to_loose false P l h = h

pub join_looser : (adds : Bool) (i j : ℕ) (FA FB : Bool → Type 0) → (FA true → FA false) → (FB true → FB false) →
    (i + j ≤ 9) × FA (true || adds) × FB (true || adds) → (i + j ≤ 9) × FA (false || adds) × FB (false || adds)
join_looser adds i j FA FB la lb h = (h.0, any_looser adds FA la h.1, any_looser adds FB lb h.2)

pub join_within : (adds : Bool) (joined : Ends → Ends → Ends) (i j : ℕ) (FA FB : Bool → Type 0) (a b : Ends) →
    ((i j : ℕ) (a b : Ends) → i + j ≤ 10 → AreWithin i a → AreWithin j b → AreWithin (i + j) (joined a b)) →
    (i ≤ 9 → FA true → AreWithin i a) → (j ≤ 9 → FB true → AreWithin j b) →
    (i + j ≤ 9) × FA (true || adds) × FB (true || adds) → AreWithin (min (i + j) 255) (joined a b)
join_within adds joined i j FA FB a b within wa wb h =
    let few = h.0 in
    let same : i + j ≡ min (i + j) 255 = omega (arith, few) in
    subst (λ k. AreWithin k (joined a b)) same (within i j a b (omega (arith, few)) (wa (omega (arith, few)) h.1)
    (wb (omega (arith, few)) h.2))

pub join_packs : (s : Sides) (adds : Bool) (joined : Ends → Ends → Ends) (op : Operator) (i j : ℕ)
    (FA FB : Bool → Type 0) (a b : Ends) (f g : Formula) (t u : Span) →
    ((s : Sides) (i j : ℕ) (a b : Ends) (t u : Span) → Serves s op → i + j ≤ 10 →
    (adds ≡ true → AreWithin i a × AreWithin j b) → IsEndsOf s a t → IsEndsOf s b u →
    IsEndsOf s (joined a b) (sealed_op op t u)) → (FA true → FA false) → (FB true → FB false) →
    (i ≤ 9 → FA true → AreWithin i a) → (j ≤ 9 → FB true → AreWithin j b) → (IsFor s f → FA false → IsEndsOf s a t) →
    (IsFor s g → FB false → IsEndsOf s b u) → IsFor s (Join op f g) →
    (i + j ≤ 9) × FA (false || adds) × FB (false || adds) → IsEndsOf s (joined a b) (sealed_op op t u)
join_packs s adds joined op i j FA FB a b f g t u packs la lb wa wb pa pb suits h =
    let few = h.0 in
    let parts = parts_served s op f g suits in
    packs s i j a b t u parts.0 (omega (arith, few))
    (λ e. (wa (omega (arith, few)) (subst FA e h.1), wb (omega (arith, few)) (subst FB e h.2)))
    (pa parts.1 (to_loose adds FA la h.1)) (pb parts.2 (to_loose adds FB lb h.2))
