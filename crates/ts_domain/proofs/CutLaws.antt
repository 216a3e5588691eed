-- What a change leaves of a piece, told in machine numbers.
use Rattle.std.proofs.Common.{◌≡◌, ℤ, pos, neg_ℤ, ◌+ℤ◌, ◌≤ℤ◌, ◌<ℤ◌, ◌↔◌, Bool, true, false, IsTrue, List, [], sym, ap, ◌∙◌, subst, arith}
use Rattle.std.proofs.lemmas.Int.{ints, to_z-of_z}
use Rattle.std.proofs.lemmas.Bool.{both_ways}
use mir.Val.{SFits, to_z, of_z}
use mir.Syntax.{w64}
use Rattle.std.specs.Prelude.{filter, int_le, int_lt, Contains}
use Rattle.ts_domain.specs.declared.interval.Interval.{Interval}
use Rattle.ts_domain.specs.Values.{values_of, RangesFrom}
use Rattle.ts_domain.specs.Pieces.{values_in, IsPiece, SomeFrom, IsLastUpTo, IsFirstFrom, IsPartOf}
use Rattle.ts_domain.proofs.Ranges.{values_within}
use Rattle.ts_domain.proofs.Sets.{each_contains, true_le, true_lt}
use Rattle.ts_domain.proofs.Places.{small_is}
use Rattle.ts_domain.proofs.PieceLaws.{contains_in, whole_up_to, cut_up_to, none_up_to, whole_above, cut_above, none_above}

-- a machine number
abbrev pub m : ℤ → ℤ
m z = to_z w64 (of_z w64 z)

pub value_within : (rs : List Interval) (v : ℤ) → RangesFrom (neg_ℤ (pos 1000000)) rs → Contains (values_of rs) v →
    (neg_ℤ (pos 1000000) ≤ℤ v) × (v ≤ℤ pos 1000000)
value_within rs v a has = each_contains (λ y. (neg_ℤ (pos 1000000) ≤ℤ y) × (y ≤ℤ pos 1000000)) (values_of rs) v (values_within (neg_ℤ (pos 1000000)) rs a) has

pub ends_small : (rs : List Interval) (p : Interval) → RangesFrom (neg_ℤ (pos 1000000)) rs → IsPiece (values_of rs) p → (m p.low ≡ p.low) × (m p.high ≡ p.high)
ends_small rs p a is =
    let l = value_within rs p.low a is.1 in let h = value_within rs p.high a is.2 in (small_is p.low l.0 l.1, small_is p.high h.0 h.1)

-- what two machine tests tell
pub le_is : (x y a b : ℤ) → x ≡ a → y ≡ b → int_le x y ≡ true → a ≤ℤ b
le_is x y a b e f h = true_le a b (sym (ap (λ x. int_le x y) e ∙ ap (int_le a) f) ∙ h)

pub lt_is : (x y a b : ℤ) → x ≡ a → y ≡ b → int_lt x y ≡ true → a <ℤ b
lt_is x y a b e f h = true_lt a b (sym (ap (λ x. int_lt x y) e ∙ ap (int_lt a) f) ∙ h)

pub not_le : (x y a b : ℤ) → x ≡ a → y ≡ b → int_le x y ≡ false → b <ℤ a
not_le x y a b e f h = turn a b (sym (ap (λ x. int_le x y) e ∙ ap (int_le a) f) ∙ h)
  where
    turn : (a b : ℤ) → int_le a b ≡ false → b <ℤ a
    turn a b h = grind (arith, ints)

pub not_lt : (x y a b : ℤ) → x ≡ a → y ≡ b → int_lt x y ≡ false → b ≤ℤ a
not_lt x y a b e f h = turn a b (sym (ap (λ x. int_lt x y) e ∙ ap (int_lt a) f) ∙ h)
  where
    turn : (a b : ℤ) → int_lt a b ≡ false → b ≤ℤ a
    turn a b h = grind (arith, ints)

-- up to t
pub up_whole : (rs : List Interval) (p : Interval) (t : ℤ) → RangesFrom (neg_ℤ (pos 1000000)) rs → IsPiece (values_of rs) p → SFits w64 t →
    int_le (m p.high) (m t) ≡ true → IsPartOf (values_of rs) (λ v. int_le v t) p p
up_whole rs p t a is fits test = whole_up_to (values_of rs) p t is (le_is (m p.high) (m t) p.high t (ends_small rs p a is).1 (to_z-of_z w64 t fits) test)

pub up_cut : (rs : List Interval) (p : Interval) (t v : ℤ) → RangesFrom (neg_ℤ (pos 1000000)) rs → IsPiece (values_of rs) p → SFits w64 t →
    int_le (m p.high) (m t) ≡ false → int_le (m p.low) (m t) ≡ true → SFits w64 v →
    IsLastUpTo (values_of rs) (m t) v → IsPartOf (values_of rs) (λ v. int_le v t) p (record { low = m p.low; high = m v })
up_cut rs p t v a is fits to from fit last =
    let e = ends_small rs p a is in let t_is = to_z-of_z w64 t fits in
    let part = cut_up_to (values_of rs) p t v is (le_is (m p.low) (m t) p.low t e.0 t_is from) (not_le (m p.high) (m t) p.high t e.1 t_is to)
    (subst (λ t. IsLastUpTo (values_of rs) t v) t_is last) in
    subst (λ l. IsPartOf (values_of rs) (λ v. int_le v t) p (record { low = l; high = m v })) (sym e.0)
    (subst (λ h. IsPartOf (values_of rs) (λ v. int_le v t) p (record { low = p.low; high = h })) (sym (to_z-of_z w64 v fit)) part)

pub up_none : (rs : List Interval) (p : Interval) (t : ℤ) → RangesFrom (neg_ℤ (pos 1000000)) rs → IsPiece (values_of rs) p → SFits w64 t →
    int_le (m p.low) (m t) ≡ false → filter (λ v. int_le v t) (values_in (values_of rs) p) ≡ []
up_none rs p t a is fits test = none_up_to (values_of rs) p t (not_le (m p.low) (m t) p.low t (ends_small rs p a is).0 (to_z-of_z w64 t fits) test)

-- above t
pub above_whole : (rs : List Interval) (p : Interval) (t : ℤ) → RangesFrom (neg_ℤ (pos 1000000)) rs → IsPiece (values_of rs) p → SFits w64 t →
    int_lt (m t) (m p.low) ≡ true → IsPartOf (values_of rs) (λ v. int_lt t v) p p
above_whole rs p t a is fits test = whole_above (values_of rs) p t is (lt_is (m t) (m p.low) t p.low (to_z-of_z w64 t fits) (ends_small rs p a is).0 test)

-- the number after t, and that the set has one from it on
next_is : (rs : List Interval) (p : Interval) (t : ℤ) → RangesFrom (neg_ℤ (pos 1000000)) rs → IsPiece (values_of rs) p → p.low ≤ℤ t → t <ℤ p.high →
    m t ≡ t → m (m t +ℤ pos 1) ≡ t +ℤ pos 1
next_is rs p t a is low high t_is =
    let l = value_within rs p.low a is.1 in let h = value_within rs p.high a is.2 in
    ap (λ x. m (x +ℤ pos 1)) t_is ∙ small_is (t +ℤ pos 1) (omega (arith, ints, l.0, low)) (omega (arith, ints, h.1, high))

pub above_some : (rs : List Interval) (p : Interval) (t : ℤ) → RangesFrom (neg_ℤ (pos 1000000)) rs → IsPiece (values_of rs) p → SFits w64 t →
    int_lt (m t) (m p.low) ≡ false → int_lt (m t) (m p.high) ≡ true → SomeFrom (values_of rs) (m (m t +ℤ pos 1))
above_some rs p t a is fits from to =
    let e = ends_small rs p a is in let t_is = to_z-of_z w64 t fits in
    let low = not_lt (m t) (m p.low) t p.low t_is e.0 from in let high = lt_is (m t) (m p.high) t p.high t_is e.1 to in
    let after : (t +ℤ pos 1) ≤ℤ p.high = omega (arith, ints, high) in
    (p.high, is.2, subst (λ x. x ≤ℤ p.high) (sym (next_is rs p t a is low high t_is)) after)

pub above_cut : (rs : List Interval) (p : Interval) (t v : ℤ) → RangesFrom (neg_ℤ (pos 1000000)) rs → IsPiece (values_of rs) p → SFits w64 t →
    int_lt (m t) (m p.low) ≡ false → int_lt (m t) (m p.high) ≡ true → SFits w64 v →
    IsFirstFrom (values_of rs) (m (m t +ℤ pos 1)) v → IsPartOf (values_of rs) (λ v. int_lt t v) p (record { low = m v; high = m p.high })
above_cut rs p t v a is fits from to fit first =
    let e = ends_small rs p a is in let t_is = to_z-of_z w64 t fits in
    let low = not_lt (m t) (m p.low) t p.low t_is e.0 from in let high = lt_is (m t) (m p.high) t p.high t_is e.1 to in
    let next = next_is rs p t a is low high t_is in
    let part = cut_above (values_of rs) p t v is low high (subst (λ t. IsFirstFrom (values_of rs) t v) next first) in
    subst (λ h. IsPartOf (values_of rs) (λ v. int_lt t v) p (record { low = m v; high = h })) (sym e.1)
    (subst (λ l. IsPartOf (values_of rs) (λ v. int_lt t v) p (record { low = l; high = p.high })) (sym (to_z-of_z w64 v fit)) part)

pub above_none : (rs : List Interval) (p : Interval) (t : ℤ) → RangesFrom (neg_ℤ (pos 1000000)) rs → IsPiece (values_of rs) p → SFits w64 t →
    int_lt (m t) (m p.high) ≡ false → filter (λ v. int_lt t v) (values_in (values_of rs) p) ≡ []
above_none rs p t a is fits test = none_above (values_of rs) p t (not_lt (m t) (m p.high) t p.high (to_z-of_z w64 t fits) (ends_small rs p a is).1 test)

-- whether a piece has a number
pub in_piece : (rs : List Interval) (p : Interval) (v : ℤ) (answer : Bool) → RangesFrom (neg_ℤ (pos 1000000)) rs → IsPiece (values_of rs) p → SFits w64 v →
    int_le (m p.low) (m v) ≡ true → int_le (m v) (m p.high) ≡ true → (IsTrue answer ↔ Contains (values_of rs) (m v)) →
    IsTrue answer ↔ Contains (values_in (values_of rs) p) v
in_piece rs p v answer a is fits low high there =
    let e = ends_small rs p a is in let v_is = to_z-of_z w64 v fits in
    let from = le_is (m p.low) (m v) p.low v e.0 v_is low in let to = le_is (m v) (m p.high) v p.high v_is e.1 high in
    let has = subst (λ x. IsTrue answer ↔ Contains (values_of rs) x) v_is there in
    (λ y. (contains_in (values_of rs) p v).1 (has.0 y, from, to), λ h. has.1 ((contains_in (values_of rs) p v).0 h).0)

pub under_piece : (rs : List Interval) (p : Interval) (v : ℤ) (answer : Bool) → RangesFrom (neg_ℤ (pos 1000000)) rs → IsPiece (values_of rs) p → SFits w64 v →
    int_le (m p.low) (m v) ≡ false → answer ≡ false → IsTrue answer ↔ Contains (values_in (values_of rs) p) v
under_piece rs p v answer a is fits low e =
    let lt = not_le (m p.low) (m v) p.low v (ends_small rs p a is).0 (to_z-of_z w64 v fits) low in
    (λ y. absurd (both_ways answer e y), λ h. let i = (contains_in (values_of rs) p v).0 h in absurd (omega (arith, ints, lt, i.1)))

pub over_piece : (rs : List Interval) (p : Interval) (v : ℤ) (answer : Bool) → RangesFrom (neg_ℤ (pos 1000000)) rs → IsPiece (values_of rs) p → SFits w64 v →
    int_le (m v) (m p.high) ≡ false → answer ≡ false → IsTrue answer ↔ Contains (values_in (values_of rs) p) v
over_piece rs p v answer a is fits high e =
    let lt = not_le (m v) (m p.high) v p.high (to_z-of_z w64 v fits) (ends_small rs p a is).1 high in
    (λ y. absurd (both_ways answer e y), λ h. let i = (contains_in (values_of rs) p v).0 h in absurd (omega (arith, ints, lt, i.2)))
