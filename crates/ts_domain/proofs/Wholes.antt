-- A set that is all of some ranges: one piece of them from the first number to the last, and no mark.
use Rattle.std.proofs.Common.{◌≡◌, ℕ, zero, suc, ◌-◌, ◌<◌, ℤ, pos, neg_ℤ, ◌+ℤ◌, ◌≤ℤ◌, inl, inr, List, [], ◌∷◌, length, get_or, refl, sym, ap, ◌∙◌, subst, arith}
use Rattle.std.proofs.lemmas.Int.{ints}
use Rattle.std.proofs.lemmas.List.Elements.{Contains-append_cases, Contains-append_right}
use Rattle.std.specs.Prelude.{Contains}
use Rattle.ts_domain.specs.declared.interval.Interval.{Interval}
use Rattle.ts_domain.specs.declared.marks.Mark.{Mark}
use Rattle.ts_domain.specs.Marks.{MarksFrom, numbers}
use Rattle.ts_domain.specs.Pieces.{is_in, values_in, IsPiece, IsMarked}
use Rattle.ts_domain.specs.Union.{InSome}
use Rattle.ts_domain.specs.Values.{values_between, values_of, RangesFrom, AreRanges}
use Rattle.ts_domain.proofs.Runs.{in_between}
use Rattle.ts_domain.proofs.Ranges.{values_within, value_in_some, some_has_value, ranges_are_domain}
use Rattle.ts_domain.proofs.Sets.{pass_all, each_contains}
use Rattle.ts_domain.proofs.Places.{ends_are}
use Rattle.ts_domain.proofs.CutLaws.{m}
use Rattle.ts_domain.proofs.PieceLaws.{ends_in}

-- one piece from the first number to the last
tops : (f : ℤ) (rs : List Interval) (n : ℕ) (d : Interval) → RangesFrom f rs → suc n ≡ length rs →
    Contains (values_of rs) (get_or rs n d).high × ((v : ℤ) → Contains (values_of rs) v → v ≤ℤ (get_or rs n d).high)
unfolding RangesFrom values_of InSome
tops f [] n d a e = absurd (omega (arith, e))
tops f (r ∷ []) zero d a e = (
  some_has_value (r ∷ []) r.high (inl (a.1, omega (arith, ints))),
  λ v has. elim (value_in_some f (r ∷ []) v a has) [ inl i ↦ i.1 | inr n ↦ absurd n ],
)
tops f (r ∷ []) (suc n) d a e = absurd (omega (arith, e))
tops f (r ∷ q ∷ qs) zero d a e = absurd (omega (arith, e))
tops f (r ∷ q ∷ qs) (suc n) d a e =
    let later = tops (r.high +ℤ pos 2) (q ∷ qs) n d a.3 (omega (arith, e)) in
    let high = (get_or (q ∷ qs) n d).high in
    let least = each_contains (λ y. ((r.high +ℤ pos 2) ≤ℤ y) × (y ≤ℤ pos 1000000)) (values_of (q ∷ qs)) high (values_within (r.high +ℤ pos 2) (q ∷ qs) a.3)
    later.0 in (
      Contains-append_right (values_between r.low r.high) (values_of (q ∷ qs)) high later.0,
      λ v has. elim (Contains-append_cases (values_between r.low r.high) (values_of (q ∷ qs)) v has) [
        | inl here ↦ under v r.high high (in_between r.low r.high v (omega (arith, ints, a.1)) here).1 least.0
        | inr there ↦ later.1 v there
      ],
    )
  where
    under : (v h g : ℤ) → v ≤ℤ h → (h +ℤ pos 2) ≤ℤ g → v ≤ℤ g
    under v h g a b = omega (arith, ints, a, b)

pub whole_piece : (rs : List Interval) (p d : Interval) (n : ℕ) → AreRanges rs → suc n ≡ length rs → p.low ≡ (get_or rs 0 d).low →
    p.high ≡ (get_or rs n d).high → IsPiece (values_of rs) p × (values_in (values_of rs) p ≡ values_of rs)
unfolding RangesFrom InSome values_in
whole_piece [] p d n are size low high = absurd (omega (arith, size))
whole_piece (r ∷ rs) p d n are size low high =
    let all = values_of (r ∷ rs) in let a = are.apart in let t = tops (neg_ℤ (pos 1000000)) (r ∷ rs) n d a size in
    let has_low = some_has_value (r ∷ rs) r.low (inl (omega (arith, ints), a.1)) in
    let within = values_within r.low (r ∷ rs) (omega (arith, ints), a.1, a.2, a.3) in
    let order = t.1 r.low has_low in (
      (omega (arith, ints, low, high, order), subst (λ v. Contains all v) (sym low) has_low, subst (λ v. Contains all v) (sym high) t.0),
      pass_all (is_in p) all (λ v has. ends_in p v
          (from r.low p.low v low (each_contains (λ y. (r.low ≤ℤ y) × (y ≤ℤ pos 1000000)) all v within has).0)
          (to (get_or (r ∷ rs) n d).high p.high v high (t.1 v has))),
    )
  where
    from : (a b v : ℤ) → b ≡ a → a ≤ℤ v → b ≤ℤ v
    from a b v e h = omega (arith, ints, e, h)

    to : (a b v : ℤ) → b ≡ a → v ≤ℤ a → v ≤ℤ b
    to a b v e h = omega (arith, ints, e, h)

not_none : (rs : List Interval) → (rs ≡ [] → ⊥) → 0 < length rs
not_none [] some = absurd (some refl)
not_none (r ∷ rs) some = omega arith

-- as it is read and made: a set with no marks
pub whole_is : (given items rs : List Interval) (d : Interval) (ms : List Mark) → AreRanges given → items ≡ given → rs ≡ given → ms ≡ [] →
    let p : Interval = record { low = m (get_or items 0 d).low; high = m (get_or items (length items - 1) d).high } in
    IsMarked rs p ms × (numbers (values_in (values_of rs) p) ms ≡ values_of given)
unfolding numbers MarksFrom
whole_is given items rs d ms are items_is rs_is none =
    let p : Interval = record { low = m (get_or items 0 d).low; high = m (get_or items (length items - 1) d).high } in
    let some = not_none given are.some in
    let w = whole_piece given p d (length given - 1) are (omega (arith, some))
    (ap (λ l. m (get_or l 0 d).low) items_is ∙ (ends_are given 0 d are.apart some).0)
    (ap (λ l. m (get_or l (length l - 1) d).high) items_is ∙ (ends_are given (length given - 1) d are.apart (omega (arith, some))).1) in
    subst (λ l. IsMarked rs p l × (numbers (values_in (values_of rs) p) l ≡ values_of given)) (sym none)
    (subst (λ r. IsMarked r p [] × (numbers (values_in (values_of r) p) [] ≡ values_of given)) (sym rs_is)
    (record { set = are; piece = w.0; rising = tt; told = tt; some = λ e. (ranges_are_domain given are).some (sym w.1 ∙ e) }, w.1))
