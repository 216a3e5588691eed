-- The occurrences of a pattern rise in both ends: of two matches, where the later start had no later end, one would contain
-- the other.
use Rattle.std.proofs.Common.{◌≡◌, ℕ, ◌+◌, ◌<◌, ◌≤◌, Bool, true, false, Ok, Err, List, Vec, [], ◌∷◌, map, refl, sym, subst, arith}
use Rattle.std.specs.Prelude.{IfOk, Result, nat_lt}
use Rattle.std.specs.Global.{Global}
use Rattle.std.specs.List.{AllByRecursion}
use Rattle.ts_base.specs.declared.error.Memory.{Memory}
use Rattle.ts_base.specs.declared.letter.Letter.{Letter}
use Rattle.ts_base.specs.declared.range.Range.{Range}
use Rattle.ts_regex.specs.Shape.{Shape}
use Rattle.ts_pattern.specs.Occurrences.{IsOccurrence}
use Rattle.ts_pattern.specs.OccurrenceList.{Place, RisingPlaces, e_range}
use Rattle.ts_pattern.specs.AllOccurrences.{occurrence_ranges}
use Rattle.ts_pattern.proofs.AllOccurrences.{are_ranges}
use Rattle.ts_mark.specs.Rising.{RiseAfter, AreRising}

module _ (p : Shape) (w : List Letter) where
  later_end : (x y : Place) → IsOccurrence p w x.start x.end → IsOccurrence p w y.start y.end → x.start + 1 ≤ y.start → x.end < y.end
  later_end x y is other later = by (nat_lt x.end y.end) refl
    where
      by : (b : Bool) → nat_lt x.end y.end ≡ b → x.end < y.end
      by true e = grind arith
      by false e = let same = (other.maximal x.start x.end is.is (omega arith) (grind arith)).0 in absurd (omega (arith, same, later))

  rise_after : (b a : ℕ) → a ≤ 1 → (x : Place) (xs : List Place) → IsOccurrence p w x.start x.end → RisingPlaces (x.start + 1) xs →
      AllByRecursion (λ y. IsOccurrence p w y.start y.end) xs → RiseAfter (e_range b a x) (map (λ y. e_range b a y) xs)
  rise_after b a small x [] is rising each = tt
  rise_after b a small x (y ∷ ys) is rising each =
      let later = rising.0 in
      let ends = later_end x y is each.0 rising.0 in
      (omega (arith, later), omega (arith, ends, small), rise_after b a small y ys each.0 rising.1 each.1)

  all_rise : (b a : ℕ) → a ≤ 1 → (xs : List Place) → RisingPlaces 0 xs → AllByRecursion (λ y. IsOccurrence p w y.start y.end) xs →
      AreRising (map (λ y. e_range b a y) xs)
  all_rise b a small [] rising each = tt
  all_rise b a small (x ∷ xs) rising each = rise_after b a small x xs each.0 rising.1 each.1

  occurrences_rise : (b a : ℕ) → a ≤ 1 → AreRising (occurrence_ranges p b a w)
  occurrences_rise b a small =
      let are = are_ranges p b a w in
      subst AreRising (sym are.2) (all_rise b a small are.0 are.1.rising are.1.each)

pub rise_found : (p : Shape) (w : List Letter) (b a : ℕ) (found : Result (Vec Range Global) Memory) → a ≤ 1 →
    IfOk found (λ v. v.items ≡ occurrence_ranges p b a w) → IfOk found (λ v. AreRising v.items)
rise_found p w b a (Ok v) small h = subst AreRising (sym h) (occurrences_rise p w b a small)
rise_found p w b a (Err e) small h = tt
