-- A set that differs from another one at marked numbers: some of that one's numbers are gone, some others are there.
use Rattle.std.specs.Prelude.{ℤ, pos, neg_ℤ, ◌+ℤ◌, ◌≤ℤ◌, Bool, int_lt, if◌then◌else◌, Option, Some, None}
use Rattle.std.specs.Prelude.{List, [], ◌∷◌, IsTrue, ◌↔◌, ◌++◌, filter, Contains}
use Rattle.std.specs.Ordering.{int_eq}
use Rattle.std.specs.List.{AllByRecursion}
use Rattle.ts_base.specs.Limits.{greatest_value}
use Rattle.ts_domain.specs.declared.marks.Mark.{Mark}
use Rattle.ts_domain.specs.Kept.{values_up_to, values_above}

-- how many numbers the set has more by a mark, and by all
unfoldable pub gain_of : Mark → ℤ
gain_of m = if m.gone then neg_ℤ (pos 1) else pos 1

unfoldable pub gain : List Mark → ℤ
gain [] = pos 0
gain (m ∷ ms) = gain_of m +ℤ gain ms

-- marks at rising numbers, from one on, within the limits
unfoldable pub MarksFrom : ℤ → List Mark → Type 0
MarksFrom from [] = Unit {0}
MarksFrom from (m ∷ ms) = (from ≤ℤ m.value) × (m.value ≤ℤ greatest_value) × MarksFrom (m.value +ℤ pos 1) ms

-- what the mark at a number says, if there is one
unfoldable pub mark_at : ℤ → List Mark → Option Bool
mark_at v [] = None
mark_at v (m ∷ ms) = if int_eq m.value v then Some m.gone else mark_at v ms

-- the marks with one more, or without the one at its number
unfoldable pub flip_mark : Mark → List Mark → List Mark
flip_mark m [] = m ∷ []
flip_mark m (x ∷ xs) =
    if int_lt x.value m.value then x ∷ flip_mark m xs else if int_eq x.value m.value then xs else m ∷ x ∷ xs

-- the number of a mark, if it is there
abbrev pub own : Mark → List ℤ
own m = if m.gone then [] else m.value ∷ []

-- the numbers of a set that differs from another one at the marks
unfoldable pub numbers : List ℤ → List Mark → List ℤ
numbers all [] = all
numbers all (m ∷ ms) = (filter (λ v. int_lt v m.value) all ++ own m) ++ numbers (filter (λ v. int_lt m.value v) all) ms

-- each mark says whether its number is one of that other set
abbrev pub AreTold : List ℤ → List Mark → Type 0
AreTold all ms = AllByRecursion (λ m. IsTrue m.gone ↔ Contains all m.value) ms

-- a set with one more number
abbrev pub put_back : ℤ → List ℤ → List ℤ
put_back v values = values_up_to v values ++ v ∷ values_above v values
