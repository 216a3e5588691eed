-- Numbers of a cell.
use Rattle.std.specs.Prelude.{◌≡◌, ℕ, ◌<◌, ℤ, pos, neg_ℤ, ◌+ℤ◌, ◌-ℤ◌, ◌<ℤ◌, ◌≤ℤ◌, Bool, true, false, List, length, get_or}

abbrev pub IsSmall : ℤ → Type 0
IsSmall x = (neg_ℤ (pos 10000000) ≤ℤ x) × (x ≤ℤ pos 10000000)

abbrev pub AreSmall : List ℤ → Type 0
AreSmall vs = (i : ℕ) → i < length vs → IsSmall (get_or vs i (pos 0))

abbrev pub IsAhead : ℤ → Type 0
IsAhead x = (neg_ℤ (pos 9000000) ≤ℤ x) × (x ≤ℤ pos 9000000)

-- c is the number, or 0 where that is below 0, or the most
pub record IsCut (x : ℤ) (most c : ℕ) : Type 0 where
  pub low : x ≤ℤ pos 0 → c ≡ 0
  pub same : pos 0 ≤ℤ x → x ≤ℤ pos most → pos c ≡ x
  pub high : pos most ≤ℤ x → c ≡ most

-- how far n values from a on are ahead of m next ones from b on, in the order of a sweep
abbrev pub ahead_of : Bool → ℤ → ℕ → ℤ → ℕ → ℤ
ahead_of true a n b m = b -ℤ a
ahead_of false a n b m = (a +ℤ pos n) -ℤ (b +ℤ pos m)

-- how far one cell is ahead of the next, one more with a twin
abbrev pub with_twin : Bool → ℤ → ℤ
with_twin true x = x +ℤ pos 1
with_twin false x = x

-- each value is above those before it
abbrev pub Rises : List ℤ → Type 0
Rises vs = (i j : ℕ) → i < j → j < length vs → get_or vs i (pos 0) <ℤ get_or vs j (pos 0)
