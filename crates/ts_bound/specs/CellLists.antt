-- The values of a cell in a list of their own.
use Rattle.std.specs.Prelude.{◌≡◌, ℕ, ◌<◌, ◌≤◌, Bool, true, ℤ, pos, ◌+ℤ◌, List, length, get_or}
use Rattle.ts_base.specs.Limits.{IsCellValue}
use Rattle.ts_sweep.specs.Small.{AreSmall, Rises}

-- what is known of values that are lent to a row, and where they have no gap
pub record AreLent (vs : List ℤ) (is_run : Bool) : Type 0 where
  pub small : AreSmall vs
  pub rises : Rises vs
  pub few : length vs ≤ 2000001
  pub first : is_run ≡ true → 0 < length vs → IsCellValue (get_or vs 0 (pos 0))
  pub run : is_run ≡ true → (i : ℕ) → i < length vs → (get_or vs 0 (pos 0) +ℤ pos i) ≡ get_or vs i (pos 0)
