-- The values of a cell without gaps are small.
-- Lemmas, no definitions: they are here since ghost members of impls cite them.
use Rattle.std.proofs.Common.{ℕ, ◌<◌, ◌≤◌, ℤ, pos, ◌+ℤ◌, arith}
use Rattle.std.proofs.lemmas.Int.{ints}
use Rattle.ts_base.specs.Limits.{IsCellValue}
use Rattle.ts_sweep.specs.Small.{IsSmall}

pub run_small : (first : ℤ) (count i : ℕ) → IsCellValue first → count ≤ 2000001 → i < count → IsSmall (first +ℤ pos i)
run_small first count i cell few inside =
    let low = cell.0 in let high = cell.1 in (omega (arith, ints, low), omega (arith, ints, high, few, inside))
