-- The cells of a window of a series are a series.
use Rattle.std.proofs.Common.{◌≡◌, ℤ, Option, Some, List, length, sym, subst, arith}
use Rattle.ts_base.specs.Limits.{IsCellValue}
use Rattle.ts_base.specs.declared.range.Range.{Range}
use Rattle.ts_base.specs.Windows.{IsInside, LooksInside, cells_of, looked_at}
use Rattle.ts_base.proofs.WindowLaws.{all_looked, few_looked, some_looked}
use Rattle.ts_pattern.specs.Limits.{IsSeries}

pub series_looked : (w : Option Range) (xs : List ℤ) → LooksInside (length xs) w → IsSeries xs → IsSeries (looked_at w xs)
series_looked w xs h s =
    let few = few_looked w xs h in
    let most = s.few in
    record { some = some_looked w xs s.some h; few = omega (arith, few, most); cells = all_looked IsCellValue w xs s.cells }

pub part_series : (r : Range) (xs ys : List ℤ) → IsInside (length xs) r → ys ≡ cells_of r xs → IsSeries xs → IsSeries ys
part_series r xs ys h is s = subst IsSeries (sym is) (series_looked (Some r) xs h s)
