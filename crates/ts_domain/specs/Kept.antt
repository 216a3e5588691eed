-- Which values of a cell a change keeps: those up to a number, those above it, or all but one.
use Rattle.std.specs.Prelude.{not, ℤ, Bool, int_le, int_lt, List, filter}
use Rattle.std.specs.Ordering.{int_eq}
use Rattle.ts_domain.specs.declared.keep.Keep.{Keep}
use Rattle.ts_domain.specs.declared.keep.Keep.TheVariants.{UpTo, Above, AllBut}

abbrev pub values_up_to : ℤ → List ℤ → List ℤ
values_up_to t values = filter (λ v. int_le v t) values

abbrev pub values_above : ℤ → List ℤ → List ℤ
values_above t values = filter (λ v. int_lt t v) values

abbrev pub values_without : ℤ → List ℤ → List ℤ
values_without gone values = filter (λ v. not (int_eq v gone)) values

abbrev pub keeps : Keep → ℤ → Bool
keeps (UpTo t) v = int_le v t
keeps (Above t) v = int_lt t v
keeps (AllBut gone) v = not (int_eq v gone)

abbrev pub values_kept : Keep → List ℤ → List ℤ
values_kept keep values = filter (keeps keep) values
