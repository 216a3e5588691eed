-- Numbers in words.
use Rattle.std.specs.Prelude.{ℕ, codes, zero, suc, ◌+◌, ◌-◌, ◌*◌, ◌==◌, ℤ, pos, negsuc, List, [], ◌∷◌, if◌then◌else◌, nat_le, Option, Some, None, Bool, false}
use Rattle.std.specs.Option.{option_map}
use Rattle.std.specs.Str.{bytes_eq}
use Rattle.ts_base.specs.declared.ext.Ext.{Ext}
use Rattle.ts_base.specs.declared.ext.Ext.TheVariants.{NegInf, Int, PosInf}

abbrev pub is_digit : ℕ → Bool
is_digit b = if nat_le 48 b then nat_le b 57 else false

-- the number that digits continue, where all are digits
abbrev pub digits_from : ℕ → List ℕ → Option ℕ
digits_from n [] = Some n
digits_from n (b ∷ bs) = if is_digit b then digits_from (n * 10 + (b - 48)) bs else None

-- digits without a leading zero
abbrev pub unsigned_number : List ℕ → Option ℕ
unsigned_number [] = None
unsigned_number (b ∷ []) = digits_from 0 (b ∷ [])
unsigned_number (b ∷ c ∷ bs) = if b == 48 then None else digits_from 0 (b ∷ c ∷ bs)

abbrev pub at_most : ℕ → Option ℕ → Option ℕ
at_most limit None = None
at_most limit (Some n) = if nat_le n limit then Some n else None

abbrev pub nonnegative_number : Option ℕ → Option ℤ
nonnegative_number None = None
nonnegative_number (Some n) = Some (pos n)

-- 0 has no minus
abbrev pub negative_number : Option ℕ → Option ℤ
negative_number None = None
negative_number (Some zero) = None
negative_number (Some (suc n)) = Some (negsuc n)

-- an optional '-' and digits without a leading zero, within 64 signed bits
abbrev pub number_of : List ℕ → Option ℤ
number_of [] = None
number_of (b ∷ bs) =
    if b == 45 then negative_number (at_most 9223372036854775808 (unsigned_number bs))
    else nonnegative_number (at_most 9223372036854775807 (unsigned_number (b ∷ bs)))

-- '-inf', '+inf' or a number
unfoldable pub ext_of : List ℕ → Option Ext
ext_of word =
    if bytes_eq word (codes "-inf") then Some NegInf
    else (if bytes_eq word (codes "+inf") then Some PosInf
    else option_map Int (number_of word))
