-- Numbers within their ranges, and the words that are written for them.
use Rattle.std.specs.Prelude.{ℕ, ℤ, pos, neg_ℤ, negsuc, Bool, ◌&&◌, List, if◌then◌else◌, nat_le, nat_lt, true}
use Rattle.std.specs.Prelude.{int_le, Option, Some, None}
use Rattle.std.specs.Fmt.{signed_decimal}
use Rattle.std.specs.Int.Signed.{mag}
use Rattle.ts_base.specs.declared.ext.Ext.{Ext}
use Rattle.ts_base.specs.declared.ext.Ext.TheVariants.{NegInf, Int, PosInf}
use Rattle.ts_base.specs.Limits.{greatest_value, most_cells, most_listed, most_requirements}
use Rattle.ts_token.specs.Number.{number_of}

-- a value that a cell may have
abbrev pub is_value : ℤ → Bool
is_value v = int_le (neg_ℤ greatest_value) v && int_le v greatest_value

abbrev pub only_value : Option ℤ → Option ℤ
only_value None = None
only_value (Some v) = if is_value v then Some v else None

abbrev pub value_of : List ℕ → Option ℤ
value_of word = only_value (number_of word)

abbrev pub only_whole : Option ℤ → Option ℕ
only_whole None = None
only_whole (Some (pos n)) = Some n
only_whole (Some (negsuc n)) = None

abbrev pub whole_of : List ℕ → Option ℕ
whole_of word = only_whole (number_of word)

-- a whole number within 64 signed bits
abbrev pub is_whole : ℕ → Bool
is_whole n = nat_lt n 9223372036854775808

-- the word of a whole number
abbrev pub count_text : ℕ → List ℕ
count_text n = signed_decimal (pos n)

-- from one number to another
abbrev pub is_count : ℕ → ℕ → ℕ → Bool
is_count low high n = nat_le low n && nat_le n high

abbrev pub only_count : ℕ → ℕ → Option ℕ → Option ℕ
only_count low high None = None
only_count low high (Some n) = if is_count low high n then Some n else None

abbrev pub count_of : ℕ → ℕ → List ℕ → Option ℕ
count_of low high word = only_count low high (whole_of word)

-- a cell, counted from 1
abbrev pub is_cell : ℕ → Bool
is_cell k = is_count 1 most_cells k

abbrev pub cell_of : List ℕ → Option ℕ
cell_of word = count_of 1 most_cells word

-- a requirement, counted from 1
abbrev pub is_requirement : ℕ → Bool
is_requirement j = is_count 1 most_requirements j

abbrev pub requirement_of : List ℕ → Option ℕ
requirement_of word = count_of 1 most_requirements word

-- how many series are asked for
abbrev pub is_asked : ℕ → Bool
is_asked m = is_count 1 most_listed m

abbrev pub asked_of : List ℕ → Option ℕ
asked_of word = count_of 1 most_listed word

-- how many series are listed
abbrev pub is_listed : ℕ → Bool
is_listed c = is_count 0 most_listed c

abbrev pub listed_of : List ℕ → Option ℕ
listed_of word = count_of 0 most_listed word

-- a number within 64 signed bits, or an infinity
abbrev pub is_ext : Ext → Bool
is_ext NegInf = true
is_ext (Int n) = nat_lt (mag n) 9223372036854775808
is_ext PosInf = true
