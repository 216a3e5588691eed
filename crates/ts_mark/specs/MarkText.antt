-- The occurrences of a pattern in a series, in words: how many there are, their cells, and for each cell the numbers of
-- those that hold it.
use Rattle.std.specs.Prelude.{ℕ, zero, suc, ◌+◌, ◌&&◌, List, [], ◌∷◌, ◌++◌, length, codes, nat_le, if◌then◌else◌}
use Rattle.std.specs.Fmt.{decimal}
use Rattle.ts_base.specs.declared.range.Range.{Range}

abbrev pub range_line : Range → List ℕ
range_line r = codes "range " ++ decimal r.first ++ codes " " ++ decimal r.last ++ codes "\n"

abbrev pub range_lines : List Range → List ℕ
range_lines [] = []
range_lines (r ∷ rs) = range_line r ++ range_lines rs

-- the numbers of the ranges that hold the cell, where the first has the number n
abbrev pub holding : ℕ → ℕ → List Range → List ℕ
holding cell n [] = []
holding cell n (r ∷ rs) =
    if nat_le r.first cell && nat_le cell r.last then n ∷ holding cell (n + 1) rs else holding cell (n + 1) rs

abbrev pub more_numbers : List ℕ → List ℕ
more_numbers [] = []
more_numbers (n ∷ ns) = codes "+" ++ decimal n ++ more_numbers ns

-- numbers joined by `+`; 0 where there is none
abbrev pub joined : List ℕ → List ℕ
joined [] = codes "0"
joined (n ∷ ns) = decimal n ++ more_numbers ns

-- the words of so many cells from this one on
abbrev pub cell_words : List Range → ℕ → ℕ → List ℕ
cell_words ranges cell zero = []
cell_words ranges cell (suc left) = codes " " ++ joined (holding cell 1 ranges) ++ cell_words ranges (cell + 1) left

abbrev pub count_line : ℕ → List ℕ
count_line count = codes "occurrences " ++ decimal count ++ codes "\n"

abbrev pub mark_line : ℕ → List Range → List ℕ
mark_line cells ranges = codes "mark" ++ cell_words ranges 1 cells ++ codes "\n"

-- the answer on a series of so many cells
abbrev pub marks_text : ℕ → List Range → List ℕ
marks_text cells ranges = count_line (length ranges) ++ range_lines ranges ++ mark_line cells ranges
