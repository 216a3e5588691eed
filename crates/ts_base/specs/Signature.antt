-- The signature of a series: how each cell compares with the next one (Global Constraint Catalog, Volume II).
use Rattle.std.specs.Prelude.{ℕ, ℤ, List, [], ◌∷◌, int_lt, if◌then◌else◌}
use Rattle.ts_base.specs.declared.letter.Letter.{Letter}
use Rattle.ts_base.specs.declared.letter.Letter.TheVariants.{Less, Equal, Greater}

-- `<`, `=` or `>`, as x is less than, equal to or greater than y
abbrev pub letter_of : ℤ → ℤ → Letter
letter_of x y = if int_lt x y then Less else if int_lt y x then Greater else Equal

-- letter i of x_1 .. x_n compares x_i with x_(i+1): there are n - 1 letters, and none for no cell
abbrev pub signature_of : List ℤ → List Letter
signature_of [] = []
signature_of (x ∷ []) = []
signature_of (x ∷ y ∷ ys) = letter_of x y ∷ signature_of (y ∷ ys)

-- the letter between the same two cells, read from the last cell to the first
abbrev pub flip_of : Letter → Letter
flip_of Less = Greater
flip_of Equal = Equal
flip_of Greater = Less

-- the place of a letter in the order of letters
abbrev pub letter_rank : Letter → ℕ
letter_rank Less = 0
letter_rank Equal = 1
letter_rank Greater = 2
