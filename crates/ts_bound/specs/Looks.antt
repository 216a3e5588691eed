-- Where the cells are that a machine looks at. Cells and places are counted from 1.
use Rattle.std.specs.Prelude.{ℕ, ◌-◌, Bool, true, ◌&&◌, nat_le, if◌then◌else◌, Option, Some, None}
use Rattle.ts_base.specs.declared.range.Range.{Range}

-- cell k is looked at
abbrev pub is_looked : Option Range → ℕ → Bool
is_looked None k = true
is_looked (Some w) k = nat_le w.first k && nat_le k w.last

-- the first cell that is looked at, and the last where there are n in all
abbrev pub first_looked : Option Range → ℕ
first_looked None = 1
first_looked (Some w) = w.first

abbrev pub last_looked : Option Range → ℕ → ℕ
last_looked None n = n
last_looked (Some w) n = w.last

-- how many of n cells are looked at
abbrev pub count_looked : Option Range → ℕ → ℕ
count_looked w n = last_looked w n - (first_looked w - 1)

-- the cell whose rows show what is asked of cell k: cell k itself, but the last of the window for each cell outside
abbrev pub read_at : Option Range → ℕ → ℕ
read_at None k = k
read_at (Some w) k = if is_looked (Some w) k then k else w.last

-- the place of cell `read_at` among the cells that are looked at
abbrev pub place_in : Option Range → ℕ → ℕ
place_in w k = read_at w k - (first_looked w - 1)
