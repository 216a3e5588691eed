-- Lanes of numbers, joined by the greater.
use Rattle.std.specs.Prelude.{◌≡◌, ◌<◌, ◌≤◌, ◌≤ℤ◌, ℕ, ℤ, pos, negsuc, Bool, false, not, List, [], ◌∷◌, length, get_or, replicate}
use Rattle.std.specs.Int.{int_max}
use Rattle.std.specs.Ordering.{int_eq}

-- the greater number in each lane
unfoldable pub greater_of : List ℤ → List ℤ → List ℤ
greater_of [] ys = []
greater_of (x ∷ xs) [] = []
greater_of (x ∷ xs) (y ∷ ys) = int_max x y ∷ greater_of xs ys

-- the least number of 64 bits: nothing in a lane
abbrev pub least : ℤ
least = negsuc 9223372036854775807

-- nothing in each lane
abbrev pub no_lanes : ℕ → List ℤ
no_lanes n = replicate n least

-- n lanes, each at least the least number
abbrev pub AreLanes : ℕ → List ℤ → Type 0
AreLanes n xs = (length xs ≡ n) × ((k : ℕ) → k < length xs → least ≤ℤ get_or xs k (pos 0))

-- registers lie in lanes whose first is above the least
abbrev pub some_lanes : List ℤ → Bool
some_lanes [] = false
some_lanes (x ∷ xs) = not (int_eq x least)

-- the greater number in each of the first n lanes
abbrev pub AreGreater : ℕ → List ℤ → List ℤ → List ℤ → Type 0
AreGreater n xs ys zs = (k : ℕ) → k < n → get_or zs k (pos 0) ≡ int_max (get_or xs k (pos 0)) (get_or ys k (pos 0))

-- the lanes from n on are the same
abbrev pub AreSameFrom : ℕ → List ℤ → List ℤ → Type 0
AreSameFrom n xs zs = (k : ℕ) → n ≤ k → get_or zs k (pos 0) ≡ get_or xs k (pos 0)
