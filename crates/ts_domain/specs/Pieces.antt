-- A piece of a set: the numbers of it between two of them; and a set that differs from a piece at marks.
use Rattle.std.specs.Prelude.{◌≡◌, ◌≢◌, ℕ, zero, suc, ℤ, neg_ℤ, ◌≤ℤ◌, Bool, int_le, ◌&&◌, if◌then◌else◌}
use Rattle.std.specs.Prelude.{Option, MatchOption, List, [], ◌∷◌, filter, Contains}
use Rattle.ts_base.specs.Limits.{greatest_value}
use Rattle.ts_domain.specs.declared.interval.Interval.{Interval}
use Rattle.ts_domain.specs.declared.marks.Mark.{Mark}
use Rattle.ts_domain.specs.Marks.{MarksFrom, AreTold, numbers}
use Rattle.ts_domain.specs.Values.{values_of, AreRanges}

-- the number lies in the piece
abbrev pub is_in : Interval → ℤ → Bool
is_in p v = int_le p.low v && int_le v p.high

-- the numbers of a set that lie in the piece
unfoldable pub values_in : List ℤ → Interval → List ℤ
values_in all p = filter (is_in p) all

-- the ends of a piece are numbers of the set, in this order
abbrev pub IsPiece : List ℤ → Interval → Type 0
IsPiece all p = (p.low ≤ℤ p.high) × Contains all p.low × Contains all p.high

-- the ranges of a set, a piece of it, and marks at which another set, which has a number, differs from that piece
pub record IsMarked (ranges : List Interval) (p : Interval) (marks : List Mark) : Type 0 where
  pub set : AreRanges ranges
  pub piece : IsPiece (values_of ranges) p
  pub rising : MarksFrom (neg_ℤ greatest_value) marks
  pub told : AreTold (values_in (values_of ranges) p) marks
  pub some : numbers (values_in (values_of ranges) p) marks ≢ []

-- how many of the ranges pass the test before the first one that doesn't
unfoldable pub leading_count : (Interval → Bool) → List Interval → ℕ
leading_count test [] = zero
leading_count test (r ∷ rs) = if test r then suc (leading_count test rs) else zero

-- a number of a set up to t, and one from t on
abbrev pub SomeUpTo : List ℤ → ℤ → Type 0
SomeUpTo all t = (v : ℤ) × Contains all v × (v ≤ℤ t)

abbrev pub SomeFrom : List ℤ → ℤ → Type 0
SomeFrom all t = (v : ℤ) × Contains all v × (t ≤ℤ v)

-- the greatest number of a set up to t, and the least one from t on
pub record IsLastUpTo (all : List ℤ) (t v : ℤ) : Type 0 where
  pub has : Contains all v
  pub within : v ≤ℤ t
  pub greatest : (w : ℤ) → Contains all w → w ≤ℤ t → w ≤ℤ v

pub record IsFirstFrom (all : List ℤ) (t v : ℤ) : Type 0 where
  pub has : Contains all v
  pub within : t ≤ℤ v
  pub least : (w : ℤ) → Contains all w → t ≤ℤ w → v ≤ℤ w

-- the piece of those numbers of a piece that pass a test
pub record IsPartOf (all : List ℤ) (test : ℤ → Bool) (p q : Interval) : Type 0 where
  pub same : values_in all q ≡ filter test (values_in all p)
  pub piece : IsPiece all q
  pub from : p.low ≤ℤ q.low
  pub to : q.high ≤ℤ p.high

abbrev pub IsPart : List ℤ → (ℤ → Bool) → Interval → Option Interval → Type 0
IsPart all test p part = MatchOption part (filter test (values_in all p) ≡ []) (IsPartOf all test p)
