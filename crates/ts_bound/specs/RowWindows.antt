-- One row of which some places are shown: what a step with it leaves.
use Rattle.std.specs.Prelude.{◌≡◌, ℕ, ◌<◌, ◌≤◌, ◌⊎◌, ℤ, List, [], All, length}
use Rattle.std.specs.List.{slice_range}
use Rattle.ts_bound.specs.declared.gone.Gone.{Gone}
use Rattle.ts_bound.specs.declared.planned.Planned.{Planned}
use Rattle.ts_bound.specs.declared.row_stack.HullRow.{HullRow}
use Rattle.ts_bound.specs.AnyRows.{row_without}
use Rattle.ts_bound.specs.RowStacks.{IsFilled, IsLaid, IsLessened, Kept, all_hulls, all_kept, hulls_in, kept_at, kept_in, shown}

-- a row shows the hulls of all its values, and keeps none of these
pub record IsFresh (n : ℕ) (r : HullRow) : Type 0 where
  pub count : r.count ≡ n
  pub from : r.from ≡ 0
  pub to : r.to ≡ n
  pub values : r.values.items ≡ []

-- where nothing was kept and all is shown these values may be kept; else all is as it was
pub record HasKept (before : List ℤ) (old new : HullRow) : Type 0 where
  pub packed : new.packed ≡ old.packed
  pub count : new.count ≡ old.count
  pub from : new.from ≡ old.from
  pub to : new.to ≡ old.to
  pub values : (new.values.items ≡ old.values.items)
      ⊎ ((new.values.items ≡ before) × (old.from ≡ 0) × (old.to ≡ old.count))

-- a row shows what it showed without the values that are gone; of what it keeps these may be gone too
pub record HasLess (gone : Gone) (old new : HullRow) : Type 0 where
  pub hulls : shown new ≡ row_without gone.from gone.to (shown old)
  pub laid : (p : Planned) → IsLaid p old → IsLaid p new
  pub kept : (p : Planned) → IsLaid p old → IsLessened p.states (kept_in p.states old) (kept_in p.states new)

-- a row shows what it showed without the values that are gone; of what it keeps, which may first become what was shown,
-- these may be gone too
pub record HasLost (gone : Gone) (before : List ℤ) (old new : HullRow) : Type 0 where
  pub hulls : shown new ≡ row_without gone.from gone.to (shown old)
  pub laid : (p : Planned) → IsLaid p old → IsLaid p new
  pub kept : (p : Planned) → IsLaid p old → (filled : Kept)
      × IsFilled before (hulls_in p.states (shown old)) (kept_in p.states old) filled
      × IsLessened p.states filled (kept_in p.states new)

-- a row shows the hulls of these values, which are among those that it keeps
pub record Shows (now : List ℤ) (old new : HullRow) : Type 0 where
  pub packed : new.packed ≡ old.packed
  pub count : new.count ≡ old.count
  pub values : new.values.items ≡ old.values.items
  pub some : 0 < length old.values.items
  pub found : now ≡ slice_range old.values.items new.from new.to
  pub ordered : new.from ≤ new.to
  pub within : new.to ≤ new.count

-- of the rows at the places from `from` up to `to` no values are kept; else all is as it was
pub record AreForgotten (from to : ℕ) (old new : List HullRow) : Type 0 where
  pub hulls : (states : ℕ) → all_hulls states new ≡ all_hulls states old
  pub laid : (p : Planned) → All (IsLaid p) old → All (IsLaid p) new
  pub kept : (states i : ℕ) → (i < from) ⊎ (to ≤ i) → kept_at (all_kept states new) i ≡ kept_at (all_kept states old) i
  pub none : (states i : ℕ) → from ≤ i → i < to → (kept_at (all_kept states new) i).values ≡ []
