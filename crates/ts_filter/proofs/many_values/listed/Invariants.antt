use Rattle.std.proofs.Common.{drop}
use Rattle.std.specs.Prelude.{◌≡◌, ◌+◌, ◌<◌, ℕ, pos, get_or, length}
use Rattle.ts_filter.proofs.many_values.listed.Given as goal

abbrev pub invariant-loop-i : goal.invariant-loop-i
invariant-loop-i l =
    (length l.listed ≡ 64) × ((j : ℕ) → j < l.i → get_or l.listed j (pos 0) ≡ get_or l.values (l.from + j) (pos 0))
    × (l.walk ≡ drop (l.from + l.i) l.values)
