use Rattle.std.specs.Prelude.{◌≡◌, ◌<◌, ℕ, [], get_or, length}
use Rattle.ts_meet.specs.Peaks.{AreWatched, unwatched}
use Rattle.ts_meet.proofs.column.watched_in.Given as goal

abbrev pub invariant-loop-q : goal.invariant-loop-q
invariant-loop-q g l =
    (length l.all ≡ 8)
    × ((q : ℕ) → q < l.q → AreWatched g.row.N (get_or l.all q unwatched) (get_or l.row q []) l.from l.count)
