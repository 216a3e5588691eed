use Rattle.std.proofs.Common.{◌≡◌, take}
use Rattle.ts_model.specs.Cells.{domains}
use Rattle.ts_model.proofs.cells.Cells.all.Given as goal

abbrev pub invariant-loop-place : goal.invariant-loop-place
invariant-loop-place l = l.all.items ≡ take l.place (domains l.self)
