use Rattle.std.proofs.Common.{◌≡◌, map, take}
use Rattle.ts_bound.specs.TermSpans.{automata_of}
use Rattle.ts_bound.specs.Room.{bytes_from, saturated}
use Rattle.ts_bound.proofs.room.has_room.Given as goal

abbrev pub invariant-loop-place : goal.invariant-loop-place
invariant-loop-place l = l.bytes ≡ saturated (bytes_from l.named 0 (map automata_of (take l.place l.machines)) l.cells)
