use Rattle.std.proofs.Common.{◌≡◌, length}
use Rattle.ts_search.proofs.Marks.{AreEndsBelow}
use Rattle.ts_search.proofs.marked.note_ends.Given as goal

-- the ends of the domains before place k are noted
abbrev pub invariant-loop-k : goal.invariant-loop-k
invariant-loop-k l = record {
  count : length l.ends.items ≡ length l.cells.present;
  ends : AreEndsBelow l.cells.present l.ends.items l.k;
}
