use Rattle.std.proofs.Common.{map}
use Rattle.ts_bound.specs.TermSpans.{automata_of}
use Rattle.ts_filter.specs.Drops.{IsFirstOf}
use Rattle.ts_filter.proofs.DropLaws.{DropBelow}
use Rattle.ts_filter.proofs.drops.next_drop.Given as goal

abbrev pub invariant-loop-term : goal.invariant-loop-term
invariant-loop-term l = IsFirstOf (DropBelow l.requirements (map automata_of l.machines) l.cells.present l.term) l.first
