use Rattle.ts_meet.proofs.column.Watched.over.Goals as goal

pub returns-else-needed-wide : goal.returns-else-needed-wide
returns-else-needed-wide g c i before some = c.nothing.ensures _
