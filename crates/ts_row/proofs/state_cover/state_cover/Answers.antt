use Rattle.ts_row.proofs.state_cover.state_cover.Goals as goal

pub returns-then-adds : goal.returns-then-adds
returns-then-adds g c = c.cover_of.ensures c.requires.column.1

pub returns-else-adds : goal.returns-else-adds
returns-else-adds g c = λ i lt some. c.greatest.ensures _
