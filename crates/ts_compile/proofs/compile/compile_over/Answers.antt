use Rattle.std.proofs.Common.{◌∙◌, subst, sym}
use Rattle.ts_base.specs.Limits.{most_cells}
use Rattle.ts_base.specs.Windows.{LooksInside}
use Rattle.ts_compile.proofs.compile.compile_over.Goals as goal

pub over-requires-clause-first : goal.over-requires-clause-first
over-requires-clause-first c = (subst (LooksInside most_cells) c.in-Some.is c.requires).0

pub over-requires-clause-order : goal.over-requires-clause-order
over-requires-clause-order c = (subst (LooksInside most_cells) c.in-Some.is c.requires).1

pub over-requires-clause-last : goal.over-requires-clause-last
over-requires-clause-last c = (subst (LooksInside most_cells) c.in-Some.is c.requires).2

pub returns-in-None-clause-window : goal.returns-in-None-clause-window
returns-in-None-clause-window c = c.in_ok-machine.ensures.whole ∙ sym c.in-None.is

pub returns-in-Some-clause-window : goal.returns-in-Some-clause-window
returns-in-Some-clause-window c = c.over.ensures.window ∙ sym c.in-Some.is
