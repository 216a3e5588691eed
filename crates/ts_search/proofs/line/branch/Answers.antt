use Rattle.std.proofs.Common.{rules}
use Rattle.std.proofs.lemmas.Int.{to_z-of_z}
use mir.Syntax.{w64}
use Rattle.ts_search.specs.Views.{search_of}
use Rattle.ts_search.proofs.CodeLines.{branch_drop, branch_split}
use Rattle.ts_search.proofs.line.branch.Goals as goal

pub returns-in-Some-clause-line : goal.returns-in-Some-clause-line
returns-in-Some-clause-line c =
    branch_drop (search_of c.args.problem.now) c.args.cells.now.present c.in_ok-removal.field-0 c.in_ok-removal.ensures.found c.in-Some.removal _
    c.args.halving.cell c.args.halving.at c.in-Some.is (to_z-of_z w64 c.in-Some.removal.value (search rules))

pub returns-in-None-clause-line : goal.returns-in-None-clause-line
returns-in-None-clause-line c =
    branch_split (search_of c.args.problem.now) c.args.cells.now.present c.in_ok-removal.field-0 c.in_ok-removal.ensures.found c.args.halving.cell
    c.args.halving.at _ c.in-None.is (to_z-of_z w64 c.args.halving.at (search rules))
