use Rattle.std.proofs.Common.{rules}
use Rattle.std.proofs.lemmas.Int.{to_z-of_z}
use mir.Syntax.{w64}
use Rattle.ts_search.proofs.Paced.{known_line}
use Rattle.ts_search.proofs.pace.Pace.known.Goals as goal

pub returns-in-Some : goal.returns-in-Some
returns-in-Some c = λ q splits.
    known_line q c.args.self.now.ahead c.args.cells.now.present c.in-Some.halving.cell c.in-Some.halving.at _ c.if-self-eq0.false c.in-Some.ensures
    (to_z-of_z w64 c.in-Some.halving.at (search rules)) splits
