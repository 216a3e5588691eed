use Rattle.std.proofs.Common.{w64, rules, sym, subst}
use mir.Val.{SFits}
use Rattle.std.proofs.lemmas.Int.{to_z-of_z}
use Rattle.ts_base.specs.Limits.{IsCellValue}
use Rattle.ts_run.proofs.Inputs.{word_cell}
use Rattle.ts_run.proofs.readings.reading_in.Goals as goal

pub returns-in-Some-clause-cell : goal.returns-in-Some-clause-cell
returns-in-Some-clause-cell c =
    let fits : SFits w64 c.in-Some.v = search rules in
    subst IsCellValue (sym (to_z-of_z w64 c.in-Some.v fits)) (word_cell c.in-Word.word.now c.in-Some.v (sym c.in-Some.ensures))
