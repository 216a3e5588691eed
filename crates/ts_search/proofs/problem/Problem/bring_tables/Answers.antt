use Rattle.std.proofs.Common.{◌∙◌}
use Rattle.std.proofs.lemmas.Result.{on_ok_weaker}
use Rattle.ts_search.proofs.Posed.{each_looks}
use Rattle.ts_search.proofs.problem.Problem.bring_tables.Goals as goal

-- each machine looks at cells of the box
pub bring-requires : goal.bring-requires
bring-requires c =
    let asked = c.requires.asked in
    record { looks = each_looks c.args.self.now asked.posed c.args.cells.now.present asked.part c.args.tables.now.machines asked.tables }

pub returns-clause-asked : goal.returns-clause-asked
returns-clause-asked c =
    let asked = c.requires.asked in
    on_ok_weaker c.bring.result
    (λ on. record { posed = asked.posed; part = asked.part; tables = c.bring.ensures.machines ∙ asked.tables; on = λ busy. on })
    c.bring.ensures.on
