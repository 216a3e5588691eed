use Rattle.std.proofs.Common.{refl, rules}
use Rattle.ts_model.proofs.CellLaws.{over_all, set_all, kept_all}
use Rattle.ts_model.proofs.cells.Cells.set_all.Goals as goal

pub returns-in-None-clause-set : goal.returns-in-None-clause-set
returns-in-None-clause-set c =
    over_all c.args.self.now.limited c.args.self.now c.args.domain c.len.result c.size.result (search rules) c.size.ensures.size c.in-None.ensures.none

pub returns-in-Some-clause-set : goal.returns-in-Some-clause-set
returns-in-Some-clause-set c =
    set_all c.args.self.now.limited c.args.self.now c.args.domain c.len.result c.size.result c.requires.kept
    (search rules) c.size.ensures.size c.in-Some.ensures.room

pub returns-in-Some-clause-kept : goal.returns-in-Some-clause-kept
returns-in-Some-clause-kept c =
    kept_all c.args.self.now _ c.args.domain c.len.result c.size.result c.in-Some.total c.requires.kept
    (search rules) c.size.ensures.size c.in-Some.ensures.total refl refl refl refl refl refl
