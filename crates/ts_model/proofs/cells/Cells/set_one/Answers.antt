use Rattle.std.proofs.Common.{refl}
use Rattle.ts_model.proofs.CellLaws.{set_one, kept_one}
use Rattle.ts_model.proofs.cells.Cells.set_one.Goals as goal

pub returns-in-Some-clause-set : goal.returns-in-Some-clause-set
returns-in-Some-clause-set c =
    set_one c.args.self.now.limited c.args.place c.args.self.now c.args.domain c.size.result c.requires.kept c.requires.there c.size.ensures.size
    c.in-Some.ensures.room

pub returns-in-Some-clause-kept : goal.returns-in-Some-clause-kept
returns-in-Some-clause-kept c =
    kept_one c.args.place c.args.self.now _ c.args.domain c.size.result c.in-Some.total c.requires.kept c.requires.there c.size.ensures.size
    c.in-Some.ensures.total refl refl refl refl refl refl
