use Rattle.std.specs.Prelude.{refl}
use Rattle.ts_forms.proofs.Readings.{left_in_table}
use Rattle.ts_forms.proofs.forms.Forms.note_left.Goals as goal

pub returns-clause-table : goal.returns-clause-table
returns-clause-table c =
    left_in_table c.args.self.now _ c.args.i c.args.k c.args.letter c.index-known.result.now c.with.result c.requires.table c.requires.there c.requires.left
    c.index-known.ensures
    c.with.ensures refl refl refl
