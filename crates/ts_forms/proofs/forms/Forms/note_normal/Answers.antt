use Rattle.std.specs.Prelude.{refl}
use Rattle.ts_forms.proofs.Readings.{normal_in_table}
use Rattle.ts_forms.proofs.forms.Forms.note_normal.Goals as goal

pub returns-clause-table : goal.returns-clause-table
returns-clause-table c =
    normal_in_table c.args.self.now _ c.args.i c.args.k c.index_mut.result.now c.requires.table c.requires.there c.requires.normal c.index_mut.ensures.value
    refl refl refl
