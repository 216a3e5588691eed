-- What contracts see of a transducer: the list of its rows.
use Rattle.std.specs.Prelude.{List}
use Rattle.ts_transducer.specs.declared.row.Row.{Row}
use Rattle.ts_transducer.specs.declared.transducer.Transducer.{Transducer}

abbrev pub rows_of : Transducer → List Row
rows_of t = t.rows.items
