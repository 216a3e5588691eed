use Rattle.ts_seed.specs.Written.{table_read}
use Rattle.ts_seed.proofs.Closed.{rows_closed}
use Rattle.ts_seed.proofs.seed.transducer_by_id.Goals as goal

abbrev pub returns-clause-closed : goal.returns-clause-closed
returns-clause-closed c =
    rows_closed c.args.id (table_read c.table_of-reading.result.1 c.table_of-reading.result.0) _ c.table_of-reading.ensures.table c.transducer.ensures
