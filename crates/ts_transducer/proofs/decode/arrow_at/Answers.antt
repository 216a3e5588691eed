use Rattle.ts_transducer.proofs.Decoding.{arrow_read}
use Rattle.ts_transducer.specs.Rows.{rows_of}
use Rattle.ts_transducer.proofs.decode.arrow_at.Goals as goal

pub returns : goal.returns
returns c = arrow_read (rows_of c.args.t.now) c.rows.result.now c.args.state c.args.letter _ c.arrow.result c.requires c.rows.ensures.rows c.arrow.ensures
