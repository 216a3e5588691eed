use Rattle.ts_model.proofs.ReaderLaws.{fresh_read}
use Rattle.ts_model.proofs.reader.ModelReader.new.Goals as goal

pub returns : goal.returns
returns c = fresh_read c.in_ok-new.field-0 c.args.need c.in_ok-new.ensures.need c.in_ok-new.ensures.count c.in_ok-new.ensures.nothing
