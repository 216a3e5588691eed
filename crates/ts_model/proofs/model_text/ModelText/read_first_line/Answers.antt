use Rattle.std.proofs.Common.{Some, refl}
use Rattle.ts_model.proofs.ModelTexts.{first_read, fresh_room, short_line}
use Rattle.ts_model.proofs.model_text.ModelText.read_first_line.Goals as goal

pub line-requires-clause-room : goal.line-requires-clause-room
line-requires-clause-room c = fresh_room c.args.self.now.need c.in_ok-reader.reader c.in_ok-reader.ensures

pub line-requires-clause-short : goal.line-requires-clause-short
line-requires-clause-short c = short_line c.args.self.now c.bytes.result.now c.bytes.ensures.short c.requires.may

pub returns-clause-reads : goal.returns-clause-reads
returns-clause-reads c =
    first_read c.args.self.now (record c.args.self.now { reader = Some c.line.new.self }) c.in_ok-reader.reader c.line.new.self c.bytes.result.now
    c.requires.none refl c.in_ok-reader.ensures c.bytes.ensures.stands c.in_ok-line.ensures.read
