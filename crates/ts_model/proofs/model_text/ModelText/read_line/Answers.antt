use Rattle.std.proofs.Common.{Some, refl}
use Rattle.std.proofs.lemmas.Result.{on_ok_weaker}
use Rattle.ts_model.proofs.ModelTexts.{has_room, next_read, short_line}
use Rattle.ts_model.proofs.model_text.ModelText.read_line.Goals as goal

pub line-requires-clause-room : goal.line-requires-clause-room
line-requires-clause-room c = has_room c.args.self.now _ c.in-Some.is c.requires

pub line-requires-clause-short : goal.line-requires-clause-short
line-requires-clause-short c = short_line c.args.self.now c.bytes.result.now c.bytes.ensures.short c.requires

pub returns-in-Some-clause-reads : goal.returns-in-Some-clause-reads
returns-in-Some-clause-reads c =
    on_ok_weaker c.line.result
    (next_read c.args.self.now (record c.args.self.now { reader = Some c.line.new.self }) _ c.line.new.self c.bytes.result.now c.in-Some.is refl
    c.bytes.ensures.stands)
    c.line.ensures.read
