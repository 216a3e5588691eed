use Rattle.std.proofs.Common.{subst, sym}
use Rattle.std.proofs.lemmas.Result.{on_err_weaker, on_ok_weaker}
use Rattle.ts_token.specs.Gist.{without_end}
use Rattle.ts_model.specs.LineByLine.{HasRoom}
use Rattle.ts_model.proofs.ReaderLaws.{counts, reads, stays_calm, wanted_text}
use Rattle.ts_model.proofs.reader.ModelReader.line.Goals as goal

pub returns-clause-read : goal.returns-clause-read
returns-clause-read c =
    on_ok_weaker c.answer-2.result (reads c.self.inside.state c.line.new.self c.args.self.now c.args.line.now c.self.view_is c.line.ensures.read)
    c.answer-2.ensures.calm

pub returns-clause-calm : goal.returns-clause-calm
returns-clause-calm c =
    on_ok_weaker c.answer-2.result
    (stays_calm c.self.inside.state c.line.new.self c.args.self.now (without_end c.args.line.now) c.self.view_is c.line.ensures.read)
    c.answer-2.ensures.calm

pub line-requires-clause-room : goal.line-requires-clause-room
line-requires-clause-room c = subst HasRoom (sym c.self.view_is) c.requires.room

pub returns-clause-text : goal.returns-clause-text
returns-clause-text c =
    on_err_weaker c.answer-2.result
    (wanted_text c.self.inside.state c.line.new.self c.args.self.now c.args.line.now c.self.view_is c.line.ensures.text)
    c.answer-2.ensures.wanted

pub returns-clause-counted : goal.returns-clause-counted
returns-clause-counted c =
    counts c.self.inside.state c.line.new.self c.args.self.now (without_end c.args.line.now) c.self.view_is c.line.ensures.read
