use Rattle.ts_token.specs.Text.{cut_of}
use Rattle.ts_model.proofs.ReaderLaws.{ends, ends_wanted, ends_calm}
use Rattle.ts_model.proofs.Told.{told, whole_read, limits_read}
use Rattle.ts_model.proofs.reader.ModelReader.finish.Goals as goal

pub returns-clause-exact : goal.returns-clause-exact
returns-clause-exact c need text has = ends c.self.inside.state c.args.self c.finish.result need text c.self.view_is c.finish.ensures.ends has

pub returns-clause-first : goal.returns-clause-first
returns-clause-first c need text has =
    told need (cut_of text) c.finish.result (ends c.self.inside.state c.args.self c.finish.result need text c.self.view_is c.finish.ensures.ends has)

pub returns-clause-whole : goal.returns-clause-whole
returns-clause-whole c need text has =
    whole_read need (cut_of text) c.finish.result (ends c.self.inside.state c.args.self c.finish.result need text c.self.view_is c.finish.ensures.ends has)

pub returns-clause-limits : goal.returns-clause-limits
returns-clause-limits c need text has =
    limits_read need (cut_of text) c.finish.result (ends c.self.inside.state c.args.self c.finish.result need text c.self.view_is c.finish.ensures.ends has)

pub returns-clause-wanted : goal.returns-clause-wanted
returns-clause-wanted c = ends_wanted c.self.inside.state c.args.self c.finish.result c.self.view_is c.finish.ensures.ends

pub returns-clause-calm : goal.returns-clause-calm
returns-clause-calm c = ends_calm c.self.inside.state c.args.self c.finish.result c.self.view_is c.finish.ensures.ends
