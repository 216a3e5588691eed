use Rattle.ts_occurrence.proofs.Known.{answers_at}
use Rattle.ts_occurrence.proofs.residuals.Residuals.nullable.Goals as goal

pub returns : goal.returns
returns c = (answers_at c.args.self.now.met.items c.requires.right c.args.number c.index.result.now _ c.requires.there c.index.ensures).1
