use Rattle.std.proofs.Common.{rules}
use Rattle.ts_validate.proofs.Numbering.{number_some, number_none}
use Rattle.ts_validate.proofs.residuals.Residuals.number.Goals as goal

pub returns-in-Some : goal.returns-in-Some
returns-in-Some c = number_some c.args.self.now c.args.form c.in-Some.i c.requires.sound c.requires.there c.in-Some.ensures

pub returns-in-None : goal.returns-in-None
returns-in-None c = number_none c.args.self.now c.args.form c.len.result c.requires.sound c.requires.there c.in-None.ensures (search rules)
