use Rattle.ts_checker.proofs.InputLaws.{refuses}
use Rattle.ts_checker.proofs.opened_model.refused.Goals as goal

pub returns-in-Refused : goal.returns-in-Refused
returns-in-Refused c = λ text reads. refuses text c.args.stop c.in-Refused.line c.in-Refused.kind c.in-Refused.is reads
