use Rattle.std.proofs.lemmas.Result.{IfOk-weaker}
use Rattle.ts_checker.specs.Verified.{model_part}
use Rattle.ts_checker.proofs.InputLaws.{end_reads}
use Rattle.ts_checker.proofs.input.ended.Goals as goal

pub of-requires : goal.of-requires
of-requires c =
    let some = c.requires.few in
    (model_part some.0, end_reads some.0 c.args.text c.finish.result c.finish.ensures c.requires.need some.1)

pub returns : goal.returns
returns c =
    IfOk-weaker c.of.result _ _
    (λ opened gives bytes h. gives (model_part bytes) (end_reads bytes c.args.text c.finish.result c.finish.ensures c.requires.need h))
    c.of.ensures
