use Rattle.std.proofs.Common.{◌∙◌, ap, to_z, of_z, w64}
use Rattle.std.proofs.lemmas.Int.{to_z-of_z}
use Rattle.ts_model.specs.Judgement.{is_among}
use Rattle.ts_compile.proofs.JudgeLaws.{contains_is}
use Rattle.ts_compile.proofs.judging.has.Goals as goal

pub returns : goal.returns
returns c =
    contains_is c.contains.result c.args.domain.now (to_z w64 (of_z w64 c.args.value)) c.contains.ensures
    ∙ ap (is_among c.args.domain.now) (to_z-of_z w64 c.args.value c.ranges.value)
