use Rattle.std.proofs.Common.{arith}
use Rattle.std.proofs.lemmas.Bool.Decides.{nat_tests}
use Rattle.ts_token.specs.Views.{cut_view}
use Rattle.ts_token.proofs.SliceLaws.{finished_slices}
use Rattle.ts_token.proofs.tokens.cut_tokens.Goals as goal

pub returns-clause-slices : goal.returns-clause-slices
returns-clause-slices c = finished_slices c.args.text.now c.loop-rest.rest.now (cut_view c.loop-rest.tokens) (grind (arith, nat_tests))
    c.loop-rest.invariant.all
