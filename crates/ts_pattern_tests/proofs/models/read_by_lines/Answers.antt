use Rattle.std.proofs.Common.{◌≡◌, [], Ok, Err, ◌∙◌, ap, arith, length, length-append, refl}
use Rattle.std.specs.Prelude.{Result}
use Rattle.ts_model.specs.declared.error.ModelStop.{ModelStop}
use Rattle.ts_model.specs.declared.error.ModelStop.TheVariants.{Refused, Memory}
use Rattle.ts_model.specs.declared.model.Need.{Need}
use Rattle.ts_model.specs.declared.model.Need.TheVariants.{Values}
use Rattle.ts_model.specs.LineByLine.{HasRead, SoFar, lines_read}
use Rattle.ts_pattern_tests.proofs.models.read_by_lines.Goals as goal

none_counted : (need : Need) (r : Result SoFar ModelStop) → HasRead need [] r → lines_read r ≡ 0
none_counted need (Ok s) h = h.1
none_counted need (Err (Refused line kind)) h = refl
none_counted need (Err Memory) h = absurd h

pub loop-rest-init : goal.loop-rest-init
loop-rest-init c =
    let none = none_counted Values c.in_ok-reader.reader c.in_ok-reader.ensures in omega (arith, none, c.requires)

pub read_line-requires-clause-room : goal.read_line-requires-clause-room
read_line-requires-clause-room c = let few = c.loop-rest.invariant in omega (arith, few)

pub read_line-requires-clause-short : goal.read_line-requires-clause-short
read_line-requires-clause-short c =
    let size = ap length c.first_line.ensures.parts ∙ length-append c.first_line.result.0.now c.first_line.result.1.now in
    let few = c.loop-rest.invariant in omega (arith, size, few)

pub loop-rest-preserved : goal.loop-rest-preserved
loop-rest-preserved c =
    let size = ap length c.first_line.ensures.parts ∙ length-append c.first_line.result.0.now c.first_line.result.1.now in
    let few = c.loop-rest.invariant in
    let one = c.read_line.ensures in
    let some = c.first_line.ensures.some in omega (arith, size, few, one, some)
