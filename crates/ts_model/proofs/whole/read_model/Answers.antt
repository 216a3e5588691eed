use Rattle.std.proofs.Common.{arith}
use Rattle.std.proofs.lemmas.Bool.Decides.{nat_tests}
use Rattle.ts_model.proofs.WholeTexts.{all_read, line_on, line_small, none_read_of, room_to}
use Rattle.ts_model.proofs.whole.read_model.Goals as goal

pub loop-rest-init : goal.loop-rest-init
loop-rest-init c = none_read_of c.args.need c.args.text.now c.in_ok-reader.reader c.in_ok-reader.ensures

pub line-requires-clause-room : goal.line-requires-clause-room
line-requires-clause-room c =
    room_to c.args.need c.args.text.now c.loop-rest.rest.now c.loop-rest.reader c.loop-rest.invariant (grind (arith, nat_tests)) c.requires

pub line-requires-clause-short : goal.line-requires-clause-short
line-requires-clause-short c =
    line_small c.args.need c.args.text.now c.loop-rest.rest.now c.first_line.result.0.now c.first_line.result.1.now c.loop-rest.reader
    c.loop-rest.invariant c.first_line.ensures.parts c.requires

pub loop-rest-preserved : goal.loop-rest-preserved
loop-rest-preserved c =
    let cut = c.first_line.ensures in
    line_on c.args.need c.args.text.now c.loop-rest.rest.now c.first_line.result.0.now c.first_line.result.1.now c.loop-rest.reader
    c.line.new.self c.loop-rest.invariant cut.cut cut.parts cut.some c.in_ok-line.ensures.read

pub returns-clause-exact : goal.returns-clause-exact
returns-clause-exact c =
    c.finish.ensures.exact c.args.need c.args.text.now
    (all_read c.args.need c.args.text.now c.loop-rest.rest.now c.loop-rest.reader c.loop-rest.invariant (grind (arith, nat_tests)))

pub returns-clause-first : goal.returns-clause-first
returns-clause-first c =
    c.finish.ensures.first c.args.need c.args.text.now
    (all_read c.args.need c.args.text.now c.loop-rest.rest.now c.loop-rest.reader c.loop-rest.invariant (grind (arith, nat_tests)))

pub returns-clause-whole : goal.returns-clause-whole
returns-clause-whole c =
    c.finish.ensures.whole c.args.need c.args.text.now
    (all_read c.args.need c.args.text.now c.loop-rest.rest.now c.loop-rest.reader c.loop-rest.invariant (grind (arith, nat_tests)))

pub returns-clause-limits : goal.returns-clause-limits
returns-clause-limits c =
    c.finish.ensures.limits c.args.need c.args.text.now
    (all_read c.args.need c.args.text.now c.loop-rest.rest.now c.loop-rest.reader c.loop-rest.invariant (grind (arith, nat_tests)))
