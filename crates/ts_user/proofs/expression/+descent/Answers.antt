use Rattle.ts_user.proofs.DescentLaws.{bracket_unclosed, bracket_closed, bracket_part, byte_refused, byte_taken}
use Rattle.ts_user.proofs.expression.+descent.Goals as goal

pub read_bracketed-returns-in-None-2-clause-same : goal.read_bracketed-returns-in-None-2-clause-same
read_bracketed-returns-in-None-2-clause-same t c = λ outer.
    bracket_unclosed c.args.word.now c.args.left c.in_ok-read_level.field-0 c.in-Some.inner c.in_ok-closed.field-0 c.args.around outer
    c.requires c.in_ok-read_level.ensures.same c.in_ok-read_level.ensures.ends c.in-Some.is c.if-inner-eq0.false c.in_ok-closed.ensures c.in-None-2.is

pub read_bracketed-returns-in_ok-with_atom-in-Some-2-clause-same : goal.read_bracketed-returns-in_ok-with_atom-in-Some-2-clause-same
read_bracketed-returns-in_ok-with_atom-in-Some-2-clause-same t c = λ outer.
    bracket_closed c.args.word.now c.args.left c.in_ok-read_level.field-0 c.in-Some.inner c.in_ok-closed.field-0 c.in-Some-2.atom c.args.around
    c.in_ok-with_atom-in-Some-2.field-0 outer
    c.requires c.in_ok-read_level.ensures.same c.in_ok-read_level.ensures.ends c.in-Some.is c.if-inner-eq0.false c.in_ok-closed.ensures c.in-Some-2.is
    c.in_ok-with_atom-in-Some-2.ensures

pub read_part-returns-then-byte-eq41-clause-same : goal.read_part-returns-then-byte-eq41-clause-same
read_part-returns-then-byte-eq41-clause-same t c =
    bracket_part c.args.word.now c.args.read.left c.args.read.level c.read_bracketed.result c.requires.some c.requires.within c.if-byte-eq41.true
    c.read_bracketed.ensures.same

pub read_part-returns-in-None-clause-same : goal.read_part-returns-in-None-clause-same
read_part-returns-in-None-clause-same t c = λ outer.
    byte_refused c.args.word.now c.args.read.left c.args.read.level c.in_ok-read_byte.field-0 outer c.requires.some c.requires.within
    c.in_ok-read_byte.ensures c.in-None.is

pub read_part-returns-in-Some-clause-same : goal.read_part-returns-in-Some-clause-same
read_part-returns-in-Some-clause-same t c = λ outer.
    byte_taken c.args.word.now c.args.read.left c.args.read.level c.in-Some.level c.in_ok-read_byte.field-0 outer c.requires.some c.requires.within
    c.in_ok-read_byte.ensures c.in-Some.is
