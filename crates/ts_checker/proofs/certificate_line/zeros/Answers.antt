use Rattle.ts_checker.proofs.LongLines.{zeros_more}
use Rattle.ts_checker.proofs.certificate_line.zeros.Goals as goal

pub loop-preserved : goal.loop-preserved
loop-preserved c = zeros_more c.loop.counter c.loop.line.items _ c.loop.invariant c.in_ok-extend_from_slice-2.ensures.items
