use Rattle.std.proofs.Common.{arith, ◌∙◌}
use Rattle.std.proofs.lemmas.List.{take_rest}
use Rattle.ts_base.proofs.Pieces.{taken_further}
use Rattle.ts_base.proofs.read_write.write_all.Goals as goal

pub loop-done-preserved : goal.loop-done-preserved
loop-done-preserved g c = record {
  took = taken_further c.loop-done.done c.in_ok-done.field-0 c.args.bytes.now _ (g.K.Sink.taken c.loop-done.sink) _
      c.loop-done.invariant.took (rw take_rest at c.in_ok-done.ensures.took);
  within = omega (arith, c.in_ok-done.ensures.within);
  calm = c.in_ok-done.ensures.calm ∙ c.loop-done.invariant.calm;
  unfinished = λ _. c.in_ok-done.ensures.unfinished;
  writes = c.in_ok-done.ensures.writes ∙ c.loop-done.invariant.writes;
  later = omega (arith, c.loop-done.invariant.later, c.in_ok-done.ensures.later);
}
