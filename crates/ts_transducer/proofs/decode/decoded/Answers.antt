use Rattle.ts_transducer.specs.Rows.{rows_of}
use Rattle.ts_transducer.proofs.Decoding.{letter_read, next_stays}
use Rattle.ts_transducer.proofs.decode.decoded.Goals as goal

pub loop-k-preserved : goal.loop-k-preserved
loop-k-preserved c =
    let rows = rows_of c.args.t.now in
    let arrow = c.arrow_at-arrow.result in
    let emitted = c.step-emitted.ensures in
    record {
      state = next_stays rows c.args.t.now.typed c.loop-k.state _ arrow c.arrow_at-arrow.ensures;
      rest = letter_read rows c.args.a c.loop-k.k c.loop-k.state _ _ _ _ _ c.args.w.now _ _ _ _ arrow c.loop-k-test.true
          c.arrow_at-arrow.ensures emitted.emitted emitted.start emitted.held c.in_ok-push_some.ensures c.loop-k.invariant.rest;
    }
