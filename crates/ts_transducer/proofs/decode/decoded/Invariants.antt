use Rattle.std.proofs.Common.{◌≡◌, ◌<◌, ◌++◌, length, drop}
use Rattle.ts_transducer.specs.Rows.{rows_of}
use Rattle.ts_transducer.specs.Decode.{decode_from, decode}
use Rattle.ts_transducer.proofs.decode.decoded.Given as goal

abbrev pub invariant-loop-k : goal.invariant-loop-k
invariant-loop-k l =
    record {
      state : l.state < length (rows_of l.t);
      rest : l.ranges.items ++ decode_from (rows_of l.t) l.a l.k l.state l.decoder.start l.decoder.held (drop l.k l.w) ≡ decode (rows_of l.t) l.a l.w;
    }
