use Rattle.std.proofs.Common.{◌≡◌, map, take}
use Rattle.arrayvec.specs.ArrayVec.{array_vec_len}
use Rattle.ts_seed.specs.Written.{row_read}
use Rattle.ts_seed.proofs.table.PrintedTable.transducer.Given as goal

abbrev pub invariant-loop-line : goal.invariant-loop-line
invariant-loop-line l =
    record {
      rows : l.rows.items ≡ map (λ x. row_read l.reading x) (take l.line-index l.self.rows.now);
      count : array_vec_len l.rows ≡ l.line-index;
    }
