use Rattle.std.proofs.Common.{◌≡◌, map, take}
use Rattle.arrayvec.specs.ArrayVec.{array_vec_len}
use Rattle.ts_user.specs.Stated.{row_stated}
use Rattle.ts_user.proofs.ended.rows_of.Given as goal

abbrev pub invariant-loop-state : goal.invariant-loop-state
invariant-loop-state l = record {
  rows : l.rows.items ≡ map row_stated (take l.state-index l.states);
  count : array_vec_len l.rows ≡ l.state-index;
}
