use Rattle.std.proofs.Common.{◌≡◌, take}
use Rattle.ts_bound.proofs.same_rows.are_same_columns.Given as goal

abbrev pub invariant-loop-q : goal.invariant-loop-q
invariant-loop-q g l = take l.q l.a ≡ take l.q l.b
