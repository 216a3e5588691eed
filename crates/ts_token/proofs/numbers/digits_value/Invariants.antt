use Rattle.std.proofs.Common.{◌≡◌, ◌≤◌, drop}
use Rattle.ts_token.specs.Number.{digits_from}
use Rattle.ts_token.proofs.numbers.digits_value.Given as goal

abbrev pub invariant-loop-b : goal.invariant-loop-b
invariant-loop-b l = record {
  rest : digits_from l.value (drop l.b-index l.digits) ≡ digits_from 0 l.digits;
  small : l.value ≤ l.limit;
}
