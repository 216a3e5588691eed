use Rattle.std.proofs.Common.{◌≡◌, ◌+◌, ◌-◌, ◌++◌}
use Rattle.ts_mark.specs.MarkText.{more_numbers}
use Rattle.ts_mark.specs.Walk.{counted}
use Rattle.ts_mark.proofs.text.push_more.Given as goal

abbrev pub invariant-loop-k : goal.invariant-loop-k
invariant-loop-k l =
    l.text.items ++ more_numbers (counted (l.k + 1) (l.behind - l.k)) ≡ l.initial.text.items ++ more_numbers (counted (l.first + 1) (l.behind - l.first))
