use Rattle.std.proofs.Common.{◌≡◌, ◌-◌, ◌≤◌, length, take, drop}
use Rattle.ts_base.specs.Words.{strict_lines}
use Rattle.ts_token.specs.Halves.{after_front, halves, halves_of}
use Rattle.ts_token.proofs.parts.cut_parts.Given as goal

abbrev pub invariant-loop-at : goal.invariant-loop-at
invariant-loop-at l = record {
  all : after_front (take l.at l.text) (halves (strict_lines (drop l.at l.text))) ≡ halves_of l.text;
  place : l.at ≤ length l.text;
}

abbrev pub decreases-loop-at : goal.decreases-loop-at
decreases-loop-at l = length l.text - l.at
