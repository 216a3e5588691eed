use Rattle.std.proofs.Common.{map}
use Rattle.ts_regex.specs.Shape.{shape_of}
use Rattle.ts_regex.proofs.Members.{Passed}
use Rattle.ts_regex.proofs.normal_form.place_of.Given as goal

-- r belongs after the members that were passed
abbrev pub invariant-loop-k : goal.invariant-loop-k
invariant-loop-k l = Passed (shape_of l.r) (map shape_of l.found) l.k
