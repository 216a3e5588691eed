use Rattle.std.proofs.Common.{◌≡◌, [], ◌∷◌, ◌++◌, map, vec_len}
use Rattle.ts_regex.specs.Shape.{shape_of}
use Rattle.ts_regex.specs.NormalForm.{nest}
use Rattle.ts_regex.proofs.normal_form.nest.Given as goal

abbrev pub invariant-loop-member : goal.invariant-loop-member
invariant-loop-member l = nest (map shape_of l.fn.found.items) ≡ nest (map shape_of l.found.items ++ shape_of l.union ∷ [])

abbrev pub decreases-loop-member : goal.decreases-loop-member
decreases-loop-member l = vec_len l.found
