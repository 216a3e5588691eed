-- Each side of a node has fewer marks than the tree.
use Rattle.std.specs.Prelude.{◌≤◌, max, ◌∷◌, length}
use Rattle.std.proofs.Common.{arith, length-append}
use Rattle.ts_domain.specs.declared.marks.Root.{Root}
use Rattle.ts_domain.specs.declared.marks.Root.TheVariants.{Empty, Full}
use Rattle.ts_domain.specs.declared.marks.Marks.TheDeep.{deep-Root}
use Rattle.ts_domain.specs.MarkTree.{marks_of}

pub depth_le-length-marks : (r : Root) → max (deep-Root r) 0 ≤ length (marks_of r)
depth_le-length-marks Empty = omega arith
depth_le-length-marks (Full node) = omega (arith, length-append node.value.before (node.value.mark ∷ node.value.behind))
