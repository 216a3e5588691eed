use Rattle.std.proofs.Common.{ap, ◌∙◌, w64}
use Rattle.std.proofs.lemmas.Int.{to_z-of_z}
use Rattle.ts_glue.specs.Glue.{glue_of}
use Rattle.ts_glue.specs.Shapes.{expression}
use Rattle.ts_glue.proofs.Calls.{gluing_of_pair}
use Rattle.ts_glue.proofs.machine.Machine.gluing.Goals as goal

pub returns-clause-value : goal.returns-clause-value
returns-clause-value c =
    gluing_of_pair c.args.self.now c.in-Some.half c.in-Some.is (expression c.gluing.result) c.args.left c.args.right c.args.cell
    (λ p h l r. c.gluing.ensures.value p h l r ∙ ap (glue_of p c.args.left c.args.right) (to_z-of_z w64 c.args.cell c.ranges.cell))
    c.requires.left c.requires.right
