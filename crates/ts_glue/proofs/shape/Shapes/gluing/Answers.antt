use Rattle.std.proofs.Common.{◌≡◌, refl, ap, ◌∙◌, rules, to_z, of_z, w64}
use Rattle.std.proofs.lemmas.Int.{to_z-of_z}
use Rattle.ts_glue.specs.declared.gluing.Gluing.{Gluing}
use Rattle.ts_glue.specs.Glue.{worth}
use Rattle.ts_glue.proofs.Calls.{gluing_is}
use Rattle.ts_glue.proofs.shape.Shapes.gluing.Goals as goal

pub returns-clause-value : goal.returns-clause-value
returns-clause-value c =
    let shapes = c.args.self.now in
    let g : Gluing = record { result = shapes.result; fold = shapes.fold; worth = to_z w64 (of_z w64 c.worth.result); shape = c.at.result } in
    let worth_is : to_z w64 (of_z w64 c.worth.result) ≡ worth shapes.unit c.args.cell =
    to_z-of_z w64 c.worth.result (search rules) ∙ c.worth.ensures ∙ ap (worth shapes.unit) (to_z-of_z w64 c.args.cell c.ranges.cell) in
    λ p h l r. gluing_is shapes g c.args.left c.args.right c.args.cell refl refl worth_is c.at.ensures p h l r
