use mir.Val.{SFits}
use Rattle.std.proofs.Common.{ℤ, Some, w64, rules, sym, ap, ◌∙◌}
use Rattle.std.proofs.lemmas.Int.{to_z-of_z}
use Rattle.ts_filter.specs.Boxes.{values_at}
use Rattle.ts_filter.proofs.CellLaws.{walk_step, not_last}
use Rattle.ts_filter.proofs.cell_hulls.CellHulls.shown_between.Goals as goal

pub excludes_at-requires-clause-value : goal.excludes_at-requires-clause-value
excludes_at-requires-clause-value c =
    let t = c.args.self.now in let v = c.in-Some.v in let fits : SFits w64 v = search rules in
    (walk_step (values_at t.cell t.cells) c.loop-v.i v c.next.new.self (sym c.loop-v.invariant.1 ∙ c.in-Some.ensures.steps)).1
    ∙ ap (λ (u : ℤ). Some u) (sym (to_z-of_z w64 v fits))

pub loop-v-preserved : goal.loop-v-preserved
loop-v-preserved c =
    let t = c.args.self.now in (
      not_last c.loop-v.i c.args.to c.loop-v.invariant.0 c.if-i-to.false,
      (walk_step (values_at t.cell t.cells) c.loop-v.i c.in-Some.v c.next.new.self (sym c.loop-v.invariant.1 ∙ c.in-Some.ensures.steps)).2,
    )
