use Rattle.std.proofs.Common.{rules, ◌∙◌, sym, subst, w64}
use Rattle.std.specs.Prelude.{Contains}
use Rattle.std.proofs.lemmas.Int.{to_z-of_z}
use Rattle.ts_base.specs.Limits.{IsCellValue}
use Rattle.ts_domain.proofs.MarkedSets.{at_contains}
use Rattle.ts_search.proofs.Witnessed.{value_fits}
use Rattle.ts_search.proofs.nearest.nearest.Goals as goal

pub value_tried-low-requires-clause-value : goal.value_tried-low-requires-clause-value
value_tried-low-requires-clause-value c =
    let v = c.nth.result in
    subst IsCellValue (sym (to_z-of_z w64 v (search rules)))
    (value_fits c.args.domain.now v c.size-count.ensures.domain (at_contains c.args.domain.now c.loop-i.i v c.nth.ensures))

pub value_tried-high-requires-clause-value : goal.value_tried-high-requires-clause-value
value_tried-high-requires-clause-value c =
    let v = c.nth-in-loop-i.result in
    subst IsCellValue (sym (to_z-of_z w64 v (search rules)))
    (value_fits c.args.domain.now v c.size-count.ensures.domain (at_contains c.args.domain.now _ v c.nth-in-loop-i.ensures))

pub loop-i-preserved : goal.loop-i-preserved
loop-i-preserved c =
    let d = c.args.domain.now in
    let low = c.nth.result in
    let high = c.nth-in-loop-i.result in
    record {
      witness = c.value_tried-high.ensures.witness;
      series = c.value_tried-high.ensures.series ∙ c.value_tried-low.ensures.series ∙ c.loop-i.invariant.series;
      there = c.nearer-best.ensures d
          (c.nearer.ensures d c.loop-i.invariant.there
          (subst (Contains d) (sym (c.value_tried-low.ensures.value ∙ to_z-of_z w64 low (search rules))) (at_contains d c.loop-i.i low c.nth.ensures)))
          (subst (Contains d) (sym (c.value_tried-high.ensures.value ∙ to_z-of_z w64 high (search rules)))
          (at_contains d _ high c.nth-in-loop-i.ensures));
    }

pub value_tried-best-requires-clause-value : goal.value_tried-best-requires-clause-value
value_tried-best-requires-clause-value c =
    subst IsCellValue (sym (to_z-of_z w64 c.args.from c.ranges.from))
    (value_fits c.args.domain.now c.args.from c.size-count.ensures.domain c.requires.from)
