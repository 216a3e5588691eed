use Rattle.std.proofs.Common.{◌≡◌, ◌+◌, ◌*◌, Some, map, take, sym, ◌∙◌, subst, rules, to_z, of_z, w64}
use Rattle.std.proofs.lemmas.Int.{to_z-of_z}
use mir.Val.{SFits}
use Rattle.ts_pattern.specs.FeatureValue.{over, feature_value}
use Rattle.ts_base.specs.Operators.{int_op}
use Rattle.ts_occurrence.specs.Total.{IsWithin}
use Rattle.ts_occurrence.proofs.Totals.{over_map_more, within_more}
use Rattle.ts_occurrence.proofs.term_value.total.Goals as goal

pub loop-k-preserved : goal.loop-k-preserved
loop-k-preserved c =
    let fits : SFits w64 c.join.result = search rules in
    let feature_fits : SFits w64 c.feature_at-x.result = search rules in
    let back : to_z w64 (of_z w64 c.join.result) ≡ c.join.result = to_z-of_z w64 c.join.result fits in
    let feature : to_z w64 (of_z w64 c.feature_at-x.result) ≡ c.feature_at-x.result = to_z-of_z w64 c.feature_at-x.result feature_fits in
    record {
      so_far = subst (λ z. Some z ≡ over (int_op c.args.op) (map (λ r. feature_value c.args.f r c.args.series.now) (take (c.loop-k.k + 1) c.args.ranges.now)))
          (sym back)
          (over_map_more (int_op c.args.op) (λ r. feature_value c.args.f r c.args.series.now) c.args.ranges.now c.loop-k.k _
          (to_z w64 (of_z w64 c.feature_at-x.result)) c.join.result c.loop-k.total c.loop-k-test.true (feature ∙ c.feature_at-x.ensures.exact)
          c.loop-k.invariant.so_far c.join.ensures);
      within = subst (λ z. IsWithin (1024000000 * (c.loop-k.k + 1)) z) (sym back)
          (within_more c.args.op 1024000000 c.loop-k.k (to_z w64 (of_z w64 c.feature_at-x.result)) c.join.result c.loop-k.total c.loop-k.invariant.within
          (subst (λ z. IsWithin 1024000000 z) (sym feature) c.feature_at-x.ensures.within) c.join.ensures);
    }
