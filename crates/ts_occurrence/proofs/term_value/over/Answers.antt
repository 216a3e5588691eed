use Rattle.std.proofs.Common.{◌≡◌, ◌+◌, ◌*◌, pos, Some, map, take, get_or, sym, ◌∙◌, ap, subst, rules, to_z, of_z, w64}
use Rattle.std.proofs.lemmas.Int.{to_z-of_z}
use mir.Val.{SFits}
use Rattle.ts_pattern.specs.Arithmetic.{worth_of}
use Rattle.ts_pattern.specs.FeatureValue.{over}
use Rattle.ts_base.specs.Operators.{int_op}
use Rattle.ts_occurrence.specs.Total.{IsWithin}
use Rattle.ts_occurrence.proofs.Totals.{over_map_more, within_more}
use Rattle.ts_occurrence.proofs.term_value.over.Goals as goal

pub loop-k-preserved : goal.loop-k-preserved
loop-k-preserved c =
    let fits : SFits w64 c.join.result = search rules in
    let worth_fits : SFits w64 c.worth_at-x.result = search rules in
    let cell_fits : SFits w64 (get_or c.args.cells.now c.loop-k.k (pos 0)) = search rules in
    let back : to_z w64 (of_z w64 c.join.result) ≡ c.join.result = to_z-of_z w64 c.join.result fits in
    let worth : to_z w64 (of_z w64 c.worth_at-x.result) ≡ c.worth_at-x.result = to_z-of_z w64 c.worth_at-x.result worth_fits in
    let cell : to_z w64 (of_z w64 (get_or c.args.cells.now c.loop-k.k (pos 0))) ≡ get_or c.args.cells.now c.loop-k.k (pos 0) =
    to_z-of_z w64 (get_or c.args.cells.now c.loop-k.k (pos 0)) cell_fits in
    record {
      so_far = subst (λ z. Some z ≡ over (int_op c.args.op) (map (worth_of c.args.worth) (take (c.loop-k.k + 1) c.args.cells.now))) (sym back)
          (over_map_more (int_op c.args.op) (worth_of c.args.worth) c.args.cells.now c.loop-k.k (pos 0) (to_z w64 (of_z w64 c.worth_at-x.result)) c.join.result
          c.loop-k.total c.loop-k-test.true (worth ∙ c.worth_at-x.ensures.exact ∙ ap (worth_of c.args.worth) cell) c.loop-k.invariant.so_far c.join.ensures);
      within = subst (λ z. IsWithin (1000000 * (c.loop-k.k + 1)) z) (sym back)
          (within_more c.args.op 1000000 c.loop-k.k (to_z w64 (of_z w64 c.worth_at-x.result)) c.join.result c.loop-k.total c.loop-k.invariant.within
          (subst (λ z. IsWithin 1000000 z) (sym worth) c.worth_at-x.ensures.within) c.join.ensures);
    }
