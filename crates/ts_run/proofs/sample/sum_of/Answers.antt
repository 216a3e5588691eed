use mir.Val.{SFits}
use Rattle.std.proofs.Common.{◌≤◌, ◌+◌, ◌*◌, ◌∙◌, ◌+ℤ◌, ℤ, pos, FitsSigned, w64, to_z, of_z, drop, ap, arith, rules, subst, sym}
use Rattle.std.proofs.lemmas.Int.{to_z-of_z}
use Rattle.std.specs.Prelude.{slice_index_or, unsigned_abs}
use Rattle.ts_run.specs.Sample.{sum_of}
use Rattle.ts_run.proofs.SampleSums.{cell_at, size_more, sum_fits, sum_more}
use Rattle.ts_run.proofs.sample.sum_of.Goals as goal

pub overflow_add-sum : goal.overflow_add-sum
overflow_add-sum c =
    let s = to_z w64 c.loop-k.sum-bits in
    let v = slice_index_or c.args.series.now c.loop-k.k (pos 0) in
    let fits : SFits w64 v = search rules in
    let less = c.loop-k-test.true in
    let few = c.requires.few in
    subst (λ (z : ℤ). FitsSigned w64 (s +ℤ z)) (sym (to_z-of_z w64 v fits))
    (sum_fits c.loop-k.k s v (omega (arith, less, few)) c.loop-k.invariant.size (cell_at c.args.series.now c.loop-k.k (pos 0) less c.requires.cells))

pub loop-k-preserved : goal.loop-k-preserved
loop-k-preserved c =
    let s = to_z w64 c.loop-k.sum-bits in
    let k = c.loop-k.k in
    let v = slice_index_or c.args.series.now k (pos 0) in
    let fits : SFits w64 v = search rules in
    let less = c.loop-k-test.true in
    let few = c.requires.few in
    let cell = cell_at c.args.series.now k (pos 0) less c.requires.cells in
    let both : SFits w64 (s +ℤ v) = sum_fits k s v (omega (arith, less, few)) c.loop-k.invariant.size cell in
    let same = to_z-of_z w64 v fits in
    let whole = ap (λ (z : ℤ). to_z w64 (of_z w64 (s +ℤ z))) same ∙ to_z-of_z w64 (s +ℤ v) both in
    record {
      sum = ap (λ (z : ℤ). z +ℤ sum_of (drop (k + 1) c.args.series.now)) whole ∙ sum_more c.args.series.now k (pos 0) s less c.loop-k.invariant.sum;
      size = subst (λ (z : ℤ). unsigned_abs z ≤ (k + 1) * 1000000) (sym whole) (size_more k s v c.loop-k.invariant.size cell);
    }
