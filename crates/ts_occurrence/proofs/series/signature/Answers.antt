use Rattle.std.proofs.Common.{◌-◌, pos, get_or, arith, rules, to_z, of_z, w64}
use Rattle.std.proofs.lemmas.Int.{to_z-of_z}
use mir.Val.{SFits}
use Rattle.ts_occurrence.proofs.Pairs.{signature_step}
use Rattle.ts_occurrence.proofs.series.signature.Goals as goal

pub loop-k-preserved : goal.loop-k-preserved
loop-k-preserved c =
    let first_fits : SFits w64 (get_or c.args.series.now (c.loop-k.k - 1) (pos 0)) = search rules in
    let second_fits : SFits w64 (get_or c.args.series.now c.loop-k.k (pos 0)) = search rules in
    signature_step c.args.series.now c.loop-k.k c.loop-k.letters.items c.push.new.self.items c.letter_of.result
    (to_z w64 (of_z w64 (get_or c.args.series.now (c.loop-k.k - 1) (pos 0)))) (to_z w64 (of_z w64 (get_or c.args.series.now c.loop-k.k (pos 0))))
    (omega arith) c.loop-k-test.true
    (to_z-of_z w64 (get_or c.args.series.now (c.loop-k.k - 1) (pos 0)) first_fits) (to_z-of_z w64 (get_or c.args.series.now c.loop-k.k (pos 0)) second_fits)
    c.letter_of.ensures c.loop-k.invariant c.in_ok-push.ensures.items
