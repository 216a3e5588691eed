use Rattle.std.proofs.Common.{sym, subst}
use Rattle.std.specs.Prelude.{IfSome}
use Rattle.ts_base.specs.declared.goal.Goal.TheVariants.{Maximise, Minimise}
use Rattle.ts_meet.specs.Asked.{AreEnough}
use Rattle.ts_filter.specs.Excluded.{Cuts}
use Rattle.ts_filter.proofs.EnoughEnds.{greatest_counts, least_counts}
use Rattle.ts_filter.proofs.enough.enough_to_count.Goals as goal

pub returns-in-Maximise-Better : goal.returns-in-Maximise-Better
returns-in-Maximise-Better c =
    let o = c.enough_to_compare.result in
    subst (λ g. IfSome o (AreEnough (Cuts g c.args.bar))) (sym c.in-Maximise-Better.is-0)
    (subst (λ b. IfSome o (AreEnough (Cuts Maximise b))) (sym c.in-Maximise-Better.is-1) c.enough_to_compare.ensures)

pub returns-in-Maximise-AsGood : goal.returns-in-Maximise-AsGood
returns-in-Maximise-AsGood c =
    let o = c.enough_to_compare-in-Maximise-AsGood.result in
    subst (λ g. IfSome o (AreEnough (Cuts g c.args.bar))) (sym c.in-Maximise-AsGood.is-0)
    (subst (λ b. IfSome o (AreEnough (Cuts Maximise b))) (sym c.in-Maximise-AsGood.is-1)
    (greatest_counts c.in-Maximise-AsGood.w o c.enough_to_compare-in-Maximise-AsGood.ensures))

pub returns-in-Minimise-Better : goal.returns-in-Minimise-Better
returns-in-Minimise-Better c =
    let o = c.enough_to_compare-in-Minimise-Better.result in
    subst (λ g. IfSome o (AreEnough (Cuts g c.args.bar))) (sym c.in-Minimise-Better.is-0)
    (subst (λ b. IfSome o (AreEnough (Cuts Minimise b))) (sym c.in-Minimise-Better.is-1) c.enough_to_compare-in-Minimise-Better.ensures)

pub returns-in-Minimise-AsGood : goal.returns-in-Minimise-AsGood
returns-in-Minimise-AsGood c =
    let o = c.enough_to_compare-in-Minimise-AsGood.result in
    subst (λ g. IfSome o (AreEnough (Cuts g c.args.bar))) (sym c.in-Minimise-AsGood.is-0)
    (subst (λ b. IfSome o (AreEnough (Cuts Minimise b))) (sym c.in-Minimise-AsGood.is-1)
    (least_counts c.in-Minimise-AsGood.w o c.enough_to_compare-in-Minimise-AsGood.ensures))
