use Rattle.std.proofs.Common.{◌≡◌, Option, length, refl, subst, sym}
use Rattle.ts_base.specs.Windows.{LooksInside, looked_at}
use Rattle.ts_base.specs.declared.range.Range.{Range}
use Rattle.ts_occurrence.proofs.Looked.{part_series}
use Rattle.ts_occurrence.proofs.series.looked_at.Goals as goal

pub returns-in-None-clause-cells : goal.returns-in-None-clause-cells
returns-in-None-clause-cells c =
    subst (λ (w : Option Range). c.args.series.now ≡ looked_at w c.args.series.now) (sym c.in-None.is) refl

pub part-requires : goal.part-requires
part-requires c = subst (LooksInside (length c.args.series.now)) c.in-Some.is c.requires

pub returns-in-Some-clause-cells : goal.returns-in-Some-clause-cells
returns-in-Some-clause-cells c =
    subst (λ (w : Option Range). c.part.result.now ≡ looked_at w c.args.series.now) (sym c.in-Some.is) c.part.ensures

pub returns-in-Some-clause-series : goal.returns-in-Some-clause-series
returns-in-Some-clause-series c =
    part_series c.in-Some.window c.args.series.now c.part.result.now (subst (LooksInside (length c.args.series.now)) c.in-Some.is c.requires) c.part.ensures
