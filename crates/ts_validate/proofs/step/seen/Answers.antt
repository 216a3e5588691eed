use Rattle.std.proofs.Common.{◌∙◌, ap, map, arith, take_all}
use Rattle.ts_validate.specs.Numbers.{kept_at}
use Rattle.ts_validate.proofs.step.seen.Goals as goal

pub returns : goal.returns
returns c =
    c.loop-entry.invariant
    ∙ ap (λ z. map (λ e. kept_at c.args.table.now e) z) (take_all c.loop-entry.entry-index c.args.kept.now (omega arith))
