use Rattle.std.proofs.Common.{refl, ap, ◌∙◌, map, replicate}
use Rattle.ts_model.specs.Cells.{in_force}
use Rattle.ts_model.proofs.CellLaws.{none_own, new_kept}
use Rattle.ts_model.proofs.cells.Cells.new.Goals as goal

pub returns-clause-domains : goal.returns-clause-domains
returns-clause-domains c =
    ap (map (in_force 0 c.in_ok-digits.field-0)) c.in_ok-no_own.ensures
    ∙ none_own 0 c.args.count c.in_ok-digits.field-0
    ∙ ap (replicate c.args.count) c.in_ok-digits.ensures

pub returns-clause-kept : goal.returns-clause-kept
returns-clause-kept c =
    new_kept c.args.count c.in_ok-no_own.field-0.items c.in_ok-digits.field-0 _ c.requires c.in_ok-no_own.ensures c.in_ok-digits.ensures refl refl refl refl
