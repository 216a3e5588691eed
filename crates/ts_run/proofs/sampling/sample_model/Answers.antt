use Rattle.std.proofs.Common.{◌≡◌, ◌∙◌, ap, length, refl, rules, subst, sym, vec_len}
use Rattle.ts_model.specs.declared.model.Need.TheVariants.{Best as NeedsBest}
use Rattle.ts_model.specs.Promise.{IsWhole, KeepsLimits}
use Rattle.ts_run.proofs.SampleModelLaws.{cells_count, model_is, sample_limits, sample_whole, windows_made}
use Rattle.ts_run.proofs.sampling.sample_model.Goals as goal

pub returns-clause-counted : goal.returns-clause-counted
returns-clause-counted c =
    let count : vec_len c.in_ok-cells.cells ≡ length c.in_ok-cells.cells.items = search rules in
    sym (count ∙ ap length c.in_ok-cells.ensures ∙ cells_count 1 c.args.n)

pub returns-clause-whole : goal.returns-clause-whole
returns-clause-whole c =
    subst IsWhole (sym (model_is c.args.n _ _ c.in_ok-cells.ensures
    (windows_made c.in_ok-terms.terms.entries c.in_ok-windows.windows.items c.in_ok-windows.ensures c.in_ok-terms.ensures) c.new-requirements.ensures.items
    c.in_ok-push.ensures.items refl))
    (sample_whole c.args.n c.requires)

pub returns-clause-limits : goal.returns-clause-limits
returns-clause-limits c =
    subst (KeepsLimits NeedsBest)
    (sym (model_is c.args.n _ _ c.in_ok-cells.ensures
    (windows_made c.in_ok-terms.terms.entries c.in_ok-windows.windows.items c.in_ok-windows.ensures c.in_ok-terms.ensures) c.new-requirements.ensures.items
    c.in_ok-push.ensures.items refl))
    (sample_limits c.args.n c.requires)
