use Rattle.std.proofs.Common.{sym, ◌∙◌, ap, true, false}
use Rattle.ts_occurrence.specs.Residuals.{shapes_met}
use Rattle.ts_occurrence.specs.Live.{entries_of}
use Rattle.ts_occurrence.proofs.Survivors.{kept_by_number}
use Rattle.ts_occurrence.proofs.live.keep.Goals as goal

pub returns-in_ok-push-clause-exact : goal.returns-in_ok-push-clause-exact
returns-in_ok-push-clause-exact c =
    ap (λ z. entries_of (shapes_met c.args.residuals.now.met.items) z) c.in_ok-push.ensures.items
    ∙ sym (kept_by_number c.args.residuals.now.met.items c.requires.right c.args.kept.now.items c.requires.known c.args.start c.args.rest c.requires.there
    c.deref.result.now c.deref.ensures.value true (sym c.if-is_new.true ∙ c.is_new.ensures))

pub returns-else-is_new-clause-exact : goal.returns-else-is_new-clause-exact
returns-else-is_new-clause-exact c =
    sym (kept_by_number c.args.residuals.now.met.items c.requires.right c.args.kept.now.items c.requires.known c.args.start c.args.rest c.requires.there
    c.deref.result.now c.deref.ensures.value false (sym c.if-is_new.false ∙ c.is_new.ensures))
