use Rattle.std.proofs.Common.{◌≡◌, ◌∙◌}
use Rattle.std.proofs.lemmas.Result.{IfOk-weaker}
use Rattle.ts_domain.specs.Kept.{values_kept}
use Rattle.ts_domain.specs.Values.{values_of}
use Rattle.ts_domain.proofs.MarkKept.{kept_singles, kept_renewed}
use Rattle.ts_domain.proofs.MarkedSets.{marked_domain}
use Rattle.ts_domain.proofs.domain.Domain.renewed.Goals as goal

pub joined-requires-clause-sorted : goal.joined-requires-clause-sorted
joined-requires-clause-sorted c =
    kept_singles c.args.keep c.args.self.now c.deref.result.now
    (marked_domain c.self.inside.ranges.value.items.items c.self.inside.piece c.self.inside.marks _ c.self.view_is c.self.invariant)
    (c.deref.ensures.value ∙ c.in_ok-parts.ensures)

pub returns-clause-kept : goal.returns-clause-kept
returns-clause-kept c =
    IfOk-weaker c.whole.result (λ d. d ≡ values_of c.in_ok-joined.field-0.items) (λ d. d ≡ values_kept c.args.keep c.args.self.now)
    (λ d is. is ∙ kept_renewed c.args.keep c.args.self.now c.deref.result.now c.in_ok-joined.field-0.items
    (marked_domain c.self.inside.ranges.value.items.items c.self.inside.piece c.self.inside.marks _ c.self.view_is c.self.invariant)
    (c.deref.ensures.value ∙ c.in_ok-parts.ensures) c.in_ok-joined.ensures.union c.in_ok-joined.ensures.apart)
    c.whole.ensures.same
