use Rattle.std.proofs.Common.{◌≡◌, sym, ◌∙◌}
use Rattle.std.proofs.lemmas.Int.{to_z-of_z}
use Rattle.std.proofs.lemmas.Result.{IfOk-weaker}
use mir.Syntax.{w64}
use Rattle.ts_domain.specs.Kept.{values_without}
use Rattle.ts_domain.proofs.MarkKept.{left_without}
use Rattle.ts_domain.proofs.domain.Domain.without.Goals as goal

pub returns-else-contains-clause-kept : goal.returns-else-contains-clause-kept
returns-else-contains-clause-kept c =
    IfOk-weaker c.try_clone.result (λ d. d ≡ c.args.self.now) (λ d. d ≡ values_without c.args.gone c.args.self.now)
    (λ d is. is ∙ sym (left_without c.args.gone _ c.args.self.now c.contains.result (to_z-of_z w64 c.args.gone c.ranges.gone) c.contains.ensures
    c.if-contains.false))
    c.try_clone.ensures.same
