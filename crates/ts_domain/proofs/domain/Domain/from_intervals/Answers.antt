use Rattle.std.proofs.Common.{◌≡◌, ℤ, ◌↔◌, subst, sym}
use Rattle.std.specs.Prelude.{Contains}
use Rattle.std.proofs.lemmas.Result.{IfOk-weaker}
use Rattle.ts_domain.specs.Union.{InSome}
use Rattle.ts_domain.specs.Values.{values_of}
use Rattle.ts_domain.proofs.domain.Domain.from_intervals.Goals as goal

pub returns-clause-union : goal.returns-clause-union
returns-clause-union c =
    IfOk-weaker c.whole.result (λ d. d ≡ values_of c.in_ok-union.union.items) (λ d. (v : ℤ) → Contains d v ↔ InSome c.args.ranges.items v)
    (λ d is v. subst (λ l. Contains l v ↔ InSome c.args.ranges.items v) (sym is) (c.in_ok-union.ensures.union v))
    c.whole.ensures.same
