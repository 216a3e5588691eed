use Rattle.std.proofs.Common.{sym, subst}
use Rattle.std.proofs.lemmas.Result.{IfOk-weaker}
use Rattle.ts_domain.specs.Union.{InSome}
use Rattle.ts_domain.proofs.merge.union_of.Goals as goal

pub returns-clause-union : goal.returns-clause-union
returns-clause-union c =
    IfOk-weaker c.joined.result _ _
    (λ union has v. let same = c.sorted_ranges-sorted.ensures.same v in let all = has v in (
      λ h. same.0 (subst (λ l. InSome l v) c.deref.ensures.value (all.0 h)),
      λ h. all.1 (subst (λ l. InSome l v) (sym c.deref.ensures.value) (same.1 h)),
    ))
    c.joined.ensures.union
