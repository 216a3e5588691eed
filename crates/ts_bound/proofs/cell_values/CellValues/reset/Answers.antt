use mir.Val.{SFits}
use Rattle.std.proofs.Common.{w64, rules, sym, subst}
use Rattle.std.proofs.lemmas.Int.{to_z-of_z}
use Rattle.ts_bound.specs.CellLists.{AreLent}
use Rattle.ts_bound.proofs.CellLists.{lent_domain, run_is}
use Rattle.ts_bound.proofs.ValueLaws.{domain_run_from}
use Rattle.ts_bound.proofs.cell_values.CellValues.reset.Goals as goal

pub invariant_of-self-2 : goal.invariant_of-self-2
invariant_of-self-2 c =
    let f : SFits w64 c.ends-ends.result.low = search rules in
    let g : SFits w64 c.ends-ends.result.high = search rules in
    subst (λ z. AreLent z c.is_run-gapless.result) (sym c.in_ok-take_all.ensures.taken)
    (lent_domain c.args.domain.now _ c.is_run-gapless.result c.size-count.ensures.domain
    (λ e. domain_run_from c.args.domain.now c.size-count.result c.ends-ends.result.low _ c.ends-ends.result.high _
    (to_z-of_z w64 c.ends-ends.result.low f) (to_z-of_z w64 c.ends-ends.result.high g) c.size-count.ensures.domain c.size-count.ensures.size
    c.ends-ends.ensures.low c.ends-ends.ensures.high c.ends-ends.ensures.all (c.is_run-gapless.ensures e)))

pub take_all-requires-clause-run : goal.take_all-requires-clause-run
take_all-requires-clause-run c = λ e.
    let f : SFits w64 c.ends-ends.result.low = search rules in
    let g : SFits w64 c.ends-ends.result.high = search rules in
    run_is c.args.domain.now c.size-count.result _ c.size-count.ensures.size
    (domain_run_from c.args.domain.now c.size-count.result c.ends-ends.result.low _ c.ends-ends.result.high _
    (to_z-of_z w64 c.ends-ends.result.low f) (to_z-of_z w64 c.ends-ends.result.high g) c.size-count.ensures.domain c.size-count.ensures.size
    c.ends-ends.ensures.low c.ends-ends.ensures.high c.ends-ends.ensures.all (c.is_run-gapless.ensures e))
