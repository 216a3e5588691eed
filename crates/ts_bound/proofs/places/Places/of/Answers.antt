use mir.Val.{SFits}
use Rattle.std.proofs.Common.{w64, rules}
use Rattle.std.proofs.lemmas.Int.{to_z-of_z}
use Rattle.ts_bound.proofs.ValueLaws.{domain_cell, domain_rises, domain_run_from, domain_small}
use Rattle.ts_bound.proofs.places.Places.of.Goals as goal

pub invariant_of-result-clause-counted : goal.invariant_of-result-clause-counted
invariant_of-result-clause-counted c = c.size-count.ensures.size

pub invariant_of-result-clause-small : goal.invariant_of-result-clause-small
invariant_of-result-clause-small c = domain_small c.args.domain.now c.size-count.ensures.domain

pub invariant_of-result-clause-rises : goal.invariant_of-result-clause-rises
invariant_of-result-clause-rises c = domain_rises c.args.domain.now c.size-count.ensures.domain

pub invariant_of-result-clause-cell : goal.invariant_of-result-clause-cell
invariant_of-result-clause-cell c =
    let f : SFits w64 c.ends-ends.result.low = search rules in
    domain_cell c.args.domain.now c.ends-ends.result.low _ (to_z-of_z w64 c.ends-ends.result.low f) c.size-count.ensures.domain c.ends-ends.ensures.low

pub invariant_of-result-clause-run : goal.invariant_of-result-clause-run
invariant_of-result-clause-run c e =
    let f : SFits w64 c.ends-ends.result.low = search rules in
    let g : SFits w64 c.ends-ends.result.high = search rules in
    domain_run_from c.args.domain.now c.size-count.result c.ends-ends.result.low _ c.ends-ends.result.high _
    (to_z-of_z w64 c.ends-ends.result.low f) (to_z-of_z w64 c.ends-ends.result.high g) c.size-count.ensures.domain c.size-count.ensures.size
    c.ends-ends.ensures.low c.ends-ends.ensures.high c.ends-ends.ensures.all (c.is_run-is_run.ensures e)
