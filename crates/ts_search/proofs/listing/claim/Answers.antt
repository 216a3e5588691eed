use Rattle.ts_search.proofs.Certified.{claim_all, claim_budget, claim_full}
use Rattle.ts_search.proofs.listing.claim.Goals as goal
use Rattle.std.proofs.Common.{arith, sym, ◌∙◌}

pub returns-then-listed-count : goal.returns-then-listed-count
returns-then-listed-count c = λ w e. claim_full c.args.count c.args.listed w c.if-listed-count.true

pub returns-then-waiting-eq0 : goal.returns-then-waiting-eq0
returns-then-waiting-eq0 c = λ w e. let few = c.if-listed-count.false in claim_all c.args.count c.args.listed w (omega (arith, few)) (e ∙ c.if-waiting-eq0.true)

pub returns-else-waiting-eq0 : goal.returns-else-waiting-eq0
returns-else-waiting-eq0 c = λ w e.
    let few = c.if-listed-count.false in
    claim_budget c.args.count c.args.listed w (omega (arith, few)) (λ none. c.if-waiting-eq0.false (sym e ∙ none))
