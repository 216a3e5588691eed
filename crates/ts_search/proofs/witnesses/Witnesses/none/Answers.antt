use Rattle.std.proofs.Common.{◌≤◌, length, sym, ap, subst, arith}
use Rattle.ts_search.proofs.Witnessed.{all_made, none_made, unmarked_sized}
use Rattle.ts_search.specs.LineOf.{requirements}
use Rattle.ts_search.specs.Views.{search_of}
use Rattle.ts_search.proofs.witnesses.Witnesses.none.Goals as goal

-- without witnesses nothing has to be shown of any
pub returns : goal.returns
returns c =
    let q = c.args.problem.now in
    let few = subst (λ z. z ≤ requirements (search_of q)) (sym (ap length c.new-each.ensures.items)) (omega arith) in
    all_made q _ few (none_made q _ c.new-each.ensures.items) (unmarked_sized q c.in_ok-kept.kept c.in_ok-kept.ensures) c.in_ok-ends.ensures
