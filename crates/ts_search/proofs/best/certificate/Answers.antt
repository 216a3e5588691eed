use Rattle.std.proofs.Common.{ap, ◌∙◌}
use Rattle.ts_search.specs.Turns.{budget_claim, series_of}
use Rattle.ts_search.specs.Views.{contest_of, find_of}
use Rattle.ts_search.proofs.Certified.{budget_certificate, done_certificate, or_warm}
use Rattle.ts_search.proofs.best.certificate.Goals as goal

pub returns-then-waiting-eq0 : goal.returns-then-waiting-eq0
returns-then-waiting-eq0 c =
    done_certificate (contest_of c.args.contest) c.args.tree.lines.items c.args.tree.frontier.boxes (find_of c.args.tree.found) c.waiting-waiting.result
    c.waiting-waiting.ensures c.done_claim-claim.result _ c.push_open.new.lines.items c.if-waiting-eq0.true c.done_claim-claim.ensures c.in_ok-series_of.ensures
    c.in_ok-push_open.ensures

pub returns : goal.returns
returns c =
    let f = c.args.tree.found in
    let w = c.args.contest.warm in
    let is = ap find_of c.or-found.ensures ∙ or_warm f w in
    budget_certificate (contest_of c.args.contest) c.args.tree.lines.items c.args.tree.frontier.boxes (find_of f) c.waiting-waiting.result
    c.waiting-waiting.ensures c.budget_claim-claim.result _ c.push_open.new.lines.items c.if-waiting-eq0.false
    (c.budget_claim-claim.ensures ∙ ap budget_claim is) (c.in_ok-series_of-2.ensures ∙ ap series_of is) c.in_ok-push_open.ensures
