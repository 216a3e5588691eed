use Rattle.std.proofs.Common.{◌≡◌, ℕ, ap, sym, ◌∙◌}
use Rattle.std.proofs.lemmas.Result.{IfOk-weaker}
use Rattle.ts_certificate.specs.declared.certificate.TreeLine.TheVariants.{Worse}
use Rattle.ts_frontier.specs.Forms.{form}
use Rattle.ts_search.specs.Turns.{found_after}
use Rattle.ts_search.specs.Views.{contest_of, find_of}
use Rattle.ts_search.proofs.tree.found_now.Goals as goal

pub returns-in-Worse : goal.returns-in-Worse
returns-in-Worse c =
    let s = contest_of c.args.contest.now in
    let f = find_of c.args.found in
    let b = c.args.cells.now.present in
    IfOk-weaker c.found_at.result (λ g. (p : ℕ) → find_of g ≡ found_after s f (form b) (Worse p)) (λ g. find_of g ≡ found_after s f (form b) c.args.line)
    (λ g h. h c.in-Worse.p ∙ ap (found_after s f (form b)) (sym c.in-Worse.is)) c.found_at.ensures
