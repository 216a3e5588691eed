-- Few lines of a tree are `open`: those of the boxes that wait at the end.
use Rattle.std.proofs.Common.{ap, ◌∙◌, arith}
use Rattle.std.specs.Prelude.{length}
use Rattle.ts_certificate.specs.Certificate.{Cert, open_count}
use Rattle.ts_filter.proofs.TreeLaws.{few}
use Rattle.ts_search.specs.Laws.{SolvedOpensFew, ListedOpensFew}
use Rattle.ts_search.specs.LineOf.{search_for, contest_for}
use Rattle.ts_search.specs.Turns.{State, ListState, start, turns, solve_certificate, list_start, list_turns, list_certificate}
use Rattle.ts_search.proofs.Closing.{search_solves, search_lists, one_solved, one_listed}
use Rattle.ts_search.proofs.Good.{Good, good_start, good_turns, head_now}
use Rattle.ts_search.proofs.ListGood.{GoodList, head_so_far, list_good_start, list_good_turns}
use Rattle.ts_search.proofs.Right.{best_known, known}
use Rattle.ts_search.proofs.Walk.{opens_open}

pub solved_opens_few : SolvedOpensFew
solved_opens_few m s goal n a right some h =
    let c = contest_for m s goal in
    let e = best_known m s goal right some in
    let now : State = turns c n (start c) in
    let good : Good c now = good_turns c e n (start c) (good_start c e.known) in
    let same = one_solved m s goal n a (solve_certificate c now) right some h (search_solves m s goal n right some) in
    let opened = ap (λ (z : Cert). open_count z.tree) same ∙ opens_open now.lines now.pending good.all_checked in
    let waiting = few m s (head_now c now.found) now.lines now.pending 0 right.box good.stepped in
    let cells = right.whole.some in omega (arith, opened, waiting, cells)

pub listed_opens_few : ListedOpensFew
listed_opens_few m s count n a right h =
    let c = search_for m s in
    let k = known c right in
    let now : ListState = list_turns c count n (list_start c) in
    let good : GoodList c count now = list_good_turns c k count n (list_start c) (list_good_start c count k) in
    let same = one_listed m s count n a (list_certificate count now) right h (search_lists m s count n right) in
    let opened = ap (λ (z : Cert). open_count z.tree) same ∙ opens_open now.lines now.pending good.all_checked in
    let waiting = few m s (head_so_far count now.listed) now.lines now.pending (length now.listed) right.box good.stepped in
    let cells = right.whole.some in omega (arith, opened, waiting, cells)
