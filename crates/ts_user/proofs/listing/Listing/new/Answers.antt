use Rattle.std.proofs.Common.{sym, subst}
use Rattle.ts_regex.specs.Shape.{shape_of}
use Rattle.ts_user.specs.BuildAnswers.{unplanned_of}
use Rattle.ts_user.specs.Listings.{IsReady}
use Rattle.ts_user.proofs.Listings.{begun_listed}
use Rattle.ts_user.proofs.Taking.{ready_first}
use Rattle.ts_user.proofs.listing.Listing.new.Goals as goal

pub returns-clause-listed : goal.returns-clause-listed
returns-clause-listed c =
    begun_listed (unplanned_of c.args.rows.now c.args.p.now) (shape_of c.args.p.now.regex) _ _ _ c.in_ok-begin.ensures.book c.in_ok-book.ensures.book
    c.in_ok-book.ensures.whole c.in_ok-begin.ensures.begun

pub returns-clause-ready : goal.returns-clause-ready
returns-clause-ready c =
    let s = unplanned_of c.args.rows.now c.args.p.now in
    subst (λ z. IsReady s z 0) (sym c.in_ok-begin.ensures.begun.signatures) (ready_first s)
