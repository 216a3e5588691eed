use Rattle.std.proofs.Common.{map}
use Rattle.ts_frontier.specs.Forms.{form}
use Rattle.ts_search.proofs.CodeFound.{alone_told, listed_one, listed_wide, wide_told}
use Rattle.ts_search.proofs.listing.list_only.Goals as goal

pub returns-in_default : goal.returns-in_default
returns-in_default c =
    let b = c.args.cells.now.present in
    let w = wide_told c.in_ok-series.field-0 (form b) c.in_ok-series.ensures c.in_default.not-Alone in
    listed_wide b (map (λ x. x.items) c.args.listed.now.items) w.0 w.1 w.2

pub returns : goal.returns
returns c =
    let b = c.args.cells.now.present in
    listed_one b c.args.listed.now.items c.push.new.self.items c.in-Alone.series
    (alone_told c.in_ok-series.field-0 (form b) c.in-Alone.series c.in_ok-series.ensures c.in-Alone.is) c.in_ok-push.ensures.items
