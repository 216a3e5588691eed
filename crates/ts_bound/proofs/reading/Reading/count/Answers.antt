use Rattle.std.proofs.Common.{◌∙◌, ap, sym}
use Rattle.ts_base.specs.Windows.{looked_at}
use Rattle.ts_bound.specs.Looks.{count_looked}
use Rattle.ts_bound.proofs.Looking.{looked_length}
use Rattle.ts_bound.proofs.KnownRows.{order_long}
use Rattle.ts_bound.proofs.reading.Reading.count.Goals as goal

pub returns : goal.returns
returns c =
    let r = c.args.self in let b = r.cells.now.present in
    c.looked_count.ensures ∙ ap (count_looked r.window) c.cells.ensures.count ∙ sym (looked_length r.window b r.looks)
    ∙ sym (order_long r.direction (looked_at r.window b))
