use Rattle.std.proofs.Common.{◌<◌, length, sym, subst}
use Rattle.ts_bound.specs.BoxRows.{AreRows}
use Rattle.ts_bound.specs.Reading.{cells_read}
use Rattle.ts_bound.specs.RowStacks.{Stack, hulls_in, kept_in, seen_by, shown}
use Rattle.ts_bound.proofs.LaidRows.{all_rows_stand, none_kept, one_more_row}
use Rattle.ts_bound.proofs.rows.make_row.Goals as goal

pub returns-then-stands-clause-known : goal.returns-then-stands-clause-known
returns-then-stands-clause-known c =
    let a = c.args.a.now in let cells = cells_read c.args.reading in let old = c.take_spare-spare.new.self in let row = shown c.in_ok-row.row in
    all_rows_stand a cells old c.know_all.new.self (hulls_in old.planned.states row)
    (subst (AreRows a cells) (sym c.take_spare-spare.ensures) c.requires.known) (c.stands.ensures c.if-stands.true) c.in_ok-row.ensures.hulls
    c.know_all.ensures.planned c.know_all.ensures.known c.know_all.ensures.laid c.know_all.ensures.kept

pub returns-clause-known : goal.returns-clause-known
returns-clause-known c =
    let a = c.args.a.now in let cells = cells_read c.args.reading in let old = c.take_spare-spare.new.self in let row = shown c.in_ok-row.row in
    let same = c.take_spare-spare.ensures in
    let known = subst (AreRows a cells) (sym same) c.requires.known in
    let more : length old.known < length cells = subst (λ (s : Stack). length s.known < length cells) (sym same) c.requires.more in
    one_more_row a cells old c.push.new.self (hulls_in old.planned.states row) (kept_in old.planned.states c.in_ok-row.row) known more
    c.in_ok-row.ensures.hulls
    (none_kept (seen_by a old.planned) cells (length old.known) (kept_in old.planned.states c.in_ok-row.row) c.in_ok-row.ensures.none)
    c.in_ok-push.ensures.ok
