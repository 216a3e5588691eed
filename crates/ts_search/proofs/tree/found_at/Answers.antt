use Rattle.std.proofs.Common.{sym, ap, ◌∙◌}
use Rattle.ts_frontier.specs.Forms.{Alone, form}
use Rattle.ts_search.specs.Dive.{value_of}
use Rattle.ts_search.specs.Views.{contest_of, find_of, search_of}
use Rattle.ts_search.proofs.CodeFound.{alone_told, found_new, found_old, found_wide, left_within, wide_told}
use Rattle.ts_search.proofs.tree.found_at.Goals as goal

pub returns-in_default : goal.returns-in_default
returns-in_default c =
    let b = c.args.cells.now.present in
    let w = wide_told c.in_ok-series.field-0 (form b) c.in_ok-series.ensures c.in_default.not-Alone in
    found_wide (contest_of c.args.contest.now) (find_of c.args.found) b w.0 w.1 w.2

pub value-requires-clause-series : goal.value-requires-clause-series
value-requires-clause-series c =
    let b = c.args.cells.now.present in
    let alone = alone_told c.in_ok-series.field-0 (form b) c.in-Alone.series c.in_ok-series.ensures c.in-Alone.is in
    left_within (search_of c.args.contest.now.problem).model.cells b c.deref.result.now c.requires.part (alone ∙ ap Alone (sym c.deref.ensures.value))

pub returns-then-counts : goal.returns-then-counts
returns-then-counts c = λ p.
    let b = c.args.cells.now.present in
    let alone = alone_told c.in_ok-series.field-0 (form b) c.in-Alone.series c.in_ok-series.ensures c.in-Alone.is in
    found_new (contest_of c.args.contest.now) (find_of c.args.found) b c.in-Alone.series.items c.in_ok-value.value c.counts.result
    alone (c.in_ok-value.ensures ∙ ap (value_of (search_of c.args.contest.now.problem).model) c.deref.ensures.value) c.counts.ensures
    c.if-counts.true p

pub returns : goal.returns
returns c = λ p.
    let b = c.args.cells.now.present in
    let alone = alone_told c.in_ok-series.field-0 (form b) c.in-Alone.series c.in_ok-series.ensures c.in-Alone.is in
    found_old (contest_of c.args.contest.now) (find_of c.args.found) b c.in-Alone.series.items c.in_ok-value.value c.counts.result
    alone (c.in_ok-value.ensures ∙ ap (value_of (search_of c.args.contest.now.problem).model) c.deref.ensures.value) c.counts.ensures
    c.if-counts.false p
