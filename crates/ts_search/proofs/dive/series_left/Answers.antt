use Rattle.std.proofs.Common.{sym, ◌∙◌, ap}
use Rattle.ts_filter.proofs.SoundLaws.{series_length}
use Rattle.ts_frontier.specs.Forms.{Alone, form}
use Rattle.ts_search.specs.Dive.{value_of}
use Rattle.ts_search.specs.Views.{search_of}
use Rattle.ts_search.proofs.Certified.{is_series}
use Rattle.ts_search.proofs.CodeFound.{alone_told, left_within, wide_told}
use Rattle.ts_search.proofs.DiveSteps.{left_fails, left_meets, left_wide, met_is}
use Rattle.ts_search.proofs.dive.series_left.Goals as goal

-- several series are left, which doesn't come
pub returns-in_default : goal.returns-in_default
returns-in_default c =
    let b = c.args.cells.now.present in
    let w = wide_told c.in_ok-series.field-0 (form b) c.in_ok-series.ensures c.in_default.not-Alone in
    left_wide (search_of c.args.contest.now.problem).model b w.0 w.1 w.2

pub judge-requires-clause-whole : goal.judge-requires-clause-whole
judge-requires-clause-whole c = c.requires.posed.right.whole

-- the box is that of the one series
pub judge-requires-clause-series : goal.judge-requires-clause-series
judge-requires-clause-series c =
    let s = search_of c.args.contest.now.problem in
    let b = c.args.cells.now.present in
    let alone = alone_told c.in_ok-series.field-0 (form b) c.in-Alone.series c.in_ok-series.ensures c.in-Alone.is in
    is_series s.model c.deref.result.now c.requires.posed.right.whole c.requires.posed.right.box
    (left_within s.model.cells b c.deref.result.now c.requires.part (alone ∙ ap Alone (sym c.deref.ensures.value)))

pub judge-requires-clause-cells : goal.judge-requires-clause-cells
judge-requires-clause-cells c =
    let s = search_of c.args.contest.now.problem in
    let b = c.args.cells.now.present in
    let alone = alone_told c.in_ok-series.field-0 (form b) c.in-Alone.series c.in_ok-series.ensures c.in-Alone.is in
    series_length c.deref.result.now s.model.cells
    (left_within s.model.cells b c.deref.result.now c.requires.part (alone ∙ ap Alone (sym c.deref.ensures.value)))

pub value-requires-clause-series : goal.value-requires-clause-series
value-requires-clause-series c =
    let s = search_of c.args.contest.now.problem in
    let b = c.args.cells.now.present in
    let alone = alone_told c.in_ok-series.field-0 (form b) c.in-Alone.series c.in_ok-series.ensures c.in-Alone.is in
    left_within s.model.cells b c.deref-2.result.now c.requires.part (alone ∙ ap Alone (sym c.deref-2.ensures.value))

-- `meets` answers whether the series meets: the judgement's lists are those of the definition
pub returns-then-not-meets : goal.returns-then-not-meets
returns-then-not-meets c =
    let m = (search_of c.args.contest.now.problem).model in
    let b = c.args.cells.now.present in
    let x = c.in-Alone.series.items in
    left_fails m b x c.meets.result (alone_told c.in_ok-series.field-0 (form b) c.in-Alone.series c.in_ok-series.ensures c.in-Alone.is)
    (met_is m x c.deref.result.now c.in_ok-judge.field-0.inside.items c.in_ok-judge.field-0.holding.items c.meets.result
    c.deref.ensures.value
    c.meets.ensures c.in_ok-judge.ensures.inside c.in_ok-judge.ensures.holding) c.if-not-meets.true

pub returns : goal.returns
returns c =
    let m = (search_of c.args.contest.now.problem).model in
    let b = c.args.cells.now.present in
    let x = c.in-Alone.series.items in
    left_meets m b x c.meets.result c.in_ok-value.value
    (alone_told c.in_ok-series.field-0 (form b) c.in-Alone.series c.in_ok-series.ensures c.in-Alone.is)
    (met_is m x c.deref.result.now c.in_ok-judge.field-0.inside.items c.in_ok-judge.field-0.holding.items c.meets.result
    c.deref.ensures.value
    c.meets.ensures c.in_ok-judge.ensures.inside c.in_ok-judge.ensures.holding) c.if-not-meets.false
    (c.in_ok-value.ensures ∙ ap (value_of m) c.deref-2.ensures.value)
