use Rattle.std.proofs.Common.{◌≡◌, arith, Some}
use Rattle.std.proofs.lemmas.Result.{IfOk-weaker}
use Rattle.ts_model.specs.Meets.{value_at}
use Rattle.ts_filter.proofs.SoundLaws.{series_length}
use Rattle.ts_search.specs.Dive.{value_of}
use Rattle.ts_search.specs.Views.{search_of}
use Rattle.ts_search.proofs.Certified.{is_series, value_is}
use Rattle.ts_search.proofs.Posed.{objective_there, term_count}
use Rattle.ts_search.proofs.contest.Contest.value.Goals as goal

pub value_of-requires-clause-whole : goal.value_of-requires-clause-whole
value_of-requires-clause-whole c = c.requires.posed.right.whole

pub value_of-requires-clause-cells : goal.value_of-requires-clause-cells
value_of-requires-clause-cells c = series_length c.args.series.now (search_of c.args.self.now.problem).model.cells c.requires.series

pub value_of-requires-clause-term : goal.value_of-requires-clause-term
value_of-requires-clause-term c =
    let q = c.args.self.now in
    let there = objective_there q.problem c.requires.posed q.objective c.requires.objective in
    let same = term_count q.problem c.requires.posed in omega (arith, there, same)

pub value_of-requires-clause-series : goal.value_of-requires-clause-series
value_of-requires-clause-series c =
    let right = c.requires.posed.right in is_series (search_of c.args.self.now.problem).model c.args.series.now right.whole right.box c.requires.series

pub returns : goal.returns
returns c =
    let q = c.args.self.now in
    let m = (search_of q.problem).model in
    IfOk-weaker c.value_of.result (λ v. value_at m c.args.series.now q.objective ≡ Some v) (λ v. v ≡ value_of m c.args.series.now)
    (λ v h. value_is m c.args.series.now q.objective v c.requires.objective h) c.value_of.ensures
