use Rattle.std.proofs.Common.{◌≡◌, ◌+◌, length, sym, ap, subst, arith}
use Rattle.ts_regex.specs.Shape.{shape_of}
use Rattle.std.specs.List.{AllByRecursion}
use Rattle.ts_transducer.specs.Inside.{IsInside}
use Rattle.ts_occurrence.proofs.Values.{signature_length, few_ranges, value_is}
use Rattle.ts_occurrence.proofs.term_value.value_with.Goals as goal

pub occurrences-requires-clause-few : goal.occurrences-requires-clause-few
occurrences-requires-clause-few c =
    let n = signature_length c.args.series.now c.requires.series.some in
    let same = ap length c.requires.letters in
    let few = c.requires.series.few in
    omega arith

pub aggregate-requires-clause-few : goal.aggregate-requires-clause-few
aggregate-requires-clause-few c =
    let n = signature_length c.args.series.now c.requires.series.some in
    let same = ap length c.requires.letters in
    let given = ap length c.deref.ensures.value in
    let count = few_ranges (shape_of c.in_ok-pattern.pattern.regex) c.in_ok-pattern.pattern.b c.in_ok-pattern.pattern.a c.args.letters.now
    c.in_ok-ranges.ranges.items c.in_ok-ranges.ensures.listed in
    let few = c.requires.series.few in
    omega arith

pub aggregate-requires-clause-inside : goal.aggregate-requires-clause-inside
aggregate-requires-clause-inside c =
    let n = signature_length c.args.series.now c.requires.series.some in
    let same = ap length c.requires.letters in
    let cells : length c.args.letters.now + 1 ≡ length c.args.series.now = omega arith in
    subst (λ z. AllByRecursion (λ r. IsInside (length c.args.series.now) r) z) (sym c.deref.ensures.value)
    (subst (λ z. AllByRecursion (λ r. IsInside z r) c.in_ok-ranges.ranges.items) cells c.in_ok-ranges.ensures.inside)

pub returns : goal.returns
returns c =
    value_is c.args.t.now.aggregator c.args.t.now.feature c.args.t.now.pattern c.args.series.now c.args.letters.now (shape_of c.in_ok-pattern.pattern.regex)
    c.in_ok-pattern.pattern.b c.in_ok-pattern.pattern.a c.in_ok-ranges.ranges.items c.deref.result.now c.aggregate.result
    c.in_ok-pattern.ensures.shape c.in_ok-pattern.ensures.before c.in_ok-pattern.ensures.after c.requires.letters c.in_ok-ranges.ensures.exact
    c.deref.ensures.value c.aggregate.ensures
