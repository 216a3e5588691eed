use Rattle.std.proofs.Common.{rules, ◌-◌, ◌≤ℤ◌, ◌<ℤ◌, ◌∙◌, refl, sym, subst, true, arith, w64, to_z, of_z}
use Rattle.std.proofs.lemmas.Int.{ints, to_z-of_z}
use Rattle.ts_domain.specs.Values.{WithinLimits}
use Rattle.ts_domain.proofs.Sets.{true_lt}
use Rattle.ts_glue.specs.Machines.{forward_of}
use Rattle.ts_witness.specs.KnownValues.{MeetsWith}
use Rattle.ts_witness.specs.Witnesses.{series_of}
use Rattle.ts_witness.proofs.KnownValues.{liked, next_within, none_tried, one_tried, tried_all, tried_to}
use Rattle.ts_witness.proofs.spared.meets_up_to.Goals as goal

pub loop-v-init : goal.loop-v-init
loop-v-init c = record {
  witness = c.requires.witness;
  series = refl;
  like = tt;
  tried = none_tried (forward_of c.args.m.now) c.args.r.now (series_of c.args.witness.now) (c.args.k - 1) c.args.domain.now (to_z w64 (of_z w64 c.args.low))
      c.place_of.result c.into_iter-v-iterator.result c.requires.domain c.place_of.ensures
      (c.into_iter-v-iterator.ensures.into_iter_gives ∙ c.values_from-v-items.ensures);
}

pub returns-then-v-high-clause-met : goal.returns-then-v-high-clause-met
returns-then-v-high-clause-met c =
    let v = c.in-Some.v in
    let over = true_lt (to_z w64 (of_z w64 c.args.high)) (to_z w64 (of_z w64 v)) c.if-v-high.true in
    let above : c.args.high <ℤ v =
    subst (λ z. z <ℤ v) (to_z-of_z w64 c.args.high c.ranges.high)
    (subst (λ z. to_z w64 (of_z w64 c.args.high) <ℤ z) (to_z-of_z w64 v (search rules)) over) in
    λ w has from to. tried_to (forward_of c.args.m.now) c.args.r.now (series_of c.args.witness.now) (c.args.k - 1) c.args.domain.now
    (to_z w64 (of_z w64 c.args.low)) c.loop-v.v-iterator v c.next.new.self c.in-Some.ensures.steps c.loop-v.invariant.tried c.args.high above w has
    (subst (λ z. z ≤ℤ w) (sym (to_z-of_z w64 c.args.low c.ranges.low)) from)
    (subst (λ z. w ≤ℤ z) (to_z-of_z w64 c.args.high c.ranges.high) to)

pub meets_with-requires-clause-value : goal.meets_with-requires-clause-value
meets_with-requires-clause-value c =
    let v = c.in-Some.v in
    subst WithinLimits (sym (to_z-of_z w64 v (search rules)))
    (next_within (forward_of c.args.m.now) c.args.r.now (series_of c.args.witness.now) (c.args.k - 1) c.args.domain.now
    (to_z w64 (of_z w64 c.args.low)) c.loop-v.v-iterator v c.next.new.self c.in-Some.ensures.steps c.loop-v.invariant.tried)

pub loop-v-preserved : goal.loop-v-preserved
loop-v-preserved c =
    let b = forward_of c.args.m.now in
    let r = c.args.r.now in
    let y = series_of c.args.witness.now in
    let i = c.args.k - 1 in
    let v = c.in-Some.v in
    let told = subst (λ z. MeetsWith b r z i (to_z w64 (of_z w64 v))) c.loop-v.invariant.series (c.meets_with.ensures.told c.if-not-meets_with.false) in
    record {
      witness = c.meets_with.ensures.witness;
      series = c.meets_with.ensures.series ∙ c.loop-v.invariant.series;
      like = liked b r y i c.some_if-like.result c.args.letters (to_z w64 (of_z w64 v)) c.some_if-like.ensures c.requires.letters told;
      tried = one_tried b r y i c.args.domain.now (to_z w64 (of_z w64 c.args.low)) c.loop-v.v-iterator v c.next.new.self c.in-Some.ensures.steps
          c.loop-v.invariant.tried (subst (MeetsWith b r y i) (to_z-of_z w64 v (search rules)) told);
    }

pub returns-clause-met : goal.returns-clause-met
returns-clause-met c =
    λ v has from to. tried_all (forward_of c.args.m.now) c.args.r.now (series_of c.args.witness.now) (c.args.k - 1) c.args.domain.now
    (to_z w64 (of_z w64 c.args.low)) c.loop-v.v-iterator c.in-None.ensures.steps.0 c.loop-v.invariant.tried v has
    (subst (λ z. z ≤ℤ v) (sym (to_z-of_z w64 c.args.low c.ranges.low)) from)

-- the values below the one that isn't tried, or with which the series doesn't meet the requirement

pub one_below-below-requires : goal.one_below-below-requires
one_below-below-requires c =
    let v = c.in-Some.v in
    subst WithinLimits (sym (to_z-of_z w64 v (search rules)))
    (next_within (forward_of c.args.m.now) c.args.r.now (series_of c.args.witness.now) (c.args.k - 1) c.args.domain.now
    (to_z w64 (of_z w64 c.args.low)) c.loop-v.v-iterator v c.next.new.self c.in-Some.ensures.steps c.loop-v.invariant.tried)

pub returns-then-tried-ge-MOST_TRIED-clause-most : goal.returns-then-tried-ge-MOST_TRIED-clause-most
returns-then-tried-ge-MOST_TRIED-clause-most c =
    let under = c.one_below-below.ensures in let within = c.if-v-high.false in
    let high = to_z-of_z w64 c.args.high c.ranges.high in
    let below = to_z-of_z w64 c.one_below-below.result (search rules) in omega (arith, ints, under, within, high, below)

pub returns-then-tried-ge-MOST_TRIED-clause-met : goal.returns-then-tried-ge-MOST_TRIED-clause-met
returns-then-tried-ge-MOST_TRIED-clause-met c =
    let v = c.in-Some.v in
    let under : c.one_below-below.result <ℤ v =
    subst (λ z. c.one_below-below.result <ℤ z) (to_z-of_z w64 v (search rules)) c.one_below-below.ensures in
    λ w has from to. tried_to (forward_of c.args.m.now) c.args.r.now (series_of c.args.witness.now) (c.args.k - 1) c.args.domain.now
    (to_z w64 (of_z w64 c.args.low)) c.loop-v.v-iterator v c.next.new.self c.in-Some.ensures.steps c.loop-v.invariant.tried
    c.one_below-below.result under w has (subst (λ z. z ≤ℤ w) (sym (to_z-of_z w64 c.args.low c.ranges.low)) from)
    (subst (λ z. w ≤ℤ z) (to_z-of_z w64 c.one_below-below.result (search rules)) to)

pub returns-then-not-meets_with-clause-most : goal.returns-then-not-meets_with-clause-most
returns-then-not-meets_with-clause-most c =
    let under = c.one_below-below.ensures in let within = c.if-v-high.false in
    let high = to_z-of_z w64 c.args.high c.ranges.high in
    let below = to_z-of_z w64 c.one_below-below.result (search rules) in omega (arith, ints, under, within, high, below)

pub returns-then-not-meets_with-clause-met : goal.returns-then-not-meets_with-clause-met
returns-then-not-meets_with-clause-met c =
    let v = c.in-Some.v in
    let under : c.one_below-below.result <ℤ v =
    subst (λ z. c.one_below-below.result <ℤ z) (to_z-of_z w64 v (search rules)) c.one_below-below.ensures in
    λ w has from to. tried_to (forward_of c.args.m.now) c.args.r.now (series_of c.args.witness.now) (c.args.k - 1) c.args.domain.now
    (to_z w64 (of_z w64 c.args.low)) c.loop-v.v-iterator v c.next.new.self c.in-Some.ensures.steps c.loop-v.invariant.tried
    c.one_below-below.result under w has (subst (λ z. z ≤ℤ w) (sym (to_z-of_z w64 c.args.low c.ranges.low)) from)
    (subst (λ z. w ≤ℤ z) (to_z-of_z w64 c.one_below-below.result (search rules)) to)
