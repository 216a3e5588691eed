use Rattle.std.proofs.Common.{sym, ◌∙◌, arith}
use Rattle.std.proofs.lemmas.Int.{ints}
use Rattle.ts_sweep.proofs.EqualSteps.{equal_begin, equal_less, equal_more, equal_same, equal_end}
use Rattle.ts_sweep.proofs.equal.sweep_equal.Goals as goal

pub loop-at-init : goal.loop-at-init
loop-at-init g c = (
  equal_begin _ _ _ _ _ _ (g.met.F.Fronts.closes_none c.args.by) _ _ _ _ _
      (g.met.C.Column.same_length c.args.from c.args.before.now ∙ c.requires.same ∙ sym c.count-n.ensures)
      (λ i j lt inside. g.met.V.Values.rises c.args.values c.requires.ok i j lt (omega (arith, inside, c.count-n.ensures)))
      (λ i j lt inside. g.met.W.Values.rises c.args.next_values c.requires.next_ok i j lt (omega (arith, inside, c.count-m.ensures))) _,
  c.count-n.ensures,
  c.count-m.ensures,
  g.met.C.Column.beside_itself c.args.to _,
  c.requires.next_same ∙ sym c.count-m.ensures,
  c.requires.next_whole,
)

pub loop-at-preserved-then-v-w : goal.loop-at-preserved-then-v-w
loop-at-preserved-then-v-w g c =
    let is = c.loop-at.invariant in (
      equal_less _ _ _ _ _ _ (g.met.F.Fronts.closes_none c.args.by) _ _ _ _ _
          (g.met.C.Column.same_length c.args.from c.args.before.now ∙ c.requires.same ∙ sym is.1)
          (λ i j lt inside. g.met.V.Values.rises c.args.values c.requires.ok i j lt (omega (arith, inside, is.1)))
          (λ i j lt inside. g.met.W.Values.rises c.args.next_values c.requires.next_ok i j lt (omega (arith, inside, is.2))) _ _ _ _ is.0
          (omega arith) (omega arith) (omega (arith, ints, c.at-v.ensures.value, c.at-w.ensures.value)),
      is.1,
      is.2,
      is.3,
      is.4,
      is.5,
    )

pub loop-at-preserved-then-w-v : goal.loop-at-preserved-then-w-v
loop-at-preserved-then-w-v g c =
    let is = c.loop-at.invariant in (
      equal_more _ _ _ _ _ _ (g.met.F.Fronts.closes_none c.args.by) _ _ _ _ _
          (g.met.C.Column.same_length c.args.from c.args.before.now ∙ c.requires.same ∙ sym is.1)
          (λ i j lt inside. g.met.V.Values.rises c.args.values c.requires.ok i j lt (omega (arith, inside, is.1)))
          (λ i j lt inside. g.met.W.Values.rises c.args.next_values c.requires.next_ok i j lt (omega (arith, inside, is.2))) _ _ _ _ is.0
          (omega arith) (omega arith) (omega (arith, ints, c.at-v.ensures.value, c.at-w.ensures.value)),
      is.1,
      is.2,
      is.3,
      is.4,
      is.5,
    )

pub loop-at-preserved : goal.loop-at-preserved
loop-at-preserved g c =
    let is = c.loop-at.invariant in (
      equal_same _ _ _ _ _ _ (g.met.F.Fronts.closes_none c.args.by) _ _ _ _ _
          (g.met.C.Column.same_length c.args.from c.args.before.now ∙ c.requires.same ∙ sym is.1)
          (λ i j lt inside. g.met.V.Values.rises c.args.values c.requires.ok i j lt (omega (arith, inside, is.1)))
          (λ i j lt inside. g.met.W.Values.rises c.args.next_values c.requires.next_ok i j lt (omega (arith, inside, is.2))) _ _ _ _ _ _ is.0
          (omega arith) (omega arith) (omega (arith, ints, c.at-v.ensures.value, c.at-w.ensures.value)) c.closed_from.ensures
          c.take_in.ensures.len c.take_in.ensures.here c.take_in.ensures.others,
      is.1,
      is.2,
      g.met.C.Column.beside_both c.args.to _ _ _ is.3 c.take_in.ensures.beside,
      c.take_in.ensures.len ∙ is.4,
      c.take_in.ensures.whole,
    )

pub returns-after-loop-at-clause-taken : goal.returns-after-loop-at-clause-taken
returns-after-loop-at-clause-taken g c =
    let is = c.loop-at.invariant in
    equal_end _ _ _ _ _ _ (g.met.F.Fronts.closes_none c.args.by) _ _ _ _ _
    (g.met.C.Column.same_length c.args.from c.args.before.now ∙ c.requires.same ∙ sym is.1)
    (λ i j lt inside. g.met.V.Values.rises c.args.values c.requires.ok i j lt (omega (arith, inside, is.1)))
    (λ i j lt inside. g.met.W.Values.rises c.args.next_values c.requires.next_ok i j lt (omega (arith, inside, is.2))) _ _ _ _ is.0
    (λ less inside. omega (arith, less, inside)) (c.requires.next_same ∙ sym is.2)
