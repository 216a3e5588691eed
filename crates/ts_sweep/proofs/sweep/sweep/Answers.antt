use Rattle.std.proofs.Common.{◌≡◌, get_or, refl, sym, ap, subst, ◌∙◌, arith}
use Rattle.ts_sweep.proofs.RunSteps.{as_passed}
use Rattle.ts_sweep.proofs.Merges.{merge_begin, merge_takes, merge_took, merge_gave, merge_end}
use Rattle.ts_sweep.proofs.sweep.sweep.Goals as goal

pub loop-k-init : goal.loop-k-init
loop-k-init g c =
    let h = g.met.H.Hull in (
      merge_begin _ _ _ _ h.associative h.commutative h.idempotent _ _ _ _ _ _ _ _ _ _ _ c.nothing-run.ensures,
      c.count-n.ensures,
      c.count-m.ensures,
      subst (g.F.Fronts.closable c.args.by) (sym c.nothing-run.ensures) (g.met.F.Fronts.closable_none c.args.by),
      g.met.C.Column.beside_itself c.args.to _,
      c.requires.next_same ∙ sym c.count-m.ensures,
      c.requires.next_whole,
    )

pub taken_from-run-requires-clause-takes : goal.taken_from-run-requires-clause-takes
taken_from-run-requires-clause-takes g c =
    let h = g.met.H.Hull in
    merge_takes _ _ _ _ h.associative h.commutative h.idempotent _ _ _ _ _ _ _ _ _ _ _ _ _ _ c.loop-k.invariant.0

pub loop-k-preserved-then-is_passed : goal.loop-k-preserved-then-is_passed
loop-k-preserved-then-is_passed g c =
    let h = g.met.H.Hull in
    let is = c.loop-k.invariant in (
      merge_took _ _ _ _ h.associative h.commutative h.idempotent _ _ _ _ _ _ _ _ _ _ _ _ _ _ _ _ _ _ is.0 is.1 c.at-w.ensures.small
          (c.if-is_passed.ensures.there refl) c.step_place.ensures.value (c.at-w.ensures.value
          ∙ ap (g.W.Values.value c.args.next_values) c.step_place-j.ensures.value)
          (c.if-is_passed.ensures.passed refl) c.taken_from-run.ensures.value,
      is.1,
      is.2,
      c.taken_from-run.ensures.closable is.3,
      is.4,
      is.5,
      is.6,
    )

pub loop-k-preserved : goal.loop-k-preserved
loop-k-preserved g c =
    let h = g.met.H.Hull in
    let is = c.loop-k.invariant in (
      merge_gave _ _ _ _ h.associative h.commutative h.idempotent _ _ _ _ _ _ _ _ _ _ _ _ _ _ _ _ _ _ is.0 is.1 c.at-w.ensures.small
          (λ i j lt inside. g.met.V.Values.rises c.args.values c.requires.ok i j lt (omega (arith, inside, is.1)))
          (λ i j lt inside. g.met.W.Values.rises c.args.next_values c.requires.next_ok i j lt (omega (arith, inside, is.2)))
          (g.met.C.Column.same_length c.args.from c.args.before.now ∙ c.requires.same ∙ sym is.1)
          c.loop-k-test.true c.step_place-j.ensures.value c.at-w.ensures.value (c.if-is_passed.ensures.rest refl) c.take_in.ensures.len
          (c.take_in.ensures.here
          ∙ ap (g.C.Column.taking (get_or (g.C.Column.column c.args.to c.loop-k.next) c.step_place-j.result g.C.Column.blank))
          (as_passed (λ z. c.closed.result ≡ g.F.Fronts.closing c.args.by c.loop-k.run z) c.at-w.result c.at-w.ensures.small c.closed.ensures))
          c.take_in.ensures.others,
      is.1,
      is.2,
      is.3,
      g.met.C.Column.beside_both c.args.to _ _ _ is.4 c.take_in.ensures.beside,
      c.take_in.ensures.len ∙ is.5,
      c.take_in.ensures.whole,
    )

pub returns-clause-taken : goal.returns-clause-taken
returns-clause-taken g c =
    let h = g.met.H.Hull in
    merge_end _ _ _ _ h.associative h.commutative h.idempotent _ _ _ _ _ _ _ _ _ _ _ _ _ _ c.loop-k.invariant.0 (omega arith)
    (c.requires.next_same ∙ sym c.loop-k.invariant.2)
