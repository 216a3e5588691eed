use Rattle.std.proofs.Common.{◌≡◌, length, replicate, rules, sym, ap, ◌∙◌, ◌*◌, arith}
use Rattle.std.proofs.lemmas.List.{places}
use Rattle.ts_hull.specs.Hulls.{hull_of}
use Rattle.ts_hull.specs.Sweeps.{with_state}
use Rattle.ts_bound.proofs.PutLaws.{all_none}
use Rattle.ts_bound.proofs.SweptRows.{states_begun, states_more, states_done, states_next}
use Rattle.ts_bound.proofs.row.fill_row.Goals as goal

pub invariant_of-m-clause-whole : goal.invariant_of-m-clause-whole
invariant_of-m-clause-whole c = c.requires.before ∙ ap (λ z. length z * length c.args.a.now.states) (sym c.of.ensures)

pub invariant_of-m-clause-small : goal.invariant_of-m-clause-small
invariant_of-m-clause-small c e = sym c.are_small.ensures ∙ e

pub loop-q-init : goal.loop-q-init
loop-q-init c = states_begun c.args.a.now c.args.before_values.now c.args.before.now c.args.values.now c.fill.new.self

pub take_state-requires-clause-next : goal.take_state-requires-clause-next
take_state-requires-clause-next c =
    let filled : c.fill.new.self ≡ replicate (length c.args.next.now) c.none.result = search (rules, places) in
    let next = states_next c.args.a.now c.args.before_values.now c.args.before.now c.args.values.now c.loop-q.q c.fill.new.self c.loop-q.next
    (c.fill.ensures.len ∙ c.requires.next) (all_none (length c.args.next.now) c.none.result c.fill.new.self filled (ap hull_of c.none.ensures))
    c.loop-q.invariant in
    (next.0, next.1 ∙ ap (λ z. length z * length c.args.a.now.states) (sym c.of-2.ensures))

pub loop-q-preserved : goal.loop-q-preserved
loop-q-preserved c =
    states_more c.args.a.now c.args.before_values.now c.args.before.now c.args.values.now c.loop-q.q c.fill.new.self c.loop-q.next
    c.take_state.new.next c.loop-q.invariant
    (c.take_state.ensures
    ∙ ap (λ z. with_state c.args.a.now z c.args.before.now c.of-2.result.domain.now c.loop-q.q c.loop-q.next) c.of.ensures
    ∙ ap (λ z. with_state c.args.a.now c.args.before_values.now c.args.before.now z c.loop-q.q c.loop-q.next) c.of-2.ensures)

pub returns : goal.returns
returns c =
    let filled : c.fill.new.self ≡ replicate (length c.args.next.now) c.none.result = search (rules, places) in
    states_done c.args.a.now c.args.before_values.now c.args.before.now c.args.values.now c.loop-q.q c.fill.new.self c.loop-q.next
    c.states-q-end.ensures.rules c.requires.before (c.fill.ensures.len ∙ c.requires.next)
    (all_none (length c.args.next.now) c.none.result c.fill.new.self filled (ap hull_of c.none.ensures))
    (omega (arith, c.loop-q-test.false, c.loop-q.auto.q-end, c.states-q-end.ensures.count)) c.loop-q.invariant
