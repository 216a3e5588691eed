use Rattle.std.proofs.Common.{[], ◌∷◌, refl, ap, arith, length, map, ◌∙◌}
use Rattle.ts_search.specs.LineOf.{TheFirst}
use Rattle.ts_search.specs.Views.{list_state_of, search_of}
use Rattle.ts_search.proofs.Certified.{few_from}
use Rattle.ts_search.proofs.CodeTurns.{at_most, first_parts, list_end, list_first, list_full, list_more, list_none, list_out, list_parts, list_room, room_for}
use Rattle.ts_search.proofs.Paced.{paced_first}
use Rattle.ts_search.proofs.listing.list_grow.Goals as goal

pub new-requires : goal.new-requires
new-requires c = let few = c.requires.posed.right.whole.few in let same = ap length c.deref.ensures.value in omega (arith, few, same)

pub loop-init : goal.loop-init
loop-init c =
    let s = search_of c.args.problem.now in
    let root = ap (λ z. z.present) c.in_ok-root.ensures ∙ c.deref.ensures.value in
    let first = list_first s c.new-2.result.items c.new-3.result c.in_ok-root.root.present _ c.new-2.ensures.items c.new-3.ensures root
    (ap (map (λ x. x.items)) c.new-4.ensures.items) in
    record {
      machines = refl;
      turned = list_none s c.args.count c.args.budget _ first;
      held = c.requires.held;
      parts = first_parts s.model.cells c.new-3.result.boxes c.requires.posed.right.box (ap (λ w. w.boxes) c.new-3.ensures ∙ ap (λ b. b ∷ []) root);
      paced = paced_first (TheFirst s) c.new-pace.result c.new-3.result.boxes c.args.leaps c.new-pace.ensures.leaps c.new-pace.ensures.ahead c.requires.inside;
    }

pub returns-then-len-count-clause-turns : goal.returns-then-len-count-clause-turns
returns-then-len-count-clause-turns c =
    list_full (search_of c.args.problem.now) c.args.count c.args.budget c.loop.counter (list_state_of c.loop.tree) _
    (at_most c.args.count c.len.result _ c.loop.tree.listed.items c.if-len-count.true c.len.ensures c.loop.tree.listed.ok.0) c.loop.invariant.turned

pub returns-then-is_empty-clause-turns : goal.returns-then-is_empty-clause-turns
returns-then-is_empty-clause-turns c =
    list_out (search_of c.args.problem.now) c.args.count c.args.budget c.loop.counter (list_state_of c.loop.tree) _
    (c.is_empty.ensures.0 c.if-is_empty.true) c.loop.invariant.turned

pub loop-preserved : goal.loop-preserved
loop-preserved c =
    let s = search_of c.args.problem.now in
    let out = c.if-len-count.false in
    let is = c.len.ensures in
    let long = c.loop.tree.listed.ok.0 in
    let turn = list_room s c.args.count (list_state_of c.loop.tree) (list_state_of c.list_treat.new.tree) c.in_ok-list_treat.ensures.turn
    (room_for c.args.count c.loop.tree.listed.items (omega (arith, out, is, long))) in
    record {
      machines = c.list_treat.ensures.machines ∙ c.loop.invariant.machines;
      turned = list_more s c.args.count c.args.budget c.loop.counter (list_state_of c.loop.tree) (list_state_of c.list_treat.new.tree) _
          c.loop-test.true turn c.loop.invariant.turned;
      held = c.in_ok-list_treat.ensures.held;
      parts = list_parts s c.args.count (list_state_of c.loop.tree) (list_state_of c.list_treat.new.tree) turn
          c.loop.invariant.parts;
      paced = c.in_ok-list_treat.ensures.paced;
    }

pub returns-clause-turns : goal.returns-clause-turns
returns-clause-turns c =
    let end = c.loop-test.false in
    list_end (search_of c.args.problem.now) c.args.count c.args.budget c.loop.counter (list_state_of c.loop.tree) _ (omega (arith, end))
    c.loop.invariant.turned

-- in each of the three ends the state is that of all turns, which have listed no more than `count` series
pub returns-clause-few : goal.returns-clause-few
returns-clause-few c =
    let end = c.loop-test.false in
    few_from (search_of c.args.problem.now) c.args.count c.args.budget c.loop.tree.listed.items (list_state_of c.loop.tree) c.requires.posed.right
    (list_end (search_of c.args.problem.now) c.args.count c.args.budget c.loop.counter (list_state_of c.loop.tree) _ (omega (arith, end))
    c.loop.invariant.turned) refl

pub returns-then-len-count-clause-few : goal.returns-then-len-count-clause-few
returns-then-len-count-clause-few c =
    few_from (search_of c.args.problem.now) c.args.count c.args.budget c.loop.tree.listed.items (list_state_of c.loop.tree) c.requires.posed.right
    (list_full (search_of c.args.problem.now) c.args.count c.args.budget c.loop.counter (list_state_of c.loop.tree) _
    (at_most c.args.count c.len.result _ c.loop.tree.listed.items c.if-len-count.true c.len.ensures c.loop.tree.listed.ok.0) c.loop.invariant.turned) refl

pub returns-then-is_empty-clause-few : goal.returns-then-is_empty-clause-few
returns-then-is_empty-clause-few c =
    few_from (search_of c.args.problem.now) c.args.count c.args.budget c.loop.tree.listed.items (list_state_of c.loop.tree) c.requires.posed.right
    (list_out (search_of c.args.problem.now) c.args.count c.args.budget c.loop.counter (list_state_of c.loop.tree) _
    (c.is_empty.ensures.0 c.if-is_empty.true) c.loop.invariant.turned) refl
