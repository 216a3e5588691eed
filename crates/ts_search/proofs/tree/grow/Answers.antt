use Rattle.std.proofs.Common.{[], ◌∷◌, None, refl, ap, arith, length, ◌∙◌}
use Rattle.ts_search.specs.LineOf.{TheBest}
use Rattle.ts_search.specs.Views.{contest_of, state_of}
use Rattle.ts_search.proofs.CodeTurns.{first_parts, grow_end, grow_first, grow_more, grow_none, grow_parts, grow_stop}
use Rattle.ts_search.proofs.Paced.{paced_first}
use Rattle.ts_search.proofs.tree.grow.Goals as goal

pub new-requires : goal.new-requires
new-requires c = let few = c.requires.posed.right.whole.few in let same = ap length c.deref.ensures.value in omega (arith, few, same)

pub loop-init : goal.loop-init
loop-init c =
    let s = contest_of c.args.contest.now in
    let root = ap (λ z. z.present) c.in_ok-root.ensures ∙ c.deref.ensures.value in
    let first = grow_first s c.new-2.result.items c.new-3.result c.in_ok-root.root.present c.new-2.ensures.items c.new-3.ensures root in
    record {
      machines = refl;
      turned = grow_none s c.args.budget _ first;
      held = c.requires.held;
      parts = first_parts s.search.model.cells c.new-3.result.boxes c.requires.posed.right.box (ap (λ w. w.boxes) c.new-3.ensures ∙ ap (λ b. b ∷ []) root);
      paced = paced_first (TheBest s None) c.new-pace.result c.new-3.result.boxes c.args.leaps c.new-pace.ensures.leaps c.new-pace.ensures.ahead
          (λ t. c.requires.inside t None);
    }

pub returns-then-is_empty-clause-turns : goal.returns-then-is_empty-clause-turns
returns-then-is_empty-clause-turns c =
    let s = contest_of c.args.contest.now in
    grow_stop s c.args.budget c.loop.counter (state_of c.loop.tree) _ (c.is_empty.ensures.0 c.if-is_empty.true) c.loop.invariant.turned

pub loop-preserved : goal.loop-preserved
loop-preserved c =
    let s = contest_of c.args.contest.now in
    record {
      machines = c.treat.ensures.machines ∙ c.loop.invariant.machines;
      turned = grow_more s c.args.budget c.loop.counter (state_of c.loop.tree) (state_of c.treat.new.tree) _ c.loop-test.true
          c.in_ok-treat.ensures.turn c.loop.invariant.turned;
      held = c.in_ok-treat.ensures.held;
      parts = grow_parts s (state_of c.loop.tree) (state_of c.treat.new.tree) c.in_ok-treat.ensures.turn c.loop.invariant.parts;
      paced = c.in_ok-treat.ensures.paced;
    }

pub returns-clause-turns : goal.returns-clause-turns
returns-clause-turns c =
    let s = contest_of c.args.contest.now in let end = c.loop-test.false in
    grow_end s c.args.budget c.loop.counter (state_of c.loop.tree) _ (omega (arith, end)) c.loop.invariant.turned
