use mir.Val.{SFits}
use Rattle.std.proofs.Common.{w64, rules, sym, subst, ◌∙◌}
use Rattle.std.proofs.lemmas.Int.{to_z-of_z}
use Rattle.ts_automaton.specs.SpanRun.{HullStands, hull_standing}
use Rattle.ts_bound.specs.Moves.{states_in}
use Rattle.ts_bound.proofs.SweptRows.{given_is, stands_at}
use Rattle.ts_bound.proofs.pairs.given.Goals as goal

pub eval_span-requires : goal.eval_span-requires
eval_span-requires c =
    let m = c.args.m.now in
    subst (λ z. HullStands m.automaton.now (hull_standing z)) (sym c.hull_at.ensures)
    (stands_at m.automaton.now m.values.domain.now m.before.now c.args.i c.args.q c.requires.kinds m.whole c.requires.inside c.requires.state)

pub returns-then-fits : goal.returns-then-fits
returns-then-fits c =
    let m = c.args.m.now in
    let f : SFits w64 c.at-this.result = search rules in
    let g : SFits w64 c.at-next.result = search rules in
    given_is m.automaton.now c.args.q c.args.l (states_in m) c.args.i m.values.domain.now m.before.now c.at-this.result _ _ _
    c.hull_at.result c.eval_span.result (to_z-of_z w64 c.at-this.result f) (to_z-of_z w64 c.at-next.result g ∙ c.at-next.ensures.value)
    c.at-this.ensures.value c.hull_at.ensures (sym c.if-fits.true ∙ c.fits.ensures) c.eval_span.ensures.value
