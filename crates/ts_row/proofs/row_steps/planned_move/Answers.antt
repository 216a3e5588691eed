use Rattle.std.proofs.Common.{◌≡◌, true, sym, subst, ◌∙◌}
use Rattle.ts_automaton.specs.Body.{move_of}
use Rattle.ts_automaton.specs.Formula.{is_zero}
use Rattle.ts_automaton.specs.Registers.{rests}
use Rattle.ts_row.specs.Plans.{IsMovePlan, is_equal}
use Rattle.ts_row.proofs.PlanLaws.{same_plan}
use Rattle.ts_sweep.specs.FrontLaws.{move_for}
use Rattle.ts_sweep.specs.Sides.{has_wide, sides}
use Rattle.ts_sweep.specs.SidesLaws.{alone}
use Rattle.ts_row.proofs.row_steps.planned_move.Goals as goal

pub returns-clause-rests : goal.returns-clause-rests
returns-clause-rests g c =
    subst (λ w. rests is_zero w (move_of c.turn.result.now).to ≡ true) c.requires.width c.turn.ensures.rests

pub returns-clause-suits : goal.returns-clause-suits
returns-clause-suits g c =
    move_for (sides g.row.N) (has_wide g.row.N) (move_of c.turn.result.now) (alone g.row.N)
    (λ narrow. c.turn.ensures.narrow (c.requires.width ∙ narrow))

pub returns-clause-plan : goal.returns-clause-plan
returns-clause-plan g c =
    let equal = is_equal c.args.letter in
    subst (λ w. IsMovePlan w c.args.plan.now equal (move_of c.turn.result.now)) c.requires.width
    (same_plan c.args.a.now.wide c.args.plan.now equal _ _ (sym c.turn.ensures.value) c.requires.plan)
