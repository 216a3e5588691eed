use Rattle.std.proofs.Common.{◌≡◌, sym, ◌∙◌, ap}
use Rattle.std.specs.Prelude.{IfSome, Option, None, Some, option_map, unwrap_or}
use Rattle.ts_automaton.specs.Body.{Body}
use Rattle.ts_glue.specs.declared.shape.Shapes.{Shapes}
use Rattle.ts_glue.specs.Machines.{pair_of}
use Rattle.ts_glue.specs.Pairs.{Pair}
use Rattle.ts_glue.specs.Shapes.{AreShapes}
use Rattle.ts_glue.proofs.Calls.{forward_in_pair}
use Rattle.ts_meet.specs.declared.joints.Joints.{Joints}
use Rattle.ts_meet.specs.Joints.{AreJoints}
use Rattle.ts_meet.proofs.joints.Joints.of.Goals as goal

of_pair : (o : Option Pair) (e f b : Body) (t : Shapes) (j : Joints) → IfSome o (λ p. p.forward ≡ e) → f ≡ e →
    Some b ≡ option_map (λ (p : Pair). p.reverse) o → IfSome o (λ p. AreShapes p t) →
    ((p : Pair) → p.forward ≡ f → p.reverse ≡ b → AreShapes p t → AreJoints p j) → IfSome o (λ p. AreJoints p j)
of_pair None e f b t j front same back are told = tt
of_pair (Some p) e f b t j front same back are told = told p (front ∙ sym same) (sym (ap (λ z. unwrap_or z b) back)) are

pub returns : goal.returns
returns c =
    let m = c.args.m.now in
    of_pair (pair_of m) _ c.forward.result.now c.in-Some.reverse.now c.shapes.result.now c.joints_of.result (forward_in_pair m) c.forward.ensures
    (ap (option_map (λ b. b.now)) (sym c.in-Some.is) ∙ c.reverse.ensures) c.shapes.ensures c.joints_of.ensures
