use Rattle.std.proofs.Common.{subst, ◌<◌}
use Rattle.ts_meet.proofs.joints.Joints.shape.Goals as goal

pub returns : goal.returns
returns c p h =
    h.shapes c.args.left (subst (λ n. c.args.left < n) h.left_states c.requires.left)
    c.args.right (subst (λ n. c.args.right < n) h.right_states c.requires.right)
