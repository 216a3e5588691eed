use Rattle.std.proofs.Common.{map}
use Rattle.ts_regex.specs.Shape.{shape_of}
use Rattle.ts_regex.specs.NormalForm.{nest}
use Rattle.ts_regex.proofs.Members.{nest_step}
use Rattle.ts_regex.proofs.normal_form.nest.Goals as goal

pub loop-member-preserved : goal.loop-member-preserved
loop-member-preserved c =
    nest_step (nest (map shape_of c.args.found.items)) c.loop-member.found.items c.pop-in-loop-member.new.self.items c.in-Some-pop.member
    (shape_of c.loop-member.union) (shape_of c.in_ok-union.union) c.loop-member.invariant c.in-Some-pop.ensures.items c.in_ok-union.ensures
