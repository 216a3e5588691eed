use Rattle.ts_forms.proofs.Members.{alt_put}
use Rattle.ts_forms.proofs.forms.Forms.normal_alt.Goals as goal

pub returns : goal.returns
returns c =
    alt_put c.args.self.now c.nest.new.self c.new-found.result.items c.collect_members.new.found.items c.collect_members-2.new.found.items c.args.i c.args.j
    c.nest.result c.new-found.ensures.items c.in_ok-collect_members.ensures.members c.in_ok-collect_members-2.ensures.members c.nest.ensures
