use Rattle.ts_forms.specs.Tables.{shapes}
use Rattle.ts_forms.proofs.Members.{members_of_both}
use Rattle.ts_forms.proofs.forms.Forms.+collect_members.Goals as goal

pub returns-in_ok-collect_members-in-Alt-clause-members : goal.returns-in_ok-collect_members-in-Alt-clause-members
returns-in_ok-collect_members-in-Alt-clause-members t c =
    members_of_both (shapes c.args.self.now) c.args.i c.in-Alt.r c.in-Alt.s c.args.found.now.items c.collect_members.new.found.items
    c.collect_members-in-Alt.new.found.items c.collect_members-in-Alt.result c.in-Alt.ensures.shape c.in_ok-collect_members-in-Alt.ensures.members
    c.collect_members-in-Alt.ensures.members
