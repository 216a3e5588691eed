use Rattle.ts_regex.proofs.Members.{member_put}
use Rattle.ts_regex.proofs.normal_form.insert_member.Goals as goal

pub returns-in_ok-insert : goal.returns-in_ok-insert
returns-in_ok-insert c =
    member_put c.args.found.now.items c.deref.result.now c.insert.new.self.items c.in-Err.place c.args.r c.deref.ensures.value c.in_ok-insert.ensures.items
    c.in-Err.ensures.1
