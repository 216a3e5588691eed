use Rattle.ts_forms.specs.Nodes.{form_at}
use Rattle.ts_forms.specs.Tables.{shapes}
use Rattle.ts_forms.proofs.Members.{member_put}
use Rattle.ts_forms.proofs.forms.Forms.insert_member.Goals as goal

pub returns-in_ok-insert-clause-members : goal.returns-in_ok-insert-clause-members
returns-in_ok-insert-clause-members c =
    member_put (λ z. form_at (shapes c.args.self.now) z) c.args.found.now.items c.deref.result.now c.insert.new.self.items c.in-Err.place c.args.i
    c.deref.ensures.value c.in_ok-insert.ensures.items c.in-Err.ensures.1
