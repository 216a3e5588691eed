use Rattle.ts_regex.specs.NormalForm.{nest}
use Rattle.ts_forms.specs.Tables.{shapes, forms_at}
use Rattle.ts_forms.proofs.Members.{taken_there, nested_first, nested_more}
use Rattle.ts_forms.proofs.forms.Forms.nest.Goals as goal

pub loop-member-init : goal.loop-member-init
loop-member-init c =
    nested_first c.args.self.now c.args.found.items c.pop.new.self.items c.in-Some.last c.requires.table c.requires.found c.in-Some.ensures.items

pub put-requires-in-Some-pop-clause-parts : goal.put-requires-in-Some-pop-clause-parts
put-requires-in-Some-pop-clause-parts c =
    let k = c.loop-member.invariant in (
      taken_there (shapes c.loop-member.self) c.loop-member.found.items c.pop-in-loop-member.new.self.items c.in-Some-pop.member c.in-Some-pop.ensures.items
          k.there,
      k.union_there,
    )

pub loop-member-preserved : goal.loop-member-preserved
loop-member-preserved c =
    nested_more c.args.self.now c.loop-member.self c.put-in-Some-pop.new.self (nest (forms_at (shapes c.args.self.now) c.args.found.items))
    c.loop-member.found.items c.pop-in-loop-member.new.self.items c.loop-member.union c.in-Some-pop.member c.in_ok-union.union c.loop-member.invariant
    c.in-Some-pop.ensures.items c.in_ok-union.ensures
