use Rattle.std.specs.Prelude.{length}
use Rattle.ts_forms.specs.Tables.{shapes}
use Rattle.ts_forms.proofs.Puts.{part_there, chain_of_cat}
use Rattle.ts_forms.proofs.forms.Forms.+chain.Goals as goal

pub returns-in_ok-rest-in-Cat : goal.returns-in_ok-rest-in-Cat
returns-in_ok-rest-in-Cat t c =
    chain_of_cat c.args.self.now c.chain.new.self c.put.new.self c.args.i c.args.j c.in-Cat.first c.in-Cat.rest c.in_ok-rest-in-Cat.rest c.put.result
    c.in-Cat.ensures.shape (part_there c.in-Cat.first c.args.i (length (shapes c.args.self.now)) c.in-Cat.ensures.parts.0 c.requires.first)
    c.in_ok-rest-in-Cat.ensures c.put.ensures
