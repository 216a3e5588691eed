use Rattle.ts_automaton.specs.Registers.{spans_of}
use Rattle.ts_automaton.proofs.Five.{none_is}
use Rattle.ts_automaton.proofs.regs.Hull.is_none.Goals as goal

pub returns : goal.returns
returns c =
    none_is (spans_of c.args.self.now) c.is_none.result c.is_none-2.result c.is_none-3.result c.is_none-4.result c.is_none-5.result
    c.is_none.ensures c.is_none-2.ensures c.is_none-3.ensures c.is_none-4.ensures c.is_none-5.ensures
