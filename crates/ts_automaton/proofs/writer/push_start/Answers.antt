use Rattle.std.proofs.Common.{codes}
use Rattle.ts_automaton.specs.Registers.{regs_of}
use Rattle.ts_automaton.specs.AutomatonText.{constant_words, each_words}
use Rattle.ts_automaton.proofs.WriteLaws.{line_of_words}
use Rattle.ts_automaton.proofs.writer.push_start.Goals as goal

pub returns : goal.returns
returns c =
    line_of_words c.args.text.now.items (codes "start") (each_words constant_words c.args.wide (regs_of c.args.start))
    c.extend_from_slice.new.self.items c.push_constants.new.text.items c.push.new.self.items
    c.in_ok-extend_from_slice.ensures.items c.in_ok-push_constants.ensures c.in_ok-push.ensures.items
