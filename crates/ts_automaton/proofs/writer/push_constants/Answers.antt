use Rattle.ts_automaton.specs.Registers.{regs_of}
use Rattle.ts_automaton.specs.AutomatonText.{constant_words}
use Rattle.ts_automaton.proofs.WriteLaws.{each_behind}
use Rattle.ts_automaton.proofs.writer.push_constants.Goals as goal

pub returns : goal.returns
returns c =
    each_behind constant_words c.args.wide (regs_of c.args.start) c.args.text.now.items
    c.push_constant.new.text.items c.push_extra_constant.new.text.items c.push_constant-2.new.text.items c.push_extra_constant-2.new.text.items
    c.push_constant-3.new.text.items
    c.in_ok-push_constant.ensures c.in_ok-push_extra_constant.ensures c.in_ok-push_constant-2.ensures c.in_ok-push_extra_constant-2.ensures
    c.in_ok-push_constant-3.ensures
