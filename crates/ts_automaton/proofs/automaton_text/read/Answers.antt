use Rattle.ts_automaton.specs.Reading.{sheet_seen}
use Rattle.ts_automaton.proofs.TextLaws.{judged_reads, read_in_grammar, sheet_refused}
use Rattle.ts_automaton.proofs.automaton_text.read.Goals as goal

pub judged-requires : goal.judged-requires
judged-requires c = read_in_grammar c.args.text.now (sheet_seen c.in-Ok.block) c.in-Ok.ensures

pub returns-in-Ok : goal.returns-in-Ok
returns-in-Ok c = judged_reads c.args.text.now (sheet_seen c.in-Ok.block) c.judged.result c.in-Ok.ensures c.judged.ensures

pub returns-in-Err : goal.returns-in-Err
returns-in-Err c = sheet_refused c.args.text.now c.in-Err.stop c.in-Err.ensures
