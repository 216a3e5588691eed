use Rattle.std.proofs.Common.{◌≡◌, ◌+◌, length}
use Rattle.ts_base.specs.Words.{strict_lines}
use Rattle.ts_automaton.specs.Grammar.{AtHead, prefix_words, IsPrefix}
use Rattle.ts_automaton.specs.Reading.{with_lines, prefix_seen}
use Rattle.ts_automaton.proofs.reader.read_sheet.Given as goal

abbrev pub invariant-loop-rest : goal.invariant-loop-rest
invariant-loop-rest l = record {
  read : with_lines (prefix_seen l.prefix) l.line (strict_lines l.rest) ≡ with_lines AtHead 1 (strict_lines l.text);
  count : l.line + length (strict_lines l.rest) ≡ length (strict_lines l.text) + 1;
  prefix : IsPrefix (prefix_seen l.prefix);
  place : l.line ≡ length (prefix_words (prefix_seen l.prefix)) + 1;
}

abbrev pub decreases-loop-rest : goal.decreases-loop-rest
decreases-loop-rest l = length l.rest
