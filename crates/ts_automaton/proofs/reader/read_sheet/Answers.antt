use Rattle.std.proofs.Common.{◌≡◌, ◌+◌, ◌∙◌, ℕ, List, ◌∷◌, Some, ap, sym, length, arith}
use Rattle.std.specs.Prelude.{option_map, Result}
use Rattle.ts_base.specs.Words.{strict_lines}
use Rattle.ts_automaton.specs.Grammar.{Prefix}
use Rattle.ts_automaton.specs.Reading.{with_line, with_lines, onward, prefix_seen}
use Rattle.ts_automaton.proofs.GrowLaws.{few_lines}
use Rattle.ts_automaton.proofs.ReadLaws.{line_grows}
use Rattle.ts_automaton.proofs.reader.read_sheet.Goals as goal

pub overflow_add-line : goal.overflow_add-line
overflow_add-line c =
    let few = few_lines (prefix_seen c.loop-rest.prefix) c.loop-rest.invariant.prefix in
    let place = c.loop-rest.invariant.place in
    omega (arith, few, place)

-- the line that was read is the first of those that are left
read_on : (d e : Prefix) (n : ℕ) (first : List ℕ) (texts rest : List (List ℕ)) (all : Result Prefix ℕ) → texts ≡ first ∷ rest → with_line d first ≡ Some e →
    with_lines d n texts ≡ all → with_lines e (n + 1) rest ≡ all
read_on d e n first texts rest all cut read before =
    ap (λ o. onward n o (λ f. with_lines f (n + 1) rest)) (sym read) ∙ ap (with_lines d n) (sym cut) ∙ before

pub loop-rest-preserved : goal.loop-rest-preserved
loop-rest-preserved c =
    let d : Prefix = prefix_seen c.loop-rest.prefix in
    let e : Prefix = prefix_seen c.in-Some.next in
    let cut = c.first_line.ensures.cut in
    let read : with_line d c.first_line.result.0.now ≡ Some e = sym c.in_ok-with_line.ensures ∙ ap (option_map prefix_seen) c.in-Some.is in
    let grown = line_grows d e c.first_line.result.0.now c.loop-rest.invariant.prefix read in
    let size = ap length cut in
    let count = c.loop-rest.invariant.count in
    let place = c.loop-rest.invariant.place in
    let more = grown.1 in
    record {
      read = read_on d e c.loop-rest.line c.first_line.result.0.now (strict_lines c.loop-rest.rest.now) (strict_lines c.first_line.result.1.now) _ cut read
          c.loop-rest.invariant.read;
      count = omega (arith, size, count);
      prefix = grown.0;
      place = omega (arith, place, more);
    }
