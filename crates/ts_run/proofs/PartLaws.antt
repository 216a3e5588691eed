-- The part of each term in the text of a program: its blocks are read as automata, and those give the value of the term.
use Rattle.std.proofs.Common.{◌≡◌, ℕ, Option, Some, None, List, [], ◌∷◌, refl, String}
use Rattle.std.specs.Prelude.{option_map, string_bytes}
use Rattle.std.specs.Global.{Global}
use Rattle.ts_pattern.specs.declared.name.PatternId.{PatternId}
use Rattle.ts_seed.specs.SeedTable.{seed_table}
use Rattle.ts_automaton.specs.declared.draft.Direction.TheVariants.{Forward, Reverse}
use Rattle.ts_automaton.specs.AutomatonText.{body_text}
use Rattle.ts_model.specs.declared.model.ModelTerm.{ModelTerm}
use Rattle.ts_compile.proofs.Over.{answers_over, glues_over}
use Rattle.ts_compile.specs.Compiled.{machine_body, machine_pair, pair_with}
use Rattle.ts_compile.specs.ProgramText.{part_text, program_text, reverse_text}
use Rattle.ts_compile.proofs.Tables.{body_automaton, compiled_answers, glued_value}
use Rattle.ts_run.specs.CompiledValue.{HasParts, IsTail, IsTermPart}

tail_of : (t : ModelTerm) (partner : Option PatternId) → (seed_table t.term.pattern).partner ≡ partner →
    IsTail partner t (machine_body t.term) (reverse_text (option_map (pair_with t.term) partner))
tail_of t None has = refl
tail_of t (Some partner) has = record {
  lines = body_text (pair_with t.term partner).reverse;
  body = (pair_with t.term partner).reverse;
  table = (pair_with t.term partner).table;
  tail_is = refl;
  reads = (body_automaton t.term.pattern partner t.term.aggregator t.term.feature, (Reverse, refl));
  glues = glues_over (pair_with t.term partner) t (glued_value t.term partner has);
}

-- the part of each term

part_of : (name : List ℕ) (t : ModelTerm) → IsTermPart name t (part_text name t (machine_body t.term) (machine_pair t.term))
part_of name t = record {
  lines = body_text (machine_body t.term);
  tail = reverse_text (machine_pair t.term);
  body = machine_body t.term;
  part_is = refl;
  reads = (body_automaton t.term.pattern t.term.pattern t.term.aggregator t.term.feature, (Forward, refl));
  answers = answers_over (machine_body t.term) t (compiled_answers t.term);
  tail_is = tail_of t (seed_table t.term.pattern).partner refl;
}

pub parts_in : (terms : List (String Global × ModelTerm)) → HasParts terms (program_text terms)
parts_in [] = refl
parts_in (t ∷ ts) = (
  part_text (string_bytes t.0) t.1 (machine_body t.1.term) (machine_pair t.1.term),
  program_text ts,
  refl,
  part_of (string_bytes t.0) t.1,
  parts_in ts,
)
