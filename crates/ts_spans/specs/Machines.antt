-- The spans of a model's terms: those of the machines that the tables give them.
use Rattle.std.specs.Prelude.{List, map, option_map}
use Rattle.ts_pattern.specs.declared.name.Aggregator.{Aggregator}
use Rattle.ts_pattern.specs.declared.name.Feature.{Feature}
use Rattle.ts_pattern.specs.declared.name.PatternId.{PatternId}
use Rattle.ts_automaton.specs.Body.{Body}
use Rattle.ts_seed.specs.SeedTable.{seed_table}
use Rattle.ts_compile.specs.TermPairs.{body_by, pair_by}
use Rattle.ts_bound.specs.TermSpans.{Automata}
use Rattle.ts_model.specs.ModelParts.{ModelParts, StatedTerm}
use Rattle.ts_filter.specs.MachineSpans.{spans_of}
use Rattle.ts_filter.specs.RefutedWorseDrop.{Spans}

-- the automaton of a term's pattern, decorated for its aggregator and feature
abbrev pub forward_for : PatternId → Aggregator → Feature → Body
forward_for id g f = body_by id id g f

-- the machine of a term: it can be split where its pattern has a partner, and looks at the cells that the term names
abbrev pub automata_for : StatedTerm → Automata
automata_for t = record {
  forward = forward_for t.pattern t.aggregator t.feature;
  pair = option_map (λ partner. pair_by t.pattern partner t.aggregator t.feature) (seed_table t.pattern).partner;
  window = t.window;
}

-- the automata of a model's terms, in the order of the text
abbrev pub automata_in : ModelParts → List Automata
automata_in m = map (λ t. automata_for t.1) m.terms

abbrev pub spans_in : ModelParts → Spans
spans_in m = spans_of (automata_in m)
