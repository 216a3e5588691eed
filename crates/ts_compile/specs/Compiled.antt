-- The machine that the tables give a term, and what a machine of a term answers.
use Rattle.std.specs.Prelude.{◌≡◌, ◌≤◌, ℕ, ℤ, List, length, map, Option, option_map}
use Rattle.std.specs.Coded.{Coded-set, codes}
use Rattle.ts_base.specs.Windows.{LooksInside, looked_at}
use Rattle.ts_pattern.specs.declared.name.PatternId.{PatternId}
use Rattle.ts_pattern.specs.declared.term.Term.{Term}
use Rattle.ts_pattern.specs.TermValue.{term_value}
use Rattle.ts_automaton.specs.Body.{Body}
use Rattle.ts_automaton.specs.AutomatonRun.{answer, AreCellValues}
use Rattle.ts_automaton.specs.Codes.{formula_code}
use Rattle.ts_model.specs.declared.model.ModelTerm.{ModelTerm}
use Rattle.ts_model.specs.TermValue.{stated_value}
use Rattle.ts_model.specs.Views.{stated_of}
use Rattle.ts_seed.specs.SeedTable.{seed_table}
use Rattle.ts_decorate.specs.Answers.{longest}
use Rattle.ts_glue.specs.declared.machine.Machine.{Machine}
use Rattle.ts_glue.specs.Glued.{Glued}
use Rattle.ts_glue.specs.Pairs.{Pair}
use Rattle.ts_glue.specs.Machines.{forward_of, pair_of}
use Rattle.ts_compile.specs.TermPairs.{body_by, pair_by}

-- the rows of the pattern's seed, decorated for the aggregator, the feature and the pattern's trim at the end
abbrev pub machine_body : Term → Body
machine_body t = body_by t.pattern t.pattern t.aggregator t.feature

-- that automaton, the one by the partner's rows and the glue table, where the pattern has a partner
abbrev pub pair_with : Term → PatternId → Pair
pair_with t partner = pair_by t.pattern partner t.aggregator t.feature

abbrev pub machine_pair : Term → Option Pair
machine_pair t = option_map (pair_with t) (seed_table t.pattern).partner

-- on each series of 1 to 100,000 cells within the limits the answer is the value of the term
abbrev pub AnswersTerm : Body → Term → Type 0
AnswersTerm b t =
    (xs : List ℤ) → 1 ≤ length xs → length xs ≤ longest → AreCellValues xs → answer b xs ≡ term_value t xs

-- and the glued value at every cell is that value
abbrev pub GluesTerm : Pair → Term → Type 0
GluesTerm p t =
    (xs : List ℤ) → length xs ≤ longest → AreCellValues xs →
    (k : ℕ) → 1 ≤ k → k ≤ length xs → Glued p xs k ≡ term_value t xs

-- the automaton answers the value of a term of a model, on the cells that it looks at, which the series has
abbrev pub AnswersOver : Body → ModelTerm → Type 0
AnswersOver b t =
    (xs : List ℤ) → 1 ≤ length xs → length xs ≤ longest → LooksInside (length xs) t.window → AreCellValues xs →
    answer b (looked_at t.window xs) ≡ stated_value (stated_of t) xs

abbrev pub GluesOver : Pair → ModelTerm → Type 0
GluesOver p t =
    (xs : List ℤ) → length xs ≤ longest → LooksInside (length xs) t.window → AreCellValues xs →
    (k : ℕ) → 1 ≤ k → k ≤ length (looked_at t.window xs) →
    Glued p (looked_at t.window xs) k ≡ stated_value (stated_of t) xs

-- the machines have the bodies, and are split as the tables give the terms
abbrev pub HaveBodies : List Machine → List Term → Type 0
HaveBodies ms ts = map forward_of ms ≡ map machine_body ts

abbrev pub HavePairs : List Machine → List Term → Type 0
HavePairs ms ts = map pair_of ms ≡ map machine_pair ts

-- each of these has at most one proof
pub bodies_once : (ms : List Machine) (ts : List Term) → IsProp (HaveBodies ms ts)
bodies_once ms ts = Coded-set (Prim.hlevel (codes, formula_code)) (map forward_of ms) (map machine_body ts)

pub pairs_once : (ms : List Machine) (ts : List Term) → IsProp (HavePairs ms ts)
pairs_once ms ts = Coded-set (Prim.hlevel (codes, formula_code)) (map pair_of ms) (map machine_pair ts)
