-- The seeds' tables keep what a decorated table is asked for, and the machine of each term answers its value.
use Rattle.std.specs.Prelude.{◌≡◌, ◌≤◌, ℤ, true, IsTrue, List, length, Some, refl}
use Rattle.std.proofs.Common.{◌∙◌, ap, arith}
use Rattle.ts_base.specs.Signature.{signature_of}
use Rattle.ts_transducer.specs.Typing.{is_typed}
use Rattle.ts_pattern.specs.declared.name.Aggregator.{Aggregator}
use Rattle.ts_pattern.specs.declared.name.Feature.{Feature}
use Rattle.ts_pattern.specs.declared.term.Term.{Term}
use Rattle.ts_pattern.specs.declared.name.PatternId.{PatternId}
use Rattle.ts_pattern.specs.declared.name.PatternId.TheVariants.{Increasing, Decreasing, Steady, IncreasingSequence, DecreasingSequence, StrictlyIncreasingSequence, StrictlyDecreasingSequence, SteadySequence, IncreasingTerrace, DecreasingTerrace, Inflexion, Peak, Valley, Plateau, Plain, ProperPlateau, ProperPlain, Summit, Gorge, Zigzag, DipOnIncreasingSequence, BumpOnDecreasingSequence}
use Rattle.ts_pattern.specs.PatternTable.{pattern_shape, pattern_b, pattern_a}
use Rattle.ts_pattern.specs.TermValue.{aggregate_of_ranges, value_of}
use Rattle.ts_validate.proofs.Law.{closed_valid}
use Rattle.ts_automaton.specs.AutomatonRun.{answer, AreCellValues, HoldsMark}
use Rattle.ts_automaton.specs.Typing.{is_automaton}
use Rattle.ts_seed.specs.SeedTable.{seed_table, table_of}
use Rattle.ts_seed.proofs.Closed.{rows_closed}
use Rattle.ts_decorate.specs.Answers.{longest}
use Rattle.ts_decorate.proofs.CallerLemmas.{answers_ranges, is_marked}
use Rattle.ts_decorate.proofs.Typed.{is_decorated_automaton}
use Rattle.ts_glue.proofs.Locality.{local_is_answer}
use Rattle.ts_compile.specs.Compiled.{AnswersTerm, GluesTerm, machine_body, pair_with}
use Rattle.ts_compile.specs.TermPairs.{body_by}
use Rattle.ts_compile.proofs.Partners.{terms_are_local}

-- the rows are typed and at most eight, and the trim is 0 or 1
pub table_fits : (id : PatternId) → (is_typed (seed_table id).rows ≡ true) × (length (seed_table id).rows ≤ 8) × (pattern_a id ≤ 1)
table_fits Increasing = (refl, omega arith, omega arith)
table_fits Decreasing = (refl, omega arith, omega arith)
table_fits Steady = (refl, omega arith, omega arith)
table_fits IncreasingSequence = (refl, omega arith, omega arith)
table_fits DecreasingSequence = (refl, omega arith, omega arith)
table_fits StrictlyIncreasingSequence = (refl, omega arith, omega arith)
table_fits StrictlyDecreasingSequence = (refl, omega arith, omega arith)
table_fits SteadySequence = (refl, omega arith, omega arith)
table_fits IncreasingTerrace = (refl, omega arith, omega arith)
table_fits DecreasingTerrace = (refl, omega arith, omega arith)
table_fits Inflexion = (refl, omega arith, omega arith)
table_fits Peak = (refl, omega arith, omega arith)
table_fits Valley = (refl, omega arith, omega arith)
table_fits Plateau = (refl, omega arith, omega arith)
table_fits Plain = (refl, omega arith, omega arith)
table_fits ProperPlateau = (refl, omega arith, omega arith)
table_fits ProperPlain = (refl, omega arith, omega arith)
table_fits Summit = (refl, omega arith, omega arith)
table_fits Gorge = (refl, omega arith, omega arith)
table_fits Zigzag = (refl, omega arith, omega arith)
table_fits DipOnIncreasingSequence = (refl, omega arith, omega arith)
table_fits BumpOnDecreasingSequence = (refl, omega arith, omega arith)

-- the automaton of a pattern by the rows of a seed, its own or its partner's, keeps every rule of automata
pub body_automaton : (id other : PatternId) (g : Aggregator) (f : Feature) → IsTrue (is_automaton (body_by id other g f))
body_automaton id other g f =
    let fits = table_fits other in
    is_decorated_automaton (seed_table other).rows fits.0 fits.1 (pattern_a id) g f

-- by its own rows it keeps its mark, and answers the value, since its seed is closed
pub body_marked : (id : PatternId) (g : Aggregator) (f : Feature) → HoldsMark (body_by id id g f)
body_marked id g f =
    let fits = table_fits id in
    is_marked (seed_table id).rows fits.0 fits.1 (pattern_a id) fits.2 g f

pub body_answers : (id : PatternId) (g : Aggregator) (f : Feature) (xs : List ℤ) → 1 ≤ length xs → length xs ≤ longest → AreCellValues xs →
    answer (body_by id id g f) xs ≡ value_of g f id xs
unfolding value_of
body_answers id g f xs some short cells =
    let fits = table_fits id in
    let rows = (seed_table id).rows in
    answers_ranges rows fits.0 fits.1 (pattern_a id) fits.2 g f xs some short cells
    ∙ ap (λ z. aggregate_of_ranges g f z xs)
    (closed_valid rows fits.0 (pattern_shape id) (pattern_b id) (pattern_a id) (seed_table id).plan (rows_closed id (table_of id) (table_of id).rows refl refl)
    (signature_of xs))

pub compiled_answers : (t : Term) → AnswersTerm (machine_body t) t
compiled_answers t = body_answers t.pattern t.aggregator t.feature

pub compiled_marked : (t : Term) → HoldsMark (machine_body t)
compiled_marked t = body_marked t.pattern t.aggregator t.feature

-- where the pattern has a partner, the glued value is the forward answer, which is the value
pub glued_value : (t : Term) (partner : PatternId) → (seed_table t.pattern).partner ≡ Some partner → GluesTerm (pair_with t partner) t
glued_value t partner has xs few cells k some most =
    local_is_answer longest (pair_with t partner) (terms_are_local t.pattern partner has t.aggregator t.feature) xs few cells k some most
    ∙ compiled_answers t xs (omega (arith, some, most)) few cells
