-- The pair of a term whose pattern has a partner, and what a machine of it is seen as.
use Rattle.std.proofs.Common.{◌≡◌, ℕ, List, Some, None, Option, ◌∙◌, ap, sym, subst}
use Rattle.std.specs.Prelude.{option_map}
use Rattle.ts_base.specs.declared.range.Join.{Join}
use Rattle.ts_transducer.specs.declared.row.Row.{Row}
use Rattle.ts_pattern.specs.declared.term.Term.{Term}
use Rattle.ts_pattern.specs.declared.name.PatternId.{PatternId}
use Rattle.ts_pattern.specs.PatternTable.{pattern_a}
use Rattle.ts_automaton.specs.Body.{Body}
use Rattle.ts_seed.specs.SeedTable.{seed_table}
use Rattle.ts_decorate.specs.Decoration.{decorated_body}
use Rattle.ts_glue.specs.declared.machine.Half.{Half}
use Rattle.ts_glue.specs.Pairs.{Table, table_view, Pair, pair}
use Rattle.ts_glue.specs.Rules.{IsGluing}
use Rattle.ts_compile.specs.TermPairs.{glue_table_by}
use Rattle.ts_compile.proofs.Partners.{terms_glue}
use Rattle.ts_compile.specs.Compiled.{machine_body, pair_with, machine_pair}

-- the decorated rows of the table are the body of the term
pub body_is : (b : Body) (t : Term) (rows : List Row) (a : ℕ) → rows ≡ (seed_table t.pattern).rows → a ≡ pattern_a t.pattern →
    b ≡ decorated_body rows a t.aggregator t.feature → b ≡ machine_body t
body_is b t rows a same trim made =
    made ∙ ap (λ z. decorated_body z a t.aggregator t.feature) same ∙ ap (λ z. decorated_body (seed_table t.pattern).rows z t.aggregator t.feature) trim

-- what is made of the seed's rows, the partner's rows, the trim and the pairs of states is the pair of the term
pub pair_is : (t : Term) (partner : PatternId) (rows back : List Row) (a : ℕ) (joins : List Join) (f b : Body) (table : Table) →
    rows ≡ (seed_table t.pattern).rows → back ≡ (seed_table partner).rows → a ≡ pattern_a t.pattern → joins ≡ (seed_table t.pattern).joins →
    f ≡ decorated_body rows a t.aggregator t.feature → b ≡ decorated_body back a t.aggregator t.feature → table ≡ glue_table_by a t.feature joins →
    pair f b table ≡ pair_with t partner
pair_is t partner rows back a joins f b table e1 e2 e3 e4 e5 e6 e7 =
    let g = t.aggregator in
    let h = t.feature in
    let whole : List Row → List Row → ℕ → List Join → Pair =
    λ r s n js. pair (decorated_body r n g h) (decorated_body s n g h) (glue_table_by n h js) in
    ap (λ z. pair z b table) e5 ∙ ap (λ z. pair (decorated_body rows a g h) z table) e6
    ∙ ap (λ z. pair (decorated_body rows a g h) (decorated_body back a g h) z) e7
    ∙ ap (λ z. whole z back a joins) e1 ∙ ap (λ z. whole (seed_table t.pattern).rows z a joins) e2
    ∙ ap (λ z. whole (seed_table t.pattern).rows (seed_table partner).rows z joins) e3
    ∙ ap (λ z. whole (seed_table t.pattern).rows (seed_table partner).rows (pattern_a t.pattern) z) e4

-- it fits, and a machine of it is split as the tables say
pub made_by_tables : (t : Term) (partner : PatternId) (rows back : List Row) (a : ℕ) (joins : List Join) (f b : Body) (table : Table) →
    (seed_table t.pattern).partner ≡ Some partner → rows ≡ (seed_table t.pattern).rows → back ≡ (seed_table partner).rows → a ≡ pattern_a t.pattern →
    joins ≡ (seed_table t.pattern).joins → f ≡ decorated_body rows a t.aggregator t.feature → b ≡ decorated_body back a t.aggregator t.feature →
    table ≡ glue_table_by a t.feature joins → IsGluing (pair f b table) × ((o : Option Pair) → o ≡ Some (pair f b table) → o ≡ machine_pair t)
made_by_tables t partner rows back a joins f b table has e1 e2 e3 e4 e5 e6 e7 =
    let same = pair_is t partner rows back a joins f b table e1 e2 e3 e4 e5 e6 e7 in (
      subst IsGluing (sym same) (terms_glue t.pattern partner has t.aggregator t.feature),
      λ o made. made ∙ ap Some same ∙ ap (option_map (pair_with t)) (sym has),
    )

-- the forward automaton of a machine that was made of a pair
pub forward_found : (f : Body) (half : Option Half) (p : Pair) → option_map (λ h. pair f h.reverse (table_view h.table)) half ≡ Some p → f ≡ p.forward
forward_found f None p e = cc
forward_found f (Some h) p e =
    let same : pair f h.reverse (table_view h.table) ≡ p = cc in
    ap (λ z. z.forward) same
