-- Each seed with its plan is closed, by the test, which computes; and a plan is short.
use Rattle.std.specs.Prelude.{◌≡◌, ℕ, ◌+◌, ◌≤◌, IsTrue, List, [], ◌∷◌, ◌++◌, length, refl}
use Rattle.std.proofs.Common.{sym, ◌∙◌, ap, subst, arith, length-append}
use Rattle.std.proofs.lemmas.Bool.{and_parts}
use Rattle.std.proofs.lemmas.List.{length-map}
use Rattle.ts_base.specs.declared.letter.Letter.{Letter}
use Rattle.ts_regex.specs.Shape.{Shape, shape_of}
use Rattle.ts_regex.specs.NormalForm.{normal_form, residual}
use Rattle.ts_pattern.specs.declared.plan.Plan.{Plan}
use Rattle.ts_transducer.specs.declared.row.Row.{Row}
use Rattle.ts_pattern.specs.declared.name.PatternId.{PatternId}
use Rattle.ts_pattern.specs.declared.name.PatternId.TheVariants.{Increasing, Decreasing, Steady, IncreasingSequence, DecreasingSequence, StrictlyIncreasingSequence, StrictlyDecreasingSequence, SteadySequence, IncreasingTerrace, DecreasingTerrace, Inflexion, Peak, Valley, Plateau, Plain, ProperPlateau, ProperPlain, Summit, Gorge, Zigzag, DipOnIncreasingSequence, BumpOnDecreasingSequence}
use Rattle.ts_pattern.specs.PatternTable.{pattern_shape, pattern_b}
use Rattle.ts_pattern.specs.Closed.{IsClosed}
use Rattle.ts_pattern.specs.Plans.{PlainPlan, plain_configuration, plain_plan, shape_at, is_plan_of, all_meet, is_closed, subject}
use Rattle.ts_pattern.proofs.CallerLemmas.{closed_by_test}
use Rattle.ts_seed.specs.SeedTable.{seed_table, table_of}
use Rattle.ts_seed.specs.Table.{Table, residuals_from, plan_of}

-- the test, on each seed
all_tested : (id : PatternId) → IsTrue (is_closed (seed_table id).rows (pattern_shape id) (pattern_b id) (seed_table id).plan)
all_tested Increasing = refl
all_tested Decreasing = refl
all_tested Steady = refl
all_tested IncreasingSequence = refl
all_tested DecreasingSequence = refl
all_tested StrictlyIncreasingSequence = refl
all_tested StrictlyDecreasingSequence = refl
all_tested SteadySequence = refl
all_tested IncreasingTerrace = refl
all_tested DecreasingTerrace = refl
all_tested Inflexion = refl
all_tested Peak = refl
all_tested Valley = refl
all_tested Plateau = refl
all_tested Plain = refl
all_tested ProperPlateau = refl
all_tested ProperPlain = refl
all_tested Summit = refl
all_tested Gorge = refl
all_tested Zigzag = refl
all_tested DipOnIncreasingSequence = refl
all_tested BumpOnDecreasingSequence = refl

-- where rows, expression and plan are those of a seed, what its test shows holds
module _ (id : PatternId) (t : Table) (rows : List Row) (p : Shape) (plan : PlainPlan) (same_table : t ≡ table_of id) (same_rows : rows ≡ t.rows)
    (same_shape : p ≡ pattern_shape id) (same_plan : plan ≡ plan_of p t) where
  rows_are : rows ≡ (seed_table id).rows
  rows_are = same_rows ∙ ap (λ u. u.rows) same_table

  plan_is : plan ≡ (seed_table id).plan
  plan_is = same_plan ∙ ap (λ u. plan_of p u) same_table ∙ ap (λ q. plan_of q (table_of id)) same_shape

  test_true : IsTrue (is_closed rows (pattern_shape id) (pattern_b id) plan)
  test_true =
      subst (λ q. IsTrue (is_closed rows (pattern_shape id) (pattern_b id) q)) (sym plan_is)
      (subst (λ rs. IsTrue (is_closed rs (pattern_shape id) (pattern_b id) (seed_table id).plan)) (sym rows_are) (all_tested id))

  pub plan_closed : IsClosed (subject rows (pattern_shape id) (pattern_b id) plan)
  plan_closed = closed_by_test rows (pattern_shape id) (pattern_b id) plan test_true

  pub plan_fits : IsTrue (is_plan_of (pattern_shape id) plan)
  plan_fits = (and_parts (is_plan_of (pattern_shape id) plan) (all_meet (subject rows (pattern_shape id) (pattern_b id) plan)) test_true).0

-- the transducer of a seed, with its plan
pub rows_closed : (id : PatternId) (t : Table) (rows : List Row) → t ≡ table_of id → rows ≡ t.rows →
    IsClosed (subject rows (pattern_shape id) (pattern_b id) (seed_table id).plan)
rows_closed id t rows same_table same_rows =
    plan_closed id t rows (pattern_shape id) (seed_table id).plan same_table same_rows refl (ap (λ u. plan_of (pattern_shape id) u) (sym same_table))

-- how long the lists of a plan are

residuals_count : (rs : List Shape) (os : List (ℕ × Letter)) → length (residuals_from rs os) ≡ length rs + length os
residuals_count rs [] = omega arith
residuals_count rs (o ∷ os) =
    let r = residual (shape_at rs o.0) o.1 in
    let h = residuals_count (rs ++ r ∷ []) os in
    let n = length-append rs (r ∷ []) in
    omega arith

few_lines : (id : PatternId) → (length (table_of id).residuals ≤ 8) × (length (table_of id).configurations ≤ 11)
few_lines Increasing = (omega arith, omega arith)
few_lines Decreasing = (omega arith, omega arith)
few_lines Steady = (omega arith, omega arith)
few_lines IncreasingSequence = (omega arith, omega arith)
few_lines DecreasingSequence = (omega arith, omega arith)
few_lines StrictlyIncreasingSequence = (omega arith, omega arith)
few_lines StrictlyDecreasingSequence = (omega arith, omega arith)
few_lines SteadySequence = (omega arith, omega arith)
few_lines IncreasingTerrace = (omega arith, omega arith)
few_lines DecreasingTerrace = (omega arith, omega arith)
few_lines Inflexion = (omega arith, omega arith)
few_lines Peak = (omega arith, omega arith)
few_lines Valley = (omega arith, omega arith)
few_lines Plateau = (omega arith, omega arith)
few_lines Plain = (omega arith, omega arith)
few_lines ProperPlateau = (omega arith, omega arith)
few_lines ProperPlain = (omega arith, omega arith)
few_lines Summit = (omega arith, omega arith)
few_lines Gorge = (omega arith, omega arith)
few_lines Zigzag = (omega arith, omega arith)
few_lines DipOnIncreasingSequence = (omega arith, omega arith)
few_lines BumpOnDecreasingSequence = (omega arith, omega arith)

-- of a seed's plan
pub few_residuals : (id : PatternId) (t : Table) (plan : Plan) (p : Shape) → t ≡ table_of id → plain_plan plan ≡ plan_of p t → length plan.residuals.items ≤ 9
few_residuals id t plan p same_table same_plan =
    let made = ap (λ (q : PlainPlan). length q.residuals) same_plan in
    let kept = length-map plan.residuals.items (λ r. shape_of r) in
    let count = residuals_count (normal_form p ∷ []) t.residuals in
    let lines = ap (λ (u : Table). length u.residuals) same_table in
    let few = (few_lines id).0 in
    omega arith

pub few_configurations : (id : PatternId) (t : Table) (plan : Plan) (p : Shape) → t ≡ table_of id → plain_plan plan ≡ plan_of p t →
    length plan.configurations.items ≤ 11
few_configurations id t plan p same_table same_plan =
    let made = ap (λ (q : PlainPlan). length q.configurations) same_plan in
    let kept = length-map plan.configurations.items (λ x. plain_configuration x) in
    let lines = ap (λ (u : Table). length u.configurations) same_table in
    let few = (few_lines id).1 in
    omega arith
