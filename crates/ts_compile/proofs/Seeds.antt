-- A refusal would show that a seed isn't closed.
use Rattle.std.specs.Prelude.{refl}
use Rattle.std.proofs.Common.{sym, ap, subst}
use Rattle.ts_regex.specs.Shape.{shape_of}
use Rattle.ts_transducer.specs.Rows.{rows_of}
use Rattle.ts_pattern.specs.declared.name.PatternId.{PatternId}
use Rattle.ts_pattern.specs.declared.pattern.Pattern.{Pattern}
use Rattle.ts_pattern.specs.PatternTable.{pattern_shape, pattern_b}
use Rattle.ts_pattern.specs.Closed.{IsClosed}
use Rattle.ts_pattern.specs.Plans.{plain_plan, subject}
use Rattle.ts_validate.specs.declared.stop.ValidateStop.TheVariants.{Refused, Memory}
use Rattle.ts_validate.specs.Reaches.{against}
use Rattle.ts_seed.specs.declared.seed.Seed.{Seed}
use Rattle.ts_seed.specs.SeedTable.{table_of}
use Rattle.ts_seed.proofs.Closed.{rows_closed}
use Rattle.ts_compile.specs.Seeds.{AreOf, SeedsAreValidated}

seed_closed : (id : PatternId) (s : Seed) (p : Pattern) → AreOf id s p → IsClosed (against (rows_of s.transducer) p s.plan)
seed_closed id s p h =
    let rows = rows_of s.transducer in
    let plan = plain_plan s.plan in
    subst (λ z. IsClosed (subject rows (shape_of p.regex) z plan)) (sym h.before)
    (subst (λ z. IsClosed (subject rows z (pattern_b id) plan)) (sym h.shape)
    (subst (λ z. IsClosed (subject rows (pattern_shape id) (pattern_b id) z)) (sym (ap (λ t. t.plan) h.seed))
    (rows_closed id (table_of id) rows refl (ap (λ t. t.rows) h.seed))))

pub seeds_are_validated : SeedsAreValidated
seeds_are_validated id s p h (Refused configuration letter signature) stop = absurd (stop.refutes (seed_closed id s p h))
seeds_are_validated id s p h Memory stop = refl
