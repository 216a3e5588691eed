-- The seed of each pattern before `validate`: with the pattern's expression, its trim before an occurrence and the
-- seed's own plan no refusal can come, so that the one error is lack of memory.
use Rattle.std.specs.Prelude.{◌≡◌}
use Rattle.ts_regex.specs.Shape.{shape_of}
use Rattle.ts_transducer.specs.Rows.{rows_of}
use Rattle.ts_pattern.specs.declared.name.PatternId.{PatternId}
use Rattle.ts_pattern.specs.declared.pattern.Pattern.{Pattern}
use Rattle.ts_pattern.specs.PatternTable.{pattern_shape, pattern_b}
use Rattle.ts_validate.specs.declared.stop.ValidateStop.{ValidateStop}
use Rattle.ts_validate.specs.declared.stop.ValidateStop.TheVariants.{Memory}
use Rattle.ts_validate.specs.Reaches.{against}
use Rattle.ts_validate.specs.Refusals.{IsStop}
use Rattle.ts_seed.specs.declared.seed.Seed.{Seed}
use Rattle.ts_seed.specs.Seeds.{seed_of}
use Rattle.ts_seed.specs.SeedTable.{seed_table}

-- what is asked for by a pattern's name
pub record AreOf (id : PatternId) (s : Seed) (p : Pattern) : Type 0 where
  pub seed : seed_of s ≡ seed_table id
  pub shape : shape_of p.regex ≡ pattern_shape id
  pub before : p.b ≡ pattern_b id

abbrev pub SeedsAreValidated : Type 0
SeedsAreValidated =
    (id : PatternId) (s : Seed) (p : Pattern) → AreOf id s p →
    (e : ValidateStop) → IsStop (against (rows_of s.transducer) p s.plan) e → e ≡ Memory
