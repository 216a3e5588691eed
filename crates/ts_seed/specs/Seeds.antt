-- What contracts see of a seed.
use Rattle.ts_transducer.specs.Rows.{rows_of}
use Rattle.ts_pattern.specs.Plans.{plain_plan}
use Rattle.ts_seed.specs.declared.seed.Seed.{Seed}
use Rattle.ts_seed.specs.SeedTable.{SeedTable}

abbrev pub seed_of : Seed → SeedTable
seed_of s = record { rows = rows_of s.transducer; plan = plain_plan s.plan; partner = s.partner; joins = s.joins.items }
