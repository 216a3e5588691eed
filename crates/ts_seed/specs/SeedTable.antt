-- The seed of each pattern: its transducer, its plan, and how an occurrence is split between a forward and a reverse
-- reading (Global Constraint Catalog, Volume II).
use Rattle.std.specs.Prelude.{Bool, true, nat_eq, nat_lt, ◌&&◌, ◌||◌, List, [], ◌∷◌, Option, Some, None}
use Rattle.ts_base.specs.declared.range.Join.{Join}
use Rattle.ts_transducer.specs.declared.row.Row.{Row}
use Rattle.ts_pattern.specs.declared.name.PatternId.{PatternId}
use Rattle.ts_pattern.specs.declared.name.PatternId.TheVariants.{Increasing, Decreasing, Steady, IncreasingSequence, DecreasingSequence, StrictlyIncreasingSequence, StrictlyDecreasingSequence, SteadySequence, IncreasingTerrace, DecreasingTerrace, Inflexion, Peak, Valley, Plateau, Plain, ProperPlateau, ProperPlain, Summit, Gorge, Zigzag, DipOnIncreasingSequence, BumpOnDecreasingSequence}
use Rattle.ts_pattern.specs.PatternTable.{pattern_shape}
use Rattle.ts_pattern.specs.Plans.{PlainPlan}
use Rattle.ts_seed.specs.declared.table.Reading.{Reading}
use Rattle.ts_seed.specs.declared.table.Reading.TheVariants.{Printed, Mirrored}
use Rattle.ts_seed.specs.Table.{Table, mirror_of, plan_of}
use Rattle.ts_seed.specs.Sequences.{increasing, steady, increasing_sequence, strictly_increasing_sequence, steady_sequence}
use Rattle.ts_seed.specs.Terraces.{increasing_terrace, proper_plateau}
use Rattle.ts_seed.specs.Plateaus.{plateau}
use Rattle.ts_seed.specs.Peaks.{inflexion, peak}
use Rattle.ts_seed.specs.Summits.{summit}
use Rattle.ts_seed.specs.Zigzags.{zigzag}
use Rattle.ts_seed.specs.Dips.{dip_on_increasing_sequence}

-- the table of the pattern; `<` and `>` are exchanged in the mirrored ones
abbrev pub table_of : PatternId → Table
table_of Increasing = increasing
table_of Decreasing = mirror_of increasing
table_of Steady = steady
table_of IncreasingSequence = increasing_sequence
table_of DecreasingSequence = mirror_of increasing_sequence
table_of StrictlyIncreasingSequence = strictly_increasing_sequence
table_of StrictlyDecreasingSequence = mirror_of strictly_increasing_sequence
table_of SteadySequence = steady_sequence
table_of IncreasingTerrace = increasing_terrace
table_of DecreasingTerrace = mirror_of increasing_terrace
table_of Inflexion = inflexion
table_of Peak = peak
table_of Valley = mirror_of peak
table_of Plateau = plateau
table_of Plain = mirror_of plateau
table_of ProperPlateau = proper_plateau
table_of ProperPlain = mirror_of proper_plateau
table_of Summit = summit
table_of Gorge = mirror_of summit
table_of Zigzag = zigzag
table_of DipOnIncreasingSequence = dip_on_increasing_sequence
table_of BumpOnDecreasingSequence = mirror_of dip_on_increasing_sequence

-- how a printed table is read to be that of the pattern
abbrev pub reading_of : PatternId → Reading
reading_of Decreasing = Mirrored
reading_of DecreasingSequence = Mirrored
reading_of StrictlyDecreasingSequence = Mirrored
reading_of DecreasingTerrace = Mirrored
reading_of Valley = Mirrored
reading_of Plain = Mirrored
reading_of ProperPlain = Mirrored
reading_of Gorge = Mirrored
reading_of BumpOnDecreasingSequence = Mirrored
reading_of id = Printed

-- the pattern whose e-ranges are the same cells where the series is read from its end, if there is one
abbrev pub partner_of : PatternId → Option PatternId
partner_of Increasing = Some Decreasing
partner_of Decreasing = Some Increasing
partner_of Steady = Some Steady
partner_of IncreasingSequence = Some DecreasingSequence
partner_of DecreasingSequence = Some IncreasingSequence
partner_of StrictlyIncreasingSequence = Some StrictlyDecreasingSequence
partner_of StrictlyDecreasingSequence = Some StrictlyIncreasingSequence
partner_of SteadySequence = Some SteadySequence
partner_of IncreasingTerrace = Some DecreasingTerrace
partner_of DecreasingTerrace = Some IncreasingTerrace
partner_of Inflexion = None
partner_of Peak = Some Peak
partner_of Valley = Some Valley
partner_of Plateau = Some Plateau
partner_of Plain = Some Plain
partner_of ProperPlateau = Some ProperPlateau
partner_of ProperPlain = Some ProperPlain
partner_of Summit = Some Summit
partner_of Gorge = Some Gorge
partner_of Zigzag = Some Zigzag
partner_of DipOnIncreasingSequence = None
partner_of BumpOnDecreasingSequence = None

-- by the forward states, and for one of them by the reverse states
abbrev pub are_rising : List Join → Bool
are_rising [] = true
are_rising (j ∷ []) = true
are_rising (j ∷ k ∷ ks) =
    (nat_lt j.forward k.forward || (nat_eq j.forward k.forward && nat_lt j.reverse k.reverse)) && are_rising (k ∷ ks)

pub record SeedTable : Type 0 where
  pub rows : List Row
  pub plan : PlainPlan
  pub partner : Option PatternId
  pub joins : List Join

abbrev pub seed_table : PatternId → SeedTable
seed_table id =
    record {
      rows = (table_of id).rows;
      plan = plan_of (pattern_shape id) (table_of id);
      partner = partner_of id;
      joins = (table_of id).joins;
    }
