-- The pairs of states of each seed stand in order, by the test, which computes.
use Rattle.std.specs.Prelude.{◌≡◌, true, refl}
use Rattle.ts_pattern.specs.declared.name.PatternId.{PatternId}
use Rattle.ts_pattern.specs.declared.name.PatternId.TheVariants.{Increasing, Decreasing, Steady, IncreasingSequence, DecreasingSequence, StrictlyIncreasingSequence, StrictlyDecreasingSequence, SteadySequence, IncreasingTerrace, DecreasingTerrace, Inflexion, Peak, Valley, Plateau, Plain, ProperPlateau, ProperPlain, Summit, Gorge, Zigzag, DipOnIncreasingSequence, BumpOnDecreasingSequence}
use Rattle.ts_seed.specs.SeedTable.{seed_table, are_rising}

pub joins_rise : (id : PatternId) → are_rising (seed_table id).joins ≡ true
joins_rise Increasing = refl
joins_rise Decreasing = refl
joins_rise Steady = refl
joins_rise IncreasingSequence = refl
joins_rise DecreasingSequence = refl
joins_rise StrictlyIncreasingSequence = refl
joins_rise StrictlyDecreasingSequence = refl
joins_rise SteadySequence = refl
joins_rise IncreasingTerrace = refl
joins_rise DecreasingTerrace = refl
joins_rise Inflexion = refl
joins_rise Peak = refl
joins_rise Valley = refl
joins_rise Plateau = refl
joins_rise Plain = refl
joins_rise ProperPlateau = refl
joins_rise ProperPlain = refl
joins_rise Summit = refl
joins_rise Gorge = refl
joins_rise Zigzag = refl
joins_rise DipOnIncreasingSequence = refl
joins_rise BumpOnDecreasingSequence = refl
