use Rattle.ts_filter.proofs.SoundLaws.{values_are_sound}
use Rattle.ts_filter.proofs.laws.values_are_sound.Goals as goal

pub returns : goal.returns
returns c = values_are_sound
