-- What is looked at, as the subject of the checks.
use Rattle.ts_regex.specs.Shape.{Shape}
use Rattle.ts_pattern.specs.Closed.{Subject}
use Rattle.ts_validate.specs.declared.trial.Trial.{Trial}
use Rattle.ts_validate.specs.Reaches.{against}

abbrev pub subject_of : Trial → Subject Shape
subject_of t = against t.rows.now t.pattern.now t.plan.now
