-- What contracts see of a validated transducer: it, and the pattern that it was validated against.
use Rattle.ts_transducer.specs.declared.transducer.Transducer.{Transducer}
use Rattle.ts_pattern.specs.declared.pattern.Pattern.{Pattern}
use Rattle.ts_validate.specs.declared.validated.Validated.{Validated}

abbrev pub transducer_of : Validated → Transducer
transducer_of v = v.transducer

abbrev pub pattern_of : Validated → Pattern
pattern_of v = v.pattern
