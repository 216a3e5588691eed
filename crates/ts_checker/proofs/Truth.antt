-- What is accepted is true: the spans of a model's terms hold their values.
use Rattle.ts_filter.proofs.Answered.{accepted_holds}
use Rattle.ts_filter.proofs.SoundLaws.{values_are_sound}
use Rattle.ts_spans.specs.Machines.{spans_in}
use Rattle.ts_spans.proofs.OfTerms.{spans_hold_values}
use Rattle.ts_checker.specs.Laws.{AcceptedIsTrue}

pub accepted_is_true : AcceptedIsTrue
accepted_is_true m c whole box a = accepted_holds m (spans_in m) c box (values_are_sound m (spans_in m) (spans_hold_values m whole)) a
