use Rattle.ts_spans.proofs.OfTerms.{machines_answer}
use Rattle.ts_spans.proofs.laws.machines_answer.Goals as goal

pub returns : goal.returns
returns c = machines_answer
