use Rattle.std.proofs.Common.{ap, ◌∙◌}
use Rattle.ts_compile.proofs.Texts.{letter_there}
use Rattle.ts_compile.proofs.glue_text.name_at.Goals as goal

pub returns : goal.returns
returns c = ap (λ s. s.name) c.state.ensures.value ∙ letter_there c.args.automaton.now.states c.args.q
