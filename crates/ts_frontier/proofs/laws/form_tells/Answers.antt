use Rattle.ts_frontier.proofs.Halves.{forms_tell}
use Rattle.ts_frontier.proofs.laws.form_tells.Goals as goal

pub returns : goal.returns
returns c = forms_tell
