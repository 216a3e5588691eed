use Rattle.std.proofs.Common.{ap, ◌∙◌}
use Rattle.ts_model.specs.Views.{window_at}
use Rattle.ts_model.proofs.TermWindows.{term_there}
use Rattle.ts_model.proofs.model.Model.term.Goals as goal

pub returns : goal.returns
returns c =
    let m = c.args.self.now in
    term_there m.terms.entries m.windows.items c.args.place c.index.result.now c.window_at.result c.index.ensures
    (c.window_at.ensures ∙ ap (λ ws. window_at ws c.args.place) c.deref.ensures.value)
