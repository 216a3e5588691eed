use Rattle.std.proofs.Common.{◌∙◌}
use Rattle.ts_model.proofs.TermLaws.{found_term}
use Rattle.ts_model.proofs.draft.Draft.term_at.Goals as goal

pub returns-in-Some : goal.returns-in-Some
returns-in-Some c = c.in-Some.ensures.index ∙ found_term c.args.name.now c.args.self.now.terms.entries c.args.self.now.windows.items

pub returns-in-None : goal.returns-in-None
returns-in-None c = c.in-None.ensures.index ∙ found_term c.args.name.now c.args.self.now.terms.entries c.args.self.now.windows.items
