use Rattle.ts_filter.proofs.Refuting.{only_tells, only_there}
use Rattle.ts_filter.proofs.term_requirements.TermRequirements.only.Goals as goal

pub returns-clause-refuted : goal.returns-clause-refuted
returns-clause-refuted c = λ s.
    only_tells c.args.self.all.now c.args.self.term s c.args.self.first c.args.self.end _ c.args.self.is_first c.args.self.none_behind c.if-self.false

pub returns-clause-alone : goal.returns-clause-alone
returns-clause-alone c = λ r.
    only_there c.args.self.all.now c.args.self.term c.args.self.first c.args.self.end _ c.args.self.is_first c.args.self.none_behind c.if-self.false r
