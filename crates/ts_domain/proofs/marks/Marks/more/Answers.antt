use Rattle.std.proofs.Common.{ap, sym, ◌∙◌}
use Rattle.ts_domain.specs.Marks.{gain}
use Rattle.ts_domain.specs.MarkTree.{marks_of}
use Rattle.ts_domain.proofs.marks.Marks.more.Goals as goal

pub returns-in-Empty : goal.returns-in-Empty
unfolding gain
returns-in-Empty c = ap (λ r. gain (marks_of r)) (sym c.in-Empty.is) ∙ ap gain c.self.view_is
