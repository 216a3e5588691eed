use Rattle.std.proofs.Common.{subst}
use Rattle.ts_regex.specs.NormalForm.{residual}
use Rattle.ts_pattern.specs.Plans.{shape_at}
use Rattle.ts_user.specs.Books.{residuals_of, IsAfter}
use Rattle.ts_user.proofs.Steps.{added_some}
use Rattle.ts_user.proofs.step.add_left.Goals as goal

pub returns-in_ok-add-in-Some-clause-added : goal.returns-in_ok-add-in-Some-clause-added
returns-in_ok-add-in-Some-clause-added c =
    let old = residuals_of c.args.book.now in
    let new = residuals_of c.after.new.self in
    let e = c.args.entry in
    added_some old new c.args.letter e c.args.kept.now.live.items c.add.new.self.live.items c.in-Some.residual c.requires.listed
    (subst (λ z. IsAfter old new (residual (shape_at old e.residual) c.args.letter) z) c.in-Some.is c.in_ok-after.ensures.after)
    c.in_ok-after.ensures.book.once c.in_ok-add-in-Some.ensures.added
