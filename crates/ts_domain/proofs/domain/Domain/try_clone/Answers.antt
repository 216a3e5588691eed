use Rattle.std.proofs.Common.{rules, refl}
use Rattle.ts_domain.specs.Pieces.{IsMarked}
use Rattle.ts_domain.proofs.MarkedSets.{marked_domain}
use Rattle.ts_domain.proofs.domain.Domain.try_clone.Goals as goal

pub returns-clause-domain : goal.returns-clause-domain
returns-clause-domain c =
    let is : IsMarked c.in_ok-clone.field-0.value.items.items c.self.inside.piece c.in_ok-try_clone.field-0 = search rules in
    marked_domain c.in_ok-clone.field-0.value.items.items c.self.inside.piece c.in_ok-try_clone.field-0 _ refl is
