use Rattle.std.proofs.Common.{Some, sym, ap, ◌∙◌}
use Rattle.std.proofs.lemmas.Int.{to_z-of_z}
use mir.Syntax.{w64}
use Rattle.ts_domain.proofs.MarkedSets.{at_contains}
use Rattle.ts_domain.proofs.Stretches.{run_is}
use Rattle.ts_domain.proofs.domain.Domain.run_from.Goals as goal

pub run_end-requires : goal.run_end-requires
run_end-requires c =
    at_contains c.args.self.now c.args.i _ (c.nth_of-low.ensures ∙
    ap (λ v. Some v) (sym (to_z-of_z w64 c.nth_of-low.result (record { sfits = c.nth_of-low.type_inv }))))

pub returns-clause-from : goal.returns-clause-from
returns-clause-from c =
    (run_is c.args.self.now c.args.i c.nth_of-low.result c.run_end.result c.run_end.ensures.domain (record { sfits = c.nth_of-low.type_inv })
    (record { sfits = c.run_end.type_inv }) c.nth_of-low.ensures c.run_end.ensures.from c.run_end.ensures.all).0

pub returns-clause-to : goal.returns-clause-to
returns-clause-to c =
    (run_is c.args.self.now c.args.i c.nth_of-low.result c.run_end.result c.run_end.ensures.domain (record { sfits = c.nth_of-low.type_inv })
    (record { sfits = c.run_end.type_inv }) c.nth_of-low.ensures c.run_end.ensures.from c.run_end.ensures.all).2

pub returns-clause-stand : goal.returns-clause-stand
returns-clause-stand c =
    (run_is c.args.self.now c.args.i c.nth_of-low.result c.run_end.result c.run_end.ensures.domain (record { sfits = c.nth_of-low.type_inv })
    (record { sfits = c.run_end.type_inv }) c.nth_of-low.ensures c.run_end.ensures.from c.run_end.ensures.all).3
