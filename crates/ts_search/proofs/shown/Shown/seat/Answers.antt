use Rattle.std.proofs.Common.{rules, ◌-◌, subst, w64}
use Rattle.std.specs.Prelude.{Contains}
use Rattle.std.proofs.lemmas.Int.{to_z-of_z}
use Rattle.ts_witness.specs.Witnesses.{series_of}
use Rattle.ts_search.specs.Shown.{Seats}
use Rattle.ts_search.proofs.Witnessed.{stays_seated}
use Rattle.ts_search.proofs.shown.Shown.seat.Goals as goal

-- the value is in the domain already
pub returns-then-contains-clause-seats : goal.returns-then-contains-clause-seats
returns-then-contains-clause-seats c =
    stays_seated (series_of c.args.self.now.witness) c.args.domain.now (c.args.k - 1) c.cell.result c.cell.ensures
    (subst (Contains c.args.domain.now) (to_z-of_z w64 c.cell.result (search rules)) (c.contains.ensures.0 c.if-contains.true))

pub returns-clause-seats : goal.returns-clause-seats
returns-clause-seats c =
    subst (λ x. Seats x (c.args.k - 1) c.args.domain.now (series_of c.put.new.self.witness)) c.chosen-v.ensures.series c.put.ensures.seats
