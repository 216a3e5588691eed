use Rattle.std.proofs.Common.{◌-◌, sym, subst, arith}
use Rattle.ts_witness.specs.Witnesses.{series_of}
use Rattle.ts_search.specs.Shown.{Seats}
use Rattle.ts_search.proofs.Witnessed.{unchanged}
use Rattle.ts_search.proofs.shown.Shown.better.Goals as goal

pub returns-then-left-eq0-clause-seats : goal.returns-then-left-eq0-clause-seats
returns-then-left-eq0-clause-seats c =
    let from = c.requires.from in let to = c.requires.to in
    unchanged (series_of c.args.self.now.witness) c.args.domain.now (c.args.k - 1) (omega (arith, from, to)) c.requires.there

pub returns-then-v-now-clause-seats : goal.returns-then-v-now-clause-seats
returns-then-v-now-clause-seats c =
    let from = c.requires.from in let to = c.requires.to in
    let x = series_of c.args.self.now.witness in
    subst (Seats x (c.args.k - 1) c.args.domain.now) (sym c.chosen-v.ensures.series)
    (unchanged x c.args.domain.now (c.args.k - 1) (omega (arith, from, to)) c.requires.there)
