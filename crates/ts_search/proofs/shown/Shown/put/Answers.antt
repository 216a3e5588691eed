use Rattle.std.proofs.Common.{◌≡◌, Bool, true, false, ◌-◌, sym, subst, w64, to_z, of_z}
use Rattle.std.specs.Prelude.{Contains}
use Rattle.std.proofs.lemmas.Int.{to_z-of_z}
use Rattle.ts_witness.specs.Witnesses.{series_of}
use Rattle.ts_search.proofs.Witnessed.{cells_after}
use Rattle.ts_search.proofs.shown.Shown.put.Goals as goal

pub returns-clause-held : goal.returns-clause-held
returns-clause-held c =
    let s = c.args.self.now in
    let r = c.args.r.now in
    record {
      witness = c.set.ensures.witness s.machine.now c.requires.held.witness;
      cells = cells_after (series_of s.witness) (series_of c.set.new.self) c.args.domain.now (c.args.k - 1) (to_z w64 (of_z w64 c.args.v)) c.requires.held.cells
          c.size.ensures.domain (subst (Contains c.args.domain.now) (sym (to_z-of_z w64 c.args.v c.ranges.v)) c.requires.there) c.set.ensures.series;
      spared = c.pass.ensures.spared s.machine.now r c.requires.held.spared;
      beside = c.pass.ensures.beside s.machine.now (series_of s.witness) (series_of c.set.new.self) c.requires.held.beside;
      alive = λ t. absurd (let z : ◌≡◌ {A = Bool} false true = t in cc);
    }
