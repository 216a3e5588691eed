use Rattle.std.specs.Prelude.{MatchOption}
use Rattle.std.proofs.Common.{◌≡◌, false, sym, subst}
use Rattle.ts_automaton.specs.Body.{move_of}
use Rattle.ts_hull.specs.Cuts.{all_swept, cut_of}
use Rattle.ts_sweep.specs.AnyParts.{AreReadingsOf}
use Rattle.ts_sweep.proofs.Unswept.{unswept_f, unswept_r}
use Rattle.ts_sweep.proofs.swept.Readings.of.Goals as goal

pub returns-in_err-f : goal.returns-in_err-f
returns-in_err-f c =
    let m = move_of c.args.t.now in
    subst (λ o. MatchOption o (all_swept (cut_of m) ≡ false) (AreReadingsOf m)) (sym c.from_residual-in_err-f.ensures)
    (unswept_f (cut_of m) c.in_err-f.ensures)

pub returns-in_err-r : goal.returns-in_err-r
returns-in_err-r c =
    let m = move_of c.args.t.now in
    subst (λ o. MatchOption o (all_swept (cut_of m) ≡ false) (AreReadingsOf m)) (sym c.from_residual-in_err-r.ensures)
    (unswept_r (cut_of m) c.in_err-r.ensures)
