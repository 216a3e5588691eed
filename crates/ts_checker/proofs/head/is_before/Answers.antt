use Rattle.std.proofs.Common.{pos, rules, get_or, ◌<ℤ◌}
use Rattle.std.proofs.lemmas.Option.{slice_get-get_or}
use Rattle.ts_domain.specs.BoxSeries.{IsBefore}
use Rattle.ts_checker.proofs.Cells.{none_told, after_here, ended_before}
use Rattle.ts_checker.proofs.head.is_before.Goals.{then-i-later-via-then-i-later, then-i-later-via-else-i-later+then-later-i}
use Rattle.ts_checker.proofs.head.is_before.Goals as goal

pub returns-then-i-later : goal.returns-then-i-later
returns-then-i-later c =
    let x = c.args.earlier.now in
    let y = c.args.later.now in
    let i = c.loop-i.i in
    let here = slice_get-get_or x i (pos 0) c.loop-i-test.true in
    none_told (IsBefore x y) (elim c.then-i-later.branch [
      | then-i-later-via-then-i-later w ↦ (λ h. ended_before x y i _ here w.if-i-later.true (c.loop-i.invariant.0 h))
      | then-i-later-via-else-i-later+then-later-i w ↦
          let less : get_or y i (pos 0) <ℤ get_or x i (pos 0) = search rules in
          (λ h. after_here x y i _ _ here (slice_get-get_or y i (pos 0) w.if-i-later.false) less (c.loop-i.invariant.0 h))
    ])
