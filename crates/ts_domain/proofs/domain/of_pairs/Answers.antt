use Rattle.std.proofs.Common.{◌<◌, ◌↔◌, inr, List, length, subst, sym}
use Rattle.std.specs.Prelude.{All, Contains}
use Rattle.std.proofs.lemmas.Result.{IfOk-weaker}
use Rattle.ts_domain.specs.declared.interval.Interval.{Interval}
use Rattle.ts_domain.specs.Union.{InSome, IsUsable}
use Rattle.ts_domain.proofs.Unions.{in_paired, paired_has, paired_some, usable_paired}
use Rattle.ts_domain.proofs.domain.of_pairs.Goals as goal

pub from_intervals-requires-clause-some : goal.from_intervals-requires-clause-some
from_intervals-requires-clause-some c =
    subst (λ (rs : List Interval). 0 < length rs) (sym c.in_ok-ranges.ensures)
    (paired_some c.args.lows.now c.args.highs.now c.requires.pairs c.requires.usable)

pub from_intervals-requires-clause-usable : goal.from_intervals-requires-clause-usable
from_intervals-requires-clause-usable c =
    subst (All IsUsable) (sym c.in_ok-ranges.ensures)
    (usable_paired c.args.lows.now c.args.highs.now c.requires.pairs c.requires.lows_within c.requires.highs_within (λ e. c.requires.usable (inr e)))

pub returns-clause-union : goal.returns-clause-union
returns-clause-union c =
    let lows = c.args.lows.now in
    let highs = c.args.highs.now in
    IfOk-weaker c.from_intervals.result _ _
    (λ d has v. let all = subst (λ rs. Contains d v ↔ InSome rs v) c.in_ok-ranges.ensures (has v) in (
      λ h. in_paired lows highs v c.requires.pairs (all.0 h),
      λ h. all.1 (paired_has lows highs v c.requires.pairs h),
    ))
    c.from_intervals.ensures.union
