use Rattle.ts_checker.proofs.HeadLaws.{last_answered}
use Rattle.ts_checker.proofs.head.comes_after.Goals as goal

pub returns-in-Some : goal.returns-in-Some
returns-in-Some c =
    last_answered c.args.before.now c.in-Some.last.now c.args.series.now c.deref.result.now c.is_before.result c.in-Some.ensures.value c.deref.ensures.value
    c.is_before.ensures
