use Rattle.std.proofs.Common.{ap, sym, ◌∙◌}
use Rattle.std.specs.Prelude.{is_some, not}
use Rattle.ts_checker.proofs.JudgingLaws.{empty_shown, few_lines, refused_shown, some_shown}
use Rattle.ts_checker.proofs.judging.Judging.finish.Goals.{else-is_none, else-is_none-via-else-is_none, else-is_none-via-then-is_none+else-not-is_empty, then-is_none+then-not-is_empty+in_ok-feed_line}
use Rattle.ts_checker.proofs.judging.Judging.finish.Goals as goal

pub returns : goal.returns
returns c =
    let end = c.finish.ensures in
    elim c.if-is_none.branch [
      | then-is_none+then-not-is_empty+in_ok-feed_line w ↦ some_shown c.args.self c.if-is_none.checker w.feed_line.new.self c.finish.result
          (end.verdict, end.holds) w.checker-is (ap is_some (sym c.refused_line.ensures) ∙ c.is_none.ensures
          ∙ ap not w.if-is_none.true) _ w.is_empty.ensures w.if-not-is_empty.true
          w.in_ok-feed_line.ensures.takes (let some = c.requires.few in few_lines some.0 c.args.self 0 some.1 some.2)
      | else-is_none w ↦ elim w.else-is_none.branch [
        | else-is_none-via-then-is_none+else-not-is_empty u ↦ empty_shown c.args.self c.if-is_none.checker c.finish.result
            (end.verdict, end.holds) w.checker-is (ap is_some (sym c.refused_line.ensures) ∙ c.is_none.ensures
            ∙ ap not u.if-is_none.true) _ u.is_empty.ensures u.if-not-is_empty.false
        | else-is_none-via-else-is_none u ↦ refused_shown c.args.self c.if-is_none.checker c.finish.result
            (end.verdict, end.holds) w.checker-is (ap is_some (sym c.refused_line.ensures) ∙ c.is_none.ensures ∙ ap not u.if-is_none.false)
      ]
    ]

pub feed_line-requires : goal.feed_line-requires
feed_line-requires c = let some = c.requires.few in few_lines some.0 c.args.self 0 some.1 some.2
