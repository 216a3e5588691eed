use Rattle.std.proofs.Common.{◌∙◌}
use Rattle.ts_token.proofs.EndLaws.{line_marks}
use Rattle.ts_token.proofs.HalfLaws.{found, passed, line_within}
use Rattle.ts_token.proofs.parts.cut_parts.Goals as goal

pub returns-then-is_mark : goal.returns-then-is_mark
returns-then-is_mark c =
    let line = c.first_line.result.0.now in
    let rest = c.first_line.result.1.now in
    let mark = line_marks c.split_at.result.1.now line rest c.without_end.result.now c.is_mark.result c.first_line.ensures.some c.first_line.ensures.cut
    c.without_end.ensures.value c.is_mark.ensures ∙ c.if-is_mark.true in
    found c.args.text.now c.split_at.result.0.now c.split_at.result.1.now line rest c.loop-at.at _
    c.split_at.ensures.front c.split_at.ensures.back c.first_line.ensures.cut mark c.loop-at.invariant.all

pub loop-at-preserved : goal.loop-at-preserved
loop-at-preserved c =
    let line = c.first_line.result.0.now in
    let rest = c.first_line.result.1.now in
    let mark = line_marks c.split_at.result.1.now line rest c.without_end.result.now c.is_mark.result c.first_line.ensures.some c.first_line.ensures.cut
    c.without_end.ensures.value c.is_mark.ensures ∙ c.if-is_mark.false in
    record {
      all = passed c.args.text.now c.split_at.result.1.now line rest c.loop-at.at _
          c.split_at.ensures.back c.first_line.ensures.parts c.first_line.ensures.cut mark c.loop-at.invariant.all;
      place = line_within c.args.text.now c.split_at.result.1.now line rest c.loop-at.at
          c.loop-at.invariant.place c.split_at.ensures.back c.first_line.ensures.parts;
    }
