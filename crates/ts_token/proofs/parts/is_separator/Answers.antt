use Rattle.std.proofs.Common.{sym, ◌∙◌}
use Rattle.ts_token.specs.Text.{lines_of}
use Rattle.ts_token.proofs.EndLaws.{marks}
use Rattle.ts_token.proofs.parts.is_separator.Goals as goal

pub returns : goal.returns
returns c =
    c.is_mark.ensures
    ∙ sym (marks c.args.line.now c.first_line.result.0.now (lines_of c.first_line.result.1.now) c.first_line.ensures.cut)
