use Rattle.std.proofs.Common.{ap, arith, length, subst}
use Rattle.ts_token.specs.declared.content.Content.{Content}
use Rattle.ts_token.specs.Contents.{Holds}
use Rattle.ts_token.specs.Gist.{without_end}
use Rattle.ts_token.proofs.LineLaws.{end_within}
use Rattle.ts_model.proofs.ReaderLaws.{line_read}
use Rattle.ts_model.proofs.reader.Progress.line.Goals as goal

pub line-requires-clause-short : goal.line-requires-clause-short
line-requires-clause-short c =
    let line = without_end c.args.line.now in
    let holds = subst (λ (h : Content). Holds h line) c.in-Words.is c.line_content.ensures in
    omega (arith, ap length holds.2, end_within c.args.line.now, c.requires.short)

pub returns-in-Words-clause-read : goal.returns-in-Words-clause-read
returns-in-Words-clause-read c =
    let line = without_end c.args.line.now in
    let holds = subst (λ (h : Content). Holds h line) c.in-Words.is c.line_content.ensures in
    line_read c.args.self.now c.line.new.self line c.in-Words.bare.now c.line.result holds.0 holds.1 holds.2 c.requires.fit c.requires.room
    c.line.ensures.added c.line.ensures.follows
