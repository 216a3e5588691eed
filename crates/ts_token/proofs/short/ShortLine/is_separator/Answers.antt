use Rattle.std.proofs.Common.{sym, ◌∙◌, eqb-true, arith}
use Rattle.ts_token.proofs.ShortLaws.{no_byte, none_separates, separates, short_now}
use Rattle.ts_token.proofs.short.ShortLine.is_separator.Goals as goal

pub returns-then-is_empty : goal.returns-then-is_empty
returns-then-is_empty c line short =
    none_separates line (no_byte line c.args.self.now
    (sym c.args.self.now.kept.ok.0 ∙ eqb-true c.args.self.now.kept.len 0 (sym c.is_empty.ensures ∙ c.if-is_empty.true)) short)

pub is_separator-requires-clause-short : goal.is_separator-requires-clause-short
is_separator-requires-clause-short c =
    let short = short_now c.requires.0 c.deref.result.now c.args.self.now c.deref.ensures.value c.requires.1 in omega (arith, short, c.requires.2)

pub returns : goal.returns
returns c line short = separates line c.deref.result.now c.args.self.now c.is_separator.result c.is_separator.ensures c.deref.ensures.value short
