use Rattle.std.proofs.Common.{sym, ◌∙◌, eqb-true}
use Rattle.ts_token.proofs.ShortLaws.{no_byte, some_byte, filled_by}
use Rattle.ts_token.proofs.short.ShortLine.is_empty.Goals as goal

pub returns-clause-none : goal.returns-clause-none
returns-clause-none c empty line short =
    no_byte line c.args.self.now (sym c.args.self.now.kept.ok.0 ∙ eqb-true c.args.self.now.kept.len 0 (sym c.is_empty.ensures ∙ empty)) short

pub returns-clause-some : goal.returns-clause-some
returns-clause-some c some line short =
    some_byte line c.args.self.now (filled_by c.args.self.now.kept.len _ c.args.self.now.kept.ok.0 (sym c.is_empty.ensures ∙ some)) short
