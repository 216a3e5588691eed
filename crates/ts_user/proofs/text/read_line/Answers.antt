use Rattle.std.proofs.Common.{ap, arith, length, subst}
use Rattle.ts_token.specs.declared.content.Content.{Content}
use Rattle.ts_token.specs.Contents.{Holds}
use Rattle.ts_token.specs.Gist.{without_end}
use Rattle.ts_token.proofs.LineLaws.{end_within}
use Rattle.ts_user.specs.Views.{stated_of}
use Rattle.ts_user.proofs.FewWords.{first_give}
use Rattle.ts_user.proofs.text.read_line.Goals as goal

pub first_words-requires : goal.first_words-requires
first_words-requires c =
    let line = without_end c.args.line.now in
    let holds = subst (λ (h : Content). Holds h line) c.in-Words.is c.line_content.ensures in
    omega (arith, ap length holds.2, end_within c.args.line.now, c.requires.short)

pub returns-in_ok-words-in-Words-clause-taken : goal.returns-in_ok-words-in-Words-clause-taken
returns-in_ok-words-in-Words-clause-taken c =
    let line = without_end c.args.line.now in
    let holds = subst (λ (h : Content). Holds h line) c.in-Words.is c.line_content.ensures in
    first_give (λ _. stated_of c.read_line.new.self) c.read_line.result c.args.draft.now.alone (stated_of c.args.draft.now) line c.in-Words.bare.now
    c.in_ok-words-in-Words.words.items c.deref.result.now holds.0 holds.1 holds.2 c.in_ok-words-in-Words.ensures c.deref.ensures.value c.read_line.ensures.taken
