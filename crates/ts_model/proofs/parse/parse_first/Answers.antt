use Rattle.ts_token.specs.Text.{words_from}
use Rattle.ts_model.proofs.FewWords.{first_say}
use Rattle.ts_model.proofs.parse.parse_first.Goals as goal

pub returns : goal.returns
returns c =
    first_say c.args.form (words_from c.args.column c.args.bytes.now) c.in_ok-words.words.items c.deref.result.now c.parse_few.result c.requires.few
    c.in_ok-words.ensures c.deref.ensures.value c.parse_few.ensures
