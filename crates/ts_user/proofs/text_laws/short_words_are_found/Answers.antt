use Rattle.ts_user.proofs.ShortWords as laws
use Rattle.ts_user.proofs.text_laws.short_words_are_found.Goals as goal

pub returns : goal.returns
returns c = laws.short_words
