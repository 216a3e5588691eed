-- How the program ends, by the words of its command line.
use Rattle.std.specs.Prelude.{ℕ}
use Rattle.ts_cli.specs.declared.respond.NoWords.{NoWords}
use Rattle.ts_cli.specs.declared.respond.NoWords.TheVariants.{Memory, Unreadable}

-- the exit status without words: that of a call without memory, or one that no call of `run` ends with
abbrev pub no_words_code : NoWords → ℕ
no_words_code Memory = 6
no_words_code Unreadable = 7
