use Rattle.std.proofs.Common.{ℕ, List, sym}
use Rattle.std.specs.Borrow.{Bor}
use Rattle.std.proofs.lemmas.List.{length-map}
use Rattle.ts_automaton.proofs.line_words.word_count.Goals as goal

pub returns : goal.returns
returns c = sym (length-map c.args.words.now (λ (w : Bor (List ℕ)). w.now))
