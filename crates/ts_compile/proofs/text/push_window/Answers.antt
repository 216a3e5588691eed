use Rattle.std.proofs.Common.{◌≡◌, ◌++◌, Option, append-nil, sym, subst}
use Rattle.ts_base.specs.Words.{behind}
use Rattle.ts_base.specs.declared.range.Range.{Range}
use Rattle.ts_compile.specs.ProgramText.{range_word, window_words}
use Rattle.ts_compile.proofs.Texts.{window_pushed}
use Rattle.ts_compile.proofs.text.push_window.Goals as goal

pub returns-in-None : goal.returns-in-None
returns-in-None c =
    subst (λ (w : Option Range). c.args.text.now.items ≡ c.args.text.now.items ++ behind (window_words w)) (sym c.in-None.is)
    (sym (append-nil c.args.text.now.items))

pub returns-in_ok-push_range-in-Some : goal.returns-in_ok-push_range-in-Some
returns-in_ok-push_range-in-Some c =
    subst (λ (w : Option Range). c.push_range.new.text.items ≡ c.args.text.now.items ++ behind (window_words w)) (sym c.in-Some.is)
    (window_pushed c.args.text.now.items (range_word c.in-Some.window) c.push_word.new.text.items c.push.new.self.items c.push_range.new.text.items
    c.in_ok-push_word-in-Some.ensures c.in_ok-push-in-Some.ensures.items c.in_ok-push_range-in-Some.ensures)
