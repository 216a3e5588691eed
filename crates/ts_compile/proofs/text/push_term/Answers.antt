use Rattle.std.proofs.Common.{codes, ap, ◌∙◌, ◌∷◌, ◌++◌}
use Rattle.std.specs.String.{string_bytes}
use Rattle.ts_pattern.specs.Names.{aggregator_name, feature_name, pattern_name}
use Rattle.ts_compile.specs.ProgramText.{window_words}
use Rattle.ts_compile.proofs.Texts.{tail_pushed}
use Rattle.ts_compile.proofs.text.push_term.Goals as goal

pub returns : goal.returns
returns c =
    let t = c.args.t.now.term in
    tail_pushed c.args.text.now.items (codes "term") (string_bytes c.args.name.now) (aggregator_name t.aggregator) (feature_name t.feature)
    (pattern_name t.pattern) (window_words c.args.t.now.window)
    c.extend_from_slice.new.self.items c.push_word.new.text.items c.push_word-2.new.text.items c.push_word-3.new.text.items
    c.push_word-4.new.text.items c.push_window.new.text.items c.push.new.self.items
    c.in_ok-extend_from_slice.ensures.items
    (c.in_ok-push_word.ensures ∙ ap (λ w. c.extend_from_slice.new.self.items ++ (32 ∷ w)) c.as_bytes.ensures.value)
    (c.in_ok-push_word-2.ensures ∙ ap (λ w. c.push_word.new.text.items ++ (32 ∷ w)) c.aggregator_name.ensures)
    (c.in_ok-push_word-3.ensures ∙ ap (λ w. c.push_word-2.new.text.items ++ (32 ∷ w)) c.feature_name.ensures)
    (c.in_ok-push_word-4.ensures ∙ ap (λ w. c.push_word-3.new.text.items ++ (32 ∷ w)) c.pattern_name.ensures)
    c.in_ok-push_window.ensures c.in_ok-push.ensures.items
