use Rattle.std.proofs.Common.{false, refl, sym, ◌∙◌}
use Rattle.ts_model.proofs.ModelTexts.{finished_some, line_few, mark_comes, may_read, one_more}
use Rattle.ts_model.proofs.model_text.ModelText.end_line.Goals as goal

pub is_separator-requires : goal.is_separator-requires
is_separator-requires c =
    let some = c.requires in (some.1.line, some.1.short, line_few some.0 c.args.self.now some.1 some.2)

pub read_line-requires : goal.read_line-requires
read_line-requires c =
    let some = c.requires in may_read some.0 c.args.self.now some.1 (finished_some some.1.line some.1.is) some.2

pub returns-then-is_separator-clause-at : goal.returns-then-is_separator-clause-at
returns-then-is_separator-clause-at c = λ bytes h.
    mark_comes bytes c.args.self.now h (sym (c.is_separator.ensures h.line h.short) ∙ c.if-is_separator.true)

pub returns-clause-at : goal.returns-clause-at
returns-clause-at c = λ bytes h.
    one_more bytes c.args.self.now h c.read_line.new.self (record c.read_line.new.self { line = c.clear.new.self }) false
    (λ line short. sym c.if-is_separator.false ∙ c.is_separator.ensures line short) refl c.in_ok-read_line.ensures.reads c.read_line.ensures.need refl c.clear.ensures
