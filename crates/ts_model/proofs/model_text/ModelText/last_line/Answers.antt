use Rattle.std.proofs.Common.{sym, ◌∙◌}
use Rattle.std.proofs.lemmas.Result.{on_ok_weaker}
use Rattle.ts_model.proofs.ModelTexts.{line_few, mark_last, may_read, no_last, read_last}
use Rattle.ts_model.proofs.model_text.ModelText.last_line.Goals.{then-is_empty-via-then-is_empty, then-is_empty-via-else-is_empty+then-is_separator}
use Rattle.ts_model.proofs.model_text.ModelText.last_line.Goals as goal

pub is_separator-requires : goal.is_separator-requires
is_separator-requires c =
    let some = c.requires in (some.1.line, some.1.short, line_few some.0 c.args.self.now some.1 some.2)

pub read_line-requires : goal.read_line-requires
read_line-requires c =
    let some = c.requires in
    may_read some.0 c.args.self.now some.1 (c.is_empty.ensures.some c.if-is_empty.false some.1.line some.1.short) some.2

pub returns-then-is_empty-clause-last : goal.returns-then-is_empty-clause-last
returns-then-is_empty-clause-last c = elim c.then-is_empty.branch [
  | then-is_empty-via-then-is_empty w ↦ no_last c.args.self.now (c.is_empty.ensures.none w.if-is_empty.true)
  | then-is_empty-via-else-is_empty+then-is_separator w ↦ mark_last c.args.self.now (c.is_empty.ensures.some w.if-is_empty.false)
      (λ line short. sym w.if-is_separator.true ∙ w.is_separator.ensures line short)
]

pub returns-clause-last : goal.returns-clause-last
returns-clause-last c =
    on_ok_weaker c.read_line.result
    (read_last c.args.self.now c.read_line.new.self (c.is_empty.ensures.some c.if-is_empty.false)
    (λ line short. sym c.if-is_separator.false ∙ c.is_separator.ensures line short))
    c.read_line.ensures.reads
