use Rattle.std.proofs.Common.{rules, subst, sym}
use Rattle.ts_model.specs.ModelTexts.{HasLines}
use Rattle.ts_model.proofs.ModelTexts.{mark_ends_so}
use Rattle.ts_model.proofs.model_text.ModelText.model.Goals as goal

pub returns : goal.returns
returns c = λ bytes h.
    mark_ends_so bytes c.args.self.now h c.finish.result
    (λ text read.
    c.finish.ensures.exact c.args.self.now.need text
    (c.in_ok-reader_of.ensures text (subst (HasLines c.args.self.now.need text) (sym c.take.ensures.value) read)))

pub returns-in_err-reader_of : goal.returns-in_err-reader_of
returns-in_err-reader_of c = λ bytes h. mark_ends_so bytes c.args.self.now h c.from_residual.result (λ text read. search rules)
