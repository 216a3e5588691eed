use Rattle.std.proofs.Common.{subst, sym}
use Rattle.ts_token.specs.Halves.{halves_of}
use Rattle.ts_model.specs.LineByLine.{HasRead}
use Rattle.ts_model.specs.ModelTexts.{HasLines}
use Rattle.ts_model.proofs.model_text.ModelText.finish.Goals as goal

pub returns : goal.returns
returns c = λ bytes h.
    let text = (halves_of bytes).model in
    let lines = subst (HasLines c.args.self.now.need text) (sym c.take.ensures.value) (c.in_ok-last_line.ensures.last bytes h) in
    let read = c.in_ok-reader_of.ensures text (subst (λ n. HasLines n text c.take.result) (sym c.last_line.ensures.need) lines) in
    c.finish.ensures.exact c.args.self.now.need text (subst (λ n. HasRead n text c.in_ok-reader_of.field-0) c.last_line.ensures.need read)
