use Rattle.std.proofs.Common.{List, Option, ap, subst, sym}
use Rattle.ts_token.specs.Text.{Piece, words_from}
use Rattle.ts_model.specs.declared.words.Form.{Form}
use Rattle.ts_model.specs.ModelReading.{texts_of}
use Rattle.ts_model.specs.Statement.{meaning_in, parsed_as}
use Rattle.ts_model.specs.Views.{meaning_of, Gives}
use Rattle.ts_model.proofs.parse.parse.Goals as goal

pub returns-in-None : goal.returns-in-None
returns-in-None c = ap (λ (ws : List Piece). meaning_in (texts_of ws)) c.in-None.ensures.none

pub returns-in-Some : goal.returns-in-Some
returns-in-Some c =
    let behind = texts_of (words_from c.in-Some.first.column c.in-Some.first.rest.now) in
    subst (λ (ws : List Piece). Gives meaning_of c.parse_as.result (meaning_in (texts_of ws))) (sym c.in-Some.ensures.some.words)
    (subst (λ (form : Option Form). Gives meaning_of c.parse_as.result (parsed_as form behind)) c.form_of-form.ensures c.parse_as.ensures)
