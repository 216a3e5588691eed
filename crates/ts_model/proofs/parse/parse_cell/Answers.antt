use Rattle.std.proofs.Common.{List, ap, subst, sym}
use Rattle.ts_token.specs.Text.{Piece}
use Rattle.ts_model.specs.declared.words.Form.TheVariants.{Cell}
use Rattle.ts_model.specs.ModelReading.{texts_of}
use Rattle.ts_model.specs.Statement.{parsed_by}
use Rattle.ts_model.specs.Views.{meaning_of, Gives}
use Rattle.ts_model.proofs.parse.parse_cell.Goals as goal

pub returns-in-None : goal.returns-in-None
returns-in-None c = ap (λ (ws : List Piece). parsed_by Cell (texts_of ws)) c.in-None.ensures.none

pub returns-in-Some : goal.returns-in-Some
returns-in-Some c =
    subst (λ (ws : List Piece). Gives meaning_of c.parse_cell_at.result (parsed_by Cell (texts_of ws))) (sym c.in-Some.ensures.some.words)
    c.parse_cell_at.ensures
