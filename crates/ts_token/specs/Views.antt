-- Words, lines and tokens without their places in memory.
use Rattle.std.specs.Prelude.{List, map}
use Rattle.ts_token.specs.declared.words.Word.{Word}
use Rattle.ts_token.specs.declared.tokens.Line.{Line}
use Rattle.ts_token.specs.declared.tokens.Tokens.{Tokens}
use Rattle.std.specs.Option.{option_map}
use Rattle.ts_token.specs.declared.parts.Parts.{Parts}
use Rattle.ts_token.specs.Text.{Piece, Row, Cut}
use Rattle.ts_token.specs.Halves.{Halves}

abbrev pub piece : Word → Piece
piece w = record { text = w.text.now; column = w.column }

abbrev pub pieces : List Word → List Piece
pieces ws = map piece ws

abbrev pub row : Line → Row
row l = record { number = l.number; words = pieces l.words.items }

abbrev pub rows : List Line → List Row
rows ls = map row ls

abbrev pub cut_view : Tokens → Cut
cut_view t = record { rows = rows t.lines.items; count = t.count; not_text = t.not_text }

abbrev pub parts : Parts → Halves
parts p = record { model = p.model.now; rest = option_map (λ r. r.now) p.rest }
