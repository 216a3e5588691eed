use Rattle.std.proofs.Common.{ap, sym, ◌∙◌, ◌∷◌, List, ℕ}
use Rattle.ts_token.specs.Text.{lines_of}
use Rattle.ts_token.proofs.EndLaws.{cut_whole}
use Rattle.ts_token.proofs.lines.first_line.Goals as goal

pub returns-clause-cut : goal.returns-clause-cut
returns-clause-cut c =
    cut_whole c.args.text.now c.first_line.result.0.now c.first_line.result.1.now c.requires c.first_line.ensures.cut c.first_line.ensures.parts
    ∙ ap (λ (x : List ℕ). x ∷ lines_of c.first_line.result.1.now) (sym c.without_end.ensures.value)
