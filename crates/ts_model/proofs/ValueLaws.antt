-- The line of a series, and its numbers word by word.
use Rattle.std.proofs.Common.{◌≡◌, ℕ, ◌<◌, ◌≤◌, false, Option, Some, None, List, [], ◌∷◌, ◌++◌, length, get_or, ℤ, sym, ap, ◌∙◌, arith}
use Rattle.std.specs.Prelude.{is_some}
use Rattle.ts_token.specs.Text.{Cut}
use Rattle.ts_token.specs.Views.{rows}
use Rattle.ts_token.specs.declared.words.Word.{Word}
use Rattle.ts_token.specs.declared.tokens.Line.{Line}
use Rattle.ts_model.specs.Series.{after_series, only_row, series_words}
use Rattle.ts_model.specs.Views.{texts}
use Rattle.ts_model.proofs.LineLaws.{texts_pieces}

-- numbers read before those of the rest
abbrev pub values_ahead : List ℤ → Option (List ℤ) → Option (List ℤ)
values_ahead vs None = None
values_ahead vs (Some more) = Some (vs ++ more)

-- a text of one line
pub one_row : (not_text : Option ℕ) (lines : List Line) (line : Line) (words : List Word) (c : Cut) → is_some not_text ≡ false → 1 ≤ length lines →
    length lines < 2 → line ≡ get_or lines 0 line → words ≡ line.words.items → c.rows ≡ rows lines →
    after_series (texts words) ≡ series_words c not_text
one_row (Some bad) lines line words c text some few line_is words_is rows_are = cc
one_row None [] line words c text some few line_is words_is rows_are = absurd (omega (arith, some))
one_row None (l ∷ []) line words c text some few line_is words_is rows_are =
    ap (λ (ws : List Word). after_series (texts ws)) (words_is ∙ ap (λ (k : Line). k.words.items) line_is)
    ∙ ap after_series (sym (texts_pieces l.words.items)) ∙ sym (ap only_row rows_are)
one_row None (l ∷ k ∷ ks) line words c text some few line_is words_is rows_are = absurd (omega (arith, few))
