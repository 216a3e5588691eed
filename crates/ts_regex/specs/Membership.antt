-- Whether a word is in the language, as a test that computes: by the residuals of the expression, one a letter
-- (Brzozowski 1964).
use Rattle.std.specs.Prelude.{Bool, List, [], ◌∷◌}
use Rattle.ts_base.specs.declared.letter.Letter.{Letter}
use Rattle.ts_regex.specs.Shape.{Shape}
use Rattle.ts_regex.specs.Derivative.{nullable}
use Rattle.ts_regex.specs.NormalForm.{residual}

abbrev pub is_word : Shape → List Letter → Bool
is_word r [] = nullable r
is_word r (l ∷ w) = is_word (residual r l) w
