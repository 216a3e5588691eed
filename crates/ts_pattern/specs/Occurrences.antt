-- The maximal occurrences of an expression in a signature (Global Constraint Catalog, Volume II).
-- A place (s, e) stands for the signs s+1 to e, counted from 1.
use Rattle.std.specs.Prelude.{◌≡◌, ℕ, ◌<◌, ◌≤◌, List, length, slice_range}
use Rattle.ts_base.specs.declared.letter.Letter.{Letter}
use Rattle.ts_regex.specs.Shape.{Shape}
use Rattle.ts_regex.specs.Language.{InLanguage}

-- the signs s+1 to e of w, at least one, are a word of p
pub record IsMatch (p : Shape) (w : List Letter) (s e : ℕ) : Type 0 where
  pub some : s < e
  pub inside : e ≤ length w
  pub word : InLanguage p (slice_range w s e)

-- a match that no other match contains
pub record IsOccurrence (p : Shape) (w : List Letter) (s e : ℕ) : Type 0 where
  pub is : IsMatch p w s e
  pub maximal : (s' e' : ℕ) → IsMatch p w s' e' → s' ≤ s → e ≤ e' → (s' ≡ s) × (e' ≡ e)
