-- The residuals that a search has met, by their numbers.
use Rattle.std.specs.Prelude.{◌≡◌, ℕ, List, map, Option, None, Some}
use Rattle.std.specs.List.{slice_get}
use Rattle.ts_base.specs.declared.letter.Letter.{Letter}
use Rattle.ts_base.specs.declared.letter.Letter.TheVariants.{Less, Equal, Greater}
use Rattle.ts_regex.specs.declared.regex.Regex.{Regex}
use Rattle.ts_regex.specs.Shape.{Shape, shape_of}
use Rattle.ts_regex.specs.Derivative.{nullable, has_word}
use Rattle.ts_regex.specs.NormalForm.{residual}
use Rattle.ts_occurrence.specs.declared.residuals.MetResidual.{MetResidual}

abbrev pub shapes_met : List MetResidual → List Shape
shapes_met ms = map (λ m. shape_of m.residual) ms

abbrev pub number_after : MetResidual → Letter → Option ℕ
number_after m Less = m.less
number_after m Equal = m.equal
number_after m Greater = m.greater

abbrev pub with_number_after : MetResidual → Letter → ℕ → MetResidual
with_number_after m Less n = record m { less = Some n }
with_number_after m Equal n = record m { equal = Some n }
with_number_after m Greater n = record m { greater = Some n }

-- a residual of which nothing was asked yet
abbrev pub met_of : Regex → MetResidual
met_of r =
    record {
      residual = r;
      has_word = has_word (shape_of r);
      nullable = nullable (shape_of r);
      less = None;
      equal = None;
      greater = None;
    }

abbrev pub IsNumber : List Shape → Shape → ℕ → Type 0
IsNumber rs r n = slice_get rs n ≡ Some r

-- the answers on the words of a residual
abbrev pub AnswersRight : MetResidual → Type 0
AnswersRight m = (m.has_word ≡ has_word (shape_of m.residual)) × (m.nullable ≡ nullable (shape_of m.residual))

-- each residual stands once, with right answers, and a number noted after it is that of what the letter leaves
pub record AreConsistent (ms : List MetResidual) : Type 0 where
  pub once : (i j : ℕ) (r : Shape) → IsNumber (shapes_met ms) r i → IsNumber (shapes_met ms) r j → i ≡ j
  pub answers : (k : ℕ) (m : MetResidual) → slice_get ms k ≡ Some m → AnswersRight m
  pub after : (k n : ℕ) (m : MetResidual) (l : Letter) → slice_get ms k ≡ Some m → number_after m l ≡ Some n →
      IsNumber (shapes_met ms) (residual (shape_of m.residual) l) n

-- what has a number keeps it
abbrev pub Grows : List Shape → List Shape → Type 0
Grows old new = (n : ℕ) (r : Shape) → IsNumber old r n → IsNumber new r n
