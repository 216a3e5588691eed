-- The words of a regular expression (Kleene): cut in two, one of two, repeated.
use Rattle.std.specs.Prelude.{◌≡◌, ◌⊎◌, List, [], ◌∷◌, ◌++◌}
use Rattle.ts_base.specs.declared.letter.Letter.{Letter}
use Rattle.ts_regex.specs.Shape.{Shape, Empty, Eps, One, Cat, Alt, Star}

-- the empty word, or a non-empty prefix that has P and a rest that is again repeated
pub data IsRepeated (P : List Letter → Type 0) : List Letter → Type 0 where
  NoMore : (w : List Letter) → w ≡ [] → IsRepeated P w
  OnceMore : (l : Letter) (x y w : List Letter) → w ≡ (l ∷ x) ++ y → P (l ∷ x) → IsRepeated P y → IsRepeated P w

-- w is a word of the expression
abbrev pub InLanguage : Shape → List Letter → Type 0
InLanguage Empty w = ⊥
InLanguage Eps w = w ≡ []
InLanguage (One l) w = w ≡ l ∷ []
InLanguage (Cat r s) w = (x : List Letter) × (y : List Letter) × (w ≡ x ++ y) × InLanguage r x × InLanguage s y
InLanguage (Alt r s) w = InLanguage r w ⊎ InLanguage s w
InLanguage (Star r) w = IsRepeated (λ v. InLanguage r v) w
