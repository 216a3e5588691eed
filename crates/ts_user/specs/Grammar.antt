-- The expressions of a pattern text, as a grammar:
--     whole      = sequence { "|" sequence }
--     sequence   = repetition { repetition }
--     repetition = atom [ "*" or "+" ]
--     atom       = "<" or "=" or ">" or "(" whole ")"
use Rattle.std.specs.Prelude.{◌≡◌, ℕ, ◌+◌, List, [], ◌∷◌, ◌++◌}
use Rattle.ts_base.specs.declared.letter.Letter.{Letter}
use Rattle.ts_base.specs.declared.letter.Letter.TheVariants.{Less, Equal, Greater}
use Rattle.ts_regex.specs.Shape.{Shape, Empty, Eps, One, Cat, Alt, Star}
use Rattle.ts_user.specs.declared.symbol.Symbol.{Symbol}
use Rattle.ts_user.specs.declared.symbol.Symbol.TheVariants.{Sign, Open, Close, Repeated, Or}
use Rattle.ts_user.specs.declared.symbol.Repeat.TheVariants.{AnyTimes, OnceOrMore}

-- the byte of a symbol
abbrev pub byte_of : Symbol → ℕ
byte_of (Sign Less) = 60
byte_of (Sign Equal) = 61
byte_of (Sign Greater) = 62
byte_of Open = 40
byte_of Close = 41
byte_of (Repeated AnyTimes) = 42
byte_of (Repeated OnceOrMore) = 43
byte_of Or = 124

pub data Level : Type 0 where
  Whole : Level
  Sequence : Level
  Repetition : Level
  Atom : Level

-- the bytes are an expression of this level, and this is it: sequences and unions nest to the right, and `r+` is `r`
-- followed by `r*`
pub data Means : Level → List ℕ → Shape → Type 0 where
  SignMeans : (l : Letter) (w : List ℕ) → w ≡ byte_of (Sign l) ∷ [] → Means Atom w (One l)
  InBrackets : (w v : List ℕ) (r : Shape) → Means Whole v r → w ≡ byte_of Open ∷ (v ++ byte_of Close ∷ []) →
      Means Atom w r
  OneTime : (w : List ℕ) (r : Shape) → Means Atom w r → Means Repetition w r
  ManyTimes : (w v : List ℕ) (r : Shape) → Means Atom v r → w ≡ v ++ byte_of (Repeated AnyTimes) ∷ [] →
      Means Repetition w (Star r)
  SomeTimes : (w v : List ℕ) (r : Shape) → Means Atom v r → w ≡ v ++ byte_of (Repeated OnceOrMore) ∷ [] →
      Means Repetition w (Cat r (Star r))
  LastPart : (w : List ℕ) (r : Shape) → Means Repetition w r → Means Sequence w r
  MoreParts : (w u v : List ℕ) (r s : Shape) → Means Repetition u r → Means Sequence v s → w ≡ u ++ v →
      Means Sequence w (Cat r s)
  LastChoice : (w : List ℕ) (r : Shape) → Means Sequence w r → Means Whole w r
  MoreChoices : (w u v : List ℕ) (r s : Shape) → Means Sequence u r → Means Whole v s → w ≡ u ++ byte_of Or ∷ v →
      Means Whole w (Alt r s)

-- how many nodes an expression has
abbrev pub nodes : Shape → ℕ
nodes Empty = 1
nodes Eps = 1
nodes (One l) = 1
nodes (Cat r s) = nodes r + nodes s + 1
nodes (Alt r s) = nodes r + nodes s + 1
nodes (Star r) = nodes r + 1
