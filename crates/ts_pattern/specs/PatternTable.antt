-- The patterns (Global Constraint Catalog, Volume II): the expression of each name, and the cells trimmed before and
-- after an occurrence.
use Rattle.std.specs.Prelude.{ℕ}
use Rattle.ts_base.specs.declared.letter.Letter.{Letter}
use Rattle.ts_base.specs.declared.letter.Letter.TheVariants.{Less, Equal, Greater}
use Rattle.ts_regex.specs.Shape.{Shape, One, Cat, Alt, Star}
use Rattle.ts_pattern.specs.declared.name.PatternId.{PatternId}
use Rattle.ts_pattern.specs.declared.name.PatternId.TheVariants.{Increasing, Decreasing, Steady, IncreasingSequence, DecreasingSequence, StrictlyIncreasingSequence, StrictlyDecreasingSequence, SteadySequence, IncreasingTerrace, DecreasingTerrace, Inflexion, Peak, Valley, Plateau, Plain, ProperPlateau, ProperPlain, Summit, Gorge, Zigzag, DipOnIncreasingSequence, BumpOnDecreasingSequence}

-- In the comments u and d stand for the two letters given: `<` and `>`, or `>` and `<` in the mirrored pattern.

-- r+, that is r r*
abbrev pub plus : Shape → Shape
plus r = Cat r (Star r)

-- u(u|=)*u|u
abbrev pub sequence : Letter → Shape
sequence u =
    Alt (Cat (One u) (Cat (Star (Alt (One u) (One Equal))) (One u))) (One u)

-- u=+u
abbrev pub terrace : Letter → Shape
terrace u = Cat (One u) (Cat (plus (One Equal)) (One u))

-- u(u|=)*d
abbrev pub turn : Letter → Letter → Shape
turn u d = Cat (One u) (Cat (Star (Alt (One u) (One Equal))) (One d))

-- u(=|u)*(d|=)*d
abbrev pub peak : Letter → Letter → Shape
peak u d =
    Cat (One u)
    (Cat (Star (Alt (One Equal) (One u)))
    (Cat (Star (Alt (One d) (One Equal))) (One d)))

-- u=*d
abbrev pub plateau : Letter → Letter → Shape
plateau u d = Cat (One u) (Cat (Star (One Equal)) (One d))

-- u=+d
abbrev pub proper_plateau : Letter → Letter → Shape
proper_plateau u d = Cat (One u) (Cat (plus (One Equal)) (One d))

-- u|u(=|u)*u
abbrev pub slope : Letter → Shape
slope u =
    Alt (One u) (Cat (One u) (Cat (Star (Alt (One Equal) (One u))) (One u)))

-- (u|u(=|u)*u)(d|d(=|d)*d)
abbrev pub summit : Letter → Letter → Shape
summit u d = Cat (slope u) (slope d)

-- (ud)+(u|ud)
abbrev pub alternation : Letter → Letter → Shape
alternation u d =
    Cat (plus (Cat (One u) (One d))) (Alt (One u) (Cat (One u) (One d)))

-- uuduu
abbrev pub dip : Letter → Letter → Shape
dip u d =
    Cat (One u) (Cat (One u) (Cat (One d) (Cat (One u) (One u))))

abbrev pub pattern_shape : PatternId → Shape
pattern_shape Increasing = One Less
pattern_shape Decreasing = One Greater
pattern_shape Steady = One Equal
pattern_shape IncreasingSequence = sequence Less
pattern_shape DecreasingSequence = sequence Greater
pattern_shape StrictlyIncreasingSequence = plus (One Less)
pattern_shape StrictlyDecreasingSequence = plus (One Greater)
pattern_shape SteadySequence = plus (One Equal)
pattern_shape IncreasingTerrace = terrace Less
pattern_shape DecreasingTerrace = terrace Greater
pattern_shape Inflexion = Alt (turn Less Greater) (turn Greater Less)
pattern_shape Peak = peak Less Greater
pattern_shape Valley = peak Greater Less
pattern_shape Plateau = plateau Less Greater
pattern_shape Plain = plateau Greater Less
pattern_shape ProperPlateau = proper_plateau Less Greater
pattern_shape ProperPlain = proper_plateau Greater Less
pattern_shape Summit = summit Less Greater
pattern_shape Gorge = summit Greater Less
pattern_shape Zigzag = Alt (alternation Less Greater) (alternation Greater Less)
pattern_shape DipOnIncreasingSequence = dip Less Greater
pattern_shape BumpOnDecreasingSequence = dip Greater Less

-- the cells trimmed before an occurrence
abbrev pub pattern_b : PatternId → ℕ
pattern_b Increasing = 0
pattern_b Decreasing = 0
pattern_b Steady = 0
pattern_b IncreasingSequence = 0
pattern_b DecreasingSequence = 0
pattern_b StrictlyIncreasingSequence = 0
pattern_b StrictlyDecreasingSequence = 0
pattern_b SteadySequence = 0
pattern_b DipOnIncreasingSequence = 2
pattern_b BumpOnDecreasingSequence = 2
pattern_b id = 1

-- the cells trimmed after it
abbrev pub pattern_a : PatternId → ℕ
pattern_a Increasing = 0
pattern_a Decreasing = 0
pattern_a Steady = 0
pattern_a IncreasingSequence = 0
pattern_a DecreasingSequence = 0
pattern_a StrictlyIncreasingSequence = 0
pattern_a StrictlyDecreasingSequence = 0
pattern_a SteadySequence = 0
pattern_a id = 1
