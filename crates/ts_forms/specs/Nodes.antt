-- Expressions by the numbers of their parts.
use Rattle.std.specs.Prelude.{ℕ, ◌<◌, Bool, true, ◌&&◌, ◌||◌, List, [], ◌∷◌, ◌++◌, Option, None, Some, get_or}
use Rattle.ts_base.specs.declared.letter.Letter.{Letter}
use Rattle.ts_base.specs.declared.letter.Letter.TheVariants.{Less, Equal, Greater}
use Rattle.ts_regex.specs.Shape.{Shape, Empty, Eps, One, Cat, Alt, Star}
use Rattle.ts_regex.specs.Derivative.{nullable, has_word, has_longer}
use Rattle.ts_forms.specs.declared.node.Node.{Node}
use Rattle.ts_forms.specs.declared.node.Node.TheVariants.{Empty as EmptyNode, Eps as EpsNode, Less as LessNode, Equal as EqualNode, Greater as GreaterNode, Cat as CatNode, Alt as AltNode, Star as StarNode}
use Rattle.ts_forms.specs.declared.known.Known.{Known}

-- expression i of a table
abbrev pub form_at : List Shape → ℕ → Shape
form_at ss i = get_or ss i Empty

-- the expression that a node is, over the table of its parts
abbrev pub shape_by : List Shape → Node → Shape
shape_by ss EmptyNode = Empty
shape_by ss EpsNode = Eps
shape_by ss LessNode = One Less
shape_by ss EqualNode = One Equal
shape_by ss GreaterNode = One Greater
shape_by ss (CatNode i j) = Cat (form_at ss i) (form_at ss j)
shape_by ss (AltNode i j) = Alt (form_at ss i) (form_at ss j)
shape_by ss (StarNode i) = Star (form_at ss i)

-- the parts of a node are among the first n
abbrev pub HasParts : ℕ → Node → Type 0
HasParts n (CatNode i j) = (i < n) × (j < n)
HasParts n (AltNode i j) = (i < n) × (j < n)
HasParts n (StarNode i) = i < n
HasParts n x = Unit {0}

-- the expressions of nodes, each over those before it
abbrev pub shapes_onto : List Shape → List Node → List Shape
shapes_onto ss [] = ss
shapes_onto ss (n ∷ ns) = shapes_onto (ss ++ shape_by ss n ∷ []) ns

abbrev pub left_on : Letter → Known → Option ℕ
left_on Less k = k.less
left_on Equal k = k.equal
left_on Greater k = k.greater

abbrev pub left_with : Known → Letter → ℕ → Known
left_with k Less j = record k { less = Some j }
left_with k Equal j = record k { equal = Some j }
left_with k Greater j = record k { greater = Some j }

-- these words, and nothing asked for
abbrev pub words_alone : Bool → Bool → Bool → Known
words_alone n w l =
    record { nullable = n; some = w; longer = l; normal = None; less = None; equal = None; greater = None }

abbrev pub words_cat : Known → Known → Known
words_cat k m = words_alone (k.nullable && m.nullable) (k.some && m.some) ((k.longer && m.some) || (k.some && m.longer))

abbrev pub words_alt : Known → Known → Known
words_alt k m = words_alone (k.nullable || m.nullable) (k.some || m.some) (k.longer || m.longer)

abbrev pub words_star : Known → Known
words_star k = words_alone true true k.longer

-- what is known of an expression that is new
abbrev pub words_of : Shape → Known
words_of r = words_alone (nullable r) (has_word r) (has_longer r)
