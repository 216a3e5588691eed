-- An expression as a plain tree, without the pointers of the program's value.
use Rattle.ts_base.specs.declared.letter.Letter.{Letter}
use Rattle.ts_regex.specs.declared.regex.Regex.{Regex, Empty as EmptyRegex, Eps as EpsRegex, One as OneRegex, Cat' as CatRegex, Alt' as AltRegex, Star' as StarRegex}

pub data Shape : Type 0 where
  Empty : Shape
  Eps : Shape
  One : Letter → Shape
  Cat : Shape → Shape → Shape
  Alt : Shape → Shape → Shape
  Star : Shape → Shape

abbrev pub shape_of : Regex → Shape
shape_of EmptyRegex = Empty
shape_of EpsRegex = Eps
shape_of (OneRegex l) = One l
shape_of (CatRegex p r q s) = Cat (shape_of r) (shape_of s)
shape_of (AltRegex p r q s) = Alt (shape_of r) (shape_of s)
shape_of (StarRegex p r) = Star (shape_of r)
