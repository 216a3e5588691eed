-- What a table of expressions says.
use Rattle.std.specs.Prelude.{◌≡◌, ℕ, ◌<◌, List, [], ◌++◌, Option, None, Some, length, slice_get, map}
use Rattle.std.specs.List.{AllByRecursion}
use Rattle.ts_base.specs.declared.letter.Letter.{Letter}
use Rattle.ts_regex.specs.Shape.{Shape}
use Rattle.ts_regex.specs.Derivative.{nullable, has_word, has_longer, derivative}
use Rattle.ts_regex.specs.NormalForm.{normal_form}
use Rattle.ts_forms.specs.declared.node.Node.{Node}
use Rattle.ts_forms.specs.declared.known.Known.{Known}
use Rattle.ts_forms.specs.declared.forms.Forms.{Forms}
use Rattle.ts_forms.specs.Nodes.{form_at, shape_by, HasParts, shapes_onto, left_on}

-- the expressions, by their numbers
abbrev pub shapes : Forms → List Shape
shapes f = shapes_onto [] f.nodes.items

-- r is the expression with the number j
abbrev pub IsNumberOf : List Shape → Shape → ℕ → Type 0
IsNumberOf ss r j = (j < length ss) × (form_at ss j ≡ r)

-- what is noted, if anything is, is the number of r
abbrev pub IsNoted : List Shape → Shape → Option ℕ → Type 0
IsNoted ss r None = Unit {0}
IsNoted ss r (Some j) = IsNumberOf ss r j

-- what is known of r is so: which words it has, and the numbers that are noted
pub record IsKnown (ss : List Shape) (r : Shape) (k : Known) : Type 0 where
  pub nullable : k.nullable ≡ nullable r
  pub some : k.some ≡ has_word r
  pub longer : k.longer ≡ has_longer r
  pub normal : IsNoted ss (normal_form r) k.normal
  pub left : (l : Letter) → IsNoted ss (derivative r l) (left_on l k)

-- no two of the expressions are the same
abbrev pub AreDifferent : List Shape → Type 0
AreDifferent ss = (i j : ℕ) → i < length ss → j < length ss → form_at ss i ≡ form_at ss j → i ≡ j

-- each node is found by its place, has its parts before it, and is an expression that stands here once, of which what
-- is known is so
pub record IsTable (f : Forms) : Type 0 where
  pub places : f.places.keys ≡ f.nodes.items
  pub as_many_nodes : length f.nodes.items ≡ length (shapes f)
  pub as_many_known : length f.known.items ≡ length (shapes f)
  pub nodes : (i : ℕ) (n : Node) → slice_get f.nodes.items i ≡ Some n →
      HasParts i n × (form_at (shapes f) i ≡ shape_by (shapes f) n)
  pub known : (i : ℕ) (k : Known) → slice_get f.known.items i ≡ Some k → IsKnown (shapes f) (form_at (shapes f) i) k
  pub once : AreDifferent (shapes f)

-- the old expressions keep their numbers, and more may have come after them
abbrev pub Grows : List Shape → List Shape → Type 0
Grows old new = (more : List Shape) × (new ≡ old ++ more)

-- the table that is left has grown, and j is the number of r in it
pub record IsPut (old new : Forms) (r : Shape) (j : ℕ) : Type 0 where
  pub table : IsTable new
  pub grows : Grows (shapes old) (shapes new)
  pub number : IsNumberOf (shapes new) r j

-- each is the number of an expression
abbrev pub AreThere : List Shape → List ℕ → Type 0
AreThere ss is = AllByRecursion (λ i. i < length ss) is

-- the expressions of these numbers
abbrev pub forms_at : List Shape → List ℕ → List Shape
forms_at ss is = map (λ i. form_at ss i) is
