-- An expression as it is read from its last byte to its first: the bracket levels that are open, the innermost apart.
-- Read so, a repeat sign is met before what it repeats, and what stands to the right of a part is complete when the
-- part is met, so that sequences and unions nest to the right by themselves.
use Rattle.std.specs.Prelude.{◌≡◌, ℕ, ◌==◌, List, [], ◌∷◌, length, if◌then◌else◌, nat_le, Option, Some, None}
use Rattle.ts_base.specs.declared.letter.Letter.TheVariants.{Less, Equal, Greater}
use Rattle.ts_regex.specs.Shape.{Shape, One, Cat, Alt, Star}
use Rattle.ts_user.specs.declared.symbol.Symbol.{Symbol}
use Rattle.ts_user.specs.declared.symbol.Symbol.TheVariants.{Sign, Open, Close, Repeated, Or}
use Rattle.ts_user.specs.declared.symbol.Repeat.{Repeat}
use Rattle.ts_user.specs.declared.symbol.Repeat.TheVariants.{AnyTimes, OnceOrMore}
use Rattle.ts_user.specs.Grammar.{nodes, Whole, Means}

abbrev pub symbol_of : ℕ → Option Symbol
symbol_of b =
    if b == 60 then Some (Sign Less)
    else (if b == 61 then Some (Sign Equal)
    else (if b == 62 then Some (Sign Greater)
    else (if b == 40 then Some Open
    else (if b == 41 then Some Close
    else (if b == 42 then Some (Repeated AnyTimes)
    else (if b == 43 then Some (Repeated OnceOrMore)
    else (if b == 124 then Some Or
    else None)))))))

-- the expression, or None where it has more nodes than this
abbrev pub bounded : ℕ → Shape → Option Shape
bounded most r = if nat_le (nodes r) most then Some r else None

abbrev pub bounded_star : ℕ → Option Shape → Option Shape
bounded_star most None = None
bounded_star most (Some r) = bounded most (Star r)

abbrev pub bounded_cat : ℕ → Option Shape → Option Shape → Option Shape
bounded_cat most None s = None
bounded_cat most (Some r) None = None
bounded_cat most (Some r) (Some s) = bounded most (Cat r s)

abbrev pub bounded_alt : ℕ → Option Shape → Option Shape → Option Shape
bounded_alt most None s = None
bounded_alt most (Some r) None = None
bounded_alt most (Some r) (Some s) = bounded most (Alt r s)

-- what has been read of a bracket level: the sign that repeats the atom to come, the sequence after it up to the next
-- `|`, and the choices after that
pub record Within : Type 0 where
  pub repeat : Option Repeat
  pub sequence : Option (Option Shape)
  pub choices : Option (Option Shape)

pub record Levels : Type 0 where
  pub inner : Within
  pub outer : List Within

abbrev pub blank_level : Within
blank_level = record { repeat = None; sequence = None; choices = None }

abbrev pub blank_levels : Levels
blank_levels = record { inner = blank_level; outer = [] }

abbrev pub repeated : ℕ → Option Repeat → Option Shape → Option Shape
repeated most None r = r
repeated most (Some AnyTimes) r = bounded_star most r
repeated most (Some OnceOrMore) r = bounded_cat most r (bounded_star most r)

abbrev pub onto_sequence : ℕ → Option Shape → Option (Option Shape) → Option Shape
onto_sequence most r None = r
onto_sequence most r (Some s) = bounded_cat most r s

abbrev pub onto_choices : ℕ → Option Shape → Option (Option Shape) → Option Shape
onto_choices most r None = r
onto_choices most r (Some s) = bounded_alt most r s

-- the level after an atom was read
abbrev pub with_atom : ℕ → Option Shape → Within → Within
with_atom most r x = record {
  repeat = None;
  sequence = Some (onto_sequence most (repeated most x.repeat r) x.sequence);
  choices = x.choices;
}

abbrev pub closed_as : ℕ → Option Repeat → Option (Option Shape) → Option (Option Shape) → Option (Option Shape)
closed_as most (Some x) sequence choices = None
closed_as most None None choices = None
closed_as most None (Some r) choices = Some (onto_choices most r choices)

-- the expression of a level of which all is read; None where nothing stands before a `|` or a repeat sign
abbrev pub closed : ℕ → Within → Option (Option Shape)
closed most x = closed_as most x.repeat x.sequence x.choices

abbrev pub repeat_read : Repeat → Option Repeat → Levels → Option Levels
repeat_read sign None x = Some (record x { inner = record (x.inner) { repeat = Some sign } })
repeat_read sign (Some other) x = None

abbrev pub or_read : Option (Option Shape) → List Within → Option Levels
or_read None outer = None
or_read (Some r) outer =
    Some (record { inner = record { repeat = None; sequence = None; choices = Some r }; outer = outer })

abbrev pub open_read : ℕ → Option (Option Shape) → List Within → Option Levels
open_read most None outer = None
open_read most (Some r) [] = None
open_read most (Some r) (x ∷ xs) = Some (record { inner = with_atom most r x; outer = xs })

abbrev pub symbol_read : ℕ → Option Symbol → Levels → Option Levels
symbol_read most None x = None
symbol_read most (Some (Sign l)) x = Some (record x { inner = with_atom most (bounded most (One l)) x.inner })
symbol_read most (Some Open) x = open_read most (closed most x.inner) x.outer
symbol_read most (Some Close) x = Some (record { inner = blank_level; outer = x.inner ∷ x.outer })
symbol_read most (Some (Repeated sign)) x = repeat_read sign x.inner.repeat x
symbol_read most (Some Or) x = or_read (closed most x.inner) x.outer

abbrev pub byte_read : ℕ → ℕ → Option Levels → Option Levels
byte_read most b None = None
byte_read most b (Some x) = symbol_read most (symbol_of b) x

-- the levels that are open after these bytes too were read, from the last one on
abbrev pub read_onto : ℕ → List ℕ → Option Levels → Option Levels
read_onto most [] x = x
read_onto most (b ∷ bs) x = byte_read most b (read_onto most bs x)

abbrev pub levels_of : ℕ → List ℕ → Option Levels
levels_of most bytes = read_onto most bytes (Some blank_levels)

abbrev pub ended_at : ℕ → Within → List Within → Option (Option Shape)
ended_at most x [] = closed most x
ended_at most x (y ∷ ys) = None

abbrev pub ended : ℕ → Option Levels → Option (Option Shape)
ended most None = None
ended most (Some x) = ended_at most x.inner x.outer

-- what a word is of which these levels have been read, and these bytes stand before them
abbrev pub read_on : ℕ → List ℕ → Levels → Option (Option Shape)
read_on most bytes x = ended most (read_onto most bytes (Some x))

-- the expression that the bytes are, or None in its place where it has more nodes than this; None where they aren't one
abbrev pub read_within : ℕ → List ℕ → Option (Option Shape)
read_within most bytes = ended most (levels_of most bytes)

-- an expression of a pattern text has at most 64 bytes and 256 nodes
abbrev pub most_nodes : List ℕ → ℕ
most_nodes word = if nat_le (length word) 64 then 256 else 0

unfoldable pub expression_of : List ℕ → Option (Option Shape)
expression_of word = read_within (most_nodes word) word

-- the word is an expression of the grammar, and this one: None in its place where the word has more than 64 bytes, or
-- the expression more than 256 nodes
abbrev pub IsExpression : List ℕ → Option Shape → Type 0
IsExpression word p = (r : Shape) × Means Whole word r × (p ≡ bounded (most_nodes word) r)
