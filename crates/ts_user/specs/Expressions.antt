-- Expressions and bracket levels without their places in memory.
use Rattle.std.specs.Prelude.{◌≡◌, ℕ, ◌≤◌, ◌-◌, ◌⊎◌, List, take, get_or, Option, Some, None, option_map}
use Rattle.ts_regex.specs.Shape.{Shape, shape_of}
use Rattle.ts_user.specs.declared.part.Part.{Part}
use Rattle.ts_user.specs.declared.part.Part.TheVariants.{Fits, TooLarge}
use Rattle.ts_user.specs.declared.level.Level.{Level}
use Rattle.ts_user.specs.declared.expression.Read.{Read}
use Rattle.ts_user.specs.FromTheEnd.{Within, Levels, read_on}

abbrev pub part_of : Part → Option Shape
part_of (Fits regex) = Some (shape_of regex)
part_of TooLarge = None

abbrev pub within_of : Level → Within
within_of x = record {
  repeat = x.repeat;
  sequence = option_map part_of x.sequence;
  choices = option_map part_of x.choices;
}

-- the level as the innermost one
abbrev pub at_level : List Within → Level → Levels
at_level outer x = record { inner = within_of x; outer = outer }

-- what a word is of whose innermost level this has been read; None where it can't be an expression
abbrev pub read_by : List ℕ → List Within → Option Read → Option (Option Shape)
read_by word outer None = None
read_by word outer (Some x) = read_on 256 (take x.left word) (at_level outer x.level)

-- `start` bytes stand before a level that ends where `end` are left: it begins the word, or a `(` stands before it
pub record AtLevelStart (word : List ℕ) (end start : ℕ) : Type 0 where
  pub before : start ≤ end
  pub starts : (start ≡ 0) ⊎ (get_or word (start - 1) 0 ≡ 40)
