-- What is left of a word after its first letter (Brzozowski 1964, "Derivatives of regular expressions").
use Rattle.std.specs.Prelude.{ℕ, Bool, true, false, ◌&&◌, ◌||◌, ◌==◌, if◌then◌else◌}
use Rattle.ts_base.specs.declared.letter.Letter.{Letter}
use Rattle.ts_base.specs.declared.letter.Letter.TheVariants.{Less, Equal, Greater}
use Rattle.ts_regex.specs.Shape.{Shape, Empty, Eps, One, Cat, Alt, Star}

-- the place of a letter in the order `<`, `=`, `>`
abbrev pub letter_rank : Letter → ℕ
letter_rank Less = 0
letter_rank Equal = 1
letter_rank Greater = 2

abbrev pub same_letter : Letter → Letter → Bool
same_letter l m = letter_rank l == letter_rank m

-- the empty word is a word of the expression
abbrev pub nullable : Shape → Bool
nullable Empty = false
nullable Eps = true
nullable (One l) = false
nullable (Cat r s) = nullable r && nullable s
nullable (Alt r s) = nullable r || nullable s
nullable (Star r) = true

-- the words of the expression that begin with l, without that letter
abbrev pub derivative : Shape → Letter → Shape
derivative Empty l = Empty
derivative Eps l = Empty
derivative (One m) l = if same_letter m l then Eps else Empty
derivative (Cat r s) l =
    if nullable r then Alt (Cat (derivative r l) s) (derivative s l) else Cat (derivative r l) s
derivative (Alt r s) l = Alt (derivative r l) (derivative s l)
derivative (Star r) l = Cat (derivative r l) (Star r)

-- the expression has a word
abbrev pub has_word : Shape → Bool
has_word Empty = false
has_word Eps = true
has_word (One l) = true
has_word (Cat r s) = has_word r && has_word s
has_word (Alt r s) = has_word r || has_word s
has_word (Star r) = true

-- the expression has a word of at least one letter
abbrev pub has_longer : Shape → Bool
has_longer Empty = false
has_longer Eps = false
has_longer (One l) = true
has_longer (Cat r s) = (has_longer r && has_word s) || (has_word r && has_longer s)
has_longer (Alt r s) = has_longer r || has_longer s
has_longer (Star r) = has_longer r
