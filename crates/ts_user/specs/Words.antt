-- What a single word of a pattern text is: a first word, a letter that names a state, a kind, a sign, a phase, a trim.
use Rattle.std.specs.Prelude.{ℕ, codes, ℤ, pos, negsuc, ◌&&◌, List, [], ◌∷◌, if◌then◌else◌, nat_le, Option, Some, None}
use Rattle.std.specs.List.{find}
use Rattle.std.specs.Str.{bytes_eq}
use Rattle.ts_base.specs.declared.letter.Letter.{Letter}
use Rattle.ts_base.specs.declared.letter.Letter.TheVariants.{Less, Equal, Greater}
use Rattle.ts_base.specs.declared.range.Kind.{Kind}
use Rattle.ts_base.specs.declared.range.Kind.TheVariants.{Idle, Pending, Held}
use Rattle.ts_token.specs.Number.{number_of}
use Rattle.ts_transducer.specs.declared.row.Phase.{Phase}
use Rattle.ts_transducer.specs.declared.row.Phase.TheVariants.{Out, OutR, OutA, MaybeB, MaybeA, Found, FoundE, Inside}
use Rattle.ts_pattern.specs.declared.name.PatternId.{PatternId}
use Rattle.ts_pattern.specs.Names.{pattern_name, all_patterns}
use Rattle.ts_user.specs.declared.words.Form.{Form}
use Rattle.ts_user.specs.declared.words.Form.TheVariants.{Catalogue, Pattern, Trim, State, Move}

-- the form of a line that begins with this word
unfoldable pub form_of : List ℕ → Option Form
form_of word =
    if bytes_eq word (codes "catalogue") then Some Catalogue
    else (if bytes_eq word (codes "pattern") then Some Pattern
    else (if bytes_eq word (codes "trim") then Some Trim
    else (if bytes_eq word (codes "state") then Some State
    else (if bytes_eq word (codes "move") then Some Move
    else None))))

unfoldable pub kind_of : List ℕ → Option Kind
kind_of word =
    if bytes_eq word (codes "idle") then Some Idle
    else (if bytes_eq word (codes "pending") then Some Pending
    else (if bytes_eq word (codes "held") then Some Held
    else None))

unfoldable pub sign_of : List ℕ → Option Letter
sign_of word =
    if bytes_eq word (codes "<") then Some Less
    else (if bytes_eq word (codes "=") then Some Equal
    else (if bytes_eq word (codes ">") then Some Greater
    else None))

unfoldable pub phase_of : List ℕ → Option Phase
phase_of word =
    if bytes_eq word (codes "out") then Some Out
    else (if bytes_eq word (codes "out_r") then Some OutR
    else (if bytes_eq word (codes "out_a") then Some OutA
    else (if bytes_eq word (codes "maybe_b") then Some MaybeB
    else (if bytes_eq word (codes "maybe_a") then Some MaybeA
    else (if bytes_eq word (codes "found") then Some Found
    else (if bytes_eq word (codes "found_e") then Some FoundE
    else (if bytes_eq word (codes "in") then Some Inside
    else None)))))))

unfoldable pub pattern_of : List ℕ → Option PatternId
pattern_of word = find (λ id. bytes_eq (pattern_name id) word) all_patterns

-- the one letter that the word is, a to z
unfoldable pub letter_name : List ℕ → Option ℕ
letter_name [] = None
letter_name (b ∷ []) = if nat_le 97 b && nat_le b 122 then Some b else None
letter_name (b ∷ c ∷ bs) = None

abbrev pub at_most : ℕ → Option ℤ → Option ℕ
at_most most None = None
at_most most (Some (pos n)) = if nat_le n most then Some n else None
at_most most (Some (negsuc n)) = None

-- the number that the word is, from 0 to most
unfoldable pub trim_of : ℕ → List ℕ → Option ℕ
trim_of most word = at_most most (number_of word)
