-- Where the bytes of a line lead, and which of them add nothing.
use Rattle.std.specs.Prelude.{ℕ, ◌≡◌, ◌+◌, ◌*◌, ◌≤◌, ◌==◌, not, ◌++◌, Bool, true, false, List, [], ◌∷◌, length, nat_lt, if◌then◌else◌, Option, Some, None}
use Rattle.std.specs.List.{list_all}
use Rattle.ts_base.specs.Words.{is_lf}
use Rattle.ts_token.specs.declared.short.Place.{Place}
use Rattle.ts_token.specs.declared.short.Place.TheVariants.{Start, Margin, Blank, Word, Comment, Return, NotText, Ended}
use Rattle.ts_token.specs.Gist.{most_kept}
use Rattle.ts_token.specs.Steps.{is_solid, without_cr}
use Rattle.ts_token.specs.Text.{is_blank, is_plain, is_text, words_of}

-- after a blank; None where it adds nothing
abbrev pub blank_place : Place → Option Place
blank_place Start = Some Margin
blank_place Margin = None
blank_place Blank = None
blank_place (Word count) = Some Blank
blank_place Comment = None
blank_place Return = None
blank_place NotText = None
blank_place Ended = None

-- after another byte of text
abbrev pub solid_place : Place → ℕ → Option Place
solid_place Start b = if b == 35 then Some Comment else Some (Word 1)
solid_place Margin b = if b == 35 then Some Comment else Some (Word 1)
solid_place Blank b = Some (Word 1)
solid_place (Word count) b = if nat_lt count most_kept then Some (Word (count + 1)) else None
solid_place Comment b = None
solid_place Return b = None
solid_place NotText b = None
solid_place Ended b = None

-- after a byte that is no LF, where the line was text so far
abbrev pub text_place : Place → ℕ → Option Place
text_place p b =
    if b == 13 then Some Return
    else (if not (is_plain b) then Some NotText
    else (if is_blank b then blank_place p
    else solid_place p b))

abbrev pub place_on : Place → ℕ → Option Place
place_on Start b = text_place Start b
place_on Margin b = text_place Margin b
place_on Blank b = text_place Blank b
place_on (Word count) b = text_place (Word count) b
place_on Comment b = text_place Comment b
place_on Return b = Some NotText
place_on NotText b = None
place_on Ended b = Some Ended

-- after one more byte; None where it adds nothing
abbrev pub place_after : Place → ℕ → Option Place
place_after p b = if b == 10 then Some Ended else place_on p b

-- the first byte that is no blank is a '#'
abbrev pub is_comment : List ℕ → Bool
is_comment [] = false
is_comment (b ∷ bs) = if is_blank b then is_comment bs else b == 35

pub record EndsBlank (bytes : List ℕ) : Type 0 where
  pub front : List ℕ
  pub blank : ℕ
  pub parts : bytes ≡ front ++ blank ∷ []
  pub is : is_blank blank ≡ true

-- the last bytes, as many as that, are no blanks
pub record EndsSolid (count : ℕ) (bytes : List ℕ) : Type 0 where
  pub front : List ℕ
  pub word : List ℕ
  pub parts : bytes ≡ front ++ word
  pub solid : list_all is_solid word ≡ true
  pub long : count ≤ length word

-- the bytes have led here; of those that aren't text, a CR alone may be the last of them
abbrev pub IsAt : Place → List ℕ → Type 0
IsAt Start bytes = bytes ≡ []
IsAt Margin bytes = (is_text bytes ≡ true) × (list_all is_blank bytes ≡ true) × EndsBlank bytes
IsAt Blank bytes = (is_text bytes ≡ true) × EndsBlank bytes
IsAt (Word count) bytes = (is_text bytes ≡ true) × EndsSolid count bytes
IsAt Comment bytes = (is_text bytes ≡ true) × (is_comment bytes ≡ true)
IsAt Return bytes = (list_all (λ b. not (is_lf b)) bytes ≡ true) × (is_text bytes ≡ false)
IsAt NotText bytes = (list_all (λ b. not (is_lf b)) bytes ≡ true) × (is_text (without_cr bytes) ≡ false)
IsAt Ended bytes = Unit {0}

-- of bytes with an LF so few are kept: 65 a word, a few more, and all after the LF
pub record IsSmallEnded (line : List ℕ) (kept : ℕ) : Type 0 where
  pub front : List ℕ
  pub rest : List ℕ
  pub parts : line ≡ front ++ 10 ∷ rest
  pub few : kept ≤ 65 * length (words_of line) + 4 + length rest

-- of bytes that have led here so few are kept: 64 of a word with a blank before it, and a few more
abbrev pub IsSmallAt : Place → List ℕ → ℕ → Type 0
IsSmallAt Start line kept = line ≡ []
IsSmallAt Margin line kept = EndsBlank line × (kept ≤ 1)
IsSmallAt Blank line kept = EndsBlank line × (kept ≤ 65 * length (words_of line) + 1)
IsSmallAt (Word count) line kept = (count ≤ most_kept) × (kept + most_kept ≤ 65 * length (words_of line) + count)
IsSmallAt Comment line kept = kept ≤ 65 * length (words_of line)
IsSmallAt Return line kept = kept ≤ 65 * length (words_of line) + 2
IsSmallAt NotText line kept = kept ≤ 65 * length (words_of line) + 3
IsSmallAt Ended line kept = IsSmallEnded line kept
