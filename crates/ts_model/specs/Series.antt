-- The one line `series v_1 .. v_n` of a text, or the first kind that holds of the text.
use Rattle.std.specs.Prelude.{◌≡◌, ℕ, codes, ◌&&◌, nat_le, ℤ, Bool, List, [], ◌∷◌, length, if◌then◌else◌, Option, Some, None, Result, Ok, Err}
use Rattle.std.specs.Str.{bytes_eq}
use Rattle.ts_base.specs.Limits.{most_cells}
use Rattle.ts_token.specs.Text.{Row, Cut}
use Rattle.ts_token.specs.Number.{number_of}
use Rattle.ts_model.specs.declared.error.SeriesStop.{SeriesStop}
use Rattle.ts_model.specs.declared.error.SeriesStop.TheVariants.{Shape, Number, Length, Memory}
use Rattle.ts_model.specs.Words.{onto}
use Rattle.ts_model.specs.ModelParts.{is_value}
use Rattle.ts_model.specs.ModelReading.{texts_of}

unfoldable pub is_series : List ℕ → Bool
is_series word = bytes_eq word (codes "series")

abbrev pub within : Option ℤ → Option ℤ
within None = None
within (Some v) = if is_value v then Some v else None

-- a number from -1,000,000 to 1,000,000
unfoldable pub value_of : List ℕ → Option ℤ
value_of word = within (number_of word)

-- the numbers that the words are, if each is one
abbrev pub values_of : List (List ℕ) → Option (List ℤ)
values_of [] = Some []
values_of (word ∷ words) = onto (value_of word) (values_of words)

-- the words after `series`, if this is the one line
abbrev pub after_series : List (List ℕ) → Option (List (List ℕ))
after_series [] = None
after_series (first ∷ ws) = if is_series first then Some ws else None

abbrev pub only_row : List Row → Option (List (List ℕ))
only_row [] = None
only_row (row ∷ []) = after_series (texts_of row.words)
only_row (row ∷ other ∷ rows) = None

-- every line is text, and one is unskipped and begins with `series`
abbrev pub series_words : Cut → Option ℕ → Option (List (List ℕ))
series_words c (Some line) = None
series_words c None = only_row c.rows

abbrev pub of_length : ℕ → ℕ → List ℤ → Result (List ℤ) SeriesStop
of_length least most values =
    if nat_le least (length values) && nat_le (length values) most then Ok values else Err Length

abbrev pub numbers_give : ℕ → ℕ → Option (List ℤ) → Result (List ℤ) SeriesStop
numbers_give least most None = Err Number
numbers_give least most (Some values) = of_length least most values

abbrev pub words_give : ℕ → ℕ → Option (List (List ℕ)) → Result (List ℤ) SeriesStop
words_give least most None = Err Shape
words_give least most (Some words) = numbers_give least most (values_of words)

-- the series of at least so many and at most so many numbers, or the first of `shape`, `number` and `length` that holds
abbrev pub series_within : ℕ → ℕ → Cut → Result (List ℤ) SeriesStop
series_within least most c = words_give least most (series_words c c.not_text)

-- the series of n numbers
abbrev pub series_reading : ℕ → Cut → Result (List ℤ) SeriesStop
series_reading n c = series_within n n c

-- the series of as many numbers as there may be cells
abbrev pub any_series_reading : Cut → Result (List ℤ) SeriesStop
any_series_reading c = series_within 1 most_cells c

-- the result is what the text reads as, unless memory ran out
abbrev pub ReadsSeries : {X : Type 0} → (X → List ℤ) → Result X SeriesStop → Result (List ℤ) SeriesStop → Type 0
ReadsSeries view (Ok x) read = read ≡ Ok (view x)
ReadsSeries view (Err Shape) read = read ≡ Err Shape
ReadsSeries view (Err Number) read = read ≡ Err Number
ReadsSeries view (Err Length) read = read ≡ Err Length
ReadsSeries view (Err Memory) read = Unit {0}
