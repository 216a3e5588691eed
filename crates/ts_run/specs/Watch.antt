-- What `watch` writes: after a model and a line `%%`, one reading a line; after each the values of the model's terms
-- on all readings so far.
use Rattle.std.specs.Prelude.{ℕ, ◌+◌, ℤ, nat_lt, List, [], ◌∷◌, ◌++◌, codes, length, map, if◌then◌else◌}
use Rattle.std.specs.Prelude.{Option, Some, None, option_map, Result, Ok, Err}
use Rattle.std.specs.Fmt.{decimal}
use Rattle.ts_base.specs.Text.{ext_text, line}
use Rattle.ts_base.specs.Words.{behind}
use Rattle.ts_decorate.specs.Answers.{longest}
use Rattle.ts_token.specs.Halves.{Halves, halves_of}
use Rattle.ts_token.specs.Text.{Piece, is_skipped, is_text, lines_of, words_of}
use Rattle.ts_model.specs.declared.error.ModelKind.{ModelKind}
use Rattle.ts_model.specs.declared.model.Need.TheVariants.{Values}
use Rattle.ts_model.specs.Meets.{values_on}
use Rattle.ts_model.specs.ModelParts.{ModelParts}
use Rattle.ts_model.specs.ModelReading.{model_reading}
use Rattle.ts_model.specs.ModelTexts.{whole_lines}
use Rattle.ts_model.specs.Series.{value_of}
use Rattle.ts_model.specs.TermValue.{has_window}
use Rattle.ts_checker.specs.Verified.{model_part, rest_part}
use Rattle.ts_run.specs.Refusals.{refused_model, refused_window}
use Rattle.ts_run.specs.Reply.{Reply, behind_text}
use Rattle.ts_run.specs.Streams.{Due, nothing_due}
use Rattle.ts_run.specs.declared.status.Status.{Status}
use Rattle.ts_run.specs.declared.status.Status.TheVariants.{Done, Refused}

-- The readings of a stream.

-- the readings in the words of a line: one where it has one word, a number that a cell may have; none where it is
-- skipped; None where it is bad
abbrev pub only_value : List Piece → Option (List ℤ)
only_value [] = Some []
only_value (word ∷ []) = option_map (λ v. v ∷ []) (value_of word.text)
only_value (word ∷ other ∷ words) = None

abbrev pub words_give : List Piece → Option (List ℤ)
words_give words = if is_skipped words then Some [] else only_value words

-- what a line without its end gives, which is bad if it isn't text
abbrev pub line_gives : List ℕ → Option (List ℤ)
line_gives line = if is_text line then words_give (words_of line) else None

-- readings, and the number of the bad line after them, where one came
pub record Readings : Type 0 where
  pub values : List ℤ
  pub bad : Option ℕ

abbrev pub bad_at : ℕ → Readings
bad_at number = record { values = []; bad = Some number }

abbrev pub after_values : List ℤ → Readings → Readings
after_values values r = record { values = values ++ r.values; bad = r.bad }

-- what a line gives after `count` readings, with those of the lines after it: a reading beyond the last that may come
-- makes its line bad
abbrev pub line_onto : ℕ → ℕ → Option (List ℤ) → (ℕ → Readings) → Readings
line_onto count number None next = bad_at number
line_onto count number (Some []) next = next count
line_onto count number (Some (v ∷ vs)) next =
    if nat_lt count longest then after_values (v ∷ []) (next (count + 1)) else bad_at number

-- the readings of lines, the first of which has this number, after `count` others, up to the first bad line
abbrev pub readings_from : ℕ → ℕ → List (List ℕ) → Readings
readings_from count number [] = record { values = []; bad = None }
readings_from count number (line ∷ lines) =
    line_onto count number (line_gives line) (λ n. readings_from n (number + 1) lines)

-- the readings of a text
abbrev pub readings_of : List ℕ → Readings
readings_of text = readings_from 0 1 (lines_of text)

-- What is written.

-- the number of readings, and the value of each term on them
abbrev pub values_line : ModelParts → List ℤ → List ℕ
values_line m xs = line (decimal (length xs) ++ behind (map ext_text (values_on m xs)))

-- a line for each of the readings xs, on all readings up to it, where others came before them
abbrev pub values_lines : ModelParts → List ℤ → List ℤ → List ℕ
values_lines m before [] = []
values_lines m before (x ∷ xs) = values_line m (before ++ x ∷ []) ++ values_lines m (before ++ x ∷ []) xs

abbrev pub refused_reading : ℕ → Reply
refused_reading number = record { text = line (codes "refused reading line " ++ decimal number); status = Refused }

abbrev pub end_of : ℕ → Reply
end_of count = record { text = line (codes "end " ++ decimal count); status = Done }

-- the last line: the refusal of the bad one, or the end with the number of readings
abbrev pub last_line : Option ℕ → ℕ → Reply
last_line None count = end_of count
last_line (Some number) count = refused_reading number

-- the reply to readings
abbrev pub values_reply : ModelParts → Readings → Reply
values_reply m r = behind_text (values_lines m [] r.values) (last_line r.bad (length r.values))

-- the reply to the readings in a text
abbrev pub readings_reply : ModelParts → List ℕ → Reply
readings_reply m text = values_reply m (readings_of text)

-- the refusal of the model or of a window in it, or the reply to the readings in the text after it
abbrev pub reply_on : Result ModelParts (ℕ × ModelKind) → List ℕ → Reply
reply_on (Err bad) text = refused_model bad.0 bad.1
reply_on (Ok m) text = if has_window m then refused_window else readings_reply m text

-- what `watch` replies to an input: each line of readings counts, the last without an LF too
abbrev pub watch_reply : List ℕ → Reply
watch_reply bytes = reply_on (model_reading Values (model_part bytes)) (rest_part bytes)

-- What is owed once some bytes have come: only lines with an LF count, and the line `%%` ends the model.

abbrev pub refusal_due : Option ℕ → List ℕ
refusal_due None = []
refusal_due (Some number) = (refused_reading number).text

abbrev pub end_due : Option ℕ → Option Status
end_due None = None
end_due (Some number) = Some Refused

abbrev pub values_due : ModelParts → Readings → Due
values_due m r = record { text = values_lines m [] r.values ++ refusal_due r.bad; ended = end_due r.bad }

-- what is owed after a text of whole lines, and after any bytes, that follow a model
abbrev pub lines_due : ModelParts → List ℕ → Due
lines_due m text = values_due m (readings_of text)

abbrev pub readings_due : ModelParts → List ℕ → Due
readings_due m bytes = lines_due m (whole_lines bytes)

-- a refusal is owed, and nothing after it
abbrev pub refused_due : Reply → Due
refused_due r = record { text = r.text; ended = Some Refused }

-- what is owed by how the model in front was read
abbrev pub due_on : Result ModelParts (ℕ × ModelKind) → List ℕ → Due
due_on (Err bad) text = refused_due (refused_model bad.0 bad.1)
due_on (Ok m) text = if has_window m then refused_due refused_window else lines_due m text

-- nothing is owed before the line `%%`
abbrev pub due_behind : List ℕ → Option (List ℕ) → Due
due_behind model None = nothing_due
due_behind model (Some text) = due_on (model_reading Values model) text

abbrev pub due_in : Halves → Due
due_in h = due_behind h.model h.rest

abbrev pub watch_due : List ℕ → Due
watch_due bytes = due_in (halves_of (whole_lines bytes))
