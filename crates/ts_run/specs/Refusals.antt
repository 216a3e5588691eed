-- The texts of the refusals, and what a command replies to a part of its input that may be refused.
use Rattle.std.specs.Prelude.{ℕ, ◌≡◌, ℤ, List, ◌++◌, map, codes, Result, Ok, Err}
use Rattle.std.specs.Fmt.{decimal}
use Rattle.ts_base.specs.declared.letter.Letter.{Letter}
use Rattle.ts_base.specs.declared.letter.Letter.TheVariants.{Less, Equal, Greater}
use Rattle.ts_base.specs.Text.{line}
use Rattle.ts_model.specs.declared.error.ModelKind.{ModelKind}
use Rattle.ts_model.specs.declared.error.ModelKind.TheVariants.{NotText, UnknownLine, Shape, Number, NoCells, CellsTwice, CellRange, Empty, UnknownName, BadPair, UnknownTerm, TermTwice, ObjectiveTwice, Limit, NoObjective}
use Rattle.ts_model.specs.declared.error.SeriesStop.{SeriesStop}
use Rattle.ts_model.specs.declared.error.SeriesStop.TheVariants.{Shape as NoSeries, Number as NoNumber, Length, Memory as NoMemory}
use Rattle.ts_model.specs.declared.model.Need.{Need}
use Rattle.ts_model.specs.ModelReading.{model_reading}
use Rattle.ts_model.specs.ModelParts.{ModelParts}
use Rattle.ts_user.specs.declared.user_stop.UserKind.{UserKind}
use Rattle.ts_user.specs.declared.user_stop.UserKind.TheVariants.{NotText as NoText, UnknownLine as NoForm, Shape as NoShape, Expression, Number as NoTrim, Twice, UnknownName as NoName, Limit as PastLimit, Missing, ShortWord, Typing}
use Rattle.ts_run.specs.Reply.{Reply}
use Rattle.ts_run.specs.declared.status.Status.TheVariants.{Refused, ReadFault}

abbrev pub refused_words : Reply
refused_words = record { text = codes "refused words\n"; status = Refused }

abbrev pub fault_read : Reply
fault_read = record { text = codes "fault read\n"; status = ReadFault }

abbrev pub refused_length : Reply
refused_length = record { text = codes "refused length\n"; status = Refused }

-- a term looks at some of the cells alone, where all readings are asked for
abbrev pub refused_window : Reply
refused_window = record { text = codes "refused window\n"; status = Refused }

-- the kind of a bad line, as it is printed
abbrev pub kind_word : ModelKind → List ℕ
kind_word NotText = codes "nottext"
kind_word UnknownLine = codes "unknownline"
kind_word Shape = codes "shape"
kind_word Number = codes "number"
kind_word NoCells = codes "nocells"
kind_word CellsTwice = codes "cellstwice"
kind_word CellRange = codes "cellrange"
kind_word Empty = codes "empty"
kind_word UnknownName = codes "unknownname"
kind_word BadPair = codes "badpair"
kind_word UnknownTerm = codes "unknownterm"
kind_word TermTwice = codes "termtwice"
kind_word ObjectiveTwice = codes "objectivetwice"
kind_word Limit = codes "limit"
kind_word NoObjective = codes "noobjective"

-- a text is refused at a line, by these words, its number and the word of its kind
abbrev pub refused_line : List ℕ → ℕ → List ℕ → Reply
refused_line words number kind = record {
  text = line (words ++ decimal number ++ codes " " ++ kind);
  status = Refused;
}

abbrev pub refused_model : ℕ → ModelKind → Reply
refused_model number kind = refused_line (codes "refused model line ") number (kind_word kind)

abbrev pub refused_series : List ℕ → Reply
refused_series word = record { text = line (codes "refused series " ++ word); status = Refused }

-- the kind of a bad line of a pattern text, as it is printed
abbrev pub user_kind_word : UserKind → List ℕ
user_kind_word NoText = codes "nottext"
user_kind_word NoForm = codes "unknownline"
user_kind_word NoShape = codes "shape"
user_kind_word Expression = codes "expression"
user_kind_word NoTrim = codes "number"
user_kind_word Twice = codes "twice"
user_kind_word NoName = codes "unknownname"
user_kind_word PastLimit = codes "limit"
user_kind_word Missing = codes "missing"
user_kind_word ShortWord = codes "shortword"
user_kind_word Typing = codes "typing"

abbrev pub refused_pattern : ℕ → UserKind → Reply
refused_pattern number kind = refused_line (codes "refused pattern line ") number (user_kind_word kind)

-- a letter as its sign
abbrev pub sign_of : Letter → ℕ
sign_of Less = 60
sign_of Equal = 61
sign_of Greater = 62

-- the refusal of a plan by the signature on whose last letter a check fails
abbrev pub refused_closure : List Letter → Reply
refused_closure w = record { text = line (codes "refused closure " ++ map sign_of w); status = Refused }

abbrev pub refused_toomany : Reply
refused_toomany = record { text = codes "refused toomany\n"; status = Refused }

-- the refusal of a model by how it was read, or a reply to the model that its text states
abbrev pub OnReading : Result ModelParts (ℕ × ModelKind) → (ModelParts → Reply → Type 0) → Reply → Type 0
OnReading (Err bad) next r = r ≡ refused_model bad.0 bad.1
OnReading (Ok m) next r = next m r

-- the refusal of the model in the text, in the limits of the need, or a reply to the model
abbrev pub OnModel : Need → List ℕ → (ModelParts → Reply → Type 0) → Reply → Type 0
OnModel need text next r = OnReading (model_reading need text) next r

-- the refusal of a series, or a reply to it; no reading is lack of memory
abbrev pub OnSeries : Result (List ℤ) SeriesStop → (List ℤ → Reply → Type 0) → Reply → Type 0
OnSeries (Ok xs) next r = next xs r
OnSeries (Err NoSeries) next r = r ≡ refused_series (codes "shape")
OnSeries (Err NoNumber) next r = r ≡ refused_series (codes "number")
OnSeries (Err Length) next r = r ≡ refused_series (codes "length")
OnSeries (Err NoMemory) next r = ⊥
