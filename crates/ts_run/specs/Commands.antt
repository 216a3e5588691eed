-- The commands by their words, and how each takes its input.
use Rattle.std.specs.Prelude.{ℕ, ◌<◌, List, [], ◌∷◌, codes, map, Option, Some, None, option_map, if◌then◌else◌, string_bytes, String}
use Rattle.std.specs.Global.{Global}
use Rattle.std.specs.Str.{bytes_eq}
use Rattle.ts_base.specs.declared.goal.Goal.TheVariants.{Maximise, Minimise}
use Rattle.ts_base.specs.Limits.{most_cells, most_check_bytes, most_checked, most_listed, most_model_bytes}
use Rattle.ts_base.specs.Limits.{most_verify_bytes, too_many}
use Rattle.ts_run.specs.Quantities.{IsWithin, number_within, usual_lines}
use Rattle.ts_run.specs.declared.command.Command.{Command}
use Rattle.ts_run.specs.declared.command.Command.TheVariants.{Check, Compile, Verify, Best, Generate, Sample, Mark, Watch}
use Rattle.ts_run.specs.declared.command.Input.{Input}
use Rattle.ts_run.specs.declared.command.Input.TheVariants.{Whole, Live, Nothing}

-- the words as bytes
abbrev pub words_in : List (String Global) → List (List ℕ)
words_in words = map string_bytes words

-- a command without further words
abbrev pub if_alone : Command → List (List ℕ) → Option Command
if_alone command [] = Some command
if_alone command (word ∷ words) = None

-- the budget that these words give: `--budget` and a number, or nothing
abbrev pub budget_of : List (List ℕ) → Option ℕ
budget_of [] = Some usual_lines
budget_of (word ∷ []) = None
budget_of (word ∷ number ∷ []) = if bytes_eq word (codes "--budget") then number_within 1 most_checked number else None
budget_of (word ∷ number ∷ other ∷ words) = None

-- `generate` with a number of series, and the budget
abbrev pub generate_by : Option ℕ → Option ℕ → Option Command
generate_by None budget = None
generate_by (Some count) budget = option_map (λ lines. Generate count lines) budget

abbrev pub generate_of : List (List ℕ) → Option Command
generate_of [] = None
generate_of (number ∷ words) = generate_by (number_within 1 most_listed number) (budget_of words)

-- `sample` with a number of cells
abbrev pub sample_of : List (List ℕ) → Option Command
sample_of [] = None
sample_of (number ∷ []) = option_map (λ n. Sample n) (number_within 1 most_cells number)
sample_of (number ∷ other ∷ words) = None

-- the command that these words are
abbrev pub command_of : List (List ℕ) → Option Command
command_of [] = None
command_of (word ∷ words) =
    if bytes_eq word (codes "check") then if_alone Check words
    else (if bytes_eq word (codes "compile") then if_alone Compile words
    else (if bytes_eq word (codes "maximise") then option_map (λ lines. Best Maximise lines) (budget_of words)
    else (if bytes_eq word (codes "minimise") then option_map (λ lines. Best Minimise lines) (budget_of words)
    else (if bytes_eq word (codes "generate") then generate_of words
    else (if bytes_eq word (codes "verify") then if_alone Verify words
    else (if bytes_eq word (codes "sample") then sample_of words
    else (if bytes_eq word (codes "mark") then if_alone Mark words
    else (if bytes_eq word (codes "watch") then if_alone Watch words
    else None))))))))

-- how a command takes its input: the whole, up to a limit; as a stream, up to a limit; or nothing of it
abbrev pub input_of : Command → Input
input_of Check = Whole most_check_bytes
input_of Compile = Whole most_model_bytes
input_of Verify = Whole most_verify_bytes
input_of (Best goal lines) = Whole most_model_bytes
input_of (Generate count lines) = Whole most_model_bytes
input_of (Sample cells) = Nothing
input_of Mark = Whole most_check_bytes
input_of Watch = Live most_check_bytes

-- the limit of an input is below that of every call that takes a text
abbrev pub IsShort : Input → Type 0
IsShort (Whole limit) = limit < too_many
IsShort (Live limit) = limit < too_many
IsShort Nothing = Unit {0}

-- the numbers of a command are in the ranges of its words
abbrev pub KeepsRanges : Command → Type 0
KeepsRanges (Best goal lines) = IsWithin 1 most_checked lines
KeepsRanges (Generate count lines) = IsWithin 1 most_listed count × IsWithin 1 most_checked lines
KeepsRanges (Sample cells) = IsWithin 1 most_cells cells
KeepsRanges _ = Unit {0}

-- a command replies to all its bytes at once: `verify` takes them piece by piece, and `watch` replies piece by piece
abbrev pub RepliesAtOnce : Command → Type 0
RepliesAtOnce Verify = ⊥
RepliesAtOnce Watch = ⊥
RepliesAtOnce _ = Unit {0}
