-- Statements, drafts, patterns and stops of a pattern text without their places in memory.
use Rattle.std.specs.Prelude.{◌≡◌, ℕ, ◌≤◌, List, map, Result, Ok, Err, option_map, length, IsTrue}
use Rattle.ts_regex.specs.Shape.{shape_of}
use Rattle.ts_token.specs.Text.{Cut}
use Rattle.ts_token.specs.declared.words.Word.{Word}
use Rattle.ts_transducer.specs.Rows.{rows_of}
use Rattle.ts_transducer.specs.Typing.{is_typed}
use Rattle.ts_pattern.specs.Trims.{HasLongWords}
use Rattle.ts_user.specs.declared.statement.Statement.{Statement}
use Rattle.ts_user.specs.declared.statement.Statement.TheVariants.{Catalogue as CatalogueLine, Pattern as PatternLine, Trim as TrimLine, State as StateLine, Move as MoveLine}
use Rattle.ts_user.specs.declared.stated.Trims.{Trims}
use Rattle.ts_user.specs.declared.draft.Draft.{Draft}
use Rattle.ts_user.specs.declared.user_pattern.UserPattern.{UserPattern}
use Rattle.ts_user.specs.declared.user_stop.UserKind.{UserKind}
use Rattle.ts_user.specs.declared.user_stop.LineStop.{LineStop}
use Rattle.ts_user.specs.declared.user_stop.LineStop.TheVariants.{Bad, NoMemory}
use Rattle.ts_user.specs.declared.user_stop.UserStop.{UserStop}
use Rattle.ts_user.specs.declared.user_stop.UserStop.TheVariants.{Refused, Memory}
use Rattle.ts_user.specs.Expressions.{part_of}
use Rattle.ts_user.specs.Statement.{Meaning, SaysCatalogue, SaysPattern, SaysTrim, SaysState, SaysMove}
use Rattle.ts_user.specs.Stated.{Stated, Described, most_states}
use Rattle.ts_user.specs.PatternReading.{IsPattern, IsRefused}

abbrev pub texts : List Word → List (List ℕ)
texts ws = map (λ w. w.text.now) ws

abbrev pub meaning_of : Statement → Meaning
meaning_of (CatalogueLine id) = SaysCatalogue id
meaning_of (PatternLine part) = SaysPattern (part_of part)
meaning_of (TrimLine trims) = SaysTrim trims.before trims.after
meaning_of (StateLine name kind) = SaysState name kind
meaning_of (MoveLine parts) = SaysMove parts

-- the trims, before and after
abbrev pub pair_of : Trims → ℕ × ℕ
pair_of t = (t.before, t.after)

abbrev pub stated_of : Draft → Stated
stated_of d = record {
  catalogue = d.catalogue;
  expression = option_map shape_of d.expression;
  trims = option_map pair_of d.trims;
  states = d.states.items;
}

abbrev pub described_of : UserPattern → Described
described_of u = record {
  expression = shape_of u.pattern.regex;
  b = u.pattern.b;
  a = u.pattern.a;
  rows = rows_of u.transducer;
}

-- the result is what reading gives, unless memory ran out
abbrev pub Gives : {X Y : Type 0} → (X → Y) → Result X LineStop → Result Y UserKind → Type 0
Gives view (Ok x) read = read ≡ Ok (view x)
Gives view (Err (Bad k)) read = read ≡ Err k
Gives view (Err NoMemory) read = Unit {0}

-- a pattern, or a line with its kind, unless memory ran out
abbrev pub Reads : Result UserPattern UserStop → Result Described (ℕ × UserKind) → Type 0
Reads (Ok u) read = read ≡ Ok (described_of u)
Reads (Err (Refused line kind)) read = read ≡ Err (line, kind)
Reads (Err Memory) read = Unit {0}

-- a draft, or a line with its kind, unless memory ran out
abbrev pub Drafts : Result Draft UserStop → Result Stated (ℕ × UserKind) → Type 0
Drafts (Ok d) read = read ≡ Ok (stated_of d)
Drafts (Err (Refused line kind)) read = read ≡ Err (line, kind)
Drafts (Err Memory) read = Unit {0}

-- what was answered of a text is its reading, unless memory ran out
abbrev pub Tells : Cut → Result UserPattern UserStop → Type 0
Tells c (Ok u) = IsPattern c (described_of u)
Tells c (Err (Refused line kind)) = IsRefused c line kind
Tells c (Err Memory) = Unit {0}

-- what a pattern keeps that was read: each word has at least b + a letters, and at least one; the trims are in their
-- ranges; and the rows are those of a transducer
pub record IsFit (u : UserPattern) : Type 0 where
  pub long : HasLongWords (shape_of u.pattern.regex) u.pattern.b u.pattern.a
  pub before : u.pattern.b ≤ 2
  pub after : u.pattern.a ≤ 1
  pub typed : IsTrue (is_typed (rows_of u.transducer))

-- what is kept beside a draft
abbrev pub IsSound : Draft → Type 0
IsSound d = length d.states.items ≤ most_states

abbrev pub at_line : ℕ → LineStop → UserStop
at_line line (Bad kind) = Refused line kind
at_line line NoMemory = Memory
