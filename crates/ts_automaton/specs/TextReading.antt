-- What a text is read as: the automaton whose block it is, or the line that refuses it.
use Rattle.std.specs.Prelude.{◌≡◌, ℕ, ◌+◌, ◌*◌, IsTrue, List, length, Some, Result, Ok, Err}
use Rattle.ts_base.specs.declared.letter.Letter.{Letter}
use Rattle.ts_base.specs.declared.letter.Letter.TheVariants.{Less, Equal, Greater}
use Rattle.ts_base.specs.Words.{strict_lines}
use Rattle.ts_automaton.specs.declared.stop.AutoStop.{AutoStop}
use Rattle.ts_automaton.specs.declared.stop.AutoStop.TheVariants.{Text, Typing, Memory}
use Rattle.ts_automaton.specs.declared.typing.Place.{Place}
use Rattle.ts_automaton.specs.declared.typing.Place.TheVariants.{Start, Moving, Finish}
use Rattle.ts_automaton.specs.Body.{Body}
use Rattle.ts_automaton.specs.Typing.{is_formed, is_automaton, typing_fault}
use Rattle.ts_automaton.specs.AutomatonText.{Sheet, sheet_of, IsBlockOf}
use Rattle.ts_automaton.specs.Grammar.{IsAgainstGrammar}

abbrev pub rank : Letter → ℕ
rank Less = 0
rank Equal = 1
rank Greater = 2

-- the line of a typed place in a block of so many states: the head is line 1, and the states, the start line, the
-- moves and the finish line follow; that the first state is free is asked at its line
abbrev pub line_at : ℕ → Place → ℕ
line_at states Start = 2
line_at states (Moving q l) = states + 3 + (3 * q + rank l)
line_at states Finish = states + 3 + 3 * states

abbrev pub line_of : Body → Place → ℕ
line_of b p = line_at (length b.states) p

-- a text in the grammar is against the typing, first at the line of this number
pub record IsAgainstTyping (text : List ℕ) (number : ℕ) : Type 0 where
  pub body : Body
  pub formed : IsTrue (is_formed body)
  pub block : IsBlockOf text body
  pub place : Place
  pub first : typing_fault body ≡ Some place
  pub line : number ≡ line_of body place

-- what a text is read as, unless memory ran out
abbrev pub Reads : List ℕ → Result Body AutoStop → Type 0
Reads text (Ok m) = IsTrue (is_automaton m) × IsBlockOf text m
Reads text (Err (Text line)) = IsAgainstGrammar (strict_lines text) line
Reads text (Err (Typing line)) = IsAgainstTyping text line
Reads text (Err Memory) = Unit {0}

-- what a block in the grammar is read as: an automaton, or the line at which its typing fails, unless memory ran out
abbrev pub Judges : Sheet → Result Body AutoStop → Type 0
Judges b (Ok m) = IsTrue (is_automaton m) × (sheet_of b.direction m ≡ b)
Judges b (Err (Text line)) = ⊥
Judges b (Err (Typing line)) =
    (m : Body) × (p : Place) × (sheet_of b.direction m ≡ b) × (typing_fault m ≡ Some p) × (line ≡ line_of m p)
Judges b (Err Memory) = Unit {0}
