-- A block read line by line: the lines so far, with one more.
use Rattle.std.specs.Prelude.{◌≡◌, ℕ, codes, ◌+◌, ◌*◌, ◌≤◌, Bool, List, [], ◌∷◌, ◌++◌, length, map, if◌then◌else◌, nat_lt}
use Rattle.std.specs.Prelude.{Option, Some, None, Result, Ok, Err}
use Rattle.std.specs.Str.{bytes_eq}
use Rattle.ts_base.specs.declared.ext.Ext.{Ext}
use Rattle.ts_base.specs.Words.{strict_lines, without_lf, words_of, all_words}
use Rattle.ts_automaton.specs.declared.draft.Direction.{Direction}
use Rattle.ts_automaton.specs.declared.draft.StateLine.{StateLine}
use Rattle.ts_automaton.specs.declared.draft.Block.{Block}
use Rattle.ts_automaton.specs.declared.draft.Prefix.{Prefix as HeldPrefix}
use Rattle.ts_automaton.specs.declared.draft.Prefix.TheVariants.{AtHead as HeldHead, AtStates as HeldStates, AtMoves as HeldMoves, AtEnd as HeldEnd, Whole as HeldWhole}
use Rattle.ts_automaton.specs.declared.state.Mark.{Mark}
use Rattle.ts_automaton.specs.declared.stop.AutoStop.{AutoStop}
use Rattle.ts_automaton.specs.declared.stop.AutoStop.TheVariants.{Text, Typing, Memory}
use Rattle.ts_automaton.specs.Formula.{Formula, formula}
use Rattle.ts_automaton.specs.Registers.{EachOf, regs_of}
use Rattle.ts_automaton.specs.Body.{Move, move_of}
use Rattle.ts_automaton.specs.AutomatonText.{Sheet}
use Rattle.ts_automaton.specs.Grammar.{Prefix, AtHead, AtStates, AtMoves, AtEnd, Whole}
use Rattle.ts_automaton.specs.Lines.{word_at, read_head, read_state, read_start, read_move, read_finish, is_end}

abbrev pub with_head : Option (Direction × Bool) → Option Prefix
with_head None = None
with_head (Some h) = Some (AtStates h.0 h.1 [])

abbrev pub with_state : Direction → Bool → List StateLine → Option StateLine → Option Prefix
with_state direction wide states None = None
with_state direction wide states (Some n) =
    if nat_lt (length states) 8 then Some (AtStates direction wide (states ++ n ∷ [])) else None

abbrev pub with_start : Direction → Bool → List StateLine → Option (EachOf Ext) → Option Prefix
with_start direction wide states None = None
with_start direction wide states (Some r) =
    if nat_lt 0 (length states) then Some (AtMoves direction wide states r []) else None

abbrev pub with_move : Direction → Bool → List StateLine → EachOf Ext → List Move → Option Move → Option Prefix
with_move direction wide states start moves None = None
with_move direction wide states start moves (Some t) = Some (AtMoves direction wide states start (moves ++ t ∷ []))

abbrev pub with_finish : Direction → Bool → List StateLine → EachOf Ext → List Move → Option (Formula × Mark) →
    Option Prefix
with_finish direction wide states start moves None = None
with_finish direction wide states start moves (Some f) = Some (AtEnd (record {
  direction = direction;
  wide = wide;
  states = states;
  start = start;
  moves = moves;
  finish = f.0;
  mark = f.1;
}))

abbrev pub is_state_line : List (List ℕ) → Bool
is_state_line ws = bytes_eq (word_at ws 0) (codes "state")

-- the prefix with the line of these words; None where that is against the grammar
abbrev pub with_words : Prefix → List (List ℕ) → Option Prefix
with_words AtHead ws = with_head (read_head ws)
with_words (AtStates direction wide states) ws =
    if is_state_line ws
    then with_state direction wide states (read_state states ws)
    else with_start direction wide states (read_start wide ws)
with_words (AtMoves direction wide states start moves) ws =
    if nat_lt (length moves) (3 * length states)
    then with_move direction wide states start moves (read_move wide states (length moves) ws)
    else with_finish direction wide states start moves (read_finish wide ws)
with_words (AtEnd b) ws = if is_end ws then Some (Whole b) else None
with_words (Whole b) ws = None

abbrev pub with_text : Prefix → Option (List ℕ) → Option Prefix
with_text d None = None
with_text d (Some line) = with_words d (all_words (words_of line))

-- a prefix with one more line, which has its LF
abbrev pub with_line : Prefix → List ℕ → Option Prefix
with_line d text = with_text d (without_lf text)

abbrev pub onward : ℕ → Option Prefix → (Prefix → Result Prefix ℕ) → Result Prefix ℕ
onward n None f = Err n
onward n (Some d) f = f d

-- the prefix with all these lines, or the number of the first that is against the grammar
abbrev pub with_lines : Prefix → ℕ → List (List ℕ) → Result Prefix ℕ
with_lines d n [] = Ok d
with_lines d n (t ∷ ts) = onward n (with_line d t) (λ e. with_lines e (n + 1) ts)

abbrev pub end_sheet : ℕ → Result Prefix ℕ → Result Sheet ℕ
end_sheet n (Err k) = Err k
end_sheet n (Ok AtHead) = Err n
end_sheet n (Ok (AtStates direction wide states)) = Err n
end_sheet n (Ok (AtMoves direction wide states start moves)) = Err n
end_sheet n (Ok (AtEnd b)) = Err n
end_sheet n (Ok (Whole b)) = Ok b

-- the block of a text, or the number of the first line against the grammar; an end that is missing counts as a line
abbrev pub sheet_reading : List ℕ → Result Sheet ℕ
sheet_reading text = end_sheet (length (strict_lines text) + 1) (with_lines AtHead 1 (strict_lines text))

-- what the code holds, as plain data
abbrev pub sheet_seen : Block → Sheet
sheet_seen b = record {
  direction = b.direction;
  wide = b.wide;
  states = b.states.items;
  start = regs_of b.start;
  moves = map move_of b.moves.items;
  finish = formula b.finish;
  mark = b.mark;
}

abbrev pub prefix_seen : HeldPrefix → Prefix
prefix_seen HeldHead = AtHead
prefix_seen (HeldStates direction wide states) = AtStates direction wide states.items
prefix_seen (HeldMoves direction wide states start moves) =
    AtMoves direction wide states.items (regs_of start) (map move_of moves.items)
prefix_seen (HeldEnd b) = AtEnd (sheet_seen b)
prefix_seen (HeldWhole b) = Whole (sheet_seen b)

-- at most eight states so far
abbrev pub HasFew : Prefix → Type 0
HasFew AtHead = Unit {0}
HasFew (AtStates direction wide states) = length states ≤ 8
HasFew (AtMoves direction wide states start moves) = length states ≤ 8
HasFew (AtEnd b) = Unit {0}
HasFew (Whole b) = Unit {0}

-- the result is what the text reads as, unless memory ran out
abbrev pub ReadsSheet : Result Block AutoStop → Result Sheet ℕ → Type 0
ReadsSheet (Ok b) read = read ≡ Ok (sheet_seen b)
ReadsSheet (Err (Text line)) read = read ≡ Err line
ReadsSheet (Err (Typing line)) read = ⊥
ReadsSheet (Err Memory) read = Unit {0}
