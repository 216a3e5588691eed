-- Which blocks are in the grammar, and the first line of a text that is in none.
use Rattle.std.specs.Prelude.{◌≡◌, ◌≢◌, ◌⊎◌, ℕ, ◌+◌, ◌*◌, ◌==◌, ◌<◌, ◌≤◌, Bool, true, not, ◌&&◌}
use Rattle.std.specs.Prelude.{List, [], ◌∷◌, ◌++◌, length, map, nat_lt}
use Rattle.std.specs.List.{list_any, list_all}
use Rattle.ts_base.specs.declared.ext.Ext.{Ext}
use Rattle.ts_automaton.specs.declared.draft.Direction.{Direction}
use Rattle.ts_automaton.specs.declared.draft.StateLine.{StateLine}
use Rattle.ts_automaton.specs.Registers.{EachOf}
use Rattle.ts_automaton.specs.Body.{Move}
use Rattle.ts_automaton.specs.Typing.{is_name, are_constants, is_expression, are_expressions}
use Rattle.ts_automaton.specs.AutomatonText.{Sheet, head_words, state_words, lines_to_moves, lines_to_finish, body_lines, words_text}

-- some state has this letter
abbrev pub is_named : List StateLine → ℕ → Bool
is_named states b = list_any (λ n. n.name == b) states

-- a letter from a to z that no state before has
abbrev pub is_new : List StateLine → ℕ → Bool
is_new states b = is_name b && not (is_named states b)

-- each state's letter is new after these states
abbrev pub are_new : List StateLine → List StateLine → Bool
are_new before [] = true
are_new before (n ∷ ns) = is_new before n.name && are_new (before ++ n ∷ []) ns

-- a move leads to a state, by expressions of at most 15 words that a block of this width may have
abbrev pub is_move : Bool → List StateLine → Move → Bool
is_move wide states t = nat_lt t.next (length states) && are_expressions wide t.to

-- the state lines, the start line and the moves up to one
pub record IsFront (wide : Bool) (states : List StateLine) (start : EachOf Ext) (moves : List Move) : Type 0 where
  pub some : 0 < length states
  pub few : length states ≤ 8
  pub names : are_new [] states ≡ true
  pub constants : are_constants wide start ≡ true
  pub turns : list_all (is_move wide states) moves ≡ true

-- a block in the grammar
pub record IsSheet (b : Sheet) : Type 0 where
  pub front : IsFront b.wide b.states b.start b.moves
  pub count : length b.moves ≡ 3 * length b.states
  pub finish : is_expression b.wide b.finish ≡ true

-- the lines of a block up to some line, by what comes next: the head, a state or the start, a move or the finish,
-- the end, or nothing
pub data Prefix : Type 0 where
  AtHead : Prefix
  AtStates : Direction → Bool → List StateLine → Prefix
  AtMoves : Direction → Bool → List StateLine → EachOf Ext → List Move → Prefix
  AtEnd : Sheet → Prefix
  Whole : Sheet → Prefix

-- these lines, from the head on
abbrev pub front_words : Direction → Bool → List StateLine → EachOf Ext → List Move → List (List (List ℕ))
front_words direction wide states start moves = head_words direction wide ∷ lines_to_moves wide states start moves

abbrev pub open_words : Sheet → List (List (List ℕ))
open_words b = head_words b.direction b.wide ∷ lines_to_finish b.wide b.states b.start b.moves b.finish b.mark

abbrev pub prefix_words : Prefix → List (List (List ℕ))
prefix_words AtHead = []
prefix_words (AtStates direction wide states) = head_words direction wide ∷ map state_words states
prefix_words (AtMoves direction wide states start moves) = front_words direction wide states start moves
prefix_words (AtEnd b) = open_words b
prefix_words (Whole b) = head_words b.direction b.wide ∷ body_lines b.wide b.states b.start b.moves b.finish b.mark

pub record IsStates (states : List StateLine) : Type 0 where
  pub few : length states ≤ 8
  pub names : are_new [] states ≡ true

pub record IsMoves (wide : Bool) (states : List StateLine) (start : EachOf Ext) (moves : List Move) : Type 0 where
  pub front : IsFront wide states start moves
  pub count : length moves ≤ 3 * length states

-- these lines are in the grammar
abbrev pub IsPrefix : Prefix → Type 0
IsPrefix AtHead = Unit {0}
IsPrefix (AtStates direction wide states) = IsStates states
IsPrefix (AtMoves direction wide states start moves) = IsMoves wide states start moves
IsPrefix (AtEnd b) = IsSheet b
IsPrefix (Whole b) = IsSheet b

-- the first line against the grammar: the lines before are those of a prefix, and no line with it is
pub record IsFirstBad (texts : List (List ℕ)) (number : ℕ) : Type 0 where
  pub before : Prefix
  pub text : List ℕ
  pub after : List (List ℕ)
  pub is : IsPrefix before
  pub parts : texts ≡ map words_text (prefix_words before) ++ (text ∷ after)
  pub place : number ≡ length (prefix_words before) + 1
  pub against : (e : Prefix) (ws : List (List ℕ)) →
      IsPrefix e → prefix_words e ≡ prefix_words before ++ (ws ∷ []) → text ≢ words_text ws

abbrev pub IsOpen : Prefix → Type 0
IsOpen AtHead = Unit {0}
IsOpen (AtStates direction wide states) = Unit {0}
IsOpen (AtMoves direction wide states start moves) = Unit {0}
IsOpen (AtEnd b) = Unit {0}
IsOpen (Whole b) = ⊥

-- the lines stop before the end line, which is named as the line after them
pub record IsCutShort (texts : List (List ℕ)) (number : ℕ) : Type 0 where
  pub prefix : Prefix
  pub is : IsPrefix prefix
  pub open_still : IsOpen prefix
  pub are : texts ≡ map words_text (prefix_words prefix)
  pub place : number ≡ length texts + 1

-- a text with these lines is against the grammar, first at the line of this number
abbrev pub IsAgainstGrammar : List (List ℕ) → ℕ → Type 0
IsAgainstGrammar texts number = IsFirstBad texts number ⊎ IsCutShort texts number
