use Rattle.std.proofs.Common.{◌≡◌, ℕ, ◌+◌, ◌*◌, ◌<◌, ◌++◌, [], ◌∷◌, List, map, length, take, get_or, refl, arith}
use Rattle.ts_automaton.specs.declared.draft.StateLine.{StateLine}
use Rattle.ts_automaton.specs.declared.state.State.{State}
use Rattle.ts_automaton.specs.declared.state.Turn.{Turn}
use Rattle.ts_automaton.specs.Body.{Move, move_of, node_of}
use Rattle.ts_automaton.specs.AutomatonText.{state_lines, all_moves, no_state}
use Rattle.ts_automaton.proofs.BodyLaws.{taken_line, taken_moves, taken_left}
use Rattle.ts_automaton.proofs.automaton_text.grouped.Goals as goal

-- what is kept with one more state
record IsKept (lines : List StateLine) (i : ℕ) (new : List State) (after : List Turn) (all : List Move) : Type 0 where
  pub lines_are : state_lines (map node_of new) ≡ take (i + 1) lines
  pub moves_are : all_moves (map node_of new) ++ map move_of after ≡ all
  pub left : length after + 3 * (i + 1) ≡ 3 * length lines

kept : (lines : List StateLine) (i : ℕ) (old new : List State) (before after : List Turn) (all : List Move) (s : State) →
    (s.name ≡ (get_or lines i no_state).name) × (s.held ≡ (get_or lines i no_state).held) →
    map move_of before ≡ all_moves (node_of s ∷ []) ++ map move_of after →
    i < length lines → new ≡ old ++ s ∷ [] → state_lines (map node_of old) ≡ take i lines →
    all_moves (map node_of old) ++ map move_of before ≡ all → length before + 3 * i ≡ 3 * length lines → IsKept lines i new after all
kept lines i old new before after all s p m h grown so_far moved count =
    let size = taken_left s before after m in
    record {
      lines_are = taken_line lines i no_state (get_or lines i no_state) old new s h refl p grown so_far;
      moves_are = taken_moves old new s before after all m grown moved;
      left = omega (arith, size, count);
    }

pub loop-line-preserved : goal.loop-line-preserved
loop-line-preserved c =
    let all : List Move = map move_of c.args.moves.items in
    let is = kept c.args.lines.now c.loop-line.line-index c.loop-line.states.items c.push.new.self.items c.loop-line.moves.items
    c.next_state.new.moves.items all c.next_state.result c.next_state.ensures.line c.next_state.ensures.moves
    c.loop-line-test.true c.in_ok-push.ensures.items c.loop-line.invariant.lines c.loop-line.invariant.moves c.loop-line.invariant.left in
    record { lines = is.lines_are; moves = is.moves_are; left = is.left }
