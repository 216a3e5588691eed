-- One more line that is read is one more line of the prefix, which stays in the grammar.
use Rattle.std.proofs.Common.{◌≡◌, ℕ, suc, ◌<◌, ◌≤◌, ◌+◌, ◌*◌, Bool, true, false, cond, Option, Some, None, List, [], ◌∷◌, ◌++◌, length, map, refl, sym, ap, subst, ◌∙◌, codes, append_assoc, append-nil, arith, nat_lt}
use Rattle.std.specs.Cmp.Derive.{both_true}
use Rattle.std.specs.Str.{bytes_eq}
use Rattle.std.proofs.lemmas.List.{length-append, map_push, length_push}
use Rattle.std.proofs.lemmas.List.Folds.{list_all-append}
use Rattle.std.proofs.lemmas.Bool.{and_parts, ltb-true, ltb-false}
use Rattle.ts_base.specs.declared.ext.Ext.{Ext}
use Rattle.ts_automaton.specs.declared.draft.Direction.{Direction}
use Rattle.ts_automaton.specs.declared.state.Mark.{Mark}
use Rattle.ts_automaton.specs.declared.draft.StateLine.{StateLine}
use Rattle.ts_automaton.specs.Formula.{Formula}
use Rattle.ts_automaton.specs.Registers.{EachOf}
use Rattle.ts_automaton.specs.Body.{Move}
use Rattle.ts_automaton.specs.AutomatonText.{Sheet, head_words, state_words, start_words, move_words, finish_words, moves_words}
use Rattle.ts_automaton.specs.Grammar.{is_new, are_new, is_move, IsSheet, Prefix, AtHead, AtStates, AtMoves, AtEnd, Whole, front_words, open_words, prefix_words, IsStates, IsMoves, IsPrefix}
use Rattle.ts_automaton.specs.Lines.{word_at, read_head, read_state, read_start, read_move, read_finish, is_end}
use Rattle.ts_automaton.specs.Reading.{with_head, with_state, with_start, with_move, with_finish, with_words}
use Rattle.ts_automaton.proofs.LineLaws.{W, head_only, state_only, start_only, end_only}
use Rattle.ts_automaton.proofs.MoveLaws.{move_only, finish_only}

-- one more
new_more : (before xs : List StateLine) (n : StateLine) → are_new before xs ≡ true → is_new (before ++ xs) n.name ≡ true → are_new before (xs ++ n ∷ []) ≡ true
new_more before [] n h k = both_true {t = true} (ap (λ (y : List StateLine). is_new y n.name) (sym (append-nil before)) ∙ k) refl
new_more before (x ∷ xs) n h k =
    let each = and_parts (is_new before x.name) (are_new (before ++ x ∷ []) xs) h in
    both_true each.0 (new_more (before ++ x ∷ []) xs n each.1 (ap (λ (y : List StateLine). is_new y n.name) (append_assoc before (x ∷ []) xs) ∙ k))

moves_more : (wide : Bool) (states : List StateLine) (k : ℕ) (ts : List Move) (t : Move) →
    moves_words wide states k (ts ++ t ∷ []) ≡ moves_words wide states k ts ++ (move_words wide states (k + length ts) t ∷ [])
moves_more wide states k [] t = ap (λ (n : ℕ). move_words wide states n t ∷ []) (none k) where
  none : (k : ℕ) → k ≡ k + 0
  none k = omega arith
moves_more wide states k (x ∷ ts) t =
    ap (λ (y : List W). move_words wide states k x ∷ y)
    (moves_more wide states (k + 1) ts t ∙ ap (λ (n : ℕ). moves_words wide states (k + 1) ts ++ (move_words wide states n t ∷ [])) (count k (length ts)))
  where
    count : (k n : ℕ) → k + 1 + n ≡ k + suc n
    count k n = omega arith

front_more : (direction : Direction) (wide : Bool) (states : List StateLine) (start : EachOf Ext) (moves : List Move) (t : Move) →
    front_words direction wide states start (moves ++ t ∷ []) ≡ front_words direction wide states start moves ++ (move_words wide states (length moves) t ∷ [])
front_more direction wide states start moves t =
    ap (λ (y : List W). head_words direction wide ∷ (map state_words states ++ (start_words wide start ∷ y)))
    (moves_more wide states 0 moves t ∙ ap (λ (n : ℕ). moves_words wide states 0 moves ++ (move_words wide states n t ∷ [])) (zero_plus (length moves)))
    ∙ ap (λ (y : List W). head_words direction wide ∷ y)
    (sym (append_assoc (map state_words states) (start_words wide start ∷ moves_words wide states 0 moves) (move_words wide states (length moves) t ∷ [])))
  where
    zero_plus : (n : ℕ) → 0 + n ≡ n
    zero_plus n = omega arith

-- what is read with one more line is that of the lines with it
abbrev Grows : Prefix → W → Prefix → Type 0
Grows d ws e = (prefix_words e ≡ prefix_words d ++ (ws ∷ [])) × IsPrefix e

head_grows : (ws : W) (o : Option (Direction × Bool)) (e : Prefix) → read_head ws ≡ o → with_head o ≡ Some e → Grows AtHead ws e
head_grows ws None e f h = cc
head_grows ws (Some x) e f h =
    let is : AtStates x.0 x.1 [] ≡ e = cc in
    subst (Grows AtHead ws) is (ap (λ (y : W). y ∷ []) (sym (head_only ws x f)), record { few = omega arith; names = refl })

state_grows : (direction : Direction) (wide : Bool) (states : List StateLine) (ws : W) (o : Option StateLine) (e : Prefix) → IsStates states →
    read_state states ws ≡ o →
    with_state direction wide states o ≡ Some e → Grows (AtStates direction wide states) ws e
state_grows direction wide states ws None e is f h = cc
state_grows direction wide states ws (Some n) e is f h = go (nat_lt (length states) 8) refl h where
  go : (t : Bool) → nat_lt (length states) 8 ≡ t → cond t (Some (AtStates direction wide (states ++ n ∷ []))) None ≡ Some e →
      Grows (AtStates direction wide states) ws e
  go false k g = cc
  go true k g =
      let same : AtStates direction wide (states ++ n ∷ []) ≡ e = cc in
      let read = state_only states ws n f in
      let more = length_push states n in
      let small = ltb-true (length states) 8 k in
      subst (Grows (AtStates direction wide states) ws) same (
        ap (λ (y : List W). head_words direction wide ∷ y) (map_push state_words states n ∙ ap (λ (y : W). map state_words states ++ (y ∷ [])) (sym read.0)),
        record { few = omega (arith, more, small); names = new_more [] states n is.names read.1 },
      )

start_grows : (direction : Direction) (wide : Bool) (states : List StateLine) (ws : W) (o : Option (EachOf Ext)) (e : Prefix) → IsStates states →
    read_start wide ws ≡ o → with_start direction wide states o ≡ Some e → Grows (AtStates direction wide states) ws e
start_grows direction wide states ws None e is f h = cc
start_grows direction wide states ws (Some r) e is f h = go (nat_lt 0 (length states)) refl h where
  go : (t : Bool) → nat_lt 0 (length states) ≡ t → cond t (Some (AtMoves direction wide states r [])) None ≡ Some e →
      Grows (AtStates direction wide states) ws e
  go false k g = cc
  go true k g =
      let same : AtMoves direction wide states r [] ≡ e = cc in
      let read = start_only wide ws r f in
      subst (Grows (AtStates direction wide states) ws) same (
        ap (λ (y : W). head_words direction wide ∷ (map state_words states ++ (y ∷ []))) (sym read.0),
        record {
          front = record { some = ltb-true 0 (length states) k; few = is.few; names = is.names; constants = read.1; turns = refl };
          count = omega arith;
        },
      )

naming_grows : (direction : Direction) (wide : Bool) (states : List StateLine) (ws : W) (t : Bool) (e : Prefix) → IsStates states →
    cond t (with_state direction wide states (read_state states ws)) (with_start direction wide states (read_start wide ws)) ≡ Some e →
    Grows (AtStates direction wide states) ws e
naming_grows direction wide states ws true e is h = state_grows direction wide states ws (read_state states ws) e is refl h
naming_grows direction wide states ws false e is h = start_grows direction wide states ws (read_start wide ws) e is refl h

move_grows : (direction : Direction) (wide : Bool) (states : List StateLine) (start : EachOf Ext) (moves : List Move) (ws : W) (o : Option Move) (e : Prefix) →
    IsMoves wide states start moves → length moves < 3 * length states → read_move wide states (length moves) ws ≡ o →
    with_move direction wide states start moves o ≡ Some e → Grows (AtMoves direction wide states start moves) ws e
move_grows direction wide states start moves ws None e is room f h = cc
move_grows direction wide states start moves ws (Some t) e is room f h =
    let same : AtMoves direction wide states start (moves ++ t ∷ []) ≡ e = cc in
    let read = move_only wide states (length moves) ws t f in
    let more = length_push moves t in
    let all = list_all-append (is_move wide states) moves (t ∷ []) ∙ both_true is.front.turns (both_true {t = true} read.1 refl) in
    let old = is.front in
    subst (Grows (AtMoves direction wide states start moves) ws) same (
      front_more direction wide states start moves t ∙ ap (λ (y : W). front_words direction wide states start moves ++ (y ∷ [])) (sym read.0),
      record {
        front = record { some = old.some; few = old.few; names = old.names; constants = old.constants; turns = all };
        count = omega (arith, more, room);
      },
    )

finish_grows : (direction : Direction) (wide : Bool) (states : List StateLine) (start : EachOf Ext) (moves : List Move) (ws : W)
    (o : Option (Formula × Mark)) (e : Prefix) → IsMoves wide states start moves → 3 * length states ≤ length moves → read_finish wide ws ≡ o →
    with_finish direction wide states start moves o ≡ Some e →
    Grows (AtMoves direction wide states start moves) ws e
finish_grows direction wide states start moves ws None e is full f h = cc
finish_grows direction wide states start moves ws (Some x) e is full f h =
    let same : AtEnd (record { direction = direction; wide = wide; states = states; start = start; moves = moves; finish = x.0; mark = x.1 }) ≡ e = cc in
    let read = finish_only wide ws x f in
    let most = is.count in
    subst (Grows (AtMoves direction wide states start moves) ws) same (
      ap (λ (y : W). front_words direction wide states start moves ++ (y ∷ [])) (sym read.0),
      record { front = is.front; count = omega (arith, full, most); finish = read.1 },
    )

moving_grows : (direction : Direction) (wide : Bool) (states : List StateLine) (start : EachOf Ext) (moves : List Move) (ws : W) (t : Bool) (e : Prefix) →
    IsMoves wide states start moves → nat_lt (length moves) (3 * length states) ≡ t →
    cond t (with_move direction wide states start moves (read_move wide states (length moves) ws))
    (with_finish direction wide states start moves (read_finish wide ws)) ≡ Some e →
    Grows (AtMoves direction wide states start moves) ws e
moving_grows direction wide states start moves ws true e is f h =
    move_grows direction wide states start moves ws (read_move wide states (length moves) ws) e is (ltb-true (length moves) (3 * length states) f) refl h
moving_grows direction wide states start moves ws false e is f h =
    finish_grows direction wide states start moves ws (read_finish wide ws) e is (ltb-false (length moves) (3 * length states) f) refl h

end_grows : (b : Sheet) (ws : W) (t : Bool) (e : Prefix) → IsSheet b → is_end ws ≡ t → cond t (Some (Whole b)) None ≡ Some e → Grows (AtEnd b) ws e
end_grows b ws false e is f h = cc
end_grows b ws true e is f h =
    let same : Whole b ≡ e = cc in
    subst (Grows (AtEnd b) ws) same (ap (λ (y : W). open_words b ++ (y ∷ [])) (sym (end_only ws f)), is)

pub grows : (d : Prefix) (ws : W) (e : Prefix) → IsPrefix d → with_words d ws ≡ Some e → Grows d ws e
grows AtHead ws e is h = head_grows ws (read_head ws) e refl h
grows (AtStates direction wide states) ws e is h = naming_grows direction wide states ws (bytes_eq (word_at ws 0) (codes "state")) e is h
grows (AtMoves direction wide states start moves) ws e is h =
    moving_grows direction wide states start moves ws (nat_lt (length moves) (3 * length states)) e is refl h
grows (AtEnd b) ws e is h = end_grows b ws (is_end ws) e is refl h
grows (Whole b) ws e is h = cc

-- a line without words is read nowhere
pub no_words : (d e : Prefix) → with_words d [] ≡ Some e → ⊥
no_words AtHead e h = cc
no_words (AtStates direction false states) e h = cc
no_words (AtStates direction true states) e h = cc
no_words (AtMoves direction wide states start moves) e h = go (nat_lt (length moves) (3 * length states)) h where
  go : (t : Bool) →
      cond t (with_move direction wide states start moves (read_move wide states (length moves) []))
      (with_finish direction wide states start moves (read_finish wide [])) ≡ Some e → ⊥
  go true k = cc
  go false k = cc
no_words (AtEnd b) e h = cc
no_words (Whole b) e h = cc

-- a prefix has at most 36 lines
moves_count : (wide : Bool) (states : List StateLine) (k : ℕ) (ts : List Move) → length (moves_words wide states k ts) ≡ length ts
moves_count wide states k [] = refl
moves_count wide states k (t ∷ ts) = ap suc (moves_count wide states (k + 1) ts)

states_count : (states : List StateLine) → length (map state_words states) ≡ length states
states_count [] = refl
states_count (n ∷ states) = ap suc (states_count states)

front_count : (direction : Direction) (wide : Bool) (states : List StateLine) (start : EachOf Ext) (moves : List Move) →
    length (front_words direction wide states start moves) ≡ length states + length moves + 2
front_count direction wide states start moves =
    let both = length-append (map state_words states) (start_words wide start ∷ moves_words wide states 0 moves) in
    let first = states_count states in
    let second = moves_count wide states 0 moves in
    omega (arith, both, first, second)

open_few : (b : Sheet) → IsSheet b → length (open_words b) ≤ 35
open_few b is =
    let front = front_count b.direction b.wide b.states b.start b.moves in
    let more = length_push (front_words b.direction b.wide b.states b.start b.moves) (finish_words b.finish b.mark) in
    let few = is.front.few in
    let count = is.count in
    omega (arith, front, more, few, count)

pub few_lines : (d : Prefix) → IsPrefix d → length (prefix_words d) ≤ 36
few_lines AtHead is = omega arith
few_lines (AtStates direction wide states) is = let count = states_count states in let few = is.few in omega (arith, count, few)
few_lines (AtMoves direction wide states start moves) is =
    let front = front_count direction wide states start moves in
    let few = is.front.few in
    let count = is.count in
    omega (arith, front, few, count)
few_lines (AtEnd b) is = let few = open_few b is in omega (arith, few)
few_lines (Whole b) is =
    let few = open_few b is in
    let more = length_push (open_words b) (codes "end" ∷ []) in
    omega (arith, few, more)
