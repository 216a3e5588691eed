-- The lines of a prefix are read one after the other.
use Rattle.std.proofs.Common.{◌≡◌, ℕ, zero, suc, ◌<◌, ◌≤◌, ◌+◌, ◌*◌, ◌/◌, Bool, true, false, not, cond, Some, None, List, [], ◌∷◌, ◌++◌, length, map, take, get_or, refl, sym, ap, subst, ◌∙◌, codes, append_assoc, append-nil, arith, nat_lt}
use Rattle.std.specs.Prelude.{◌==◌}
use Rattle.std.specs.List.{list_all}
use Rattle.std.proofs.lemmas.Bool.{not-true, and_parts, ltb-true, le-ltb, lt-ltb, eq-eqb}
use Rattle.std.proofs.lemmas.List.Folds.{list_any_at}
use Rattle.std.proofs.lemmas.List.Sums.{position_or_len_is}
use Rattle.std.proofs.lemmas.List.{length_push}
use Rattle.ts_base.specs.declared.ext.Ext.{Ext}
use Rattle.ts_base.proofs.WordLaws.{AreSolid}
use Rattle.ts_automaton.specs.declared.draft.Direction.{Direction}
use Rattle.ts_automaton.specs.declared.draft.StateLine.{StateLine}
use Rattle.ts_automaton.specs.Registers.{EachOf}
use Rattle.ts_automaton.specs.Body.{Move}
use Rattle.ts_automaton.specs.Typing.{is_name, are_expressions}
use Rattle.ts_automaton.specs.AutomatonText.{Sheet, no_state, name_at, state_words, start_words, move_words, finish_words, moves_words}
use Rattle.ts_automaton.specs.Grammar.{is_named, is_new, are_new, is_move, IsFront, IsSheet, Prefix, AtHead, AtStates, AtMoves, AtEnd, Whole, front_words, open_words, prefix_words, IsPrefix}
use Rattle.ts_automaton.specs.Lines.{place_by, read_move, read_finish}
use Rattle.ts_automaton.specs.Reading.{with_head, with_state, with_start, with_move, with_finish, with_words}
use Rattle.ts_automaton.proofs.LineLaws.{W, head_again, state_again, start_again}
use Rattle.ts_automaton.proofs.MoveLaws.{move_again, finish_again}
use Rattle.ts_automaton.proofs.SolidLaws.{head_solid, state_solid, start_solid, move_solid, finish_solid, end_solid}

-- lines that are read one after the other
abbrev pub Follows : Prefix → List W → Prefix → Type 0
Follows d [] e = d ≡ e
Follows d (l ∷ ls) e = (f : Prefix) × (with_words d l ≡ Some f) × AreSolid l × Follows f ls e

follows_append : (d e f : Prefix) (xs ys : List W) → Follows d xs e → Follows e ys f → Follows d (xs ++ ys) f
follows_append d e f [] ys h k = subst (λ (x : Prefix). Follows x ys f) (sym h) k
follows_append d e f (x ∷ xs) ys h k = (h.0, h.1, h.2, follows_append h.0 e f xs ys h.3 k)

-- letters that differ
new_at : (before xs : List StateLine) (k : ℕ) → are_new before xs ≡ true → k < length xs → is_new (before ++ take k xs) (name_at xs k) ≡ true
new_at before [] k h lt = absurd (omega arith)
new_at before (x ∷ xs) zero h lt =
    ap (λ (y : List StateLine). is_new y x.name) (append-nil before) ∙ (and_parts (is_new before x.name) (are_new (before ++ x ∷ []) xs) h).0
new_at before (x ∷ xs) (suc k) h lt =
    ap (λ (y : List StateLine). is_new y (name_at xs k)) (sym (append_assoc before (x ∷ []) (take k xs)))
    ∙ new_at (before ++ x ∷ []) xs k (and_parts (is_new before x.name) (are_new (before ++ x ∷ []) xs) h).1 (omega arith)

letter_at : (states : List StateLine) (k : ℕ) → are_new [] states ≡ true → k < length states → is_name (name_at states k) ≡ true
letter_at states k h lt = (and_parts (is_name (name_at states k)) (not (is_named (take k states) (name_at states k))) (new_at [] states k h lt)).0

taken_at : (xs : List StateLine) (j k : ℕ) → j < k → get_or (take k xs) j no_state ≡ get_or xs j no_state
taken_at [] j zero h = absurd (omega arith)
taken_at [] j (suc k) h = refl
taken_at (x ∷ xs) j zero h = absurd (omega arith)
taken_at (x ∷ xs) zero (suc k) h = refl
taken_at (x ∷ xs) (suc j) (suc k) h = taken_at xs j k (omega arith)

length_front : (xs : List StateLine) (k : ℕ) → k < length xs → length (take k xs) ≡ k
length_front [] k h = absurd (omega arith)
length_front (x ∷ xs) zero h = refl
length_front (x ∷ xs) (suc k) h = ap suc (length_front xs k (omega arith))

differs : (states : List StateLine) (j k : ℕ) → are_new [] states ≡ true → j < k → k < length states → name_at states j == name_at states k ≡ false
differs states j k h below within = go (name_at states j == name_at states k) refl where
  go : (t : Bool) → name_at states j == name_at states k ≡ t → t ≡ false
  go false e = refl
  go true e =
      let none = not-true (is_named (take k states) (name_at states k))
      (and_parts (is_name (name_at states k)) (not (is_named (take k states) (name_at states k))) (new_at [] states k h within)).1 in
      let size = length_front states k within in
      let found = list_any_at (λ (n : StateLine). n.name == name_at states k) (take k states) j no_state (omega (arith, size, below))
      (ap (λ (n : StateLine). n.name == name_at states k) (taken_at states j k below) ∙ e) in
      sym found ∙ none

place_again : (states : List StateLine) (k : ℕ) → are_new [] states ≡ true → k < length states → place_by states (Some (name_at states k)) ≡ Some k
place_again states k h within =
    let at = position_or_len_is (λ (n : StateLine). n.name == name_at states k) states k no_state (omega (arith, within))
    (λ j below. differs states j k h below within) (λ here. eq-eqb (name_at states k) (name_at states k) refl) in
    ap (λ (n : ℕ). cond (nat_lt n (length states)) (Some n) None) at ∙ ap (λ t. cond t (Some k) None) (lt-ltb k (length states) within)

-- the lines of what was read follow one another
states_follow : (direction : Direction) (wide : Bool) (more before : List StateLine) → are_new before more ≡ true → length before + length more ≤ 8 →
    Follows (AtStates direction wide before) (map state_words more) (AtStates direction wide (before ++ more))
states_follow direction wide [] before h few = ap (AtStates direction wide) (sym (append-nil before))
states_follow direction wide (n ∷ more) before h few =
    let each = and_parts (is_new before n.name) (are_new (before ++ n ∷ []) more) h in
    let size = length_push before n in (
      AtStates direction wide (before ++ n ∷ []),
      ap (with_state direction wide before) (state_again before n each.0)
          ∙ ap (λ t. cond t (Some (AtStates direction wide (before ++ n ∷ []))) None) (lt-ltb (length before) 8 (omega (arith, few))),
      state_solid n (and_parts (is_name n.name) (not (is_named before n.name)) each.0).0,
      subst (λ (y : List StateLine). Follows (AtStates direction wide (before ++ n ∷ [])) (map state_words more) (AtStates direction wide y))
          (append_assoc before (n ∷ []) more)
          (states_follow direction wide more (before ++ n ∷ []) each.1 (omega (arith, few, size))),
    )

third : (k n : ℕ) → k < 3 * n → k / 3 < n
third k n h = omega arith

moves_follow : (direction : Direction) (wide : Bool) (states : List StateLine) (start : EachOf Ext) (more before : List Move) → are_new [] states ≡ true →
    list_all (is_move wide states) more ≡ true → length before + length more ≤ 3 * length states →
    Follows (AtMoves direction wide states start before) (moves_words wide states (length before) more) (AtMoves direction wide states start (before ++ more))
moves_follow direction wide states start [] before names h few = ap (AtMoves direction wide states start) (sym (append-nil before))
moves_follow direction wide states start (t ∷ more) before names h few =
    let each = and_parts (is_move wide states t) (list_all (is_move wide states) more) h in
    let target = ltb-true t.next (length states) (and_parts (nat_lt t.next (length states)) (are_expressions wide t.to) each.0).0 in
    let room : length before < 3 * length states = omega (arith, few) in
    let size = length_push before t in
    let rest = moves_follow direction wide states start more (before ++ t ∷ []) names each.1 (omega (arith, few, size)) in (
      AtMoves direction wide states start (before ++ t ∷ []),
      ap (λ b. cond b (with_move direction wide states start before (read_move wide states (length before) (move_words wide states (length before) t)))
          (with_finish direction wide states start before (read_finish wide (move_words wide states (length before) t))))
          (lt-ltb (length before) (3 * length states) room)
          ∙ ap (with_move direction wide states start before) (move_again wide states (length before) t (place_again states t.next names target) each.0),
      move_solid wide states (length before) t (letter_at states (length before / 3) names (third (length before) (length states) room))
          (letter_at states t.next names target),
      subst (λ (y : List Move). Follows (AtMoves direction wide states start (before ++ t ∷ [])) (moves_words wide states (length before + 1) more)
          (AtMoves direction wide states start y)) (append_assoc before (t ∷ []) more)
          (subst (λ (k : ℕ). Follows (AtMoves direction wide states start (before ++ t ∷ [])) (moves_words wide states k more)
          (AtMoves direction wide states start (before ++ t ∷ [] ++ more))) size rest),
    )

states_lines_follow : (direction : Direction) (wide : Bool) (states : List StateLine) → are_new [] states ≡ true → length states ≤ 8 →
    Follows AtHead (prefix_words (AtStates direction wide states)) (AtStates direction wide states)
states_lines_follow direction wide states h few = (
  AtStates direction wide [],
  ap with_head (head_again direction wide),
  head_solid direction wide,
  states_follow direction wide states [] h (omega (arith, few)),
)

moving_follows : (direction : Direction) (wide : Bool) (states : List StateLine) (start : EachOf Ext) (moves : List Move) → IsFront wide states start moves →
    length moves ≤ 3 * length states → Follows AtHead (front_words direction wide states start moves) (AtMoves direction wide states start moves)
moving_follows direction wide states start moves is count =
    let moving = moves_follow direction wide states start moves [] is.names is.turns (omega (arith, count)) in
    let begun : Follows (AtStates direction wide states) (start_words wide start ∷ moves_words wide states 0 moves)
    (AtMoves direction wide states start moves) = (
      AtMoves direction wide states start [],
      ap (with_start direction wide states) (start_again wide start is.constants)
          ∙ ap (λ t. cond t (Some (AtMoves direction wide states start [])) None) (lt-ltb 0 (length states) is.some),
      start_solid wide start is.constants,
      moving,
    ) in
    follows_append AtHead (AtStates direction wide states) (AtMoves direction wide states start moves) (prefix_words (AtStates direction wide states))
    (start_words wide start ∷ moves_words wide states 0 moves) (states_lines_follow direction wide states is.names is.few) begun

closing_follows : (b : Sheet) → IsSheet b → Follows AtHead (open_words b) (AtEnd b)
closing_follows b is =
    let count = is.count in
    let full : 3 * length b.states ≤ length b.moves = omega (arith, count) in
    let most : length b.moves ≤ 3 * length b.states = omega (arith, count) in
    let finish : Follows (AtMoves b.direction b.wide b.states b.start b.moves) (finish_words b.finish b.mark ∷ []) (AtEnd b) = (
      AtEnd b,
      ap (λ t. cond t (with_move b.direction b.wide b.states b.start b.moves (read_move b.wide b.states (length b.moves) (finish_words b.finish b.mark)))
          (with_finish b.direction b.wide b.states b.start b.moves (read_finish b.wide (finish_words b.finish b.mark))))
          (le-ltb (length b.moves) (3 * length b.states) full)
          ∙ ap (with_finish b.direction b.wide b.states b.start b.moves) (finish_again b.wide b.finish b.mark is.finish),
      finish_solid b.finish b.mark,
      refl,
    ) in
    follows_append AtHead (AtMoves b.direction b.wide b.states b.start b.moves) (AtEnd b) (front_words b.direction b.wide b.states b.start b.moves)
    (finish_words b.finish b.mark ∷ []) (moving_follows b.direction b.wide b.states b.start b.moves is.front most) finish

pub whole_follows : (b : Sheet) → IsSheet b → Follows AtHead (prefix_words (Whole b)) (Whole b)
whole_follows b is = follows_append AtHead (AtEnd b) (Whole b) (open_words b) ((codes "end" ∷ []) ∷ []) (closing_follows b is) (Whole b, refl, end_solid, refl)

pub follow : (e : Prefix) → IsPrefix e → Follows AtHead (prefix_words e) e
follow AtHead is = refl
follow (AtStates direction wide states) is = states_lines_follow direction wide states is.names is.few
follow (AtMoves direction wide states start moves) is = moving_follows direction wide states start moves is.front is.count
follow (AtEnd b) is = closing_follows b is
follow (Whole b) is = whole_follows b is
