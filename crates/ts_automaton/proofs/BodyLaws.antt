-- The states of an automaton and the lines of its block: each gives the other, and the rules of one are those of the
-- other.
use Rattle.std.proofs.Common.{◌≡◌, ℕ, suc, ◌<◌, ◌≤◌, ◌+◌, ◌*◌, Bool, true, false, not, List, [], ◌∷◌, ◌++◌, length, map, take, get_or}
use Rattle.std.proofs.Common.{refl, sym, ap, subst, ◌∙◌, ◌&&◌, arith, nat_le, nat_lt, append_assoc}
use Rattle.std.specs.Prelude.{◌==◌, ◌||◌, nat_eq}
use Rattle.std.specs.Cmp.Derive.{both_true}
use Rattle.std.specs.List.{list_all, list_any}
use Rattle.std.proofs.lemmas.Bool.{eqb-true, not-true, and_parts, leb-true, or_parts, or_left, eq-eqb}
use Rattle.std.proofs.lemmas.Bool.Decides.{nat_tests}
use Rattle.std.proofs.lemmas.List.{take_more, length-map, map_push}
use Rattle.std.proofs.lemmas.List.Folds.{list_any-append}
use Rattle.ts_automaton.specs.declared.draft.Direction.{Direction}
use Rattle.ts_automaton.specs.declared.draft.StateLine.{StateLine}
use Rattle.ts_automaton.specs.declared.state.State.{State}
use Rattle.ts_automaton.specs.declared.state.Turn.{Turn}
use Rattle.ts_automaton.specs.Body.{Move, Node, Body, move_of, node_of}
use Rattle.ts_automaton.specs.Typing.{is_name, is_expression, are_expressions, are_different, leads_below, has_expressions_in, has_few_states, has_names, has_constants, has_targets, has_expressions, is_formed}
use Rattle.ts_automaton.specs.AutomatonText.{Sheet, state_lines, all_moves, sheet_of}
use Rattle.ts_automaton.specs.Grammar.{is_named, is_new, are_new, is_move, IsSheet}
use Rattle.ts_automaton.proofs.LineLaws.{three_parts, three_true}

-- the states of these lines with these moves, three each
abbrev pub grouped : List StateLine → List Move → List Node
grouped [] ts = []
grouped (n ∷ ns) [] = []
grouped (n ∷ ns) (a ∷ []) = []
grouped (n ∷ ns) (a ∷ b ∷ []) = []
grouped (n ∷ ns) (a ∷ b ∷ c ∷ ts) = record { name = n.name; held = n.held; less = a; equal = b; greater = c } ∷ grouped ns ts

-- the automaton of a block
abbrev pub sheet_body : Sheet → Body
sheet_body b = record { states = grouped b.states b.moves; start = b.start; finish = b.finish; mark = b.mark; wide = b.wide }

grouped_again : (ss : List Node) → grouped (state_lines ss) (all_moves ss) ≡ ss
grouped_again [] = refl
grouped_again (s ∷ ss) = ap (λ (x : List Node). s ∷ x) (grouped_again ss)

pub as_many_lines : (ss : List Node) → length (state_lines ss) ≡ length ss
as_many_lines [] = refl
as_many_lines (s ∷ ss) = ap suc (as_many_lines ss)

pub as_many_moves : (ss : List Node) → length (all_moves ss) ≡ 3 * length ss
as_many_moves [] = refl
as_many_moves (s ∷ ss) = let more = as_many_moves ss in omega (arith, more)

pub body_again : (direction : Direction) (m : Body) → sheet_body (sheet_of direction m) ≡ m
body_again direction m = ap (λ (x : List Node). record m { states = x }) (grouped_again m.states)

-- names that differ

-- a letter before isn't a letter after
behind_not : (before ns : List StateLine) (b : ℕ) → are_new before ns ≡ true → is_named before b ≡ true → list_any (λ n. n.name == b) ns ≡ false
behind_not before [] b h k = refl
behind_not before (n ∷ ns) b h k =
    let each = and_parts (is_new before n.name) (are_new (before ++ n ∷ []) ns) h in
    let fresh = not-true (is_named before n.name) (and_parts (is_name n.name) (not (is_named before n.name)) each.0).1 in
    let more : is_named (before ++ n ∷ []) b ≡ true = list_any-append (λ (m : StateLine). m.name == b) before (n ∷ []) ∙ or_left (is_named before b) _ k in
    ap (λ t. t || list_any (λ (m : StateLine). m.name == b) ns) (other (n.name == b) refl fresh) ∙ behind_not (before ++ n ∷ []) ns b each.1 more
  where
    other : (t : Bool) → n.name == b ≡ t → is_named before n.name ≡ false → t ≡ false
    other false e fresh = refl
    other true e fresh = sym k ∙ ap (is_named before) (sym (eqb-true n.name b e)) ∙ fresh

named_last : (before : List StateLine) (n : StateLine) → is_named (before ++ n ∷ []) n.name ≡ true
named_last before n =
    list_any-append (λ (m : StateLine). m.name == n.name) before (n ∷ []) ∙ last (is_named before n.name) (n.name == n.name) (eq-eqb n.name n.name refl)
  where
    last : (a b : Bool) → b ≡ true → (a || (b || false)) ≡ true
    last true b h = refl
    last false true h = refl
    last false false h = cc

any_lines : (ss : List Node) (b : ℕ) → list_any (λ n. n.name == b) (state_lines ss) ≡ list_any (λ t. nat_eq t.name b) ss
any_lines [] b = refl
any_lines (s ∷ ss) b = ap (λ t. nat_eq s.name b || t) (any_lines ss b)

pub names_only : (ss : List Node) (before : List StateLine) → are_new before (state_lines ss) ≡ true →
    (list_all (λ s. is_name s.name) ss ≡ true) × (are_different ss ≡ true)
names_only [] before h = (refl, refl)
names_only (s ∷ ss) before h =
    let n : StateLine = record { name = s.name; held = s.held } in
    let each = and_parts (is_new before n.name) (are_new (before ++ n ∷ []) (state_lines ss)) h in
    let name = (and_parts (is_name n.name) (not (is_named before n.name)) each.0).0 in
    let rest = names_only ss (before ++ n ∷ []) each.1 in
    let differs = behind_not (before ++ n ∷ []) (state_lines ss) n.name each.1 (named_last before n) in
    (both_true name rest.0, both_true (ap not (sym (any_lines ss s.name) ∙ differs)) rest.1)

-- none of the states is named before
abbrev are_fresh : List StateLine → List Node → Bool
are_fresh before ss = list_all (λ s. not (is_named before s.name)) ss

fresh_more : (before : List StateLine) (n : StateLine) (ss : List Node) → are_fresh before ss ≡ true → list_any (λ t. nat_eq t.name n.name) ss ≡ false →
    are_fresh (before ++ n ∷ []) ss ≡ true
fresh_more before n [] h k = refl
fresh_more before n (s ∷ ss) h k =
    let each = and_parts (not (is_named before s.name)) (are_fresh before ss) h in
    let none = or_parts (nat_eq s.name n.name) (list_any (λ (t : Node). nat_eq t.name n.name) ss) k in
    let here : is_named (before ++ n ∷ []) s.name ≡ false =
    list_any-append (λ (m : StateLine). m.name == s.name) before (n ∷ [])
    ∙ neither (is_named before s.name) (n.name == s.name) (not-true (is_named before s.name) each.0) (swapped s.name n.name none.0) in
    both_true (ap not here) (fresh_more before n ss each.1 none.1)
  where
    neither : (a b : Bool) → a ≡ false → b ≡ false → (a || (b || false)) ≡ false
    neither false false e f = refl
    neither false true e f = f
    neither true b e f = cc

    swapped : (j k : ℕ) → nat_eq j k ≡ false → k == j ≡ false
    swapped j k e = grind (arith, nat_tests)

pub names_again : (ss : List Node) (before : List StateLine) → list_all (λ s. is_name s.name) ss ≡ true → are_different ss ≡ true → are_fresh before ss ≡ true →
    are_new before (state_lines ss) ≡ true
names_again [] before h k fresh = refl
names_again (s ∷ ss) before h k fresh =
    let n : StateLine = record { name = s.name; held = s.held } in
    let names = and_parts (is_name s.name) (list_all (λ (t : Node). is_name t.name) ss) h in
    let differ = and_parts (not (list_any (λ (t : Node). nat_eq t.name s.name) ss)) (are_different ss) k in
    let each = and_parts (not (is_named before s.name)) (are_fresh before ss) fresh in
    let none = not-true (list_any (λ (t : Node). nat_eq t.name s.name) ss) differ.0 in
    both_true (both_true names.0 each.0) (names_again ss (before ++ n ∷ []) names.1 differ.1 (fresh_more before n ss each.1 none))

none_before : (ss : List Node) → are_fresh [] ss ≡ true
none_before [] = refl
none_before (s ∷ ss) = none_before ss

-- moves of states
abbrev AreMoves : Bool → List StateLine → List Move → Type 0
AreMoves wide states ts = list_all (is_move wide states) ts ≡ true

move_parts : (wide : Bool) (states : List StateLine) (t : Move) → is_move wide states t ≡ true →
    (nat_lt t.next (length states) ≡ true) × (are_expressions wide t.to ≡ true)
move_parts wide states t h = and_parts (nat_lt t.next (length states)) (are_expressions wide t.to) h

pub moves_only : (wide : Bool) (states : List StateLine) (ss : List Node) → AreMoves wide states (all_moves ss) →
    (list_all (leads_below (length states)) ss ≡ true) × (list_all (has_expressions_in wide) ss ≡ true)
moves_only wide states [] h = (refl, refl)
moves_only wide states (s ∷ ss) h =
    let first = and_parts (is_move wide states s.less)
    (is_move wide states s.equal && (is_move wide states s.greater && list_all (is_move wide states) (all_moves ss))) h in
    let second = and_parts (is_move wide states s.equal) (is_move wide states s.greater && list_all (is_move wide states) (all_moves ss)) first.1 in
    let third = and_parts (is_move wide states s.greater) (list_all (is_move wide states) (all_moves ss)) second.1 in
    let l = move_parts wide states s.less first.0 in
    let e = move_parts wide states s.equal second.0 in
    let g = move_parts wide states s.greater third.0 in
    let rest = moves_only wide states ss third.1 in
    (both_true (three_true _ _ _ l.0 e.0 g.0) rest.0, both_true (three_true _ _ _ l.1 e.1 g.1) rest.1)

pub moves_again : (wide : Bool) (states : List StateLine) (ss : List Node) → list_all (leads_below (length states)) ss ≡ true →
    list_all (has_expressions_in wide) ss ≡ true → AreMoves wide states (all_moves ss)
moves_again wide states [] h k = refl
moves_again wide states (s ∷ ss) h k =
    let targets = and_parts (leads_below (length states) s) (list_all (leads_below (length states)) ss) h in
    let short = and_parts (has_expressions_in wide s) (list_all (has_expressions_in wide) ss) k in
    let to = three_parts (nat_lt s.less.next (length states)) (nat_lt s.equal.next (length states)) (nat_lt s.greater.next (length states)) targets.0 in
    let of = three_parts (are_expressions wide s.less.to) (are_expressions wide s.equal.to) (are_expressions wide s.greater.to) short.0 in
    let rest = moves_again wide states ss targets.1 short.1 in
    both_true (both_true to.0 of.0) (both_true (both_true to.1 of.1) (both_true (both_true to.2 of.2) rest))

-- the rules on how an automaton looks are the grammar of its block
record Formed (m : Body) : Type 0 where
  pub few : has_few_states m ≡ true
  pub names : has_names m ≡ true
  pub constants : has_constants m ≡ true
  pub targets : has_targets m ≡ true
  pub short : has_expressions m ≡ true

formed_parts : (m : Body) → is_formed m ≡ true → Formed m
formed_parts m h =
    let a = has_few_states m in
    let b = has_names m in
    let c = has_constants m in
    let d = has_targets m in
    let e = has_expressions m in
    let last = and_parts (((a && b) && c) && d) e h in
    let fourth = and_parts ((a && b) && c) d last.0 in
    let third = and_parts (a && b) c fourth.0 in
    let second = and_parts a b third.0 in
    record { few = second.0; names = second.1; constants = third.1; targets = fourth.1; short = last.1 }

pub formed_sheet : (direction : Direction) (m : Body) → is_formed m ≡ true → IsSheet (sheet_of direction m)
formed_sheet direction m h =
    let is = formed_parts m h in
    let count = and_parts (nat_le 1 (length m.states)) (nat_le (length m.states) 8) is.few in
    let some = leb-true 1 (length m.states) count.0 in
    let few = leb-true (length m.states) 8 count.1 in
    let size = as_many_lines m.states in
    let moves = as_many_moves m.states in
    let names = and_parts (list_all (λ (s : Node). is_name s.name) m.states) (are_different m.states) is.names in
    let short = and_parts (list_all (has_expressions_in m.wide) m.states) (is_expression m.wide m.finish) is.short in
    let targets = subst (λ (n : ℕ). list_all (leads_below n) m.states ≡ true) (sym size) is.targets in
    record {
      front = record {
        some = omega (arith, some, size);
        few = omega (arith, few, size);
        names = names_again m.states [] names.0 names.1 (none_before m.states);
        constants = is.constants;
        turns = moves_again m.wide (state_lines m.states) m.states targets short.0;
      };
      count = omega (arith, moves, size);
      finish = short.1;
    }

pub sheet_formed : (direction : Direction) (m : Body) → IsSheet (sheet_of direction m) → is_formed m ≡ true
sheet_formed direction m is =
    let size = as_many_lines m.states in
    let some = is.front.some in
    let few = is.front.few in
    let named = names_only m.states [] is.front.names in
    let moved = moves_only m.wide (state_lines m.states) m.states is.front.turns in
    let targets = subst (λ (n : ℕ). list_all (leads_below n) m.states ≡ true) size moved.0 in
    let counts : has_few_states m ≡ true = both_true (small 1 (length m.states) (omega (arith, some, size)))
    (small (length m.states) 8 (omega (arith, few, size))) in
    both_true (both_true (both_true (both_true counts (both_true named.0 named.1)) is.front.constants) targets) (both_true moved.1 is.finish)
  where
    small : (j k : ℕ) → j ≤ k → nat_le j k ≡ true
    small j k h = grind (arith, nat_tests)

-- states that are grouped from lines and moves
pub one_more_line : (xs : List Node) (s : Node) → state_lines (xs ++ s ∷ []) ≡ state_lines xs ++ (record { name = s.name; held = s.held } ∷ [])
one_more_line [] s = refl
one_more_line (x ∷ xs) s = ap (λ (ns : List StateLine). record { name = x.name; held = x.held } ∷ ns) (one_more_line xs s)

pub three_more_moves : (xs : List Node) (s : Node) → all_moves (xs ++ s ∷ []) ≡ all_moves xs ++ (s.less ∷ s.equal ∷ s.greater ∷ [])
three_more_moves [] s = refl
three_more_moves (x ∷ xs) s = ap (λ (ts : List Move). x.less ∷ x.equal ∷ x.greater ∷ ts) (three_more_moves xs s)

-- one more state, of the next line and the next three moves
pub taken_line : (lines : List StateLine) (i : ℕ) (d line : StateLine) (old new : List State) (s : State) → i < length lines → line ≡ get_or lines i d →
    (s.name ≡ line.name) × (s.held ≡ line.held) → new ≡ old ++ s ∷ [] → state_lines (map node_of old) ≡ take i lines →
    state_lines (map node_of new) ≡ take (i + 1) lines
taken_line lines i d line old new s h at p e so_far =
    let name = ap (λ (x : ℕ). record { name = x; held = s.held }) p.0 in
    let same : ◌≡◌ {A = StateLine} (record { name = s.name; held = s.held }) line = name ∙ ap (λ (x : Bool). record { name = line.name; held = x }) p.1 in
    ap (λ (x : List State). state_lines (map node_of x)) e
    ∙ ap state_lines (map_push node_of old s)
    ∙ one_more_line (map node_of old) (node_of s)
    ∙ ap (λ (ns : List StateLine). ns ++ (record { name = s.name; held = s.held } ∷ [])) so_far
    ∙ ap (λ (n : StateLine). take i lines ++ (n ∷ [])) (same ∙ at)
    ∙ sym (take_more lines i d h)

pub taken_moves : (old new : List State) (s : State) (before after : List Turn) (all : List Move) →
    map move_of before ≡ all_moves (node_of s ∷ []) ++ map move_of after → new ≡ old ++ s ∷ [] → all_moves (map node_of old) ++ map move_of before ≡ all →
    all_moves (map node_of new) ++ map move_of after ≡ all
taken_moves old new s before after all m e so_far =
    ap (λ (x : List State). all_moves (map node_of x) ++ map move_of after) e
    ∙ ap (λ (x : List Node). all_moves x ++ map move_of after) (map_push node_of old s)
    ∙ ap (λ (x : List Move). x ++ map move_of after) (three_more_moves (map node_of old) (node_of s))
    ∙ append_assoc (all_moves (map node_of old)) (all_moves (node_of s ∷ [])) (map move_of after)
    ∙ ap (λ (x : List Move). all_moves (map node_of old) ++ x) (sym m)
    ∙ so_far

pub taken_left : (s : State) (before after : List Turn) →
    map move_of before ≡ all_moves (node_of s ∷ []) ++ map move_of after → length before ≡ 3 + length after
taken_left s before after m =
    let a : length (map move_of before) ≡ length before = simp length-map in
    let b : length (map move_of after) ≡ length after = simp length-map in
    let e = ap length m in
    omega (arith, a, b, e)
