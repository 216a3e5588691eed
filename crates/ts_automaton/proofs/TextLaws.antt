-- What a text is read as is determined, and is the automaton whose block it is.
use Rattle.std.proofs.Common.{◌≡◌, ◌≢◌, ℕ, ◌≤◌, ◌*◌, length, map, arith, Bool, true, false, Option, Some, None, List, ◌++◌, refl, sym, ap, subst, ◌∙◌}
use Rattle.std.specs.Prelude.{Result, Ok, Err, IsTrue, is_none}
use Rattle.std.specs.Cmp.Derive.{both_true}
use Rattle.std.proofs.lemmas.Bool.{and_parts}
use Rattle.std.proofs.lemmas.List.{length-map}
use Rattle.ts_automaton.specs.declared.draft.Direction.{Direction}
use Rattle.ts_automaton.specs.declared.draft.Direction.TheVariants.{Forward}
use Rattle.ts_automaton.specs.declared.stop.AutoStop.{AutoStop}
use Rattle.ts_automaton.specs.declared.stop.AutoStop.TheVariants.{Text, Typing, Memory}
use Rattle.ts_automaton.specs.declared.typing.Place.{Place}
use Rattle.ts_automaton.specs.declared.state.State.{State}
use Rattle.ts_automaton.specs.declared.state.Turn.{Turn}
use Rattle.ts_automaton.specs.Body.{Body, move_of, node_of}
use Rattle.ts_automaton.specs.Typing.{is_formed, is_typed, is_automaton, typing_fault}
use Rattle.ts_automaton.specs.AutomatonText.{Sheet, sheet_of, lines_text, head_text, body_text, IsBlockOf}
use Rattle.ts_automaton.specs.Grammar.{IsSheet, Whole, prefix_words}
use Rattle.ts_automaton.specs.Reading.{sheet_reading, ReadsSheet}
use Rattle.ts_automaton.specs.TextReading.{line_at, line_of, Judges, Reads}
use Rattle.ts_automaton.proofs.Listed.{typed_or_fault}
use Rattle.ts_automaton.proofs.BodyLaws.{sheet_body, body_again, as_many_lines, formed_sheet, sheet_formed}
use Rattle.ts_automaton.proofs.ReadLaws.{written_read, read_written, refused, refused_again}
use Rattle.ts_automaton.proofs.WidthLaws.{widths_differ}

-- the block of an automaton is read as its lines
block_read : (text : List ℕ) (m : Body) → is_formed m ≡ true → (is : IsBlockOf text m) → sheet_reading text ≡ Ok (sheet_of is.0 m)
block_read text m formed is = ap sheet_reading is.1 ∙ written_read (sheet_of is.0 m) (formed_sheet is.0 m formed)

-- lines that were read are the block of an automaton that has them
pub sheet_block : (text : List ℕ) (b : Sheet) (m : Body) → sheet_reading text ≡ Ok b → sheet_of b.direction m ≡ b → IsTrue (is_formed m) × IsBlockOf text m
sheet_block text b m h same =
    let read = read_written text b h in
    (sheet_formed b.direction m (subst IsSheet (sym same) read.0), (b.direction, read.1 ∙ ap (λ (x : Sheet). lines_text (prefix_words (Whole x))) (sym same)))

-- the one reading of a text
abbrev typed : Body → Option Place → Result Body AutoStop
typed m None = Ok m
typed m (Some p) = Err (Typing (line_of m p))

abbrev judged : Result Sheet ℕ → Result Body AutoStop
judged (Err k) = Err (Text k)
judged (Ok b) = typed (sheet_body b) (typing_fault (sheet_body b))

block_judged : (text : List ℕ) (m : Body) → is_formed m ≡ true → IsBlockOf text m → judged (sheet_reading text) ≡ typed m (typing_fault m)
block_judged text m formed is = ap judged (block_read text m formed is) ∙ ap (λ (x : Body). typed x (typing_fault x)) (body_again is.0 m)

no_fault : (o : Option Place) → is_none o ≡ true → o ≡ None
no_fault None h = refl
no_fault (Some p) h = cc

reading_is : (text : List ℕ) (r : Result Body AutoStop) → Reads text r → r ≢ Err Memory → judged (sheet_reading text) ≡ r
reading_is text (Ok m) is want =
    let rules = and_parts (is_formed m) (is_typed m) is.0 in
    let none = no_fault (typing_fault m) (sym (typed_or_fault m) ∙ rules.1) in
    block_judged text m rules.0 is.1 ∙ ap (typed m) none
reading_is text (Err (Text k)) is want = ap judged (refused_again text k is)
reading_is text (Err (Typing k)) is want =
    block_judged text is.body is.formed is.block ∙ ap (typed is.body) is.first ∙ ap (λ (n : ℕ). Err (Typing n)) (sym is.line)
reading_is text (Err Memory) is want = absurd (want refl)

pub one_reading : (text : List ℕ) (r s : Result Body AutoStop) → Reads text r → Reads text s → r ≢ Err Memory → s ≢ Err Memory → r ≡ s
one_reading text r s is also more again = sym (reading_is text r is more) ∙ reading_is text s also again

-- for the answers of the reading
pub sheet_refused : (text : List ℕ) (e : AutoStop) → ReadsSheet (Err e) (sheet_reading text) → Reads text (Err e)
sheet_refused text (Text k) h = refused text k h
sheet_refused text (Typing k) h = absurd h
sheet_refused text Memory h = tt

-- a block in the grammar, and the automaton that has it
pub formed_by : (b : Sheet) (m : Body) → IsSheet b → sheet_of b.direction m ≡ b → is_formed m ≡ true
formed_by b m is same = sheet_formed b.direction m (subst IsSheet (sym same) is)

pub few_by : (b : Sheet) (m : Body) (items : List State) → IsSheet b → sheet_of b.direction m ≡ b → m.states ≡ map node_of items → length items ≤ 8
few_by b m items is same states =
    let few = is.front.few in
    let lines = ap (λ (x : Sheet). length x.states) same in
    let nodes = as_many_lines m.states in
    let size = ap length states in
    let count : length (map node_of items) ≡ length items = simp length-map in
    omega (arith, few, lines, nodes, size, count)

pub rules_by : (b : Sheet) (m : Body) → IsSheet b → sheet_of b.direction m ≡ b → None ≡ typing_fault m → IsTrue (is_automaton m)
rules_by b m is same none = both_true (formed_by b m is same) (typed_or_fault m ∙ ap is_none (sym none))

pub taken_by : (b : Sheet) (m n : Body) → IsSheet b → sheet_of b.direction m ≡ b → None ≡ typing_fault m → n ≡ m → Judges b (Ok n)
taken_by b m n is same none are = subst (λ (x : Body). Judges b (Ok x)) (sym are) (rules_by b m is same none, same)

pub fault_by : (b : Sheet) (m : Body) (items : List State) (p : Place) (n k : ℕ) → sheet_of b.direction m ≡ b →
    Some p ≡ typing_fault m → m.states ≡ map node_of items →
    n ≡ length items → k ≡ line_at n p → Judges b (Err (Typing k))
fault_by b m items p n k same fault states count line =
    let size : length (map node_of items) ≡ length items = simp length-map in
    (m, p, same, sym fault, line ∙ ap (λ (x : ℕ). line_at x p) (count ∙ sym size ∙ ap length (sym states)))

pub judged_reads : (text : List ℕ) (b : Sheet) (r : Result Body AutoStop) → sheet_reading text ≡ Ok b → Judges b r → Reads text r
judged_reads text b (Ok m) h is = (is.0, (sheet_block text b m h is.1).1)
judged_reads text b (Err (Text k)) h is = absurd is
judged_reads text b (Err (Typing k)) h is =
    let block = sheet_block text b is.0 h is.2 in
    record { body = is.0; formed = block.0; block = block.1; place = is.1; first = is.3; line = is.4 }
judged_reads text b (Err Memory) h is = tt

pub read_in_grammar : (text : List ℕ) (b : Sheet) → sheet_reading text ≡ Ok b → IsSheet b
read_in_grammar text b h = (read_written text b h).0

pub moves_by : (b : Sheet) (moves : List Turn) → IsSheet b → b.moves ≡ map move_of moves → length moves ≡ 3 * length b.states
moves_by b moves is e =
    let size : length (map move_of moves) ≡ length moves = simp length-map in
    let count = is.count in
    let same = ap length e in
    omega (arith, size, count, same)

-- what was written is read as the same automaton
answered : (m : Body) → ◌≢◌ {A = Result Body AutoStop} (Ok m) (Err Memory)
answered m h = cc

pub written_again : (m : Body) (direction : Direction) (r : Result Body AutoStop) → IsTrue (is_automaton m) →
    Reads (head_text direction m.wide ++ body_text m) r →
    r ≢ Err Memory → r ≡ Ok m
written_again m direction r rules is more = one_reading (head_text direction m.wide ++ body_text m) r (Ok m) is (rules, (direction, refl)) more (answered m)

of_one_width : (m n : Body) → IsTrue (is_automaton m) → IsTrue (is_automaton n) → m.wide ≡ n.wide → body_text m ≡ body_text n → m ≡ n
of_one_width m n rules also width same =
    let text = head_text Forward m.wide ++ body_text m in
    let block = ap (λ (w : Bool). head_text Forward w ++ body_text m) width ∙ ap (λ (t : List ℕ). head_text Forward n.wide ++ t) same in
    let second : Reads text (Ok n) = (also, (Forward, block)) in
    let are : ◌≡◌ {A = Result Body AutoStop} (Ok m) (Ok n) = one_reading text (Ok m) (Ok n) (rules, (Forward, refl)) second (answered m) (answered n) in
    cc

pub one_automaton : (m n : Body) → IsTrue (is_automaton m) → IsTrue (is_automaton n) → body_text m ≡ body_text n → m ≡ n
one_automaton m n rules also same = go m.wide n.wide refl refl where
  formed : (b : Body) → IsTrue (is_automaton b) → is_formed b ≡ true
  formed b h = (and_parts (is_formed b) (is_typed b) h).0

  go : (v w : Bool) → m.wide ≡ v → n.wide ≡ w → m ≡ n
  go true true e f = of_one_width m n rules also (e ∙ sym f) same
  go false false e f = of_one_width m n rules also (e ∙ sym f) same
  go false true e f = absurd (widths_differ m n (formed m rules) (formed n also) e f same)
  go true false e f = absurd (widths_differ n m (formed n also) (formed m rules) f e (sym same))
