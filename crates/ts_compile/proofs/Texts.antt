-- The text of a program, written part by part.
use Rattle.std.proofs.Common.{◌≡◌, ℕ, zero, suc, ◌+◌, ◌<◌, Some, Option, List, [], ◌∷◌, ◌++◌, length, drop, map, refl, sym, ◌∙◌}
use Rattle.std.proofs.Common.{ap, append_assoc, append-nil, codes, arith, String}
use Rattle.std.specs.Prelude.{slice_get}
use Rattle.std.proofs.lemmas.List.{length-map}
use Rattle.std.specs.Global.{Global}
use Rattle.std.specs.String.{string_bytes}
use Rattle.ts_base.specs.Words.{behind, full_line}
use Rattle.ts_base.specs.declared.range.Range.{Range}
use Rattle.ts_model.specs.declared.model.ModelTerm.{ModelTerm}
use Rattle.ts_automaton.specs.Body.{Body, Node, node_at}
use Rattle.ts_automaton.specs.AutomatonText.{state_lines, name_at}
use Rattle.ts_glue.specs.declared.machine.Machine.{Machine}
use Rattle.ts_glue.specs.Machines.{window_of}
use Rattle.ts_glue.specs.Pairs.{Pair}
use Rattle.ts_model.specs.declared.model.Model.{Model}
use Rattle.ts_model.specs.Views.{terms_in}
use Rattle.ts_model.proofs.TermWindows.{windows_count}
use Rattle.ts_compile.specs.Compiled.{machine_body, machine_pair}
use Rattle.ts_compile.specs.declared.program.Program.{Program}
use Rattle.ts_compile.specs.ProgramText.{part_text, program_text}
use Rattle.ts_compile.specs.Programs.{IsProgramOf, machines_of}

-- a word before those that end a line
word_before : (old word text : List ℕ) (ws : List (List ℕ)) (all : List ℕ) → text ≡ old ++ (32 ∷ word) → all ≡ text ++ (behind ws ++ (10 ∷ [])) →
    all ≡ old ++ (behind (word ∷ ws) ++ (10 ∷ []))
word_before old word text ws all e f =
    f ∙ ap (λ (t : List ℕ). t ++ (behind ws ++ (10 ∷ []))) e
    ∙ append_assoc old (32 ∷ word) (behind ws ++ (10 ∷ []))
    ∙ ap (λ (t : List ℕ). old ++ (32 ∷ t)) (sym (append_assoc word (behind ws) (10 ∷ [])))

-- the first word of a line, with those after it
line_begun : (old first text : List ℕ) (ws : List (List ℕ)) (all : List ℕ) → text ≡ old ++ first → all ≡ text ++ (behind ws ++ (10 ∷ [])) →
    all ≡ old ++ full_line (record { first = first; more = ws })
line_begun old first text ws all e f =
    f ∙ ap (λ (t : List ℕ). t ++ (behind ws ++ (10 ∷ []))) e
    ∙ append_assoc old first (behind ws ++ (10 ∷ []))
    ∙ ap (λ (t : List ℕ). old ++ t) (sym (append_assoc first (behind ws) (10 ∷ [])))

-- a line of four words
pub four_pushed : (old first a b c t1 t2 t3 t4 all : List ℕ) → t1 ≡ old ++ first → t2 ≡ t1 ++ (32 ∷ a) → t3 ≡ t2 ++ (32 ∷ b) →
    t4 ≡ t3 ++ (32 ∷ c) → all ≡ t4 ++ (10 ∷ []) → all ≡ old ++ full_line (record { first = first; more = a ∷ b ∷ c ∷ [] })
four_pushed old first a b c t1 t2 t3 t4 all e1 e2 e3 e4 e5 =
    let from3 = word_before t3 c t4 [] all e4 e5 in
    let from2 = word_before t2 b t3 (c ∷ []) all e3 from3 in
    line_begun old first t1 (a ∷ b ∷ c ∷ []) all e1 (word_before t1 a t2 (b ∷ c ∷ []) all e2 from2)

-- and one of five words, with a tail
pub tail_pushed : (old first a b c d : List ℕ) (ws : List (List ℕ)) (t1 t2 t3 t4 t5 t6 all : List ℕ) → t1 ≡ old ++ first → t2 ≡ t1 ++ (32 ∷ a) →
    t3 ≡ t2 ++ (32 ∷ b) → t4 ≡ t3 ++ (32 ∷ c) → t5 ≡ t4 ++ (32 ∷ d) → t6 ≡ t5 ++ behind ws → all ≡ t6 ++ (10 ∷ []) →
    all ≡ old ++ full_line (record { first = first; more = a ∷ b ∷ c ∷ d ∷ ws })
tail_pushed old first a b c d ws t1 t2 t3 t4 t5 t6 all e1 e2 e3 e4 e5 e6 e7 =
    let from5 = e7 ∙ ap (λ (t : List ℕ). t ++ (10 ∷ [])) e6 ∙ append_assoc t5 (behind ws) (10 ∷ []) in
    let from4 = word_before t4 d t5 ws all e5 from5 in
    let from3 = word_before t3 c t4 (d ∷ ws) all e4 from4 in
    let from2 = word_before t2 b t3 (c ∷ d ∷ ws) all e3 from3 in
    line_begun old first t1 (a ∷ b ∷ c ∷ d ∷ ws) all e1 (word_before t1 a t2 (b ∷ c ∷ d ∷ ws) all e2 from2)

-- the two words of a tail, and the two numbers of a range
pub window_pushed : (old word text1 text2 all : List ℕ) → text1 ≡ old ++ (32 ∷ codes "in") → text2 ≡ text1 ++ (32 ∷ []) → all ≡ text2 ++ word →
    all ≡ old ++ behind (codes "in" ∷ word ∷ [])
window_pushed old word text1 text2 all e1 e2 e3 =
    e3 ∙ ap (λ (t : List ℕ). t ++ word) (e2 ∙ ap (λ (t : List ℕ). t ++ (32 ∷ [])) e1)
    ∙ append_assoc (old ++ (32 ∷ codes "in")) (32 ∷ []) word
    ∙ append_assoc old (32 ∷ codes "in") (32 ∷ word)
    ∙ ap (λ (t : List ℕ). old ++ (32 ∷ (codes "in" ++ (32 ∷ t)))) (sym (append-nil word))

pub range_pushed : (old a b c text1 text2 all : List ℕ) → text1 ≡ old ++ a → text2 ≡ text1 ++ b → all ≡ text2 ++ c → all ≡ old ++ (a ++ (b ++ c))
range_pushed old a b c text1 text2 all e1 e2 e3 =
    e3 ∙ ap (λ (t : List ℕ). t ++ c) e2 ∙ append_assoc text1 b c ∙ ap (λ (t : List ℕ). t ++ (b ++ c)) e1 ∙ append_assoc old a (b ++ c)

-- four pieces, and five
pub pieces_pushed : (old a b c d t1 t2 t3 all : List ℕ) → t1 ≡ old ++ a → t2 ≡ t1 ++ b → t3 ≡ t2 ++ c → all ≡ t3 ++ d →
    all ≡ old ++ (a ++ (b ++ (c ++ d)))
pieces_pushed old a b c d t1 t2 t3 all e1 e2 e3 e4 =
    e4 ∙ ap (λ (t : List ℕ). t ++ d) e3 ∙ append_assoc t2 c d
    ∙ ap (λ (t : List ℕ). t ++ (c ++ d)) e2 ∙ append_assoc t1 b (c ++ d)
    ∙ ap (λ (t : List ℕ). t ++ (b ++ (c ++ d))) e1 ∙ append_assoc old a (b ++ (c ++ d))

pub more_pushed : (old a b c d e t1 t2 t3 t4 all : List ℕ) → t1 ≡ old ++ a → t2 ≡ t1 ++ b → t3 ≡ t2 ++ c → t4 ≡ t3 ++ d → all ≡ t4 ++ e →
    all ≡ old ++ (a ++ (b ++ (c ++ (d ++ e))))
more_pushed old a b c d e t1 t2 t3 t4 all e1 e2 e3 e4 e5 =
    pieces_pushed t1 b c d e t2 t3 t4 all e2 e3 e4 e5 ∙ ap (λ (t : List ℕ). t ++ (b ++ (c ++ (d ++ e)))) e1
    ∙ append_assoc old a (b ++ (c ++ (d ++ e)))

-- the letter of a state
pub letter_there : (states : List Node) (q : ℕ) → (node_at states q).name ≡ name_at (state_lines states) q
letter_there [] q = refl
letter_there (s ∷ ss) zero = refl
letter_there (s ∷ ss) (suc q) = letter_there ss q

-- what is said of the machine at a place is said of the term there
pub same_at : {X Y B : Type 0} (f : X → B) (g : Y → B) (xs : List X) (ys : List Y) (k : ℕ) (x : X) (y : Y) → map f xs ≡ map g ys →
    slice_get xs k ≡ Some x → slice_get ys k ≡ Some y → f x ≡ g y
same_at f g [] ys k x y e p q = grind arith
same_at f g (a ∷ xs) [] k x y e p q = grind arith
same_at f g (a ∷ xs) (b ∷ ys) zero x y e p q =
    let here : a ≡ x = cc in
    let there : b ≡ y = cc in
    let same : f a ≡ g b = cc in
    ap f (sym here) ∙ same ∙ ap g there
same_at f g (a ∷ xs) (b ∷ ys) (suc k) x y e p q =
    let rest : map f xs ≡ map g ys = cc in
    same_at f g xs ys k x y rest p q

-- a machine of a program stands where a term of the model does
pub term_at_machine : (p : Program) (m : Model) (ms : List Machine) (k : ℕ) → IsProgramOf p m → ms ≡ machines_of p → k < length ms →
    k < length m.terms.entries
term_at_machine p m ms k is same there =
    let all = ap (λ (x : List Machine). length x) same in
    let paired = ap (λ (x : List (Option Range)). length x) is.windows in
    let machines = length-map (machines_of p) window_of in
    let terms = length-map (terms_in m) (λ e. e.1.window) in
    let entries = windows_count m.terms.entries m.windows.items in
    omega (arith, all, paired, machines, terms, entries, there)

-- the text from a term on
program_at : (entries : List (String Global × ModelTerm)) (k : ℕ) (name : String Global) (t : ModelTerm) → slice_get (map (λ e. e.0) entries) k ≡ Some name →
    slice_get (map (λ e. e.1) entries) k ≡ Some t →
    program_text (drop k entries) ≡ part_text (string_bytes name) t (machine_body t.term) (machine_pair t.term) ++ program_text (drop (k + 1) entries)
program_at [] k name t p q = grind arith
program_at (e ∷ es) zero name t p q =
    let named : e.0 ≡ name = cc in
    let term : e.1 ≡ t = cc in
    ap (λ n. part_text (string_bytes n) e.1 (machine_body e.1.term) (machine_pair e.1.term) ++ program_text es) named
    ∙ ap (λ z. part_text (string_bytes name) z (machine_body z.term) (machine_pair z.term) ++ program_text es) term
program_at (e ∷ es) (suc k) name t p q =
    let more : suc k + 1 ≡ suc (k + 1) = omega arith in
    program_at es k name t p q
    ∙ ap (λ n. part_text (string_bytes name) t (machine_body t.term) (machine_pair t.term) ++ program_text (drop n (e ∷ es))) (sym more)

-- one more part is written
pub part_written : (entries : List (String Global × ModelTerm)) (k : ℕ) (name : String Global) (t : ModelTerm) (body : Body) (split : Option Pair)
    (text more all : List ℕ) → slice_get (map (λ e. e.0) entries) k ≡ Some name → slice_get (map (λ e. e.1) entries) k ≡ Some t → body ≡ machine_body t.term →
    split ≡ machine_pair t.term → more ≡ text ++ part_text (string_bytes name) t body split → text ++ program_text (drop k entries) ≡ all →
    more ++ program_text (drop (k + 1) entries) ≡ all
part_written entries k name t body split text more all p q b d e h =
    let rest : List ℕ = program_text (drop (k + 1) entries) in
    ap (λ (z : List ℕ). z ++ rest) e
    ∙ append_assoc text (part_text (string_bytes name) t body split) rest
    ∙ ap (λ z. text ++ (part_text (string_bytes name) t z split ++ rest)) b
    ∙ ap (λ z. text ++ (part_text (string_bytes name) t (machine_body t.term) z ++ rest)) d
    ∙ ap (λ (z : List ℕ). text ++ z) (sym (program_at entries k name t p q))
    ∙ h
