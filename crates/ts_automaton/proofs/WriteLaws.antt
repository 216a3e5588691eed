-- The lines of a block, written one after the other.
use Rattle.std.proofs.Common.{◌≡◌, ℕ, Bool, true, false, zero, suc, ◌+◌, ◌<◌, ◌≤◌, List, [], ◌∷◌, ◌++◌, length, map, get_or, refl, sym, ap, ◌∙◌, append_assoc, append-nil, arith}
use Rattle.ts_base.specs.Words.{behind, full_line}
use Rattle.ts_automaton.specs.declared.draft.StateLine.{StateLine}
use Rattle.ts_automaton.specs.declared.state.State.{State}
use Rattle.ts_automaton.specs.Registers.{EachOf}
use Rattle.ts_automaton.specs.Body.{Node, node_of}
use Rattle.ts_automaton.specs.AutomatonText.{state_lines, all_moves, name_at, part_words, each_words, move_words, moves_words, words_text, lines_text}
use Rattle.ts_automaton.proofs.FrontLaws.{behind-append}

-- the letter of a state
pub name_there : (states : List State) (k : ℕ) (d : State) → k < length states → (get_or states k d).name ≡ name_at (state_lines (map node_of states)) k
name_there [] k d h = absurd (omega arith)
name_there (s ∷ states) zero d h = refl
name_there (s ∷ states) (suc k) d h = name_there states k d (omega arith)

pub no_name_there : (states : List State) (k : ℕ) → length states ≤ k → 0 ≡ name_at (state_lines (map node_of states)) k
no_name_there [] k h = refl
no_name_there (s ∷ states) zero h = absurd (omega arith)
no_name_there (s ∷ states) (suc k) h = no_name_there states k (omega arith)

-- words and a line of them
pub each_behind : {A : Type 0} (words : A → List (List ℕ)) (wide : Bool) (a : EachOf A) (old t1 t2 t3 t4 t5 : List ℕ) →
    t1 ≡ old ++ behind (words a.c) → t2 ≡ t1 ++ behind (part_words words wide a.e) → t3 ≡ t2 ++ behind (words a.d) →
    t4 ≡ t3 ++ behind (part_words words wide a.f) → t5 ≡ t4 ++ behind (words a.r) → t5 ≡ old ++ behind (each_words words wide a)
each_behind words wide a old t1 t2 t3 t4 t5 h i j k l =
    parts (words a.c) (part_words words wide a.e) (words a.d) (part_words words wide a.f) (words a.r) h i j k l
    ∙ ap (λ (ws : List (List ℕ)). old ++ behind ws) (together wide)
  where
    two : (t : List ℕ) (xs ys : List (List ℕ)) (s r : List ℕ) → s ≡ t ++ behind xs → r ≡ s ++ behind ys → r ≡ t ++ behind (xs ++ ys)
    two t xs ys s r e f =
        f ∙ ap (λ (v : List ℕ). v ++ behind ys) e ∙ append_assoc t (behind xs) (behind ys) ∙ ap (λ (v : List ℕ). t ++ v) (sym (behind-append xs ys))

    parts : (u v w x y : List (List ℕ)) → t1 ≡ old ++ behind u → t2 ≡ t1 ++ behind v → t3 ≡ t2 ++ behind w → t4 ≡ t3 ++ behind x → t5 ≡ t4 ++ behind y →
        t5 ≡ old ++ behind (u ++ (v ++ (w ++ (x ++ y))))
    parts u v w x y h i j k l =
        let fifth : t5 ≡ t3 ++ behind (x ++ y) = two t3 x y t4 t5 k l in
        let fourth : t5 ≡ t2 ++ behind (w ++ (x ++ y)) = two t2 w (x ++ y) t3 t5 j fifth in
        let third : t5 ≡ t1 ++ behind (v ++ (w ++ (x ++ y))) = two t1 v (w ++ (x ++ y)) t2 t5 i fourth in
        two old u (v ++ (w ++ (x ++ y))) t1 t5 h third

    together : (wide : Bool) →
        words a.c ++ (part_words words wide a.e ++ (words a.d ++ (part_words words wide a.f ++ words a.r))) ≡ each_words words wide a
    together false = ap (λ (ws : List (List ℕ)). words a.c ++ (words a.d ++ ws)) (sym (append-nil (words a.r)))
    together true = ap (λ (ws : List (List ℕ)). words a.c ++ (words a.e ++ (words a.d ++ (words a.f ++ ws)))) (sym (append-nil (words a.r)))

pub line_of_words : (old word : List ℕ) (ws : List (List ℕ)) (t1 t2 t3 : List ℕ) → t1 ≡ old ++ word → t2 ≡ t1 ++ behind ws → t3 ≡ t2 ++ (10 ∷ []) →
    t3 ≡ old ++ full_line (record { first = word; more = ws })
line_of_words old word ws t1 t2 t3 e f g =
    g ∙ ap (λ (t : List ℕ). t ++ (10 ∷ [])) (f ∙ ap (λ (t : List ℕ). t ++ behind ws) e ∙ append_assoc old word (behind ws))
    ∙ append_assoc old (word ++ behind ws) (10 ∷ [])

-- moves
pub three_lines : (wide : Bool) (names : List StateLine) (k : ℕ) (s : Node) (old t1 t2 t3 : List ℕ) → t1 ≡ old ++ words_text (move_words wide names k s.less) →
    t2 ≡ t1 ++ words_text (move_words wide names (k + 1) s.equal) → t3 ≡ t2 ++ words_text (move_words wide names (k + 2) s.greater) →
    t3 ≡ old ++ lines_text (moves_words wide names k (all_moves (s ∷ [])))
three_lines wide names k s old t1 t2 t3 e f g =
    joins (words_text (move_words wide names k s.less)) (words_text (move_words wide names (k + 1) s.equal))
    (words_text (move_words wide names (k + 1 + 1) s.greater)) e f
    (g ∙ ap (λ (n : ℕ). t2 ++ words_text (move_words wide names n s.greater)) (place k))
  where
    place : (k : ℕ) → k + 2 ≡ k + 1 + 1
    place k = omega arith

    joins : (a b c : List ℕ) → t1 ≡ old ++ a → t2 ≡ t1 ++ b → t3 ≡ t2 ++ c → t3 ≡ old ++ (a ++ (b ++ (c ++ [])))
    joins a b c e f g =
        g ∙ ap (λ (t : List ℕ). t ++ c) (f ∙ ap (λ (t : List ℕ). t ++ b) e)
        ∙ append_assoc (old ++ a) b c
        ∙ append_assoc old a (b ++ c)
        ∙ ap (λ (t : List ℕ). old ++ (a ++ (b ++ t))) (sym (append-nil c))
