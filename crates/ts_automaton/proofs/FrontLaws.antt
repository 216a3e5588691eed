-- Words written one after the other, and words read up to the one that is refused.
use Rattle.std.proofs.Common.{◌≡◌, ℕ, zero, suc, ◌-◌, ◌<◌, ◌≤◌, cond, true, false, nat_le, Bool, Option, Some, None, List, [], ◌∷◌, ◌++◌, length, drop, get_or, take, not, nat_lt, ◌+◌, append-nil, refl, sym, ap, subst, ◌∙◌, append_assoc, arith}
use Rattle.std.specs.Borrow.{Bor}
use Rattle.std.proofs.Math.Seq.{drop-cons}
use Rattle.std.specs.List.{position, position_or_len}
use Rattle.std.proofs.lemmas.Bool.{ltb-false, ltb-true}
use Rattle.std.proofs.lemmas.List.{take_rest, drop-map, take-map, map_push}
use Rattle.ts_base.specs.Words.{behind, full_line, Words, words_of, all_words, words_seen, more_seen, left_of}
use Rattle.ts_base.specs.declared.words.Words.{Words as CutWords}
use Rattle.ts_automaton.specs.AutomatonText.{words_text, lines_text}
use Rattle.ts_automaton.specs.Lines.{is_semi, onto_cut, cut_of}
use Rattle.ts_automaton.specs.Formula.{Formula}
use Rattle.ts_automaton.specs.FormulaText.{stack_word, onto_stack, stack_of, only_one, any_formula_of, texts}

pub behind-append : (xs ys : List (List ℕ)) → behind (xs ++ ys) ≡ behind xs ++ behind ys
behind-append [] ys = refl
behind-append (x ∷ xs) ys =
    ap (λ (t : List ℕ). 32 ∷ (x ++ t)) (behind-append xs ys) ∙ ap (λ (t : List ℕ). 32 ∷ t) (sym (append_assoc x (behind xs) (behind ys)))

pub two_operands : (old word : List ℕ) (fs gs : List (List ℕ)) (t1 t2 t3 : List ℕ) → t1 ≡ old ++ (32 ∷ word) → t2 ≡ t1 ++ behind fs → t3 ≡ t2 ++ behind gs →
    t3 ≡ old ++ behind (word ∷ (fs ++ gs))
two_operands old word fs gs t1 t2 t3 e f g =
    g ∙ ap (λ (t : List ℕ). t ++ behind gs) (f ∙ ap (λ (t : List ℕ). t ++ behind fs) e)
    ∙ append_assoc (old ++ (32 ∷ word)) (behind fs) (behind gs)
    ∙ append_assoc old (32 ∷ word) (behind fs ++ behind gs)
    ∙ ap (λ (t : List ℕ). old ++ (32 ∷ (word ++ t))) (sym (behind-append fs gs))

-- words before what is refused are refused too
stuck : (i : ℕ) (ws : List (Bor (List ℕ))) → stack_of (texts (drop i ws)) ≡ None → stack_of (texts ws) ≡ None
stuck zero ws h = h
stuck (suc i) [] h = h
stuck (suc i) (w ∷ ws) h = ap (onto_stack w.now) (stuck i ws h)

pub refused : (ws : List (Bor (List ℕ))) (left : ℕ) (d : Bor (List ℕ)) (fs : List Formula) → 0 < left → left ≤ length ws →
    stack_of (texts (drop left ws)) ≡ Some fs → stack_word (get_or ws (left - 1) d).now fs ≡ None → None ≡ any_formula_of (texts ws)
refused ws left d fs some within read none =
    let back : suc (left - 1) ≡ left = omega arith in
    let here : stack_of (texts (drop (left - 1) ws)) ≡ None =
    ap (λ (x : List (Bor (List ℕ))). stack_of (texts x)) (drop-cons ws (left - 1) d (omega arith))
    ∙ ap (λ (k : ℕ). onto_stack (get_or ws (left - 1) d).now (stack_of (texts (drop k ws)))) back
    ∙ ap (onto_stack (get_or ws (left - 1) d).now) read
    ∙ none in
    let all = stuck (left - 1) ws here in
    sym (ap (λ o. cond (nat_le (length (texts ws)) 15) (only_one o) None) all ∙ either (nat_le (length (texts ws)) 15))
  where
    either : (t : Bool) → cond {A = Option Formula} t None None ≡ None
    either true = refl
    either false = refl

-- the parts of a line, written one after the other
pub line_pushed : (old word : List ℕ) (fs gs : List (List ℕ)) (t1 t2 t3 t4 : List ℕ) → t1 ≡ old ++ word → t2 ≡ t1 ++ behind fs → t3 ≡ t2 ++ behind gs →
    t4 ≡ t3 ++ (10 ∷ []) → t4 ≡ old ++ full_line (record { first = word; more = fs ++ gs })
line_pushed old word fs gs t1 t2 t3 t4 e f g h =
    h ∙ ap (λ (t : List ℕ). t ++ (10 ∷ [])) (g ∙ ap (λ (t : List ℕ). t ++ behind gs) (f ∙ ap (λ (t : List ℕ). t ++ behind fs) e)
    ∙ append_assoc (old ++ word) (behind fs) (behind gs)
    ∙ ap (λ (t : List ℕ). old ++ word ++ t) (sym (behind-append fs gs))
    ∙ append_assoc old word (behind (fs ++ gs)))
    ∙ append_assoc old (word ++ behind (fs ++ gs)) (10 ∷ [])

pub move_pushed : (old word : List ℕ) (fs gs : List (List ℕ)) (t2 t3 t4 : List ℕ) → t2 ≡ old ++ (word ++ behind fs) → t3 ≡ t2 ++ behind gs →
    t4 ≡ t3 ++ (10 ∷ []) → t4 ≡ old ++ full_line (record { first = word; more = fs ++ gs })
move_pushed old word fs gs t2 t3 t4 f g h = line_pushed old word fs gs (old ++ word) t2 t3 t4 refl (f ∙ sym (append_assoc old word (behind fs))) g h

pub lines_append : (xs ys : List (List (List ℕ))) → lines_text (xs ++ ys) ≡ lines_text xs ++ lines_text ys
lines_append [] ys = refl
lines_append (x ∷ xs) ys = ap (λ (t : List ℕ). words_text x ++ t) (lines_append xs ys) ∙ sym (append_assoc (words_text x) (lines_text xs) (lines_text ys))

pub body_pushed : (states : List (List (List ℕ))) (start : List (List ℕ)) (moves : List (List (List ℕ))) (finish last : List (List ℕ))
    (old t2 t3 t4 t5 t6 : List ℕ) →
    t2 ≡ old ++ lines_text states → t3 ≡ t2 ++ words_text start → t4 ≡ t3 ++ lines_text moves → t5 ≡ t4 ++ words_text finish → t6 ≡ t5 ++ words_text last →
    t6 ≡ old ++ lines_text (states ++ (start ∷ moves) ++ (finish ∷ []) ++ (last ∷ []))
body_pushed states start moves finish last old t2 t3 t4 t5 t6 b c d e f =
    f ∙ ap (λ (t : List ℕ). t ++ words_text last) (e ∙ ap (λ (t : List ℕ). t ++ words_text finish) upper
    ∙ append_assoc old (lines_text (states ++ (start ∷ moves))) (words_text finish) ∙ ap (λ (t : List ℕ). old ++ t) (one (states ++ (start ∷ moves)) finish))
    ∙ append_assoc old (lines_text (states ++ (start ∷ moves) ++ (finish ∷ []))) (words_text last)
    ∙ ap (λ (t : List ℕ). old ++ t) (one (states ++ (start ∷ moves) ++ (finish ∷ [])) last)
  where
    one : (xs : List (List (List ℕ))) (x : List (List ℕ)) → lines_text xs ++ words_text x ≡ lines_text (xs ++ (x ∷ []))
    one xs x = ap (λ (t : List ℕ). lines_text xs ++ t) (sym (append-nil (words_text x))) ∙ sym (lines_append xs (x ∷ []))

    upper : t4 ≡ old ++ lines_text (states ++ (start ∷ moves))
    upper =
        d ∙ ap (λ (t : List ℕ). t ++ lines_text moves) (c ∙ ap (λ (t : List ℕ). t ++ words_text start) b)
        ∙ append_assoc (old ++ lines_text states) (words_text start) (lines_text moves)
        ∙ append_assoc old (lines_text states) (lines_text (start ∷ moves))
        ∙ ap (λ (t : List ℕ). old ++ t) (sym (lines_append states (start ∷ moves)))

-- words cut at the first `;`
one_plus : (n : ℕ) → 1 + n ≡ suc n
one_plus n = omega arith

at_semi : (ws : List (Bor (List ℕ))) → position_or_len (λ w. is_semi w.now) ws < length ws →
    cut_of (texts ws) ≡ Some (texts (take (position_or_len (λ w. is_semi w.now) ws) ws), texts (drop (suc (position_or_len (λ w. is_semi w.now) ws)) ws))
at_semi [] h = absurd (omega arith)
at_semi (w ∷ ws) h =
    let n : ℕ = position_or_len (λ (w : Bor (List ℕ)). is_semi w.now) ws in
    let P : Bool → Type 0 = λ v. cond (not v) (1 + n) 0 < length (w ∷ ws) →
    cond v (Some ([], texts ws)) (onto_cut w.now (cut_of (texts ws))) ≡ Some
    (texts (take (cond (not v) (1 + n) 0) (w ∷ ws)), texts (drop (suc (cond (not v) (1 + n) 0)) (w ∷ ws))) in
    (elim (is_semi w.now) as P [ true ↦ λ k. refl | false ↦ λ k. rw (one_plus n) (ap (onto_cut w.now) (at_semi ws (omega arith))) ]) h

no_semi : (ws : List (Bor (List ℕ))) → length ws ≤ position_or_len (λ w. is_semi w.now) ws → cut_of (texts ws) ≡ None
no_semi [] h = refl
no_semi (w ∷ ws) h =
    let n : ℕ = position_or_len (λ (w : Bor (List ℕ)). is_semi w.now) ws in
    let P : Bool → Type 0 = λ v. length (w ∷ ws) ≤ cond (not v) (1 + n) 0 → cond v (Some ([], texts ws)) (onto_cut w.now (cut_of (texts ws))) ≡ None in
    (elim (is_semi w.now) as P [ true ↦ λ k. absurd (omega arith) | false ↦ λ k. ap (onto_cut w.now) (no_semi ws (omega arith)) ]) h

pub uncut : (ws : List (Bor (List ℕ))) → None ≡ position (λ w. is_semi w.now) ws → cut_of (texts ws) ≡ None
uncut ws h = go (nat_lt (position_or_len (λ (w : Bor (List ℕ)). is_semi w.now) ws) (length ws)) refl h where
  go : (t : Bool) → nat_lt (position_or_len (λ (w : Bor (List ℕ)). is_semi w.now) ws) (length ws) ≡ t →
      None ≡ cond t (Some (position_or_len (λ (w : Bor (List ℕ)). is_semi w.now) ws)) None → cut_of (texts ws) ≡ None
  go true e k = cc
  go false e k = no_semi ws (ltb-false _ _ e)

pub semi_cut : (ws : List (Bor (List ℕ))) (n : ℕ) → Some n ≡ position (λ w. is_semi w.now) ws →
    cut_of (texts ws) ≡ Some (texts (take n ws), texts (take (length ws - (n + 1)) (drop (n + 1) ws)))
semi_cut ws n h = go (nat_lt (position_or_len (λ (w : Bor (List ℕ)). is_semi w.now) ws) (length ws)) refl h where
  next : (n : ℕ) → suc n ≡ n + 1
  next n = omega arith

  go : (t : Bool) → nat_lt (position_or_len (λ (w : Bor (List ℕ)). is_semi w.now) ws) (length ws) ≡ t →
      Some n ≡ cond t (Some (position_or_len (λ (w : Bor (List ℕ)). is_semi w.now) ws)) None →
      cut_of (texts ws) ≡ Some (texts (take n ws), texts (take (length ws - (n + 1)) (drop (n + 1) ws)))
  go false e k = cc
  go true e k =
      let same : position_or_len (λ (w : Bor (List ℕ)). is_semi w.now) ws ≡ n = cc in
      at_semi ws (ltb-true _ _ e)
      ∙ ap (λ (m : ℕ). Some (texts (take m ws), texts (drop (suc m) ws))) same
      ∙ ap (λ (m : ℕ). Some (texts (take n ws), texts (drop m ws))) (next n)
      ∙ ap (λ (x : List (Bor (List ℕ))). Some (texts (take n ws), texts x)) (sym (take_rest ws (n + 1)))

pub words_after : (ws : List (Bor (List ℕ))) (k : ℕ) → texts (take (length ws - k) (drop k ws)) ≡ drop k (texts ws)
words_after ws k = ap texts (take_rest ws k) ∙ sym (drop-map (λ (w : Bor (List ℕ)). w.now) k ws)

pub words_before : (ws : List (Bor (List ℕ))) (k : ℕ) → texts (take k ws) ≡ take k (texts ws)
words_before ws k = sym (take-map (λ (w : Bor (List ℕ)). w.now) k ws)

-- one more word was cut from what was left of a line
pub one_more_word : (all : List (List ℕ)) (found new : List (Bor (List ℕ))) (before : Option (Bor (List ℕ))) (part : Bor (List ℕ)) (cut : CutWords) →
    before ≡ Some part → words_seen cut ≡ words_of part.now → new ≡ found ++ cut.first ∷ [] → texts found ++ more_seen before ≡ all →
    texts new ++ more_seen cut.rest ≡ all
one_more_word all found new before part cut is e push so_far =
    ap (λ (ws : List (Bor (List ℕ))). texts ws ++ more_seen cut.rest) push
    ∙ ap (λ (ws : List (List ℕ)). ws ++ more_seen cut.rest) (map_push (λ (w : Bor (List ℕ)). w.now) found cut.first)
    ∙ append_assoc (texts found) (cut.first.now ∷ []) (more_seen cut.rest)
    ∙ ap (λ (w : Words). texts found ++ all_words w) e
    ∙ ap (λ (o : Option (Bor (List ℕ))). texts found ++ more_seen o) (sym is)
    ∙ so_far

pub less_left : (before : Option (Bor (List ℕ))) (part : Bor (List ℕ)) (n : ℕ) → before ≡ Some part → n ≤ length part.now → n < left_of before
less_left before part n is h = subst (λ (o : Option (Bor (List ℕ))). n < left_of o) (sym is) (omega (arith, h))
