-- The words of a move and of the finish line are read as what they spell, and what is read from words is spelled by them.
use Rattle.std.proofs.Common.{◌≡◌, ℕ, zero, suc, ◌<◌, ◌≤◌, ◌-◌, ◌/◌, ◌%◌, Bool, true, false, cond, Option, Some, None, List, [], ◌∷◌, ◌++◌, length, take, drop}
use Rattle.std.proofs.Common.{refl, sym, ap, subst, ◌∙◌, ◌&&◌, codes, arith, nat_le, nat_lt, append-nil}
use Rattle.std.specs.Prelude.{◌==◌}
use Rattle.std.specs.Cmp.Derive.{both_true}
use Rattle.std.specs.List.{position, AllByRecursion}
use Rattle.std.specs.Str.{bytes_eq}
use Rattle.std.proofs.lemmas.Bool.{eqb-true, and_parts, leb-true, lt-ltb}
use Rattle.std.proofs.lemmas.Bool.Decides.{nat_tests}
use Rattle.std.proofs.lemmas.List.Quantifiers.{position-Some}
use Rattle.ts_base.proofs.WordLaws.{keyword_or}
use Rattle.ts_automaton.specs.declared.draft.StateLine.{StateLine}
use Rattle.ts_automaton.specs.declared.state.Mark.{Mark}
use Rattle.ts_automaton.specs.declared.state.Mark.TheVariants.{Same, Zero as ZeroMark, Cells}
use Rattle.ts_automaton.specs.declared.expr.Atom.{Atom}
use Rattle.ts_automaton.specs.declared.expr.Atom.TheVariants.{C as AtomC, E as AtomE, D as AtomD, F as AtomF, R as AtomR, This as AtomThis, Next as AtomNext, Zero as AtomZero, Unit as AtomUnit, NegInf as AtomNegInf, PosInf as AtomPosInf}
use Rattle.ts_automaton.specs.declared.expr.Operator.{Operator}
use Rattle.ts_automaton.specs.declared.expr.Operator.TheVariants.{Fold, Sub}
use Rattle.ts_base.specs.declared.op.Op.TheVariants.{Add as OpAdd, Max as OpMax, Min as OpMin}
use Rattle.ts_automaton.specs.Formula.{Formula, Leaf, Join, is_zero}
use Rattle.ts_automaton.specs.Registers.{EachOf, each}
use Rattle.ts_automaton.specs.Body.{Move}
use Rattle.ts_automaton.specs.Typing.{each_is, is_expression, are_expressions}
use Rattle.ts_automaton.specs.FormulaText.{atom_word, op_word, formula_words, formula_of}
use Rattle.ts_automaton.specs.AutomatonText.{no_state, name_at, mark_word, sign_word, semi, each_words, behind_semi, move_words, finish_words}
use Rattle.ts_automaton.specs.Grammar.{is_move}
use Rattle.ts_automaton.specs.Lines.{word_at, only_byte, is_semi, onto_cut, cut_of, place_by, place_of, move_made, cut_extra, with_last, from_d, from_e, from_c, pieces_of, formulas_of, is_move_head, read_move, mark_of, finish_made, expression_and_mark, read_finish}
use Rattle.ts_automaton.proofs.Five.{five_parts, all_parts, all_again, read_tests}
use Rattle.ts_automaton.proofs.FormulaLaws.{formula_only, formula_again}
use Rattle.ts_automaton.proofs.LineLaws.{W, letter_only, equal, same, five, pass, go_on}

-- words cut at the first `;`
cut_step : (w : List ℕ) (ws : W) (t : Bool) (o : Option (W × W)) (p : W × W) → is_semi w ≡ t → ((q : W × W) → o ≡ Some q → ws ≡ q.0 ++ (semi ∷ q.1)) →
    cond t (Some ([], ws)) (onto_cut w o) ≡ Some p → w ∷ ws ≡ p.0 ++ (semi ∷ p.1)
cut_step w ws true o p e later h =
    let is : ◌≡◌ {A = W × W} ([], ws) p = cc in
    ap (λ (x : List ℕ). x ∷ ws) (equal w (codes ";") e) ∙ ap (λ (q : W × W). q.0 ++ (semi ∷ q.1)) is
cut_step w ws false None p e later h = cc
cut_step w ws false (Some q) p e later h =
    let is : ◌≡◌ {A = W × W} (w ∷ q.0, q.1) p = cc in
    ap (λ (x : W). w ∷ x) (later q refl) ∙ ap (λ (r : W × W). r.0 ++ (semi ∷ r.1)) is

cut_only : (ws : W) (p : W × W) → cut_of ws ≡ Some p → ws ≡ p.0 ++ (semi ∷ p.1)
cut_only [] p h = cc
cut_only (w ∷ ws) p h = cut_step w ws (is_semi w) (cut_of ws) p refl (λ q e. cut_only ws q e) h

-- no word of an expression is `;`
AreNoSemi : W → Type 0
AreNoSemi ws = AllByRecursion (λ w. is_semi w ≡ false) ws

no_semi_append : (xs ys : W) → AreNoSemi xs → AreNoSemi ys → AreNoSemi (xs ++ ys)
unfolding AreNoSemi
no_semi_append [] ys h k = k
no_semi_append (x ∷ xs) ys h k = (h.0, no_semi_append xs ys h.1 k)

atom_no_semi : (a : Atom) → is_semi (atom_word a) ≡ false
atom_no_semi AtomC = refl
atom_no_semi AtomE = refl
atom_no_semi AtomD = refl
atom_no_semi AtomF = refl
atom_no_semi AtomR = refl
atom_no_semi AtomThis = refl
atom_no_semi AtomNext = refl
atom_no_semi AtomZero = refl
atom_no_semi AtomUnit = refl
atom_no_semi AtomNegInf = refl
atom_no_semi AtomPosInf = refl

op_no_semi : (o : Operator) → is_semi (op_word o) ≡ false
op_no_semi (Fold OpAdd) = refl
op_no_semi (Fold OpMax) = refl
op_no_semi (Fold OpMin) = refl
op_no_semi Sub = refl

formula_no_semi : (f : Formula) → AreNoSemi (formula_words f)
unfolding AreNoSemi
formula_no_semi (Leaf a) = (atom_no_semi a, tt)
formula_no_semi (Join o f g) = (op_no_semi o, no_semi_append (formula_words f) (formula_words g) (formula_no_semi f) (formula_no_semi g))

cut_again : (xs ys : W) → AreNoSemi xs → cut_of (xs ++ (semi ∷ ys)) ≡ Some (xs, ys)
unfolding AreNoSemi
cut_again [] ys h = refl
cut_again (x ∷ xs) ys h = ap (λ t. cond t (Some ([], xs ++ (semi ∷ ys))) (onto_cut x (cut_of (xs ++ (semi ∷ ys))))) h.0 ∙ ap (onto_cut x) (cut_again xs ys h.1)

-- targets
pub named_at : (states : List StateLine) (b k : ℕ) → position (λ n. n.name == b) states ≡ Some k → (k < length states) × (name_at states k ≡ b)
named_at states b k h =
    let p = position-Some (λ (n : StateLine). n.name == b) states k no_state h in
    (p.0, eqb-true (name_at states k) b p.1)

place_only : (states : List StateLine) (w : List ℕ) (o : Option ℕ) (k : ℕ) → only_byte w ≡ o → place_by states o ≡ Some k →
    (k < length states) × (w ≡ name_at states k ∷ [])
place_only states w None k e h = cc
place_only states w (Some b) k e h =
    let p = named_at states b k h in
    (p.0, letter_only w b e ∙ ap (λ (x : ℕ). x ∷ []) (sym p.1))

-- the words for E or F with the `;` after them and what follows, or what follows alone
abbrev extra_then : Bool → W → W → W
extra_then false e rest = rest
extra_then true e rest = e ++ (semi ∷ rest)

-- the pieces of a move, `;` between them
abbrev pieces_joined : Bool → EachOf W → W
pieces_joined wide a = a.c ++ (semi ∷ extra_then wide a.e (a.d ++ (semi ∷ extra_then wide a.f a.r)))

extra_cut_only : (wide : Bool) (ws : W) (p : W × W) → cut_extra wide ws ≡ Some p → ws ≡ extra_then wide p.0 p.1
extra_cut_only false ws p h =
    let is : ◌≡◌ {A = W × W} ([], ws) p = cc in
    ap (λ (q : W × W). q.1) is
extra_cut_only true ws p h = cut_only ws p h

last_only : (wide : Bool) (c e d ws : W) (o : Option (W × W)) (a : EachOf W) → cut_extra wide ws ≡ o → with_last c e d o ≡ Some a →
    (c ≡ a.c) × (e ≡ a.e) × (d ≡ a.d) × (ws ≡ extra_then wide a.f a.r)
last_only wide c e d ws None a k h = cc
last_only wide c e d ws (Some p) a k h =
    let is : each c e d p.0 p.1 ≡ a = cc in
    subst (λ (x : EachOf W). (c ≡ x.c) × (e ≡ x.e) × (d ≡ x.d) × (ws ≡ extra_then wide x.f x.r)) is (refl, refl, refl, extra_cut_only wide ws p k)

d_only : (wide : Bool) (c e ws : W) (o : Option (W × W)) (a : EachOf W) → cut_of ws ≡ o → from_d wide c e o ≡ Some a →
    (c ≡ a.c) × (e ≡ a.e) × (ws ≡ a.d ++ (semi ∷ extra_then wide a.f a.r))
d_only wide c e ws None a k h = cc
d_only wide c e ws (Some p) a k h =
    let s = last_only wide c e p.0 p.1 (cut_extra wide p.1) a refl h in
    (s.0, s.1, cut_only ws p k ∙ ap (λ (x : W). x ++ (semi ∷ p.1)) s.2 ∙ ap (λ (x : W). a.d ++ (semi ∷ x)) s.3)

e_only : (wide : Bool) (c ws : W) (o : Option (W × W)) (a : EachOf W) → cut_extra wide ws ≡ o → from_e wide c o ≡ Some a →
    (c ≡ a.c) × (ws ≡ extra_then wide a.e (a.d ++ (semi ∷ extra_then wide a.f a.r)))
e_only wide c ws None a k h = cc
e_only wide c ws (Some p) a k h =
    let s = d_only wide c p.0 p.1 (cut_of p.1) a refl h in
    (s.0, extra_cut_only wide ws p k ∙ ap (λ (x : W). extra_then wide x p.1) s.1 ∙ ap (λ (x : W). extra_then wide a.e x) s.2)

c_only : (wide : Bool) (ws : W) (o : Option (W × W)) (a : EachOf W) → cut_of ws ≡ o → from_c wide o ≡ Some a → ws ≡ pieces_joined wide a
c_only wide ws None a k h = cc
c_only wide ws (Some p) a k h =
    let s = e_only wide p.0 p.1 (cut_extra wide p.1) a refl h in
    cut_only ws p k ∙ ap (λ (x : W). x ++ (semi ∷ p.1)) s.0 ∙ ap (λ (x : W). a.c ++ (semi ∷ x)) s.1

-- the words of expressions, in pieces: there are none for E and F in a narrow block
abbrev extra_piece : Bool → Formula → W
extra_piece false f = []
extra_piece true f = formula_words f

abbrev pieces : Bool → EachOf Formula → EachOf W
pieces wide to = each (formula_words to.c) (extra_piece wide to.e) (formula_words to.d) (extra_piece wide to.f) (formula_words to.r)

joined_words : (wide : Bool) (to : EachOf Formula) → semi ∷ pieces_joined wide (pieces wide to) ≡ each_words behind_semi wide to
joined_words false to =
    ap (λ (x : W). semi ∷ (formula_words to.c ++ (semi ∷ (formula_words to.d ++ (semi ∷ x))))) (sym (append-nil (formula_words to.r)))
joined_words true to =
    ap (λ (x : W). semi ∷ (formula_words to.c ++ (semi ∷ (formula_words to.e ++ (semi ∷ (formula_words to.d ++ (semi ∷
    (formula_words to.f ++ (semi ∷ x)))))))))
    (sym (append-nil (formula_words to.r)))

-- pieces that are read as expressions are their words
spelled : (wide : Bool) (ws : W) (f : Formula) → formula_of wide ws ≡ Some f → ws ≡ formula_words f
spelled wide ws f h = (formula_only wide ws f h).0

passes : (wide : Bool) (ws : W) (f : Formula) → formula_of wide ws ≡ Some f → is_expression wide f ≡ true
passes wide ws f h = (formula_only wide ws f h).1

pieces_spelled : (wide : Bool) (a : EachOf W) (to : EachOf Formula) → formulas_of wide (Some a) ≡ Some to →
    pieces_joined wide a ≡ pieces_joined wide (pieces wide to)
pieces_spelled false a to h =
    let p = all_parts (formula_of false a.c) (Some (Leaf AtomZero)) (formula_of false a.d) (Some (Leaf AtomZero)) (formula_of false a.r) to h in
    ap (λ (x : W). x ++ (semi ∷ (a.d ++ (semi ∷ a.r)))) (spelled false a.c to.c p.0)
    ∙ ap (λ (x : W). formula_words to.c ++ (semi ∷ (x ++ (semi ∷ a.r)))) (spelled false a.d to.d p.2)
    ∙ ap (λ (x : W). formula_words to.c ++ (semi ∷ (formula_words to.d ++ (semi ∷ x)))) (spelled false a.r to.r p.4)
pieces_spelled true a to h =
    let p = all_parts (formula_of true a.c) (formula_of true a.e) (formula_of true a.d) (formula_of true a.f) (formula_of true a.r) to h in
    ap (λ (x : W). x ++ (semi ∷ (a.e ++ (semi ∷ (a.d ++ (semi ∷ (a.f ++ (semi ∷ a.r)))))))) (spelled true a.c to.c p.0)
    ∙ ap (λ (x : W). formula_words to.c ++ (semi ∷ (x ++ (semi ∷ (a.d ++ (semi ∷ (a.f ++ (semi ∷ a.r)))))))) (spelled true a.e to.e p.1)
    ∙ ap (λ (x : W). formula_words to.c ++ (semi ∷ (formula_words to.e ++ (semi ∷ (x ++ (semi ∷ (a.f ++ (semi ∷ a.r)))))))) (spelled true a.d to.d p.2)
    ∙ ap (λ (x : W). formula_words to.c ++ (semi ∷ (formula_words to.e ++ (semi ∷ (formula_words to.d ++ (semi ∷ (x ++ (semi ∷ a.r))))))))
    (spelled true a.f to.f p.3)
    ∙ ap (λ (x : W). formula_words to.c ++ (semi ∷ (formula_words to.e ++ (semi ∷ (formula_words to.d ++ (semi ∷ (formula_words to.f ++ (semi ∷ x))))))))
    (spelled true a.r to.r p.4)

-- the expressions of a move
abbrev AreFormulas : Bool → W → EachOf Formula → Type 0
AreFormulas wide rest to = (semi ∷ rest ≡ each_words behind_semi wide to) × (are_expressions wide to ≡ true)

formulas_only : (wide : Bool) (rest : W) (o : Option (EachOf W)) (to : EachOf Formula) → pieces_of wide rest ≡ o → formulas_of wide o ≡ Some to →
    AreFormulas wide rest to
formulas_only wide rest None to k h = cc
formulas_only wide rest (Some a) to k h =
    let tests = read_tests (is_expression wide) is_zero (Leaf AtomZero) (zero_passes wide) refl wide
    (formula_of wide a.c) (formula_of wide a.e) (formula_of wide a.d) (formula_of wide a.f) (formula_of wide a.r) to
    (λ x e. passes wide a.c x e) (λ x e. passes wide a.e x e) (λ x e. passes wide a.d x e) (λ x e. passes wide a.f x e) (λ x e. passes wide a.r x e) h in
    (ap (λ (x : W). semi ∷ x) (c_only wide rest (cut_of rest) a refl k ∙ pieces_spelled wide a to h) ∙ joined_words wide to, tests)
  where
    zero_passes : (wide : Bool) → is_expression wide (Leaf AtomZero) ≡ true
    zero_passes false = refl
    zero_passes true = refl

abbrev IsTurn : Bool → List StateLine → List ℕ → W → Move → Type 0
IsTurn wide states w rest t = (w ≡ name_at states t.next ∷ []) × (semi ∷ rest ≡ each_words behind_semi wide t.to) × (is_move wide states t ≡ true)

turn_only : (wide : Bool) (states : List StateLine) (w : List ℕ) (rest : W) (o : Option ℕ) (p : Option (EachOf Formula)) (t : Move) →
    place_of states w ≡ o → formulas_of wide (pieces_of wide rest) ≡ p → move_made o p ≡ Some t → IsTurn wide states w rest t
turn_only wide states w rest None p t e f h = cc
turn_only wide states w rest (Some n) None t e f h = cc
turn_only wide states w rest (Some n) (Some to) t e f h =
    let is : record { next = n; to = to } ≡ t = cc in
    let target = place_only states w (only_byte w) n refl e in
    let read = formulas_only wide rest (pieces_of wide rest) to refl f in
    let here : IsTurn wide states w rest (record { next = n; to = to }) = (target.1, read.0, both_true (lt-ltb n (length states) target.0) read.1) in
    subst (IsTurn wide states w rest) is here

pub move_only : (wide : Bool) (states : List StateLine) (k : ℕ) (ws : W) (t : Move) → read_move wide states k ws ≡ Some t →
    (ws ≡ move_words wide states k t) × (is_move wide states t ≡ true)
move_only wide states k ws t h =
    let made = move_made (place_of states (word_at ws 3)) (formulas_of wide (pieces_of wide (drop 5 ws))) in
    let from = bytes_eq (word_at ws 1) (name_at states (k / 3) ∷ []) in
    let sign = bytes_eq (word_at ws 2) (sign_word (k % 3)) in
    let p = pass (nat_le 5 (length ws)) (cond (is_move_head states k ws) made None) t h in
    let q = pass (is_move_head states k ws) made t p.1 in
    let a = and_parts (bytes_eq (word_at ws 0) (codes "move")) (from && (sign && is_semi (word_at ws 4))) q.0 in
    let b = and_parts from (sign && is_semi (word_at ws 4)) a.1 in
    let c = and_parts sign (is_semi (word_at ws 4)) b.1 in
    let s = turn_only wide states (word_at ws 3) (drop 5 ws) (place_of states (word_at ws 3)) (formulas_of wide (pieces_of wide (drop 5 ws))) t refl refl q.1 in
    let first = equal (word_at ws 0) (codes "move") a.0 in
    let second = equal (word_at ws 1) (name_at states (k / 3) ∷ []) b.0 in
    let third = equal (word_at ws 2) (sign_word (k % 3)) c.0 in
    let fifth = ap (λ (x : List ℕ). x ∷ drop 5 ws) (equal (word_at ws 4) (codes ";") c.1) ∙ s.1 in (
      all_words (word_at ws 0) (word_at ws 1) (word_at ws 2) (word_at ws 3) (word_at ws 4 ∷ drop 5 ws) (each_words behind_semi wide t.to)
          (five ws (leb-true 5 (length ws) p.0)) first second third s.0 fifth,
      s.2,
    )
  where
    all_words : (u v w x : List ℕ) (rest more : W) → ws ≡ u ∷ v ∷ w ∷ x ∷ rest → u ≡ codes "move" → v ≡ name_at states (k / 3) ∷ [] →
        w ≡ sign_word (k % 3) → x ≡ name_at states t.next ∷ [] → rest ≡ more →
        ws ≡ codes "move" ∷ (name_at states (k / 3) ∷ []) ∷ sign_word (k % 3) ∷ (name_at states t.next ∷ []) ∷ more
    all_words u v w x rest more e f g h i j = cc

-- the words of a move joined and cut again are the words of its expressions
pieces_again : (wide : Bool) (to : EachOf Formula) → pieces_of wide (pieces_joined wide (pieces wide to)) ≡ Some (pieces wide to)
pieces_again false to =
    ap (from_c false) (cut_again (formula_words to.c) (formula_words to.d ++ (semi ∷ formula_words to.r)) (formula_no_semi to.c))
    ∙ ap (from_d false (formula_words to.c) []) (cut_again (formula_words to.d) (formula_words to.r) (formula_no_semi to.d))
pieces_again true to =
    let r = formula_words to.r in
    let from_f = formula_words to.f ++ (semi ∷ r) in
    let rest = formula_words to.d ++ (semi ∷ from_f) in
    ap (from_c true) (cut_again (formula_words to.c) (formula_words to.e ++ (semi ∷ rest)) (formula_no_semi to.c))
    ∙ ap (from_e true (formula_words to.c)) (cut_again (formula_words to.e) rest (formula_no_semi to.e))
    ∙ ap (from_d true (formula_words to.c) (formula_words to.e)) (cut_again (formula_words to.d) from_f (formula_no_semi to.d))
    ∙ ap (with_last (formula_words to.c) (formula_words to.e) (formula_words to.d)) (cut_again (formula_words to.f) r (formula_no_semi to.f))

pub zero_only : (f : Formula) → is_zero f ≡ true → Leaf AtomZero ≡ f
zero_only (Leaf AtomC) h = cc
zero_only (Leaf AtomE) h = cc
zero_only (Leaf AtomD) h = cc
zero_only (Leaf AtomF) h = cc
zero_only (Leaf AtomR) h = cc
zero_only (Leaf AtomThis) h = cc
zero_only (Leaf AtomNext) h = cc
zero_only (Leaf AtomZero) h = refl
zero_only (Leaf AtomUnit) h = cc
zero_only (Leaf AtomNegInf) h = cc
zero_only (Leaf AtomPosInf) h = cc
zero_only (Join o f g) h = cc

read_again : (wide : Bool) (f : Formula) → is_expression wide f ≡ true → formula_of wide (formula_words f) ≡ Some f
read_again wide f h = formula_again wide f (formula_words f) refl h

formulas_again : (wide : Bool) (to : EachOf Formula) → are_expressions wide to ≡ true → formulas_of wide (Some (pieces wide to)) ≡ Some to
formulas_again false to h =
    let p = and_parts (each_is (is_expression false) to) (is_zero to.e && is_zero to.f) h in
    let all = five_parts (is_expression false to.c) (is_expression false to.e) (is_expression false to.d) (is_expression false to.f)
    (is_expression false to.r) p.0 in
    let rest = and_parts (is_zero to.e) (is_zero to.f) p.1 in
    all_again (formula_of false (formula_words to.c)) (Some (Leaf AtomZero)) (formula_of false (formula_words to.d)) (Some (Leaf AtomZero))
    (formula_of false (formula_words to.r)) to
    (read_again false to.c all.0, ap Some (zero_only to.e rest.0), read_again false to.d all.2, ap Some (zero_only to.f rest.1), read_again false to.r all.4)
formulas_again true to h =
    let p = and_parts (each_is (is_expression true) to) true h in
    let all = five_parts (is_expression true to.c) (is_expression true to.e) (is_expression true to.d) (is_expression true to.f)
    (is_expression true to.r) p.0 in
    all_again (formula_of true (formula_words to.c)) (formula_of true (formula_words to.e)) (formula_of true (formula_words to.d))
    (formula_of true (formula_words to.f)) (formula_of true (formula_words to.r)) to
    (read_again true to.c all.0, read_again true to.e all.1, read_again true to.d all.2, read_again true to.f all.3, read_again true to.r all.4)

-- where the letters differ, the place of a state is found by its letter
pub move_again : (wide : Bool) (states : List StateLine) (k : ℕ) (t : Move) → place_by states (Some (name_at states t.next)) ≡ Some t.next →
    is_move wide states t ≡ true → read_move wide states k (move_words wide states k t) ≡ Some t
move_again wide states k t place h =
    let a = and_parts (nat_lt t.next (length states)) (are_expressions wide t.to) h in
    let rest = pieces_joined wide (pieces wide t.to) in
    let head : W = codes "move" ∷ (name_at states (k / 3) ∷ []) ∷ sign_word (k % 3) ∷ (name_at states t.next ∷ []) ∷ [] in
    let ends = both_true {t = true} (same (sign_word (k % 3))) refl in
    ap (λ (x : W). read_move wide states k (head ++ x)) (sym (joined_words wide t.to))
    ∙ go_on (nat_le 5 (length (head ++ (semi ∷ rest)))) _ t (long (length rest)) (
    go_on (is_move_head states k (head ++ (semi ∷ rest))) _ t (both_true (same (name_at states (k / 3) ∷ [])) ends) (
    ap (λ o. move_made o (formulas_of wide (pieces_of wide rest))) place
    ∙ ap (λ o. move_made (Some t.next) (formulas_of wide o)) (pieces_again wide t.to)
    ∙ ap (move_made (Some t.next)) (formulas_again wide t.to a.1)))
  where
    long : (n : ℕ) → nat_le 5 (suc (suc (suc (suc (suc n))))) ≡ true
    long n = grind (arith, nat_tests)

-- finish lines
mark_only : (w : List ℕ) (m : Mark) → mark_of w ≡ Some m → w ≡ mark_word m
mark_only w m h =
    keyword_or (w ≡ mark_word m) w (codes "same") (Some Same) _ m (λ is k. let e : Same ≡ m = cc in is ∙ ap mark_word e)
    (keyword_or (w ≡ mark_word m) w (codes "zero") (Some ZeroMark) _ m (λ is k. let e : ZeroMark ≡ m = cc in is ∙ ap mark_word e)
    (keyword_or (w ≡ mark_word m) w (codes "cells") (Some Cells) None m (λ is k. let e : Cells ≡ m = cc in is ∙ ap mark_word e)
    (λ k. cc)))
    h

mark_again : (m : Mark) → mark_of (mark_word m) ≡ Some m
mark_again Same = refl
mark_again ZeroMark = refl
mark_again Cells = refl

ends : (n : ℕ) (ws : W) → length ws ≡ suc n → ws ≡ take n ws ++ (word_at ws n ∷ [])
ends zero [] h = absurd (omega arith)
ends zero (w ∷ []) h = refl
ends zero (w ∷ v ∷ ws) h = absurd (omega arith)
ends (suc n) [] h = absurd (omega arith)
ends (suc n) (w ∷ ws) h = ap (λ (x : W). w ∷ x) (ends n ws (omega arith))

finish_parts : (wide : Bool) (u : W) (w : List ℕ) (f : Option Formula) (m : Option Mark) (x : Formula × Mark) → formula_of wide u ≡ f → mark_of w ≡ m →
    finish_made f m ≡ Some x → (u ++ (w ∷ []) ≡ formula_words x.0 ++ (mark_word x.1 ∷ [])) × (is_expression wide x.0 ≡ true)
finish_parts wide u w None m x e g h = cc
finish_parts wide u w (Some f) None x e g h = cc
finish_parts wide u w (Some f) (Some m) x e g h =
    let is : ◌≡◌ {A = Formula × Mark} (f, m) x = cc in
    let read = formula_only wide u f e in
    subst (λ (y : Formula × Mark). (u ++ (w ∷ []) ≡ formula_words y.0 ++ (mark_word y.1 ∷ [])) × (is_expression wide y.0 ≡ true)) is
    (ap (λ (y : W). y ++ (w ∷ [])) read.0 ∙ ap (λ (y : List ℕ). formula_words f ++ (y ∷ [])) (mark_only w m g), read.1)

head_tail : (ws : W) → 2 ≤ length ws → (ws ≡ word_at ws 0 ∷ drop 1 ws) × (length (drop 1 ws) ≡ suc (length (drop 1 ws) - 1))
head_tail [] h = absurd (omega arith)
head_tail (w ∷ []) h = absurd (omega arith)
head_tail (w ∷ v ∷ ws) h = (refl, back (length ws)) where
  back : (n : ℕ) → suc n ≡ suc (suc n - 1)
  back n = omega arith

pub finish_only : (wide : Bool) (ws : W) (x : Formula × Mark) → read_finish wide ws ≡ Some x → (ws ≡ finish_words x.0 x.1) × (is_expression wide x.0 ≡ true)
finish_only wide ws x h =
    let p = pass (nat_le 2 (length ws)) (cond (bytes_eq (word_at ws 0) (codes "finish")) (expression_and_mark wide (drop 1 ws)) None) x h in
    let q = pass (bytes_eq (word_at ws 0) (codes "finish")) (expression_and_mark wide (drop 1 ws)) x p.1 in
    let cut = head_tail ws (leb-true 2 (length ws) p.0) in
    let rest = drop 1 ws in
    let n = length (drop 1 ws) - 1 in
    let s = finish_parts wide (take n rest) (word_at rest n) (formula_of wide (take n rest)) (mark_of (word_at rest n)) x refl refl q.1 in
    (cut.0 ∙ ap (λ (w : List ℕ). w ∷ drop 1 ws) (equal (word_at ws 0) (codes "finish") q.0) ∙ ap (λ (y : W). codes "finish" ∷ y) (ends n rest cut.1 ∙ s.0), s.1)

last_of : (u : W) (w : List ℕ) → (length (u ++ (w ∷ [])) - 1 ≡ length u) × (take (length u) (u ++ (w ∷ [])) ≡ u) × (word_at (u ++ (w ∷ [])) (length u) ≡ w)
last_of [] w = (refl, refl, refl)
last_of (x ∷ u) w =
    let later = last_of u w in
    (size (length (u ++ (w ∷ []))) (length u) later.0 (some u w), ap (λ (y : W). x ∷ y) later.1, later.2)
  where
    size : (m n : ℕ) → m - 1 ≡ n → 0 < m → suc m - 1 ≡ suc n
    size m n e h = omega (arith, e)

    some : (u : W) (w : List ℕ) → 0 < length (u ++ (w ∷ []))
    some [] w = omega arith
    some (x ∷ u) w = omega arith

pub finish_again : (wide : Bool) (f : Formula) (m : Mark) → is_expression wide f ≡ true → read_finish wide (finish_words f m) ≡ Some (f, m)
finish_again wide f m h =
    let rest = formula_words f ++ (mark_word m ∷ []) in
    let last = last_of (formula_words f) (mark_word m) in
    go_on (nat_le 2 (length (finish_words f m))) _ (f, m) (long (length rest) (some (formula_words f))) (
    ap (λ (n : ℕ). finish_made (formula_of wide (take n rest)) (mark_of (word_at rest n))) last.0
    ∙ ap (λ (x : W). finish_made (formula_of wide x) (mark_of (word_at rest (length (formula_words f))))) last.1
    ∙ ap (λ (w : List ℕ). finish_made (formula_of wide (formula_words f)) (mark_of w)) last.2
    ∙ ap (λ o. finish_made o (mark_of (mark_word m))) (read_again wide f h)
    ∙ ap (λ o. finish_made (Some f) o) (mark_again m))
  where
    some : (u : W) → 0 < length (u ++ (mark_word m ∷ []))
    some [] = omega arith
    some (x ∷ u) = omega arith

    long : (n : ℕ) → 0 < n → nat_le 2 (suc n) ≡ true
    long n h = grind (arith, nat_tests)
