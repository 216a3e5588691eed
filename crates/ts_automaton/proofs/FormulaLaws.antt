-- The words of an expression are read as it, and what is read as an expression is its words.
use Rattle.std.specs.Prelude.{◌↔◌, IsTrue}
use Rattle.std.specs.Cmp.Derive.{both_true}
use Rattle.std.proofs.Common.{◌≡◌, ℕ, ◌≤◌, Bool, true, false, cond, Option, Some, None, List, [], ◌∷◌, ◌++◌, length, refl, sym, ap, subst, ◌∙◌, codes, append_assoc, append-nil, arith, nat_le}
use Rattle.std.proofs.lemmas.Bool.Decides.{nat_tests}
use Rattle.std.proofs.lemmas.List.{length-append}
use Rattle.std.proofs.lemmas.Bool.{and_parts, le-leb, leb-true}
use Rattle.ts_base.proofs.WordLaws.{keyword_or}
use Rattle.ts_automaton.specs.declared.expr.Atom.{Atom}
use Rattle.ts_automaton.specs.declared.expr.Atom.TheVariants.{C as AtomC, E as AtomE, D as AtomD, F as AtomF, R as AtomR, This as AtomThis, Next as AtomNext, Zero as AtomZero, Unit as AtomUnit, NegInf as AtomNegInf, PosInf as AtomPosInf}
use Rattle.ts_automaton.specs.declared.expr.Operator.{Operator}
use Rattle.ts_automaton.specs.declared.expr.Operator.TheVariants.{Fold, Sub}
use Rattle.ts_base.specs.declared.op.Op.TheVariants.{Add as OpAdd, Max as OpMax, Min as OpMin}
use Rattle.ts_automaton.specs.Formula.{Formula, Leaf, Join, words_in, is_of}
use Rattle.ts_automaton.specs.Typing.{is_short, is_expression}
use Rattle.ts_automaton.specs.FormulaText.{atom_word, op_word, formula_words, atom_of, op_of, stacked_by, onto_stack, stack_of, only_one, any_formula_of, of_width, formula_of}

-- words of parts
pub atom_again : (a : Atom) → atom_of (atom_word a) ≡ Some a
unfolding atom_of
atom_again AtomC = refl
atom_again AtomE = refl
atom_again AtomD = refl
atom_again AtomF = refl
atom_again AtomR = refl
atom_again AtomThis = refl
atom_again AtomNext = refl
atom_again AtomZero = refl
atom_again AtomUnit = refl
atom_again AtomNegInf = refl
atom_again AtomPosInf = refl

op_no_atom : (o : Operator) → atom_of (op_word o) ≡ None
unfolding atom_of
op_no_atom (Fold OpAdd) = refl
op_no_atom (Fold OpMax) = refl
op_no_atom (Fold OpMin) = refl
op_no_atom Sub = refl

pub op_again : (o : Operator) → op_of (op_word o) ≡ Some o
unfolding op_of
op_again (Fold OpAdd) = refl
op_again (Fold OpMax) = refl
op_again (Fold OpMin) = refl
op_again Sub = refl

module _ (w : List ℕ) (a : Atom) where
  one : (b : Atom) (text : List ℕ) → text ≡ atom_word b → w ≡ text → Some b ≡ Some a → w ≡ atom_word a
  one b text t is e = let same : b ≡ a = cc in is ∙ t ∙ ap atom_word same

  pub atom_only : atom_of w ≡ Some a → w ≡ atom_word a
  unfolding atom_of
  atom_only h =
      keyword_or (w ≡ atom_word a) w (codes "C") (Some AtomC) _ a (λ is k. one AtomC (codes "C") refl is k)
      (keyword_or (w ≡ atom_word a) w (codes "E") (Some AtomE) _ a (λ is k. one AtomE (codes "E") refl is k)
      (keyword_or (w ≡ atom_word a) w (codes "D") (Some AtomD) _ a (λ is k. one AtomD (codes "D") refl is k)
      (keyword_or (w ≡ atom_word a) w (codes "F") (Some AtomF) _ a (λ is k. one AtomF (codes "F") refl is k)
      (keyword_or (w ≡ atom_word a) w (codes "R") (Some AtomR) _ a (λ is k. one AtomR (codes "R") refl is k)
      (keyword_or (w ≡ atom_word a) w (codes "x") (Some AtomThis) _ a (λ is k. one AtomThis (codes "x") refl is k)
      (keyword_or (w ≡ atom_word a) w (codes "y") (Some AtomNext) _ a (λ is k. one AtomNext (codes "y") refl is k)
      (keyword_or (w ≡ atom_word a) w (codes "0") (Some AtomZero) _ a (λ is k. one AtomZero (codes "0") refl is k)
      (keyword_or (w ≡ atom_word a) w (codes "1") (Some AtomUnit) _ a (λ is k. one AtomUnit (codes "1") refl is k)
      (keyword_or (w ≡ atom_word a) w (codes "-inf") (Some AtomNegInf) _ a (λ is k. one AtomNegInf (codes "-inf") refl is k)
      (keyword_or (w ≡ atom_word a) w (codes "+inf") (Some AtomPosInf) None a (λ is k. one AtomPosInf (codes "+inf") refl is k)
      (λ k. cc)))))))))))
      h

module _ (w : List ℕ) (o : Operator) where
  one_op : (b : Operator) (text : List ℕ) → text ≡ op_word b → w ≡ text → Some b ≡ Some o → w ≡ op_word o
  one_op b text t is e = let same : b ≡ o = cc in is ∙ t ∙ ap op_word same

  pub op_only : op_of w ≡ Some o → w ≡ op_word o
  unfolding op_of
  op_only h =
      keyword_or (w ≡ op_word o) w (codes "add") (Some (Fold OpAdd)) _ o (λ is k. one_op (Fold OpAdd) (codes "add") refl is k)
      (keyword_or (w ≡ op_word o) w (codes "max") (Some (Fold OpMax)) _ o (λ is k. one_op (Fold OpMax) (codes "max") refl is k)
      (keyword_or (w ≡ op_word o) w (codes "min") (Some (Fold OpMin)) _ o (λ is k. one_op (Fold OpMin) (codes "min") refl is k)
      (keyword_or (w ≡ op_word o) w (codes "sub") (Some Sub) None o (λ is k. one_op Sub (codes "sub") refl is k)
      (λ k. cc))))
      h

-- an expression's words put it on the stack
abbrev pushed : Formula → Option (List Formula) → Option (List Formula)
pushed f None = None
pushed f (Some fs) = Some (f ∷ fs)

leaf_pushed : (a : Atom) (s : Option (List Formula)) → onto_stack (atom_word a) s ≡ pushed (Leaf a) s
leaf_pushed a None = refl
leaf_pushed a (Some fs) = ap (λ x. stacked_by x (op_of (atom_word a)) fs) (atom_again a)

join_pushed : (o : Operator) (f g : Formula) (s : Option (List Formula)) → onto_stack (op_word o) (pushed f (pushed g s)) ≡ pushed (Join o f g) s
join_pushed o f g None = refl
join_pushed o f g (Some fs) = ap (λ x. stacked_by x (op_of (op_word o)) (f ∷ g ∷ fs)) (op_no_atom o) ∙ ap (λ x. stacked_by None x (f ∷ g ∷ fs)) (op_again o)

pub words_pushed : (f : Formula) (ws : List (List ℕ)) → stack_of (formula_words f ++ ws) ≡ pushed f (stack_of ws)
words_pushed (Leaf a) ws = leaf_pushed a (stack_of ws)
words_pushed (Join o f g) ws =
    ap (λ (x : List (List ℕ)). onto_stack (op_word o) (stack_of x)) (append_assoc (formula_words f) (formula_words g) ws)
    ∙ ap (onto_stack (op_word o)) (words_pushed f (formula_words g ++ ws) ∙ ap (pushed f) (words_pushed g ws))
    ∙ join_pushed o f g (stack_of ws)

-- words on the stack are those of its expressions
abbrev stack_words : List Formula → List (List ℕ)
stack_words [] = []
stack_words (f ∷ fs) = formula_words f ++ stack_words fs

stacked_only : (w : List ℕ) (a : Option Atom) (o : Option Operator) (fs gs : List Formula) → atom_of w ≡ a → op_of w ≡ o → stacked_by a o fs ≡ Some gs →
    w ∷ stack_words fs ≡ stack_words gs
stacked_only w (Some a) o fs gs e f h =
    let same : Leaf a ∷ fs ≡ gs = cc in
    ap (λ (x : List ℕ). x ∷ stack_words fs) (atom_only w a e) ∙ ap stack_words same
stacked_only w None None fs gs e f h = cc
stacked_only w None (Some o) [] gs e f h = cc
stacked_only w None (Some o) (x ∷ []) gs e f h = cc
stacked_only w None (Some o) (x ∷ y ∷ fs) gs e f h =
    let same : Join o x y ∷ fs ≡ gs = cc in
    ap (λ (v : List ℕ). v ∷ (formula_words x ++ (formula_words y ++ stack_words fs))) (op_only w o f)
    ∙ ap (λ (v : List (List ℕ)). op_word o ∷ v) (sym (append_assoc (formula_words x) (formula_words y) (stack_words fs)))
    ∙ ap stack_words same

onto_only : (w : List ℕ) (ws : List (List ℕ)) (s : Option (List Formula)) (gs : List Formula) → ((fs : List Formula) → s ≡ Some fs → ws ≡ stack_words fs) →
    onto_stack w s ≡ Some gs → w ∷ ws ≡ stack_words gs
onto_only w ws None gs later h = cc
onto_only w ws (Some fs) gs later h = ap (λ (x : List (List ℕ)). w ∷ x) (later fs refl) ∙ stacked_only w (atom_of w) (op_of w) fs gs refl refl h

pub stack_only : (ws : List (List ℕ)) (fs : List Formula) → stack_of ws ≡ Some fs → ws ≡ stack_words fs
stack_only [] fs h = let same : [] ≡ fs = cc in ap stack_words same
stack_only (w ∷ ws) fs h = onto_only w ws (stack_of ws) fs (λ gs e. stack_only ws gs e) h

one_step : (ws : List (List ℕ)) (s : Option (List Formula)) (f : Formula) → stack_of ws ≡ s → only_one s ≡ Some f → ws ≡ formula_words f
one_step ws None f e h = cc
one_step ws (Some []) f e h = cc
one_step ws (Some (g ∷ [])) f e h = let same : g ≡ f = cc in stack_only ws (g ∷ []) e ∙ append-nil (formula_words g) ∙ ap formula_words same
one_step ws (Some (g ∷ k ∷ gs)) f e h = cc

few_words : (ws : List (List ℕ)) (f : Formula) (t : Bool) → nat_le (length ws) 15 ≡ t → cond t (only_one (stack_of ws)) None ≡ Some f →
    (ws ≡ formula_words f) × (length ws ≤ 15)
few_words ws f true e h = (one_step ws (stack_of ws) f refl h, grind (arith, nat_tests))
few_words ws f false e h = cc

pub any_only : (ws : List (List ℕ)) (f : Formula) → any_formula_of ws ≡ Some f → (ws ≡ formula_words f) × (length ws ≤ 15)
any_only ws f h = few_words ws f (nat_le (length ws) 15) refl h

words_formula : (f : Formula) → only_one (stack_of (formula_words f)) ≡ Some f
words_formula f = ap (λ (x : List (List ℕ)). only_one (stack_of x)) (sym (append-nil (formula_words f))) ∙ ap only_one (words_pushed f [])

pub any_again : (f : Formula) (ws : List (List ℕ)) → ws ≡ formula_words f → length ws ≤ 15 → any_formula_of ws ≡ Some f
any_again f ws is few =
    ap (λ t. cond t (only_one (stack_of ws)) None) (le-leb (length ws) 15 few) ∙ ap (λ (x : List (List ℕ)). only_one (stack_of x)) is ∙ words_formula f

-- an expression has as many words as its count says
pub words_count : (f : Formula) → length (formula_words f) ≡ words_in f
words_count (Leaf a) = refl
words_count (Join o f g) =
    let both = length-append (formula_words f) (formula_words g) in
    let first = words_count f in
    let second = words_count g in
    omega (arith, both, first, second)

-- an expression of a width
of_width_only : (wide : Bool) (o : Option Formula) (f : Formula) → of_width wide o ≡ Some f → (o ≡ Some f) × (is_of wide f ≡ true)
of_width_only wide None f h = cc
of_width_only wide (Some g) f h = go (is_of wide g) refl h where
  go : (t : Bool) → is_of wide g ≡ t → cond t (Some g) None ≡ Some f → (Some g ≡ Some f) × (is_of wide f ≡ true)
  go true e k = let is : g ≡ f = cc in (k, subst (λ (x : Formula). is_of wide x ≡ true) is e)
  go false e k = cc

pub formula_only : (wide : Bool) (ws : List (List ℕ)) (f : Formula) → formula_of wide ws ≡ Some f → (ws ≡ formula_words f) × (is_expression wide f ≡ true)
formula_only wide ws f h =
    let of = of_width_only wide (any_formula_of ws) f h in
    let read = any_only ws f of.0 in
    let count = ap length read.0 ∙ words_count f in
    (read.0, both_true (le-leb (words_in f) 15 (omega (arith, count, read))) of.1)

pub formula_again : (wide : Bool) (f : Formula) (ws : List (List ℕ)) → ws ≡ formula_words f → is_expression wide f ≡ true → formula_of wide ws ≡ Some f
formula_again wide f ws is h =
    let parts = and_parts (is_short f) (is_of wide f) h in
    let most = leb-true (words_in f) 15 parts.0 in
    let count = ap length is ∙ words_count f in
    ap (of_width wide) (any_again f ws is (omega (arith, count, most))) ∙ ap (λ t. cond t (Some f) None) parts.1

pub formula_exactly : (wide : Bool) (f : Formula) (ws : List (List ℕ)) →
    formula_of wide ws ≡ Some f ↔ ((ws ≡ formula_words f) × IsTrue (is_expression wide f))
formula_exactly wide f ws = (λ h. formula_only wide ws f h, λ h. formula_again wide f ws h.0 h.1)
