-- The words of each line have neither spaces nor LFs.
use Rattle.std.proofs.Common.{◌≡◌, ℕ, ◌≤◌, ◌/◌, ◌%◌, Bool, true, false, cond, List, [], ◌∷◌, ◌++◌}
use Rattle.std.proofs.Common.{refl, codes, arith, nat_le}
use Rattle.std.specs.Prelude.{◌==◌, not}
use Rattle.std.specs.Cmp.Derive.{both_true}
use Rattle.std.proofs.lemmas.Bool.Decides.{nat_tests}
use Rattle.std.proofs.lemmas.Bool.{and_parts, leb-true}
use Rattle.ts_base.specs.declared.ext.Ext.{Ext}
use Rattle.ts_base.proofs.WordLaws.{is_inner, is_solid, AreSolid}
use Rattle.ts_automaton.specs.declared.draft.Direction.{Direction}
use Rattle.ts_automaton.specs.declared.draft.Direction.TheVariants.{Forward, Reverse}
use Rattle.ts_automaton.specs.declared.draft.StateLine.{StateLine}
use Rattle.ts_automaton.specs.declared.state.Mark.{Mark}
use Rattle.ts_automaton.specs.declared.state.Mark.TheVariants.{Same, Zero as ZeroMark, Cells}
use Rattle.ts_automaton.specs.declared.expr.Atom.{Atom}
use Rattle.ts_automaton.specs.declared.expr.Atom.TheVariants.{C as AtomC, E as AtomE, D as AtomD, F as AtomF, R as AtomR, This as AtomThis, Next as AtomNext, Zero as AtomZero, Unit as AtomUnit, NegInf as AtomNegInf, PosInf as AtomPosInf}
use Rattle.ts_automaton.specs.declared.expr.Operator.{Operator}
use Rattle.ts_automaton.specs.declared.expr.Operator.TheVariants.{Fold, Sub}
use Rattle.ts_base.specs.declared.op.Op.TheVariants.{Add as OpAdd, Max as OpMax, Min as OpMin}
use Rattle.ts_automaton.specs.Formula.{Formula, Leaf, Join}
use Rattle.ts_automaton.specs.Registers.{EachOf, rests}
use Rattle.ts_automaton.specs.Body.{Move}
use Rattle.ts_automaton.specs.Typing.{each_is, is_name, is_constant, is_number_zero, are_constants}
use Rattle.ts_automaton.specs.FormulaText.{atom_word, op_word, formula_words}
use Rattle.ts_automaton.specs.AutomatonText.{name_at, head_words, held_word, mark_word, sign_word, semi, state_words, constant_word, constant_words, start_words, each_words, behind_semi, move_words, finish_words}
use Rattle.ts_base.specs.Words.{is_space, is_lf}
use Rattle.ts_automaton.proofs.Five.{five_parts}
use Rattle.ts_automaton.proofs.LineLaws.{W, constants_four}

letter_inner : (b : ℕ) → is_name b ≡ true → is_inner b ≡ true
unfolding is_space is_lf
letter_inner b h =
    let e = and_parts (nat_le 97 b) (nat_le b 122) h in
    both_true (other b (leb-true 97 b e.0)) (far b (leb-true 97 b e.0))
  where
    other : (b : ℕ) → 97 ≤ b → not (b == 32) ≡ true
    other b h = grind (arith, nat_tests)

    far : (b : ℕ) → 97 ≤ b → not (b == 10) ≡ true
    far b h = grind (arith, nat_tests)

pub letter_solid : (b : ℕ) → is_name b ≡ true → is_solid (b ∷ []) ≡ true
letter_solid b h = both_true {t = true} (letter_inner b h) refl

atom_solid : (a : Atom) → is_solid (atom_word a) ≡ true
unfolding is_space is_lf
atom_solid AtomC = refl
atom_solid AtomE = refl
atom_solid AtomD = refl
atom_solid AtomF = refl
atom_solid AtomR = refl
atom_solid AtomThis = refl
atom_solid AtomNext = refl
atom_solid AtomZero = refl
atom_solid AtomUnit = refl
atom_solid AtomNegInf = refl
atom_solid AtomPosInf = refl

op_solid : (o : Operator) → is_solid (op_word o) ≡ true
unfolding is_space is_lf
op_solid (Fold OpAdd) = refl
op_solid (Fold OpMax) = refl
op_solid (Fold OpMin) = refl
op_solid Sub = refl

solid_append : (xs ys : W) → AreSolid xs → AreSolid ys → AreSolid (xs ++ ys)
solid_append [] ys h k = k
solid_append (x ∷ xs) ys h k = (h.0, solid_append xs ys h.1 k)

formula_solid : (f : Formula) → AreSolid (formula_words f)
formula_solid (Leaf a) = (atom_solid a, tt)
formula_solid (Join o f g) = (op_solid o, solid_append (formula_words f) (formula_words g) (formula_solid f) (formula_solid g))

-- the words of each register of a width
each_solid : {A : Type 0} (words : A → W) (wide : Bool) (a : EachOf A) → AreSolid (words a.c) → AreSolid (words a.e) → AreSolid (words a.d) →
    AreSolid (words a.f) → AreSolid (words a.r) → AreSolid (each_words words wide a)
each_solid words false a c e d f r =
    solid_append (words a.c) (words a.d ++ (words a.r ++ [])) c (solid_append (words a.d) (words a.r ++ []) d (solid_append (words a.r) [] r tt))
each_solid words true a c e d f r =
    solid_append (words a.c) (words a.e ++ (words a.d ++ (words a.f ++ (words a.r ++ [])))) c
    (solid_append (words a.e) (words a.d ++ (words a.f ++ (words a.r ++ []))) e
    (solid_append (words a.d) (words a.f ++ (words a.r ++ [])) d
    (solid_append (words a.f) (words a.r ++ []) f (solid_append (words a.r) [] r tt))))

pub head_solid : (direction : Direction) (wide : Bool) → AreSolid (head_words direction wide)
unfolding is_space is_lf
head_solid Forward false = (refl, tt)
head_solid Reverse false = (refl, tt)
head_solid Forward true = (refl, (refl, tt))
head_solid Reverse true = (refl, (refl, tt))

held_solid : (h : Bool) → is_solid (held_word h) ≡ true
unfolding is_space is_lf
held_solid true = refl
held_solid false = refl

mark_solid : (m : Mark) → is_solid (mark_word m) ≡ true
unfolding is_space is_lf
mark_solid Same = refl
mark_solid ZeroMark = refl
mark_solid Cells = refl

-- the keywords and the signs
word_solid : (is_solid (codes "state") ≡ true) × (is_solid (codes "start") ≡ true) × (is_solid (codes "move") ≡ true) × (is_solid semi ≡ true)
unfolding is_space is_lf
word_solid = (refl, refl, refl, refl)

last_solid : (is_solid (codes "finish") ≡ true) × (is_solid (codes "end") ≡ true)
unfolding is_space is_lf
last_solid = (refl, refl)

sign_solid : (k : ℕ) → is_solid (sign_word k) ≡ true
unfolding is_space is_lf
sign_solid k = go (k == 0) (k == 1) where
  go : (s t : Bool) → is_solid (cond s (codes "<") (cond t (codes "=") (codes ">"))) ≡ true
  go true t = refl
  go false true = refl
  go false false = refl

pub state_solid : (n : StateLine) → is_name n.name ≡ true → AreSolid (state_words n)
state_solid n h = (word_solid.0, (letter_solid n.name h, (held_solid n.held, tt)))

constant_solid : (e : Ext) → is_constant e ≡ true → is_solid (constant_word e) ≡ true
unfolding is_space is_lf
constant_solid e h = constants_four (λ (x : Ext). is_solid (constant_word x) ≡ true) refl refl refl refl e h

pub start_solid : (wide : Bool) (r : EachOf Ext) → are_constants wide r ≡ true → AreSolid (start_words wide r)
start_solid wide r h =
    let p = and_parts (each_is is_constant r) (rests is_number_zero wide r) h in
    let all = five_parts (is_constant r.c) (is_constant r.e) (is_constant r.d) (is_constant r.f) (is_constant r.r) p.0 in (
      word_solid.1,
      each_solid constant_words wide r (constant_solid r.c all.0, tt) (constant_solid r.e all.1, tt) (constant_solid r.d all.2, tt)
          (constant_solid r.f all.3, tt) (constant_solid r.r all.4, tt),
    )

behind_semi_solid : (f : Formula) → AreSolid (behind_semi f)
behind_semi_solid f = (word_solid.3, formula_solid f)

expressions_solid : (wide : Bool) (to : EachOf Formula) → AreSolid (each_words behind_semi wide to)
expressions_solid wide to =
    each_solid behind_semi wide to (behind_semi_solid to.c) (behind_semi_solid to.e) (behind_semi_solid to.d) (behind_semi_solid to.f)
    (behind_semi_solid to.r)

pub move_solid : (wide : Bool) (states : List StateLine) (k : ℕ) (t : Move) → is_name (name_at states (k / 3)) ≡ true →
    is_name (name_at states t.next) ≡ true → AreSolid (move_words wide states k t)
move_solid wide states k t h e =
    let from = letter_solid (name_at states (k / 3)) h in
    let to = letter_solid (name_at states t.next) e in
    (word_solid.2, (from, (sign_solid (k % 3), (to, expressions_solid wide t.to))))

pub finish_solid : (f : Formula) (m : Mark) → AreSolid (finish_words f m)
finish_solid f m = (last_solid.0, solid_append (formula_words f) (mark_word m ∷ []) (formula_solid f) (mark_solid m, tt))

pub end_solid : AreSolid (codes "end" ∷ [])
end_solid = (last_solid.1, tt)
