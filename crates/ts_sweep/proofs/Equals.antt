-- A move between equal values makes the same as the move that reads the next cell as the cell.
use Rattle.std.proofs.Common.{◌≡◌, ℕ, Bool, true, false, cond, ◌&&◌, ◌||◌, not, ℤ, List, refl, sym, ap, subst, ◌∙◌, arith}
use Rattle.std.proofs.lemmas.Int.{ints}
use Rattle.std.specs.Prelude.{int_lt}
use Rattle.ts_base.specs.declared.letter.Letter.TheVariants.{Less, Equal, Greater}
use Rattle.ts_base.specs.Signature.{letter_of}
use Rattle.ts_automaton.specs.declared.expr.Atom.{Atom}
use Rattle.ts_automaton.specs.declared.expr.Atom.TheVariants.{C, E, D, F, R, This, Next, Zero, Unit as UnitAtom, NegInf as LowAtom, PosInf as HighAtom}
use Rattle.ts_automaton.specs.declared.regs.Hull.{Hull}
use Rattle.ts_automaton.specs.Body.{Move}
use Rattle.ts_automaton.specs.Formula.{Formula, Leaf, Join, is_zero}
use Rattle.ts_automaton.specs.Registers.{EachOf, each, Values, atom_in, value_in, spans, spans_of, rests}
use Rattle.ts_automaton.specs.SpanRun.{has_registers, none_hull}
use Rattle.ts_automaton.proofs.Five.{five_true}
use Rattle.ts_hull.specs.Cuts.{is_front_move}
use Rattle.ts_hull.specs.Hulls.{hull_of, hull_of_both, none}
use Rattle.ts_hull.specs.Sealed.{after_move}
use Rattle.ts_hull.specs.Splits.{is_front, is_next_word}
use Rattle.ts_hull.specs.Sweeps.{same_letter}
use Rattle.ts_hull.proofs.Sums.{total_same}
use Rattle.ts_sweep.specs.Columns.{IsMoved, gives, hull_at}
use Rattle.ts_sweep.specs.Here.{here_word, here_formula, here_move}
use Rattle.ts_sweep.specs.Sides.{Sides, seen_hull}

atom_here : {A : Type 0} (k : Values A) (s : EachOf A) (v : ℤ) (a : Atom) → atom_in k s v v (here_word true a) ≡ atom_in k s v v a
atom_here k s v C = refl
atom_here k s v E = refl
atom_here k s v D = refl
atom_here k s v F = refl
atom_here k s v R = refl
atom_here k s v This = refl
atom_here k s v Next = refl
atom_here k s v Zero = refl
atom_here k s v UnitAtom = refl
atom_here k s v LowAtom = refl
atom_here k s v HighAtom = refl

value_here : {A : Type 0} (k : Values A) (s : EachOf A) (v : ℤ) (f : Formula) → value_in k s v v (here_formula true f) ≡ value_in k s v v f
value_here k s v (Leaf a) = atom_here k s v a
value_here k s v (Join o f g) =
    ap (λ z. k.join o z (value_in k s v v (here_formula true g))) (value_here k s v f)
    ∙ ap (k.join o (value_in k s v v f)) (value_here k s v g)

same_each : {A : Type 0} {c e d f r c' e' d' f' r' : A} → c ≡ c' → e ≡ e' → d ≡ d' → f ≡ f' → r ≡ r' → each c e d f r ≡ each c' e' d' f' r'
same_each p q s t u = cc

after_here : (m : Move) (h : Hull) (v : ℤ) → after_move (here_move true m) h v v ≡ after_move m h v v
unfolding after_move
after_here m h v =
    let s = spans_of h in
    ap (λ z. hull_of (cond (has_registers s) z none_hull))
    (same_each (value_here spans s v m.to.c) (value_here spans s v m.to.e) (value_here spans s v m.to.d) (value_here spans s v m.to.f)
    (value_here spans s v m.to.r))

-- only equal values compare by `=`
equal_values : (v w : ℤ) → same_letter (letter_of v w) Equal ≡ true → w ≡ v
equal_values v w h = go (int_lt v w) refl h
  where
    go : (b : Bool) → int_lt v w ≡ b → same_letter (cond b Less (cond (int_lt w v) Greater Equal)) Equal ≡ true → w ≡ v
    go true e h = cc
    go false e h = last (int_lt w v) refl h
      where
        last : (b : Bool) → int_lt w v ≡ b → same_letter (cond b Greater Equal) Equal ≡ true → w ≡ v
        last true f h = cc
        last false f h = grind (arith, ints)

pair_here : (m : Move) (h : Hull) (v w : ℤ) (b : Bool) → same_letter (letter_of v w) Equal ≡ b →
    cond b (after_move (here_move true m) h v w) none ≡ cond b (after_move m h v w) none
pair_here m h v w true is =
    subst (λ z. after_move (here_move true m) h v z ≡ after_move m h v z) (sym (equal_values v w is)) (after_here m h v)
pair_here m h v w false is = refl

gives_here : (m : Move) (n : ℕ) (v : ℕ → ℤ) (h : ℕ → Hull) (w : ℤ) → gives (here_move true m) Equal false n v h w ≡ gives m Equal false n v h w
unfolding gives
gives_here m n v h w = total_same n _ _ (λ i lt. pair_here m (h i) (v i) w (same_letter (letter_of (v i) w) Equal) refl)

-- a column that has taken in the move that reads the next cell as the cell has taken in the move itself
pub moved_here : {X : Type 0} (s : Sides) (lanes : X → List ℤ) (nothing : X) (m : Move) (n : ℕ) (v : ℕ → ℤ) (before : List X) (k : ℕ) (w : ℕ → ℤ)
    (old new : List X) → IsMoved s lanes nothing (here_move true m) Equal false n v before k w old new →
    IsMoved s lanes nothing m Equal false n v before k w old new
moved_here s lanes nothing m n v before k w old new moved j lt =
    moved j lt ∙ ap (λ z. hull_of_both (hull_at lanes nothing old j) (seen_hull s z)) (gives_here m n v (hull_at lanes nothing before) (w j))

-- a word that reads the next cell as the cell doesn't read the next cell
front_word : (a : Atom) → not (is_next_word (here_word true a)) ≡ true
front_word C = refl
front_word E = refl
front_word D = refl
front_word F = refl
front_word R = refl
front_word This = refl
front_word Next = refl
front_word Zero = refl
front_word UnitAtom = refl
front_word LowAtom = refl
front_word HighAtom = refl

front_here : (f : Formula) → is_front (here_formula true f) ≡ true
front_here (Leaf a) = front_word a
front_here (Join o f g) = ap (λ z. z && is_front (here_formula true g)) (front_here f) ∙ front_here g

pub fronts_here : (m : Move) → is_front_move (here_move true m) ≡ true
fronts_here m = five_true _ _ _ _ _ (front_here m.to.c) (front_here m.to.e) (front_here m.to.d) (front_here m.to.f) (front_here m.to.r)

-- a word that reads the next cell as the cell is 0 where the word is
zero_word : (equal : Bool) (a : Atom) → is_zero (Leaf (here_word equal a)) ≡ is_zero (Leaf a)
zero_word equal C = refl
zero_word equal E = refl
zero_word equal D = refl
zero_word equal F = refl
zero_word equal R = refl
zero_word equal This = refl
zero_word true Next = refl
zero_word false Next = refl
zero_word equal Zero = refl
zero_word equal UnitAtom = refl
zero_word equal LowAtom = refl
zero_word equal HighAtom = refl

zero_here : (equal : Bool) (f : Formula) → is_zero (here_formula equal f) ≡ is_zero f
zero_here equal (Leaf a) = zero_word equal a
zero_here equal (Join o f g) = refl

pub rests_here : (wide equal : Bool) (m : Move) → rests is_zero wide m.to ≡ true → rests is_zero wide (here_move equal m).to ≡ true
rests_here wide equal m h =
    ap (λ z. wide || (z && is_zero (here_formula equal m.to.f))) (zero_here equal m.to.e) ∙ ap (λ z. wide || (is_zero m.to.e && z)) (zero_here equal m.to.f) ∙ h

-- a move whose values aren't taken to be equal stays as it is
plain_word : (a : Atom) → here_word false a ≡ a
plain_word C = refl
plain_word E = refl
plain_word D = refl
plain_word F = refl
plain_word R = refl
plain_word This = refl
plain_word Next = refl
plain_word Zero = refl
plain_word UnitAtom = refl
plain_word LowAtom = refl
plain_word HighAtom = refl

plain_formula : (f : Formula) → here_formula false f ≡ f
plain_formula (Leaf a) = ap Leaf (plain_word a)
plain_formula (Join o f g) = ap (λ z. Join o z (here_formula false g)) (plain_formula f) ∙ ap (Join o f) (plain_formula g)

pub plain_move : (m : Move) → here_move false m ≡ m
plain_move m =
    ap (λ z. record { next = m.next; to = z })
    (same_each (plain_formula m.to.c) (plain_formula m.to.e) (plain_formula m.to.d) (plain_formula m.to.f) (plain_formula m.to.r))
