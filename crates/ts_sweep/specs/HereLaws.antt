-- The laws of moves between equal values.
-- Lemmas, no definitions: they are here since ghost members of impls cite them.
use Rattle.std.proofs.Common.{◌≡◌, true, ◌&&◌, ℤ, List, refl, ap, ◌∙◌}
use Rattle.ts_automaton.specs.declared.expr.Atom.{Atom}
use Rattle.ts_automaton.specs.declared.expr.Atom.TheVariants.{C, E, D, F, R, This, Next, Zero, Unit as UnitAtom, NegInf as LowAtom, PosInf as HighAtom}
use Rattle.ts_automaton.specs.declared.expr.Operator.TheVariants.{Fold, Sub}
use Rattle.ts_automaton.specs.Formula.{Formula, Leaf, Join, is_narrow, is_narrow_atom}
use Rattle.ts_sweep.specs.Here.{here_word, here_formula}
use Rattle.ts_sweep.specs.Trees.{joined_by, word_ends, tree_value}

-- a word that reads the next cell as the cell has the ends that the word has between the cell and itself
word_here : (a : Atom) (xs : List ℤ) (x y : ℤ) → word_ends a xs x x ≡ word_ends (here_word true a) xs x y
word_here C xs x y = refl
word_here E xs x y = refl
word_here D xs x y = refl
word_here F xs x y = refl
word_here R xs x y = refl
word_here This xs x y = refl
word_here Next xs x y = refl
word_here Zero xs x y = refl
word_here UnitAtom xs x y = refl
word_here LowAtom xs x y = refl
word_here HighAtom xs x y = refl

pub tree_here : (f : Formula) (xs : List ℤ) (x y : ℤ) → tree_value f xs x x ≡ tree_value (here_formula true f) xs x y
tree_here (Leaf a) xs x y = word_here a xs x y
tree_here (Join o f g) xs x y =
    ap (λ z. joined_by o z (tree_value g xs x x)) (tree_here f xs x y)
    ∙ ap (joined_by o (tree_value (here_formula true f) xs x y)) (tree_here g xs x y)

-- a word that reads the next cell as the cell stands in narrow automata where the word does
narrow_word : (a : Atom) → is_narrow_atom a ≡ is_narrow_atom (here_word true a)
narrow_word C = refl
narrow_word E = refl
narrow_word D = refl
narrow_word F = refl
narrow_word R = refl
narrow_word This = refl
narrow_word Next = refl
narrow_word Zero = refl
narrow_word UnitAtom = refl
narrow_word LowAtom = refl
narrow_word HighAtom = refl

pub narrow_here : (f : Formula) → is_narrow f ≡ is_narrow (here_formula true f)
narrow_here (Leaf a) = narrow_word a
narrow_here (Join (Fold o) f g) =
    ap (λ z. z && is_narrow g) (narrow_here f) ∙ ap (λ z. is_narrow (here_formula true f) && z) (narrow_here g)
narrow_here (Join Sub f g) = refl
