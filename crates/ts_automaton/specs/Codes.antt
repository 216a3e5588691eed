-- Expressions are told apart by their words, the operator after its operands.
use Rattle.std.specs.Prelude.{◌≡◌, ◌⊎◌, List, [], ◌∷◌, Option, None, Some, refl}
use Rattle.std.specs.Coded.{Coded, code_by, coded_list, coded_option, coded⊎}
use Rattle.std.proofs.Common.{inl, inr, ap, ◌∙◌}
use Rattle.ts_automaton.specs.declared.expr.Atom.{Atom}
use Rattle.ts_automaton.specs.declared.expr.Atom.TheVariants.{C}
use Rattle.ts_automaton.specs.declared.expr.Operator.{Operator}
use Rattle.ts_automaton.specs.declared.expr.Operator.TheVariants.{Fold, Sub}
use Rattle.ts_base.specs.declared.op.Op.{Op}
use Rattle.ts_automaton.specs.contracts.expr.Atom as atom
use Rattle.ts_base.specs.contracts.op.Op as op
use Rattle.ts_automaton.specs.Formula.{Formula, Leaf, Join}

-- an operator is that of a fold, or none
abbrev pub fold_in : Operator → Option Op
fold_in (Fold o) = Some o
fold_in Sub = None

abbrev pub operator_by : Option Op → Operator
operator_by None = Sub
operator_by (Some o) = Fold o

pub operator_again : (o : Operator) → operator_by (fold_in o) ≡ o
operator_again (Fold o) = refl
operator_again Sub = refl

abbrev pub operator_code : Coded Operator
operator_code = code_by (Option Op) (coded_option op.the_row.coded) fold_in operator_by operator_again

-- its words before those that follow
abbrev pub postfix : Formula → List (Operator ⊎ Atom) → List (Operator ⊎ Atom)
postfix (Leaf a) ws = inr a ∷ ws
postfix (Join o f g) ws = postfix f (postfix g (inl o ∷ ws))

-- what a word makes of the expressions read so far, the last one first
abbrev pub onto : Operator ⊎ Atom → List Formula → List Formula
onto (inr a) fs = Leaf a ∷ fs
onto (inl o) [] = []
onto (inl o) (g ∷ []) = []
onto (inl o) (g ∷ f ∷ fs) = Join o f g ∷ fs

abbrev pub read_from : List (Operator ⊎ Atom) → List Formula → List Formula
read_from [] fs = fs
read_from (w ∷ ws) fs = read_from ws (onto w fs)

abbrev pub first_of_them : List Formula → Formula
first_of_them [] = Leaf C
first_of_them (f ∷ fs) = f

pub read_again : (f : Formula) (ws : List (Operator ⊎ Atom)) (fs : List Formula) →
    read_from (postfix f ws) fs ≡ read_from ws (f ∷ fs)
read_again (Leaf a) ws fs = refl
read_again (Join o f g) ws fs = read_again f (postfix g (inl o ∷ ws)) fs ∙ read_again g (inl o ∷ ws) (f ∷ fs)

pub same_again : (f : Formula) → first_of_them (read_from (postfix f []) []) ≡ f
same_again f = ap first_of_them (read_again f [] [])

abbrev pub formula_code : Coded Formula
formula_code =
    code_by (List (Operator ⊎ Atom)) (coded_list (coded⊎ operator_code atom.the_row.coded))
    (λ f. postfix f []) (λ ws. first_of_them (read_from ws [])) same_again
