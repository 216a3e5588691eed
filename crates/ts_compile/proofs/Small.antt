-- No sum of a glued value is clamped where its operands are small: the exact operators compute the same.
use Rattle.std.specs.Prelude.{◌≡◌, ℕ, ◌+◌, ◌≤◌, pos, refl}
use Rattle.std.proofs.Common.{◌∙◌, ap, arith}
use Rattle.ts_base.specs.declared.ext.Ext.{Ext}
use Rattle.ts_base.specs.declared.ext.Ext.TheVariants.{Int}
use Rattle.ts_automaton.specs.declared.expr.Atom.{Atom}
use Rattle.ts_automaton.specs.declared.expr.Atom.TheVariants.{C, E, D, F, R, This, Next, Zero, Unit as UnitAtom, NegInf as LowAtom, PosInf as HighAtom}
use Rattle.ts_automaton.specs.Formula.{Formula, Leaf, Join}
use Rattle.ts_automaton.specs.Registers.{EachOf, Values, numbers, value_in}
use Rattle.ts_decorate.proofs.Exact.{exact_operator}
use Rattle.ts_decorate.proofs.Sizes.{limit, size_of, operator_same, operator_size}
use Rattle.ts_glue.specs.Glue.{Glue, Left, Right, Number, With, glue_in}

-- numbers with sums and differences as they are
abbrev pub exact_numbers : Values Ext
exact_numbers = record { constant = λ e. e; join = exact_operator }

-- the value of an expression over the registers of one side
abbrev pub side_value : EachOf Ext → Formula → Ext
side_value s f = value_in exact_numbers s (pos 0) (pos 0) f

-- the sizes of all operands
abbrev pub formula_size : EachOf Ext → Formula → ℕ
formula_size s (Leaf a) = size_of (side_value s (Leaf a))
formula_size s (Join o f g) = formula_size s f + formula_size s g

abbrev pub size_in : EachOf Ext → EachOf Ext → Glue → ℕ
size_in s t (Left f) = formula_size s f
size_in s t (Right f) = formula_size t f
size_in s t (Number x) = size_of (Int x)
size_in s t (With o u v) = size_in s t u + size_in s t v

-- of one side
module _ (s : EachOf Ext) where
  pub side_size : (f : Formula) → size_of (side_value s f) ≤ formula_size s f
  side_size (Leaf a) = omega arith
  side_size (Join o f g) =
      let i = side_size f in
      let j = side_size g in
      let k = operator_size o (side_value s f) (side_value s g) in
      omega (arith, i, j, k)

  leaf_same : (a : Atom) → value_in numbers s (pos 0) (pos 0) (Leaf a) ≡ side_value s (Leaf a)
  leaf_same C = refl
  leaf_same E = refl
  leaf_same D = refl
  leaf_same F = refl
  leaf_same R = refl
  leaf_same This = refl
  leaf_same Next = refl
  leaf_same Zero = refl
  leaf_same UnitAtom = refl
  leaf_same LowAtom = refl
  leaf_same HighAtom = refl

  pub side_same : (f : Formula) → formula_size s f ≤ limit → value_in numbers s (pos 0) (pos 0) f ≡ side_value s f
  side_same (Leaf a) h = leaf_same a
  side_same (Join o f g) h =
      let i = side_size f in
      let j = side_size g in
      ap (λ z. numbers.join o z (value_in numbers s (pos 0) (pos 0) g)) (side_same f (omega (arith, h)))
      ∙ ap (λ z. numbers.join o (side_value s f) z) (side_same g (omega (arith, h)))
      ∙ operator_same o (side_value s f) (side_value s g) (omega (arith, h, i, j))

module _ (s t : EachOf Ext) where
  glue_size : (u : Glue) → size_of (glue_in exact_numbers s t u) ≤ size_in s t u
  glue_size (Left f) = side_size s f
  glue_size (Right f) = side_size t f
  glue_size (Number x) = omega arith
  glue_size (With o u v) =
      let i = glue_size u in
      let j = glue_size v in
      let k = operator_size o (glue_in exact_numbers s t u) (glue_in exact_numbers s t v) in
      omega (arith, i, j, k)

  pub glue_same : (u : Glue) → size_in s t u ≤ limit → glue_in numbers s t u ≡ glue_in exact_numbers s t u
  glue_same (Left f) h = side_same s f h
  glue_same (Right f) h = side_same t f h
  glue_same (Number x) h = refl
  glue_same (With o u v) h =
      let i = glue_size u in
      let j = glue_size v in
      ap (λ z. numbers.join o z (glue_in numbers s t v)) (glue_same u (omega (arith, h)))
      ∙ ap (λ z. numbers.join o (glue_in exact_numbers s t u) z) (glue_same v (omega (arith, h)))
      ∙ operator_same o (glue_in exact_numbers s t u) (glue_in exact_numbers s t v) (omega (arith, h, i, j))
