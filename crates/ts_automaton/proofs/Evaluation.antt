-- Laws of the meaning of an expression: what relates the operators of two kinds of values relates the values of each expression.
use Rattle.std.specs.Prelude.{◌≡◌, IsTrue, ℤ, pos, is_some, Option, None, Some, refl}
use Rattle.std.proofs.Common.{ap, subst}
use Rattle.ts_base.specs.declared.ext.Ext.{Ext}
use Rattle.ts_base.specs.declared.ext.Ext.TheVariants.{NegInf, Int as Number, PosInf}
use Rattle.ts_automaton.specs.declared.kind.RegKind.{RegKind}
use Rattle.ts_automaton.specs.declared.expr.Atom.TheVariants.{C, E, D, F, R, This, Next, Zero, Unit as UnitAtom, NegInf as LowAtom, PosInf as HighAtom}
use Rattle.ts_automaton.specs.declared.expr.Operator.{Operator}
use Rattle.ts_automaton.specs.Formula.{Formula, Leaf, Join}
use Rattle.ts_automaton.specs.Registers.{EachOf, map_each, Each, Values, value_in, Takes}
use Rattle.ts_automaton.specs.Kinds.{kind_of, op_kind, join_kind, kinds, formula_kind}

-- a relation of two kinds of values that constants and operators keep
module _ {A B : Type 0} (m : Values A) (n : Values B) (P : A → B → Type 0)
    (constant : (e : Ext) → P (m.constant e) (n.constant e))
    (joins : (o : Operator) (a a' : A) (b b' : B) → P a b → P a' b' → P (m.join o a a') (n.join o b b')) where
  -- at other cells in the second meaning, where the relation holds of them
  pub value_related : (f : Formula) (s : EachOf A) (t : EachOf B) (x y x' y' : ℤ) →
      P (m.constant (Number x)) (n.constant (Number x')) → P (m.constant (Number y)) (n.constant (Number y')) →
      Each P s t → P (value_in m s x y f) (value_in n t x' y' f)
  value_related (Leaf C) s t x y x' y' p q h = h.0
  value_related (Leaf E) s t x y x' y' p q h = h.1
  value_related (Leaf D) s t x y x' y' p q h = h.2
  value_related (Leaf F) s t x y x' y' p q h = h.3
  value_related (Leaf R) s t x y x' y' p q h = h.4
  value_related (Leaf This) s t x y x' y' p q h = p
  value_related (Leaf Next) s t x y x' y' p q h = q
  value_related (Leaf Zero) s t x y x' y' p q h = constant (Number (pos 0))
  value_related (Leaf UnitAtom) s t x y x' y' p q h = constant (Number (pos 1))
  value_related (Leaf LowAtom) s t x y x' y' p q h = constant NegInf
  value_related (Leaf HighAtom) s t x y x' y' p q h = constant PosInf
  value_related (Join o f g) s t x y x' y' p q h =
      joins o _ _ _ _ (value_related f s t x y x' y' p q h) (value_related g s t x y x' y' p q h)

-- an expression with a kind has two parts with kinds that the operator takes
pub record Parted (o : Operator) (u v : Option RegKind) : Type 0 where
  pub left : RegKind
  pub right : RegKind
  pub left_is : u ≡ Some left
  pub right_is : v ≡ Some right
  pub taken : IsTrue (is_some (op_kind o left right))

pub parted : (o : Operator) (u v : Option RegKind) → IsTrue (is_some (join_kind o u v)) → Parted o u v
parted o None v h = cc
parted o (Some j) None h = cc
parted o (Some j) (Some k) h = record { left = j; right = k; left_is = refl; right_is = refl; taken = h }

-- values of a kind, where an operator that takes two kinds takes their values and makes a value of its kind
module _ {A : Type 0} (m : Values A) (Has : RegKind → A → Type 0) (P : Operator → A → A → Type 0)
    (constant : (e : Ext) → Has (kind_of e) (m.constant e))
    (taken : (o : Operator) (j k : RegKind) (a b : A) → IsTrue (is_some (op_kind o j k)) → Has j a → Has k b → P o a b)
    (made : (o : Operator) (j k i : RegKind) (a b : A) → op_kind o j k ≡ Some i → Has j a → Has k b → Has i (m.join o a b)) where
  abbrev pub HasIfSome : A → Option RegKind → Type 0
  HasIfSome a None = Unit {0}
  HasIfSome a (Some k) = Has k a

  pub joins : (o : Operator) (a a' : A) (b b' : Option RegKind) → HasIfSome a b → HasIfSome a' b' → HasIfSome (m.join o a a') (join_kind o b b')
  joins o a a' None b' h i = tt
  joins o a a' (Some j) None h i = tt
  joins o a a' (Some j) (Some k) h i = go (op_kind o j k) refl
    where
      go : (u : Option RegKind) → op_kind o j k ≡ u → HasIfSome (m.join o a a') u
      go None e = tt
      go (Some l) e = made o j k l a a' e h i

  -- a value has the kind of its expression
  pub value_has : (f : Formula) (k : EachOf RegKind) (s : EachOf A) (x y : ℤ) → Each Has k s → HasIfSome (value_in m s x y f) (formula_kind k f)
  value_has f k s x y h =
      value_related m kinds HasIfSome constant joins f s (map_each (λ j. Some j) k) x y (pos 0) (pos 0) (constant (Number x)) (constant (Number y))
      (h.0, h.1, h.2, h.3, h.4)

  -- in an expression with a kind each operator meets two values that it takes
  pub takes_typed : (f : Formula) (k : EachOf RegKind) (s : EachOf A) (x y : ℤ) → Each Has k s → IsTrue (is_some (formula_kind k f)) → Takes P m s x y f
  takes_typed (Leaf a) k s x y h e = tt
  takes_typed (Join o f g) k s x y h e =
      let p = parted o (formula_kind k f) (formula_kind k g) e in (
        takes_typed f k s x y h (ap is_some p.left_is),
        takes_typed g k s x y h (ap is_some p.right_is),
        taken o p.left p.right _ _ p.taken (subst (HasIfSome (value_in m s x y f)) p.left_is (value_has f k s x y h))
            (subst (HasIfSome (value_in m s x y g)) p.right_is (value_has g k s x y h)),
      )
