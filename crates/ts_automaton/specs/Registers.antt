-- The registers of anything, and the one meaning of an expression over any values that have the operators. A wide
-- automaton has five; a narrow one has C, D and R, and E and F are at rest in it.
use Rattle.std.specs.Prelude.{ℤ, pos, Bool, true, false, ◌&&◌, ◌||◌, List, [], ◌∷◌}
use Rattle.ts_base.specs.declared.ext.Ext.{Ext}
use Rattle.ts_base.specs.declared.ext.Ext.TheVariants.{NegInf, Int, PosInf}
use Rattle.ts_base.specs.declared.span.Span.{Span}
pub use Rattle.ts_base.specs.Operators.{ext_op}
use Rattle.ts_base.specs.Spans.{one_span}
use Rattle.ts_automaton.specs.declared.expr.Atom.{Atom}
use Rattle.ts_automaton.specs.declared.expr.Atom.TheVariants.{C, E, D, F, R, This, Next, Zero, Unit as UnitAtom, NegInf as LowAtom, PosInf as HighAtom}
use Rattle.ts_automaton.specs.declared.expr.Operator.{Operator}
use Rattle.ts_automaton.specs.declared.regs.Regs.{Regs}
use Rattle.ts_automaton.specs.declared.regs.Hull.{Hull}
use Rattle.ts_automaton.specs.Formula.{Formula, Leaf, Join}
use Rattle.ts_automaton.specs.Differences.{number_op, span_op}

-- one of a thing for each register
pub record EachOf (A : Type 0) : Type 0 where
  pub c : A
  pub e : A
  pub d : A
  pub f : A
  pub r : A

abbrev pub each : {A : Type 0} → A → A → A → A → A → EachOf A
each c e d f r = record { c = c; e = e; d = d; f = f; r = r }

abbrev pub map_each : {A B : Type 0} → (A → B) → EachOf A → EachOf B
map_each to a = each (to a.c) (to a.e) (to a.d) (to a.f) (to a.r)

-- each of a stands in the relation to that of b
abbrev pub Each : {A B : Type 0} → (A → B → Type 0) → EachOf A → EachOf B → Type 0
Each P a b = P a.c b.c × P a.e b.e × P a.d b.d × P a.f b.f × P a.r b.r

-- what the registers of the width have, in the order of texts
abbrev pub in_order : {A : Type 0} → Bool → EachOf A → List A
in_order false a = a.c ∷ a.d ∷ a.r ∷ []
in_order true a = a.c ∷ a.e ∷ a.d ∷ a.f ∷ a.r ∷ []

-- E and F are at rest, where they aren't of the width
abbrev pub rests : {A : Type 0} → (A → Bool) → Bool → EachOf A → Bool
rests is_rest wide a = wide || (is_rest a.e && is_rest a.f)

-- what contracts see of registers and of a hull
abbrev pub regs_of : Regs → EachOf Ext
regs_of s = each s.c s.e s.d s.f s.r

abbrev pub spans_of : Hull → EachOf Span
spans_of h = each h.c h.e h.d h.f h.r

-- values for expressions: what a constant is, and what an operator makes of two
pub record Values (A : Type 0) : Type 0 where
  pub constant : Ext → A
  pub join : Operator → A → A → A

abbrev pub numbers : Values Ext
numbers = record { constant = λ e. e; join = number_op }

abbrev pub spans : Values Span
spans = record { constant = one_span; join = span_op }

abbrev pub atom_in : {A : Type 0} → Values A → EachOf A → ℤ → ℤ → Atom → A
atom_in m s x y C = s.c
atom_in m s x y E = s.e
atom_in m s x y D = s.d
atom_in m s x y F = s.f
atom_in m s x y R = s.r
atom_in m s x y This = m.constant (Int x)
atom_in m s x y Next = m.constant (Int y)
atom_in m s x y Zero = m.constant (Int (pos 0))
atom_in m s x y UnitAtom = m.constant (Int (pos 1))
atom_in m s x y LowAtom = m.constant NegInf
atom_in m s x y HighAtom = m.constant PosInf

-- the value of an expression at the registers s, the cell x and the next cell y
abbrev pub value_in : {A : Type 0} → Values A → EachOf A → ℤ → ℤ → Formula → A
value_in m s x y (Leaf a) = atom_in m s x y a
value_in m s x y (Join o f g) = m.join o (value_in m s x y f) (value_in m s x y g)

-- each operator in an expression meets two values that it takes
abbrev pub Takes : {A : Type 0} → (Operator → A → A → Type 0) → Values A → EachOf A → ℤ → ℤ → Formula → Type 0
Takes P m s x y (Leaf a) = Unit {0}
Takes P m s x y (Join o f g) = Takes P m s x y f × Takes P m s x y g × P o (value_in m s x y f) (value_in m s x y g)

-- each operator in each of the expressions of a move meets two values that it takes
abbrev pub TakesAll : {A : Type 0} →
    (Operator → A → A → Type 0) → Values A → EachOf A → ℤ → ℤ → EachOf Formula → Type 0
TakesAll P m s x y to =
    Takes P m s x y to.c × Takes P m s x y to.e × Takes P m s x y to.d × Takes P m s x y to.f × Takes P m s x y to.r
