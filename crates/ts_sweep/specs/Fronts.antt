-- Registers in fronts.
use Rattle.std.specs.Prelude.{◌≡◌, ◌≤ℤ◌, ℕ, ℤ, pos, Bool, true, false, nat_eq, if◌then◌else◌, List}
use Rattle.std.specs.List.{AllByRecursion}
use Rattle.ts_automaton.specs.Formula.{Formula, is_narrow}
use Rattle.ts_automaton.specs.Registers.{in_order, spans_of}
use Rattle.ts_automaton.specs.declared.expr.Operator.{Operator}
use Rattle.ts_automaton.specs.declared.expr.Operator.TheVariants.{Fold, Sub}
use Rattle.ts_automaton.specs.declared.regs.Hull.{Hull}
use Rattle.ts_automaton.specs.declared.expr.Atom.{Atom}
use Rattle.ts_automaton.specs.declared.expr.Atom.TheVariants.{C as AtomC, E as AtomE, D as AtomD, F as AtomF, R as AtomR}
use Rattle.ts_sweep.specs.declared.packed.Ends.{Ends}
use Rattle.ts_sweep.specs.declared.packed.Name.{Name}
use Rattle.ts_sweep.specs.declared.packed.Name.TheVariants.{C, E, D, F, R}
use Rattle.ts_automaton.specs.Body.{Move}
use Rattle.ts_hull.specs.Cuts.{Cut}
use Rattle.ts_hull.specs.Splits.{Split, FrontOf, TailOf, ByPairs}
use Rattle.ts_sweep.specs.Moves.{of_name}
use Rattle.ts_sweep.specs.Packed.{name_ends, AreWithin}
use Rattle.ts_sweep.specs.Sides.{Sides, BothEnds, UpperEnds, LowerEnds, IsEndsOf}

-- the registers in the order of texts
abbrev pub name_of : ℕ → Name
name_of k = if nat_eq k 0 then C else if nat_eq k 1 then E else if nat_eq k 2 then D else if nat_eq k 3 then F else R

-- the word of a register
abbrev pub word_of : Name → Atom
word_of C = AtomC
word_of E = AtomE
word_of D = AtomD
word_of F = AtomF
word_of R = AtomR

-- where a register is added to something it is a small number
abbrev pub IsFitRegister : Name → Bool → List ℤ → Type 0
IsFitRegister k added xs = added ≡ true → AreWithin 1 (name_ends xs k)

-- neither end is above 10^16
abbrev pub ArePlain : Ends → Type 0
ArePlain e = (e.below ≤ℤ pos 10000000000000000) × (e.above ≤ℤ pos 10000000000000000)

-- the ends that are kept of each register are those of a hull in which registers lie
abbrev pub AreEndsOf : Sides → List ℤ → Hull → Type 0
AreEndsOf s xs h = (k : Name) → IsEndsOf s (name_ends xs k) (of_name (spans_of h) k)

-- the operator takes away
abbrev pub is_sub : Operator → Bool
is_sub (Fold o) = false
is_sub Sub = true

-- each kept end that an operator makes depends on that end of its operands alone
abbrev pub Serves : Sides → Operator → Type 0
Serves s (Fold o) = Unit {0}
Serves s Sub = s ≡ BothEnds

-- each kept end that an expression makes depends on that end of its operands alone: one end is kept of narrow ones
abbrev pub IsFor : Sides → Formula → Type 0
IsFor BothEnds f = Unit {0}
IsFor UpperEnds f = is_narrow f ≡ true
IsFor LowerEnds f = is_narrow f ≡ true

-- the ends serve an expression that is split, and those of a move: a hull of one end has the registers of a narrow
-- automaton
abbrev pub IsSplitFor : Sides → Split → Type 0
IsSplitFor s (FrontOf e) = IsFor s e
IsSplitFor s (TailOf o e) = IsFor s e
IsSplitFor s ByPairs = Unit {0}

abbrev pub IsCutFor : Sides → Cut → Type 0
IsCutFor s k = AllByRecursion (IsSplitFor s) (in_order false k)

abbrev pub IsMoveFor : Sides → Move → Type 0
IsMoveFor s m = AllByRecursion (IsFor s) (in_order false m.to)

-- the expressions of these registers are narrow
abbrev pub IsNarrowMove : Move → Type 0
IsNarrowMove m = AllByRecursion (λ f. is_narrow f ≡ true) (in_order false m.to)
