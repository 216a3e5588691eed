-- A move between equal values: there the next cell may be read as the cell.
use Rattle.std.specs.Prelude.{Bool, if◌then◌else◌}
use Rattle.ts_automaton.specs.declared.expr.Atom.{Atom}
use Rattle.ts_automaton.specs.declared.expr.Atom.TheVariants.{C, E, D, F, R, This, Next, Zero, Unit as UnitAtom, NegInf as LowAtom, PosInf as HighAtom}
use Rattle.ts_automaton.specs.Body.{Move}
use Rattle.ts_automaton.specs.Formula.{Formula, Leaf, Join}
use Rattle.ts_automaton.specs.Registers.{map_each}

-- a word, an expression and a move, in which the next cell is read as the cell if the values are equal
abbrev pub here_word : Bool → Atom → Atom
here_word equal C = C
here_word equal E = E
here_word equal D = D
here_word equal F = F
here_word equal R = R
here_word equal This = This
here_word equal Next = if equal then This else Next
here_word equal Zero = Zero
here_word equal UnitAtom = UnitAtom
here_word equal LowAtom = LowAtom
here_word equal HighAtom = HighAtom

abbrev pub here_formula : Bool → Formula → Formula
here_formula equal (Leaf a) = Leaf (here_word equal a)
here_formula equal (Join o f g) = Join o (here_formula equal f) (here_formula equal g)

abbrev pub here_move : Bool → Move → Move
here_move equal m = record { next = m.next; to = map_each (here_formula equal) m.to }
