-- Automata whose steps are by the letter between two cells alone, whatever their values.
use Rattle.std.specs.Prelude.{◌≡◌, ℤ, Bool, ◌&&◌}
use Rattle.ts_base.specs.declared.ext.Ext.{Ext}
use Rattle.ts_base.specs.Signature.{letter_of}
use Rattle.ts_automaton.specs.AutomatonRun.{Standing, step_of}
use Rattle.ts_automaton.specs.Body.{Body, Move, Node}
use Rattle.ts_automaton.specs.Typing.{each_is, reads_registers}

-- the value of no cell stands in the expressions of the move
abbrev pub reads_letters : Move → Bool
reads_letters m = each_is reads_registers m.to

-- the value of no cell stands in the expressions of any move of the state
abbrev pub node_reads_letters : Node → Bool
node_reads_letters s = reads_letters s.less && reads_letters s.equal && reads_letters s.greater

-- from each state, two pairs of cells that compare in the same way lead to the same
abbrev pub ReadsLetters : Body → Type 0
ReadsLetters b =
    (s : Standing Ext) (x y v w : ℤ) → letter_of x y ≡ letter_of v w → step_of b s x y ≡ step_of b s v w
