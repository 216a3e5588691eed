-- What contracts see of an automaton: its states with their moves, start constants, finish expression, mark and
-- width.
use Rattle.std.specs.Prelude.{ℕ, Bool, false, List, map, get_or}
use Rattle.ts_base.specs.declared.ext.Ext.{Ext}
use Rattle.ts_base.specs.declared.letter.Letter.{Letter}
use Rattle.ts_base.specs.declared.letter.Letter.TheVariants.{Less, Equal, Greater}
use Rattle.ts_automaton.specs.declared.expr.Expr.{Expr}
use Rattle.ts_automaton.specs.declared.expr.Atom.TheVariants.{C, E, D, F, R}
use Rattle.ts_automaton.specs.declared.parts.Parts.{Parts}
use Rattle.ts_automaton.specs.declared.regs.Regs.{Regs}
use Rattle.ts_automaton.specs.declared.state.Mark.{Mark}
use Rattle.ts_automaton.specs.declared.state.Turn.{Turn}
use Rattle.ts_automaton.specs.declared.state.State.{State}
use Rattle.ts_automaton.specs.Formula.{Formula, Leaf, formula}
use Rattle.ts_automaton.specs.Registers.{EachOf, each, regs_of}

-- a move: the place of the state that it leads to, and the new value of each register
pub record Move : Type 0 where
  pub next : ℕ
  pub to : EachOf Formula

pub record Node : Type 0 where
  pub name : ℕ
  pub held : Bool
  pub less : Move
  pub equal : Move
  pub greater : Move

pub record Body : Type 0 where
  pub states : List Node
  pub start : EachOf Ext
  pub finish : Formula
  pub mark : Mark
  pub wide : Bool

abbrev pub move_of : Turn → Move
move_of t =
    record { next = t.next; to = each (formula t.c) (formula t.e) (formula t.d) (formula t.f) (formula t.r) }

abbrev pub node_of : State → Node
node_of s =
    record { name = s.name; held = s.held; less = move_of s.less; equal = move_of s.equal; greater = move_of s.greater }

abbrev pub body_of : List State → Regs → Expr → Mark → Bool → Body
body_of states start finish mark wide = record {
  states = map node_of states;
  start = regs_of start;
  finish = formula finish;
  mark = mark;
  wide = wide;
}

-- the move of a state on a letter
abbrev pub move_on : Letter → Node → Move
move_on Less s = s.less
move_on Equal s = s.equal
move_on Greater s = s.greater

-- what stands for a state that doesn't exist: it is free, and stays at the start
abbrev pub rest_node : Node
rest_node =
    let stay : Move = record { next = 0; to = each (Leaf C) (Leaf E) (Leaf D) (Leaf F) (Leaf R) } in
    record { name = 0; held = false; less = stay; equal = stay; greater = stay }

abbrev pub node_at : List Node → ℕ → Node
node_at ss q = get_or ss q rest_node

-- what contracts see of the parts of an automaton
abbrev pub parts_of : Parts → Body
parts_of p = body_of p.states.items p.start p.finish p.mark p.wide
