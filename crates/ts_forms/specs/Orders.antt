-- The order of the variants of nodes.
use Rattle.std.specs.Prelude.{ℕ}
use Rattle.ts_forms.specs.declared.node.Node.{Node}
use Rattle.ts_forms.specs.declared.node.Node.TheVariants.{Empty as EmptyNode, Eps as EpsNode, Less as LessNode, Equal as EqualNode, Greater as GreaterNode, Cat as CatNode, Alt as AltNode, Star as StarNode}

-- the letters come in their order
abbrev pub node_rank : Node → ℕ
node_rank EmptyNode = 0
node_rank EpsNode = 1
node_rank LessNode = 2
node_rank EqualNode = 3
node_rank GreaterNode = 4
node_rank (CatNode i j) = 5
node_rank (AltNode i j) = 6
node_rank (StarNode i) = 7
