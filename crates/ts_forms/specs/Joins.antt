-- What a chain of two normal forms is, by their nodes.
use Rattle.ts_forms.specs.declared.node.Node.{Node}
use Rattle.ts_forms.specs.declared.node.Node.TheVariants.{Empty as EmptyNode, Eps as EpsNode}
use Rattle.ts_forms.specs.declared.normal_form.Joined.{Joined}
use Rattle.ts_forms.specs.declared.normal_form.Joined.TheVariants.{First, Second, Both}

-- of r, which is neither Empty nor Eps, followed by this node
abbrev pub joined_behind : Node → Joined
joined_behind EmptyNode = Second
joined_behind EpsNode = First
joined_behind n = Both

abbrev pub how_joined : Node → Node → Joined
how_joined EmptyNode n = First
how_joined EpsNode n = Second
how_joined m n = joined_behind n
