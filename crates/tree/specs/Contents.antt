-- What the code's nodes mean.
use Rattle.std.specs.Prelude.{ℕ, List, map, Some, None, Option}
use Rattle.common.specs.Bytes.{Bytes}
use Rattle.tree.specs.Tree as tree
use Rattle.tree.specs.Tree.{Nodes}
use Rattle.tree.specs.Kinds.{kind_letter}
use Rattle.tree.specs.declared.nodes.kinds.Kind.{Kind}
use Rattle.tree.specs.declared.nodes.places.Node.{Node}

-- the number of the folder that a node lies in; 64 is none
abbrev pub parent_number : Option ℕ → ℕ
parent_number None = 64
parent_number (Some i) = i

-- a node that is there
abbrev pub node_model : Node → tree.Node
node_model n = record { parent = parent_number n.parent; kind = kind_letter n.kind; name = n.name }

-- a node, absent or there
abbrev pub place_model : Option Node → Option tree.Node
place_model None = None
place_model (Some n) = Some (node_model n)

-- each node
abbrev pub places_model : List (Option Node) → Nodes
places_model ps = map place_model ps

-- a node in that folder, of that kind and name
abbrev pub node_of : ℕ → Kind → Bytes → tree.Node
node_of parent kind name = record { parent = parent; kind = kind_letter kind; name = name }
