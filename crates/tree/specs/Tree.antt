-- The name tree: nodes 0 to 63, of which 0 is the root folder.
use Rattle.std.specs.Prelude.{ℕ, zero, suc, Bool, true, false, cond, ◌&&◌, ◌||◌, List, [], ◌∷◌, length, drop, replicate, is_some, Some, None, Option, ◌==◌, nat_le, slice_index, slice_index_or, slice_set}
use Rattle.std.specs.List.{prefix_len}
use Rattle.std.specs.Str.{bytes_eq}
use Rattle.common.specs.Bytes.{Bytes}
use Rattle.service.specs.Service.{ServiceModel}
use Rattle.common.specs.Search.{lowest_at}

-- a node that is there: the folder that it lies in, its kind (100 'd' folder, 102 'f' card), its name
pub record Node : Type 0 where
  pub parent : ℕ
  pub kind : ℕ
  pub name : Bytes

-- each node, absent or there
abbrev pub Nodes : Type 0
Nodes = List (Option Node)

-- at first there is only the root, which lies in no folder: 64 is none
abbrev pub first_nodes : Nodes
first_nodes = Some (record { parent = 64; kind = 100; name = [] }) ∷ replicate 63 None

-- what a body asks
pub data TreeAsk : Type 0 where
  make : (parent node kind : ℕ) (name : Bytes) → TreeAsk
  remove : (node : ℕ) → TreeAsk
  move : (node parent : ℕ) (name : Bytes) → TreeAsk
  look : (parent : ℕ) (name : Bytes) → TreeAsk
  unfit : TreeAsk

-- hex 21 to 7E
abbrev pub is_graphic : ℕ → Bool
is_graphic c = nat_le 33 c && nat_le c 126

-- 1 to 16 such bytes
abbrev pub is_name : Bytes → Bool
is_name n = nat_le 1 (length n) && (nat_le (length n) 16 && prefix_len is_graphic n == length n)

-- the name that these bytes are, if they are one
abbrev pub name_read : Bytes → Option Bytes
name_read n = cond (is_name n) (Some n) None

-- a node's number
abbrev pub is_node : ℕ → Bool
is_node i = nat_le i 63

-- d or f
abbrev pub is_kind : ℕ → Bool
is_kind k = k == 100 || k == 102

-- m, parent, node, kind, name
abbrev pub is_make : Bytes → Bool
is_make b = slice_index b 0 == 109 && (is_node (slice_index b 1) && (is_node (slice_index b 2) && (is_kind (slice_index b 3) && is_name (drop 4 b))))

-- r, node
abbrev pub is_remove : Bytes → Bool
is_remove b = slice_index b 0 == 114 && (is_node (slice_index b 1) && length b == 2)

-- v, node, parent, name
abbrev pub is_move : Bytes → Bool
is_move b = slice_index b 0 == 118 && (is_node (slice_index b 1) && (is_node (slice_index b 2) && is_name (drop 3 b)))

-- l, parent, name
abbrev pub is_look : Bytes → Bool
is_look b = slice_index b 0 == 108 && (is_node (slice_index b 1) && is_name (drop 2 b))

-- the body taken apart
abbrev pub tree_ask : Bytes → TreeAsk
tree_ask b =
    cond (is_make b) (make (slice_index b 1) (slice_index b 2) (slice_index b 3) (drop 4 b))
    (cond (is_remove b) (remove (slice_index b 1))
    (cond (is_move b) (move (slice_index b 1) (slice_index b 2) (drop 3 b))
    (cond (is_look b) (look (slice_index b 1) (drop 2 b)) unfit)))

-- a node, absent or there
abbrev pub node_at : Nodes → ℕ → Option Node
node_at ns i = slice_index_or ns i None

-- it is there
abbrev pub is_there : Nodes → ℕ → Bool
is_there ns i = is_some (node_at ns i)

-- its kind, 0 if absent
abbrev pub kind_of : Option Node → ℕ
kind_of None = 0
kind_of (Some n) = n.kind

-- where it lies, none if absent
abbrev pub parent_of : Option Node → ℕ
parent_of None = 64
parent_of (Some n) = n.parent

-- it is a folder
abbrev pub is_folder : Nodes → ℕ → Bool
is_folder ns i = kind_of (node_at ns i) == 100

-- it lies in that folder
abbrev pub lies_in : ℕ → Option Node → Bool
lies_in parent None = false
lies_in parent (Some n) = n.parent == parent

-- it lies in that folder and has that name
abbrev pub is_named : ℕ → Bytes → Option Node → Bool
is_named parent name None = false
is_named parent name (Some n) = n.parent == parent && bytes_eq n.name name

-- the node that has a name in a folder
abbrev pub named : Nodes → ℕ → Bytes → Option ℕ
named ns parent name = lowest_at (is_named parent name) ns 0

-- another node than i has the name there
abbrev pub other_named : Nodes → ℕ → Bytes → ℕ → Bool
other_named ns parent name i = is_some (named (slice_set ns i None) parent name)

-- nothing lies in the folder
abbrev pub is_empty : Nodes → ℕ → Bool
is_empty ns i = cond (is_some (lowest_at (lies_in i) ns 0)) false true

-- i is the node `top` or lies beneath it, at most n folders down
unfoldable pub is_within : ℕ → Nodes → ℕ → ℕ → Bool
is_within zero ns top i = false
is_within (suc n) ns top i = is_there ns i && (i == top || is_within n ns top (parent_of (node_at ns i)))

-- the smallest status that applies; 0 is done
abbrev pub tree_status : Nodes → TreeAsk → ℕ
tree_status ns (make parent node kind name) =
    cond (is_there ns parent) (cond (is_folder ns parent) (cond (other_named ns parent name node) 4 (cond (is_there ns node) 5 0)) 3) 2
tree_status ns (remove node) =
    cond (is_there ns node) (cond (node == 0) 6 (cond (is_empty ns node) 0 7)) 2
tree_status ns (move node parent name) =
    cond (is_there ns node && is_there ns parent)
    (cond (is_folder ns parent) (cond (other_named ns parent name node) 4 (cond (node == 0) 6 (cond (is_within 64 ns node parent) 8 0))) 3)
    2
tree_status ns (look parent name) =
    cond (is_there ns parent) (cond (is_folder ns parent) (cond (is_some (named ns parent name)) 0 9) 3) 2
tree_status ns unfit = 1

-- the nodes after what was asked is done
abbrev pub tree_done : Nodes → TreeAsk → Nodes
tree_done ns (make parent node kind name) = slice_set ns node (Some (record { parent = parent; kind = kind; name = name }))
tree_done ns (remove node) = slice_set ns node None
tree_done ns (move node parent name) = slice_set ns node (Some (record { parent = parent; kind = kind_of (node_at ns node); name = name }))
tree_done ns (look parent name) = ns
tree_done ns unfit = ns

-- a node that was tree-found, and its kind
abbrev pub tree_found : Nodes → Option ℕ → Bytes
tree_found ns None = []
tree_found ns (Some i) = i ∷ kind_of (node_at ns i) ∷ []

-- what is told besides the status
abbrev pub tree_tells : Nodes → TreeAsk → Bytes
tree_tells ns (make parent node kind name) = []
tree_tells ns (remove node) = []
tree_tells ns (move node parent name) = []
tree_tells ns (look parent name) = tree_found ns (named ns parent name)
tree_tells ns unfit = []

-- the nodes after
abbrev pub tree_after : Nodes → TreeAsk → Nodes
tree_after ns a = cond (tree_status ns a == 0) (tree_done ns a) ns

-- the reply
abbrev pub tree_answer : Nodes → TreeAsk → Bytes
tree_answer ns a = tree_status ns a ∷ cond (tree_status ns a == 0) (tree_tells ns a) []

-- the tree as a service
abbrev pub tree_model : ServiceModel
tree_model = record {
  Content = Nodes;
  next = λ ns b. tree_after ns (tree_ask b);
  reply = λ ns b. tree_answer ns (tree_ask b);
}
