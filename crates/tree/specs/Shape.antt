-- What holds of every content reached: it is a tree.
use Rattle.std.specs.Prelude.{◌≡◌, ℕ, true, false, List, [], ◌∷◌, Some, Decides, ◌≢◌}
use Rattle.common.specs.Bytes.{Bytes}
use Rattle.tree.specs.Tree as tree
use Rattle.tree.specs.Tree.{Nodes, first_nodes, node_at, is_there, is_folder, parent_of, is_named, named, other_named, is_within, tree_status, tree_model}

-- the content that some bodies lead to from the first one, the latest body first
abbrev pub reached : List Bytes → Nodes
reached [] = first_nodes
reached (b ∷ bs) = tree_model.next (reached bs) b

-- i is the node `top` or lies beneath it, however far down
pub data Beneath (ns : Nodes) (top : ℕ) : ℕ → Type 0 where
  itself : {i : ℕ} → is_there ns i ≡ true → i ≡ top → Beneath ns top i
  deeper : {i : ℕ} → is_there ns i ≡ true → Beneath ns top (parent_of (node_at ns i)) → Beneath ns top i

-- a tree
pub record IsTree (ns : Nodes) : Type 0 where
  -- the root is there, a folder that lies in none
  pub root : node_at ns 0 ≡ Some (record { parent = 64; kind = 100; name = [] })
  -- each node that is there reaches the root by its parents
  pub rooted : (i : ℕ) → is_there ns i ≡ true → Beneath ns 0 i
  -- each parent is there, and a folder
  pub in_folder : (i : ℕ) → is_there ns i ≡ true → (i ≢ 0) → (is_there ns (parent_of (node_at ns i)) ≡ true) × (is_folder ns (parent_of (node_at ns i)) ≡ true)
  -- two nodes of one folder have different names
  pub one_name : (parent : ℕ) (name : Bytes) (i j : ℕ) → is_named parent name (node_at ns i) ≡ true → is_named parent name (node_at ns j) ≡ true → i ≡ j

-- every content reached is a tree
abbrev pub StaysATree : Type 0
StaysATree = (bodies : List Bytes) → IsTree (reached bodies)

-- a look-up finds a node exactly when that one has the name there, so it finds the only one
abbrev pub FindsOne : Nodes → Type 0
FindsOne ns = (parent : ℕ) (name : Bytes) (i : ℕ) → (named ns parent name ≡ Some i → is_named parent name (node_at ns i) ≡ true) × (is_named parent name (node_at ns i) ≡ true → named ns parent name ≡ Some i)

-- 64 steps up decide whether a node lies beneath another
abbrev pub WalkDecides : Nodes → Type 0
WalkDecides ns = (top i : ℕ) → Decides (is_within 64 ns top i) (Beneath ns top i)

-- moving a folder, not the root, into a folder within it, by a name free there, gives 8
abbrev pub RefusesIntoItself : Nodes → Type 0
RefusesIntoItself ns =
    (node parent : ℕ) (name : Bytes) → is_folder ns node ≡ true → (node ≢ 0) → is_folder ns parent ≡ true → Beneath ns node parent → other_named ns parent name node ≡ false
    → tree_status ns (tree.move node parent name) ≡ 8
