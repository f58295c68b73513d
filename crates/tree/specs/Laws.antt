-- A reply of the tree has 1 to 256 bytes.
use Rattle.std.specs.Prelude.{ℕ, ◌≤◌, Bool, true, false, cond, [], ◌∷◌, length, Some, None, Option, ◌==◌}
use Rattle.std.proofs.Common.{arith}
use Rattle.service.specs.Service.{ServiceLaws}
use Rattle.tree.specs.Tree as tree
use Rattle.tree.specs.Tree.{Nodes, TreeAsk, tree_status, tree_tells, tree_answer, tree_found, named, tree_ask, tree_model}

tells_short : (ns : Nodes) (a : TreeAsk) → length (tree_tells ns a) ≤ 2
tells_short ns (tree.make parent node kind name) = omega arith
tells_short ns (tree.remove node) = omega arith
tells_short ns (tree.move node parent name) = omega arith
tells_short ns (tree.look parent name) = go (named ns parent name)
  where
    go : (o : Option ℕ) → length (tree_found ns o) ≤ 2
    go None = omega arith
    go (Some i) = omega arith
tells_short ns tree.unfit = omega arith

tree_short : (ns : Nodes) (a : TreeAsk) → length (tree_answer ns a) ≤ 256
tree_short ns a = go (tree_status ns a == 0)
  where
    go : (t : Bool) → length (tree_status ns a ∷ cond t (tree_tells ns a) []) ≤ 256
    go true = omega (arith, tells_short ns a)
    go false = omega arith

pub tree_laws : ServiceLaws tree_model
tree_laws = record { some = λ c b. omega arith; short = λ c b. tree_short c (tree_ask b) }
