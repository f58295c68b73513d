use Rattle.std.proofs.Common.{List, arith}
use Rattle.common.specs.Bytes.{Bytes}
use Rattle.tree.specs.Shape.{reached, WalkDecides}
use Rattle.tree.proofs.Walks.{walk_decides}
use Rattle.tree.proofs.Shape.{finds_one}
use Rattle.tree.proofs.Steps.{stays_a_tree, reached_size, into_itself}
use Rattle.tree.proofs.reached.stays_a_tree.Goals as goal

decides : (bodies : List Bytes) → WalkDecides (reached bodies)
decides bodies = walk_decides (reached bodies) (omega (arith, reached_size bodies))

pub returns : goal.returns
returns c =
    record {
      tree = stays_a_tree;
      finds = λ bodies. finds_one (reached bodies) (stays_a_tree bodies);
      walk = decides;
      into_itself = λ bodies. into_itself (reached bodies) (decides bodies);
    }
