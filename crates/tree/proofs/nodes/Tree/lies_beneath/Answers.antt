use Rattle.std.proofs.Common.{Decides, sym, subst, arith}
use Rattle.tree.specs.Shape.{Beneath}
use Rattle.tree.proofs.Walks.{walk_decides}
use Rattle.tree.proofs.nodes.Tree.lies_beneath.Goals as goal

pub returns-clause-value : goal.returns-clause-value
returns-clause-value c =
    let ns = c.args.self.now in
    subst (λ r. Decides r (Beneath ns c.args.top c.args.node)) (sym c.is_within.ensures.value) (walk_decides ns (omega arith) c.args.top c.args.node)
