use Rattle.std.proofs.Common.{refl, ap, ◌∙◌, rules, tests}
use Rattle.std.proofs.lemmas.Iterator.{YieldsList-from_slice}
use Rattle.std.proofs.lemmas.Iterator.Consumers.{YieldsList-from_enumerate}
use Rattle.std.proofs.lemmas.Iterator.Search.{any_from_yields_List}
use Rattle.tree.specs.Tree.{is_named, other_named}
use Rattle.tree.specs.Contents.{place_model}
use Rattle.tree.proofs.Searches.{elsewhere, other_is_lowest}
use Rattle.tree.proofs.nodes.Tree.other_named.Goals as goal

pub returns : goal.returns
returns c =
    let nodes = c.self.inside.nodes in
    let test = is_named c.args.folder c.args.name in
    let any = any_from_yields_List (elsewhere test place_model refl c.args.node) _ _ c.any.result c.any.ensures.ran (YieldsList-from_enumerate (YieldsList-from_slice nodes cc) cc) (λ x b q k. search (rules, tests)) in
    any ∙ other_is_lowest test place_model refl c.args.node nodes ∙ ap (λ ns. other_named ns c.args.folder c.args.name c.args.node) c.self.view_is
