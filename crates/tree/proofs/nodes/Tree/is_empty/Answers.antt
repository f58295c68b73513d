use Rattle.std.proofs.Common.{◌≡◌, Bool, true, false, not, cond, is_some, refl, ap, ◌∙◌, rules, tests}
use Rattle.std.proofs.lemmas.Iterator.{YieldsList-from_slice}
use Rattle.std.proofs.lemmas.Iterator.Search.{any_from_yields_List}
use Rattle.common.specs.Search.{lowest_at}
use Rattle.tree.specs.Tree.{lies_in, is_empty}
use Rattle.tree.specs.Contents.{place_model, places_model}
use Rattle.tree.proofs.Searches.{any_is_lowest}
use Rattle.tree.proofs.nodes.Tree.is_empty.Goals as goal

negation : (b : Bool) → not b ≡ cond b false true
negation true = refl
negation false = refl

pub returns : goal.returns
returns c =
    let nodes = c.self.inside.nodes in
    let test = lies_in c.args.folder in
    let any = any_from_yields_List (λ place. test (place_model place)) _ _ c.any.result c.any.ensures.ran (YieldsList-from_slice nodes cc) (λ x b q k. search (rules, tests)) in
    ap not (any ∙ any_is_lowest test place_model nodes 0) ∙ negation (is_some (lowest_at test (places_model nodes) 0)) ∙ ap (λ ns. is_empty ns c.args.folder) c.self.view_is
