use Rattle.std.proofs.Common.{◌≡◌, ℕ, ◌<◌, nat_lt, cond, Some, None, Option, IfSome, MatchOption, ap, ◌∙◌, arith, rules, tests}
use Rattle.std.proofs.lemmas.Iterator.{YieldsList-from_slice}
use Rattle.std.proofs.lemmas.Iterator.Search.{position_from_yields_List}
use Rattle.std.proofs.lemmas.Bool.Decides.{nat_tests}
use Rattle.tree.specs.Tree.{is_named, named}
use Rattle.tree.specs.Contents.{place_model}
use Rattle.tree.proofs.Names.{found_there}
use Rattle.tree.proofs.Steps.{found_only}
use Rattle.tree.proofs.Searches.{lowest_is_position}
use Rattle.tree.proofs.nodes.Tree.find.Goals as goal

-- what is below 64 is a node's number
numbered : (found id : Option ℕ) → MatchOption found (id ≡ None) (λ i. id ≡ cond (nat_lt i 64) (Some i) None) → IfSome found (λ i. i < 64) → id ≡ found
numbered None id e lt = e
numbered (Some i) id e lt = grind (arith, nat_tests)

pub returns : goal.returns
returns c =
    let ns = c.args.self.now in
    let nodes = c.self.inside.nodes in
    let test = is_named c.args.folder c.args.name in
    let found = position_from_yields_List (λ place. test (place_model place)) _ _ c.position.result c.position.ensures.ran (YieldsList-from_slice nodes cc) (λ x b q k. search (rules, tests)) in
    let value = numbered c.position.result c.and_then.result (search rules) (search rules) ∙ found ∙ lowest_is_position test place_model nodes ∙ ap (λ ns. named ns c.args.folder c.args.name) c.self.view_is in
    record {
      there = found_there ns c.args.folder c.args.name c.and_then.result value;
      value = value;
      only = λ bodies e i h. value ∙ (found_only ns bodies e c.args.folder c.args.name i).1 h;
    }
