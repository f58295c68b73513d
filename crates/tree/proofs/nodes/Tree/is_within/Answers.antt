use Rattle.std.proofs.Common.{◌+◌, ◌-◌, sym, ap, ◌∙◌, arith}
use Rattle.tree.specs.Tree.{is_within}
use Rattle.tree.specs.Contents.{parent_number, node_model}
use Rattle.tree.proofs.Walks.{walk_absent, walk_on, walk_ends}
use Rattle.tree.proofs.Views.{none_at_64, seen, unseen}
use Rattle.tree.proofs.nodes.Tree.is_within.Goals as goal

pub returns-in_default-clause-value : goal.returns-in_default-clause-value
returns-in_default-clause-value c =
    let there = unseen c.self.inside.nodes c.args.self.now c.self.view_is c.self.invariant _ c.loop.here c.get.result c.get.ensures.value c.get.ensures.below c.in_default.not-Some in
    sym (walk_absent c.args.self.now c.args.top c.loop.here (64 - c.loop.counter) there) ∙ c.loop.invariant

pub returns-then-eq-clause-value : goal.returns-then-eq-clause-value
returns-then-eq-clause-value c =
    let at = seen c.self.inside.nodes c.args.self.now c.self.view_is c.self.invariant _ c.loop.here c.get.result c.get.ensures.value c.get.ensures.below c.in-Some.found c.in-Some.is in
    walk_ends c.args.self.now c.args.top c.loop.here c.loop.counter (node_model c.in-Some.found) at (sym c.eq.ensures ∙ c.if-eq.true) (omega arith) ∙ c.loop.invariant

pub returns-in_default-parent-clause-value : goal.returns-in_default-parent-clause-value
returns-in_default-parent-clause-value c =
    let ns = c.args.self.now in
    let at = seen c.self.inside.nodes ns c.self.view_is c.self.invariant _ c.loop.here c.get.result c.get.ensures.value c.get.ensures.below c.in-Some.found c.in-Some.is in
    let left = 64 - (c.loop.counter + 1) in
    sym (walk_absent ns c.args.top 64 left (none_at_64 c.self.inside.nodes ns c.self.view_is c.self.invariant))
    ∙ ap (λ o. is_within left ns c.args.top (parent_number o)) (sym c.in_default-parent.is)
    ∙ walk_on ns c.args.top c.loop.here c.loop.counter (node_model c.in-Some.found) at (sym c.eq.ensures ∙ c.if-eq.false) (omega arith) ∙ c.loop.invariant

pub loop-preserved : goal.loop-preserved
loop-preserved c =
    let ns = c.args.self.now in
    let at = seen c.self.inside.nodes ns c.self.view_is c.self.invariant _ c.loop.here c.get.result c.get.ensures.value c.get.ensures.below c.in-Some.found c.in-Some.is in
    ap (λ o. is_within (64 - (c.loop.counter + 1)) ns c.args.top (parent_number o)) (sym c.in-Some-parent.is)
    ∙ walk_on ns c.args.top c.loop.here c.loop.counter (node_model c.in-Some.found) at (sym c.eq.ensures ∙ c.if-eq.false) (omega arith) ∙ c.loop.invariant
