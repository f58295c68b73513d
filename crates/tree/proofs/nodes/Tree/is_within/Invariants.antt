use Rattle.std.proofs.Common.{◌≡◌, ◌-◌}
use Rattle.tree.specs.Tree.{is_within}
use Rattle.tree.proofs.nodes.Tree.is_within.Given as goal

-- what is left of the walk gives the result
abbrev pub invariant-loop : goal.invariant-loop
invariant-loop l = is_within (64 - l.counter) l.self l.top l.here ≡ is_within 64 l.self l.top l.initial.here
