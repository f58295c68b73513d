use Rattle.std.proofs.Common.{◌≡◌}
use Rattle.slots.specs.Slots.{front_changed}
use Rattle.slots.proofs.change_each.Given as goal

abbrev pub invariant-loop-record : goal.invariant-loop-record
invariant-loop-record g l = l.record-items ≡ front_changed (g.C.Change.changed l.change) l.record-index l.initial.record-items
