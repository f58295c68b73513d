use Rattle.std.proofs.Common.{◌≡◌}
use Rattle.server.specs.Models.{model}
use Rattle.server.specs.Places.{emptied, change_at, at_front}
use Rattle.server.proofs.state.Server.free_slots.Given as goal

abbrev pub invariant-loop-i : goal.invariant-loop-i
invariant-loop-i l = model l.self ≡ change_at (model l.initial.self) l.place (at_front emptied l.i)
