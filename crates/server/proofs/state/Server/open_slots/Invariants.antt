use Rattle.std.proofs.Common.{◌≡◌, ◌≤◌, true}
use Rattle.server.specs.Server.{free_trays, with_open}
use Rattle.server.specs.Models.{model}
use Rattle.server.specs.Places.{change_at, at_front}
use Rattle.server.proofs.Changes.{shut_left}
use Rattle.server.proofs.state.Server.open_slots.Given as goal

abbrev pub invariant-loop-i : goal.invariant-loop-i
invariant-loop-i l =
    (model l.self ≡ change_at (model l.initial.self) l.place (at_front (with_open true) l.i))
    × (shut_left (model l.initial.self) l.place l.i l.count ≤ free_trays (model l.self))
