-- How many calls are in progress.
use Rattle.std.specs.Prelude.{ℕ, Bool, [], Some, None, sum_by, count_by, Option}
use Rattle.server.specs.declared.records.Slot.{Slot}
use Rattle.server.specs.declared.records.Session.{Session}
use Rattle.server.specs.Models.{last_model}
use Rattle.server.specs.Server.{SlotM, SessionM, ServerM, is_working}

-- at the slots of a session that stands
abbrev pub working_slots : Option SessionM → ℕ
working_slots None = 0
working_slots (Some s) = count_by (λ (x : SlotM). is_working x.last) s.slots

-- at all sessions that stand
abbrev pub working_calls : ServerM → ℕ
working_calls m = sum_by working_slots m.sessions

-- a call is in progress at a slot, as the code keeps it
abbrev pub works : Slot → Bool
works x = is_working (last_model x.last [])

-- at how many slots of a place
abbrev pub slots_working : Option Session → ℕ
slots_working None = 0
slots_working (Some s) = count_by works s.slots
