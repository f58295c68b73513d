-- Smaller steps, at one slot or at one place, that the server's calls are made of.
use Rattle.std.specs.Prelude.{◌≡◌, ℕ, ◌+◌, Bool, true, false, cond, not, List, [], take, replicate, Some, None, count_by, Option, slice_index_or, slice_set}
use Rattle.std.specs.Option.{option_map}
use Rattle.common.specs.Bytes.{Bytes}
use Rattle.common.specs.Search.{when_found, lowest_at}
use Rattle.wire.specs.Wire.{SessionId, Request}
use Rattle.slots.specs.Slots.{highest_at, front_changed}
use Rattle.server.specs.Server.{Last, never, in_progress, kept, not_kept, SlotM, SessionM, ServerM, Work, place_of, is_vacant, is_in_hand, Verdict, refuse, is_kept, new_slot, slot_at, with_slot, with_open, verdict, works_at, is_bare, run_open}

-- a slot once its call has run and gave those bytes
abbrev pub concluded : SlotM → ℕ → ℕ → Bytes → SlotM
concluded x highest target bytes = record {
  is_open = x.is_open;
  number = x.number;
  highest = x.highest;
  keep = x.keep;
  body = x.body;
  last = cond (is_kept x) (kept highest target bytes) not_kept;
}

-- what is kept of a call, without a reply body
abbrev pub emptied_last : Last → Last
emptied_last never = never
emptied_last in_progress = in_progress
emptied_last (kept h t b) = kept h t []
emptied_last not_kept = not_kept

-- a slot that is shut, with what it had in its tray lost
abbrev pub emptied : SlotM → SlotM
emptied x = record { is_open = false; number = x.number; highest = x.highest; keep = x.keep; body = []; last = emptied_last x.last }

-- the session at a place
abbrev pub session_at : ServerM → ℕ → Option SessionM
session_at m place = slice_index_or m.sessions place None

-- the lowest place without one
abbrev pub vacant_place : ServerM → Option ℕ
vacant_place m = lowest_at is_vacant m.sessions 0

-- a change of the session at one of several places
abbrev pub change_in : List (Option SessionM) → ℕ → (SessionM → SessionM) → List (Option SessionM)
change_in places place change = slice_set places place (option_map change (slice_index_or places place None))

-- a change of the session at a place
abbrev pub change_at : ServerM → ℕ → (SessionM → SessionM) → ServerM
change_at m place change = record { boot = m.boot; count = m.count; sessions = change_in m.sessions place change }

-- a change at slot i of a session
abbrev pub at_slot : (SlotM → SlotM) → ℕ → SessionM → SessionM
at_slot change i s = with_slot s i (change (slot_at s i))

-- a change at the first n slots of a session
abbrev pub at_front : (SlotM → SlotM) → ℕ → SessionM → SessionM
at_front change n s = record { id = s.id; target = s.target; slots = front_changed change n s.slots }

-- how many of the first n slots of the session at a place are shut
abbrev pub shut_below : ServerM → ℕ → ℕ → ℕ
shut_below m place n = when_found 0 (λ (s : SessionM). count_by (λ (x : SlotM). not x.is_open) (take n s.slots)) (session_at m place)

-- one tray, if slot i of the session at a place is shut
abbrev pub shut_at : ServerM → ℕ → ℕ → ℕ
shut_at m place i = when_found 0 (λ s. cond (slot_at s i).is_open 0 1) (session_at m place)

-- what the session at a place says of a request
abbrev pub verdict_at : ServerM → ℕ → Request → Verdict
verdict_at m place q = when_found (refuse 10052) (λ s. verdict s q) (session_at m place)

-- a call is in progress at slot i of the session at a place
abbrev pub works_in : ServerM → ℕ → ℕ → Bool
works_in m place i = when_found false (λ s. works_at s i) (session_at m place)

-- the last call at slot i of the session at a place is bare
abbrev pub bare_in : ServerM → ℕ → ℕ → Bool
bare_in m place i = when_found false (λ s. is_bare (slot_at s i)) (session_at m place)

-- the call that a work order names is in progress at slot i of the session at a place
abbrev pub Holds : ServerM → Work → ℕ → ℕ → Type 0
Holds m w place i = (place_of m w.id ≡ Some place) × (i ≡ w.slot) × (when_found false (λ s. is_in_hand s w) (session_at m place) ≡ true)

-- a session whose slot i is shut, if the bare call there shuts it when it runs
abbrev pub settled : ℕ → SessionM → SessionM
settled i s = with_slot s i (with_open (run_open s i) (slot_at s i))

-- a session whose call at slot i has run and gave those bytes
abbrev pub ended : ℕ → Bytes → SessionM → SessionM
ended i bytes s = with_slot s i (concluded (slot_at s i) (highest_at (λ (x : SlotM). x.is_open) s.slots 0 0) s.target bytes)

-- the server with a session at a place whose slots are all shut, and the next count
abbrev pub begun : ServerM → ℕ → SessionId → ℕ → ServerM
begun m place id target = record { boot = m.boot; count = m.count + 1; sessions = slice_set m.sessions place (Some (record { id = id; target = target; slots = replicate 16 new_slot })) }

-- a session with another target
abbrev pub with_target : ℕ → SessionM → SessionM
with_target target s = record { id = s.id; target = target; slots = s.slots }
