-- Laws over a terminal's life: any run of orders, parts and replies. A resend changes nothing, so it is no event.
use Rattle.std.specs.Prelude.{◌≡◌, ℕ, ◌+◌, ◌<◌, ◌≤◌, Bool, true, false, List, [], ◌∷◌, length, Some, Ok, ◌≢◌}
use Rattle.common.specs.Bytes.{Bytes}
use Rattle.wire.specs.Wire.{Reply}
use Rattle.terminal.specs.Terminal.{OpenCall, TerminalM, Sending, end_at, is_busy, order_sends, part_sends, resend_sends, after_sending, after_accept, belongs}
use Rattle.terminal.specs.Sends.{message_of}

-- what can happen to a terminal
pub data Event : Type 0 where
  ordered : (keep : Bool) (body : Bytes) → Event
  parted_with : (slot : ℕ) → Event
  heard : Reply → Event

-- the terminal after it
abbrev pub after_event : TerminalM → Event → TerminalM
after_event t (ordered keep body) = after_sending t (order_sends t keep body)
after_event t (parted_with i) = after_sending t (part_sends t i)
after_event t (heard r) = after_accept t r

-- and after several
abbrev pub after_run : TerminalM → List Event → TerminalM
after_run t [] = t
after_run t (e ∷ es) = after_run (after_event t e) es

-- an event that begins a call and sends it
abbrev pub BeginsCall : TerminalM → Event → Sending → Type 0
BeginsCall t (ordered keep body) s = order_sends t keep body ≡ Ok s
BeginsCall t (parted_with i) s = part_sends t i ≡ Ok s
BeginsCall t (heard r) s = ⊥

-- after each event a call is open at slot i
abbrev pub StaysOpen : ℕ → TerminalM → List Event → Type 0
StaysOpen i t [] = Unit {0}
StaysOpen i t (e ∷ es) = (is_busy (end_at (after_event t e) i) ≡ true) × StaysOpen i (after_event t e) es

-- Until a call closes, whatever else happens, a resend sends the bytes that were sent first.
abbrev pub ResendsFirstBytes : Type 0
ResendsFirstBytes =
    (t : TerminalM) (e : Event) (s : Sending) (run : List Event) → length t.slots ≡ 16 → BeginsCall t e s → StaysOpen s.slot s.after run → message_of (resend_sends (after_run s.after run) s.slot) ≡ Ok s.message

-- No slot's number ever falls.
abbrev pub NumbersNeverFall : Type 0
NumbersNeverFall =
    (t : TerminalM) (run : List Event) (i : ℕ) → length t.slots ≡ 16 → (end_at t i).number ≤ (end_at (after_run t run) i).number

-- A call begins only at a usable slot that is at rest, and is open then with the next number: never two at a slot.
pub record BegunAtRest (t : TerminalM) (s : Sending) : Type 0 where
  pub usable : (end_at t s.slot).usable ≡ true
  pub at_rest : is_busy (end_at t s.slot) ≡ false
  pub opened : is_busy (end_at s.after s.slot) ≡ true
  pub numbered : (end_at s.after s.slot).number ≡ (end_at t s.slot).number + 1

abbrev pub OneCallASlot : Type 0
OneCallASlot = (t : TerminalM) (e : Event) (s : Sending) → length t.slots ≡ 16 → BeginsCall t e s → BegunAtRest t s

-- From a terminal to a later one neither the heard target changed nor did a slot become usable.
pub record TaughtNothing (before after : TerminalM) : Type 0 where
  pub target : after.heard ≡ before.heard
  pub opens_none : (j : ℕ) → (end_at after j).usable ≡ true → (end_at before j).usable ≡ true

-- A reply to a call that is not fresh teaches nothing; and where the call is no part, it shuts nothing either.
pub record StaleReply (t after : TerminalM) (r : Reply) (c : OpenCall) : Type 0 where
  pub teaches : TaughtNothing t after
  pub others : (j : ℕ) → (j ≢ r.slot) → (end_at after j).usable ≡ (end_at t j).usable
  pub own : c.part ≡ false → (end_at after r.slot).usable ≡ (end_at t r.slot).usable

abbrev pub StaleRepliesTeachNothing : Type 0
StaleRepliesTeachNothing =
    (t : TerminalM) (r : Reply) (c : OpenCall) → (end_at t r.slot).call ≡ Some c → c.fresh ≡ false → StaleReply t (after_accept t r) r c

-- the terminal after several replies
abbrev pub after_replies : TerminalM → List Reply → TerminalM
after_replies t [] = t
after_replies t (r ∷ rs) = after_replies (after_accept t r) rs

-- A part was served and named a target below its slot: whatever replies come in then to calls that were open, the
-- slot stays shut and the heard target stays. Only a call begun later can learn otherwise.
abbrev pub GivenUpStaysShut : Type 0
GivenUpStaysShut =
    (t : TerminalM) (r : Reply) (c : OpenCall) (rs : List Reply) → belongs t r ≡ true → (end_at t r.slot).call ≡ Some c → c.part ≡ true → r.status ≡ 0 → r.target < r.slot → length t.slots ≡ 16
    → ((end_at (after_replies (after_accept t r) rs) r.slot).usable ≡ false) × TaughtNothing (after_accept t r) (after_replies (after_accept t r) rs)
