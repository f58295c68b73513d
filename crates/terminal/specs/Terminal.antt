-- The terminal: its slots with their open calls, what it sends, and what a reply does to it.
use Rattle.std.specs.Prelude.{ℕ, ◌+◌, ◌-◌, max, Bool, true, false, cond, not, ◌&&◌, List, [], map, length, replicate, is_some, Some, None, Ok, Err, Option, Result, ◌==◌, nat_le, nat_lt, slice_index_or, slice_set}
use Rattle.std.specs.Option.{option_map}
use Rattle.common.specs.Bytes.{Bytes}
use Rattle.wire.specs.Wire.{SessionId, same_id, Request, Reply, Refusal, long_body, no_slot, no_open_call, no_part, request_message}
use Rattle.common.specs.Search.{when_found, lowest_at}
use Rattle.slots.specs.Slots.{highest_at, front_changed, next_number, has_next}

-- an open call: what its request says, whether it is a part, and whether it is fresh
pub record OpenCall : Type 0 where
  pub highest : ℕ
  pub keep : Bool
  pub body : Bytes
  pub part : Bool
  pub fresh : Bool

-- a slot: the number of its last call, whether it is usable, and its open call; at rest it has none
pub record EndM : Type 0 where
  pub number : ℕ
  pub usable : Bool
  pub call : Option OpenCall

-- a terminal's record
pub record TerminalM : Type 0 where
  pub id : SessionId
  -- the target heard last
  pub heard : ℕ
  -- sixteen
  pub slots : List EndM

-- a slot that becomes usable, or stops being so
abbrev pub with_usable : Bool → EndM → EndM
with_usable b x = record { number = x.number; usable = b; call = x.call }

-- a slot never used
abbrev pub new_end : EndM
new_end = record { number = 0; usable = false; call = None }

-- after open, slots 0 to target are usable
abbrev pub new_terminal : SessionId → ℕ → TerminalM
new_terminal id target = record { id = id; heard = target; slots = front_changed (with_usable true) (target + 1) (replicate 16 new_end) }

-- the slot with that number
abbrev pub end_at : TerminalM → ℕ → EndM
end_at t i = slice_index_or t.slots i new_end

-- the terminal with another slot there
abbrev pub with_end : TerminalM → ℕ → EndM → TerminalM
with_end t i x = record { id = t.id; heard = t.heard; slots = slice_set t.slots i x }

-- a call is open there
abbrev pub is_busy : EndM → Bool
is_busy x = is_some x.call

-- usable, at rest, and not worn out
abbrev pub is_ready : EndM → Bool
is_ready x = x.usable && (not (is_busy x) && has_next x.number)

-- the request of a call with that number at slot i
abbrev pub call_request : TerminalM → ℕ → ℕ → OpenCall → Request
call_request t i number c = record { id = t.id; number = number; slot = i; highest = c.highest; keep = c.keep; body = c.body }

-- what order, part and resend give: the slot, the message, and the terminal after
pub record Sending : Type 0 where
  pub slot : ℕ
  pub message : Bytes
  pub after : TerminalM

-- a slot with a call begun
abbrev pub begun : EndM → OpenCall → EndM
begun x c = record { number = next_number x.number; usable = x.usable; call = Some c }

-- a call begun at slot i
abbrev pub begin : TerminalM → ℕ → OpenCall → Sending
begin t i c = record {
  slot = i;
  message = request_message (call_request t i (next_number (end_at t i).number) c);
  after = with_end t i (begun (end_at t i) c);
}

-- Order. Highest is the greatest slot with an open call, this one included
abbrev pub order_highest : TerminalM → ℕ → ℕ
order_highest t i = max i (highest_at is_busy t.slots 0 0)

-- the call ordered at slot i
abbrev pub order_call : TerminalM → ℕ → Bool → Bytes → OpenCall
order_call t i keep body = record { highest = order_highest t i; keep = keep; body = body; part = false; fresh = true }

-- order, with its refusals in order
unfoldable pub order_sends : TerminalM → Bool → Bytes → Result Sending Refusal
order_sends t keep body =
    cond (nat_lt 256 (length body)) (Err long_body)
    (when_found (Err no_slot) (λ i. Ok (begin t i (order_call t i keep body))) (lowest_at is_ready t.slots 0))

-- Part. Slots 1 to 15, above the heard target.
abbrev pub can_part : TerminalM → ℕ → Bool
can_part t i = nat_le 1 i && (nat_le i 15 && (nat_lt t.heard i && is_ready (end_at t i)))

-- a bare call, keep 0, highest one below its slot
abbrev pub part_call : ℕ → OpenCall
part_call i = record { highest = i - 1; keep = false; body = []; part = true; fresh = true }

-- part, or its refusal
unfoldable pub part_sends : TerminalM → ℕ → Result Sending Refusal
part_sends t i = cond (can_part t i) (Ok (begin t i (part_call i))) (Err no_part)

-- Resend. The open call's same bytes; the terminal stays.
abbrev pub resent : TerminalM → ℕ → OpenCall → Sending
resent t i c = record { slot = i; message = request_message (call_request t i (end_at t i).number c); after = t }

-- resend, or its refusal
unfoldable pub resend_sends : TerminalM → ℕ → Result Sending Refusal
resend_sends t i = cond (nat_lt 15 i) (Err no_open_call) (when_found (Err no_open_call) (λ c. Ok (resent t i c)) (end_at t i).call)

-- the terminal after one of the three
abbrev pub after_sending : TerminalM → Result Sending Refusal → TerminalM
after_sending t (Ok s) = s.after
after_sending t (Err r) = t

-- Accept. What a reply does to the open call that it belongs to.
pub data Effect : Type 0 where
  answered : Bytes → Effect
  done : Effect
  unknown : Effect
  still_open : (status : ℕ) → Effect

-- by its status
abbrev pub reply_effect : Reply → Effect
reply_effect r = cond (r.status == 0) (answered r.body) (cond (r.status == 10068) done (cond (r.status == 10052) unknown (still_open r.status)))

-- session id, slot and number agree with an open call
abbrev pub belongs : TerminalM → Reply → Bool
belongs t r =
    same_id t.id r.id && (nat_le r.slot 15 && (is_busy (end_at t r.slot) && (end_at t r.slot).number == r.number))

-- a slot at rest
abbrev pub at_rest : EndM → EndM
at_rest x = record { number = x.number; usable = x.usable; call = None }

-- the call at slot i closed
abbrev pub closed : TerminalM → ℕ → TerminalM
closed t i = with_end t i (at_rest (end_at t i))

-- a target is heard: slots 0 to it become usable
abbrev pub heard_target : TerminalM → ℕ → TerminalM
heard_target t target = record { id = t.id; heard = target; slots = front_changed (with_usable true) (target + 1) t.slots }

-- a call that is not fresh
abbrev pub stale_call : OpenCall → OpenCall
stale_call c = record { highest = c.highest; keep = c.keep; body = c.body; part = c.part; fresh = false }

-- a slot whose open call, if any, is not fresh
abbrev pub stale : EndM → EndM
stale x = record { number = x.number; usable = x.usable; call = option_map stale_call x.call }

-- slot i stops being usable, and all open calls cease to be fresh
abbrev pub parted : TerminalM → ℕ → TerminalM
parted t i = record { id = t.id; heard = t.heard; slots = map stale (slice_set t.slots i (with_usable false (end_at t i))) }

-- with status 0 a fresh call teaches the target
abbrev pub learns_target : TerminalM → OpenCall → Reply → TerminalM
learns_target t c r = cond c.fresh (heard_target t r.target) t

-- and then a part, if that target is below its slot, that the slot is shut
abbrev pub learns : TerminalM → OpenCall → Reply → TerminalM
learns t c r = cond (c.part && nat_lt r.target r.slot) (parted (learns_target t c r) r.slot) (learns_target t c r)

-- the terminal after a reply to its open call c
abbrev pub after_effect : TerminalM → OpenCall → Reply → Effect → TerminalM
after_effect t c r (answered b) = learns (closed t r.slot) c r
after_effect t c r done = closed t r.slot
after_effect t c r unknown = closed t r.slot
after_effect t c r (still_open n) = t

-- what a reply did, if it belongs to an open call
abbrev pub accept_effect : TerminalM → Reply → Option Effect
accept_effect t r = cond (belongs t r) (Some (reply_effect r)) None

-- the terminal after any reply
unfoldable pub after_accept : TerminalM → Reply → TerminalM
after_accept t r = cond (belongs t r) (when_found t (λ c. after_effect t c r (reply_effect r)) (end_at t r.slot).call) t
