-- The server: sessions, their slots with what is kept of each slot's last call, and what serve and run make of them.
use Rattle.std.specs.Prelude.{ℕ, ◌+◌, ◌-◌, Bool, true, false, cond, not, ◌&&◌, ◌||◌, List, [], length, get_or, take, set, replicate, is_some, Some, None, Ok, Err, sum_by, count_by, Option, Result, ◌==◌, nat_le, nat_lt, slice_index_or, slice_set}
use Rattle.std.specs.Str.{bytes_eq}
use Rattle.common.specs.Bytes.{Bytes}
use Rattle.wire.specs.Wire.{SessionId, same_id, Request, Reply, refusing, Refusal, not_standing, no_work, high_target, no_place, no_count, few_trays, read_request}
use Rattle.common.specs.Search.{when_found, lowest_at}
use Rattle.slots.specs.Slots.{highest_at, front_changed, next_number}
use Rattle.service.specs.Service.{ServiceModel}

-- what is kept of a slot's last call: the outcome that a repeat gets, if its reply body was kept
pub data Last : Type 0 where
  never : Last
  in_progress : Last
  kept : (highest target : ℕ) (body : Bytes) → Last
  not_kept : Last

-- a slot: whether it owns a tray; the number, highest, keep and body of its last call, and what is kept of it
pub record SlotM : Type 0 where
  pub is_open : Bool
  pub number : ℕ
  pub highest : ℕ
  pub keep : Bool
  pub body : Bytes
  pub last : Last

-- a standing session
pub record SessionM : Type 0 where
  pub id : SessionId
  pub target : ℕ
  -- sixteen
  pub slots : List SlotM

-- the server
pub record ServerM : Type 0 where
  pub boot : ℕ
  -- the count that the next session gets
  pub count : ℕ
  -- eight places, each with the session that stands there
  pub sessions : List (Option SessionM)

-- a slot never used
abbrev pub new_slot : SlotM
new_slot = record { is_open = false; number = 0; highest = 0; keep = false; body = []; last = never }

-- the slot with that number
abbrev pub slot_at : SessionM → ℕ → SlotM
slot_at s i = slice_index_or s.slots i new_slot

-- the session with another slot there
abbrev pub with_slot : SessionM → ℕ → SlotM → SessionM
with_slot s i x = record { id = s.id; target = s.target; slots = slice_set s.slots i x }

-- a slot that opens or shuts keeps all else
abbrev pub with_open : Bool → SlotM → SlotM
with_open b x = record { is_open = b; number = x.number; highest = x.highest; keep = x.keep; body = x.body; last = x.last }

-- a place at which the session of an id stands
abbrev pub has_id : SessionId → Option SessionM → Bool
has_id id None = false
has_id id (Some s) = same_id s.id id

-- the lowest such place
abbrev pub place_of : ServerM → SessionId → Option ℕ
place_of m id = lowest_at (has_id id) m.sessions 0

-- the session of an id, if it stands
unfoldable pub session_of : ServerM → SessionId → Option SessionM
session_of m id = when_found None (λ i. get_or m.sessions i None) (place_of m id)

-- the server with another, or none, in the place of the session of an id
unfoldable pub with_session : ServerM → SessionId → Option SessionM → ServerM
with_session m id s = record { boot = m.boot; count = m.count; sessions = when_found m.sessions (λ i. set m.sessions i s) (place_of m id) }

-- how many slots of a session are open
abbrev pub open_slots : Option SessionM → ℕ
open_slots None = 0
open_slots (Some s) = count_by (λ (x : SlotM). x.is_open) s.slots

-- each open slot owns one of 64 trays
unfoldable pub free_trays : ServerM → ℕ
free_trays m = 64 - sum_by open_slots m.sessions

-- Open. A session at first: slots 0 to target are open.
abbrev pub new_session : SessionId → ℕ → SessionM
new_session id target = record { id = id; target = target; slots = front_changed (with_open true) (target + 1) (replicate 16 new_slot) }

-- the id that the next session gets
abbrev pub new_id : ServerM → SessionId
new_id m = record { boot = m.boot; count = m.count }

-- what an accepted open gives: the session's id, and the server after
pub record Opening : Type 0 where
  pub id : SessionId
  pub after : ServerM

-- a place without a session
abbrev pub is_vacant : Option SessionM → Bool
is_vacant s = not (is_some s)

-- a session opened at place i
abbrev pub opened_in : ServerM → ℕ → ℕ → Opening
opened_in m target i = record {
  id = new_id m;
  after = record { boot = m.boot; count = m.count + 1; sessions = slice_set m.sessions i (Some (new_session (new_id m) target)) };
}

-- a session asked for while place i is vacant
abbrev pub open_in : ServerM → ℕ → ℕ → Result Opening Refusal
open_in m target i =
    cond (m.count == 18446744073709551615) (Err no_count)
    (cond (nat_lt (free_trays m) (target + 1)) (Err few_trays) (Ok (opened_in m target i)))

-- open, with its refusals in order
unfoldable pub open_session : ServerM → ℕ → Result Opening Refusal
open_session m target = cond (nat_lt 15 target) (Err high_target) (when_found (Err no_place) (open_in m target) (lowest_at is_vacant m.sessions 0))

-- Retarget. How many slots up to a target are shut.
abbrev pub shut_up_to : SessionM → ℕ → ℕ
shut_up_to s target = count_by (λ (x : SlotM). not x.is_open) (take (target + 1) s.slots)

-- the session with another target, each slot up to it open
abbrev pub retargeted : SessionM → ℕ → SessionM
retargeted s target = record { id = s.id; target = target; slots = front_changed (with_open true) (target + 1) s.slots }

-- a session found, retargeted
abbrev pub retarget_in : ServerM → SessionId → ℕ → SessionM → Result ServerM Refusal
retarget_in m id target s =
    cond (nat_lt 15 target) (Err high_target)
    (cond (nat_lt (free_trays m) (shut_up_to s target)) (Err few_trays) (Ok (with_session m id (Some (retargeted s target)))))

-- retarget, with its refusals in order
unfoldable pub retarget_session : ServerM → SessionId → ℕ → Result ServerM Refusal
retarget_session m id target = when_found (Err not_standing) (retarget_in m id target) (session_of m id)

-- Close. The session is gone, with its trays and what was set aside there.
unfoldable pub close_session : ServerM → SessionId → Result ServerM Refusal
close_session m id = when_found (Err not_standing) (λ s. Ok (with_session m id None)) (session_of m id)

-- the server after a retarget or a close
abbrev pub after_call : ServerM → Result ServerM Refusal → ServerM
after_call m (Ok n) = n
after_call m (Err r) = m

-- Serve. What a slot says of a request: a status, the outcome of the finished call that it repeats, or that it is new.
pub data Verdict : Type 0 where
  refuse : (status : ℕ) → Verdict
  repeat : (highest target : ℕ) (body : Bytes) → Verdict
  new : Verdict

-- the last call is in progress
abbrev pub is_working : Last → Bool
is_working never = false
is_working in_progress = true
is_working (kept h t b) = false
is_working not_kept = false

-- the request has the slot's number, which is not 0
abbrev pub is_repeat : SlotM → Request → Bool
is_repeat x q = q.number == x.number && not (q.number == 0)

-- the request has the next number, and nothing is in progress
abbrev pub is_new : SlotM → Request → Bool
is_new x q = q.number == next_number x.number && not (is_working x.last)

-- equal flags
abbrev pub same_flag : Bool → Bool → Bool
same_flag true b = b
same_flag false b = not b

-- a repeat's highest, keep and body must equal those of the call
abbrev pub is_same : SlotM → Request → Bool
is_same x q = x.highest == q.highest && (same_flag x.keep q.keep && bytes_eq x.body q.body)

-- what a repeat gets
abbrev pub judge_last : Last → Verdict
judge_last never = refuse 10068
judge_last in_progress = refuse 10008
judge_last (kept h t b) = repeat h t b
judge_last not_kept = refuse 10068

-- a repeat that differs is refused
abbrev pub judge_repeat : SlotM → Request → Verdict
judge_repeat x q = cond (is_same x q) (judge_last x.last) (refuse 10076)

-- a new call's highest is above 15, or below its slot with a body
abbrev pub bad_highest : Request → Bool
bad_highest q = nat_lt 15 q.highest || (nat_lt q.highest q.slot && nat_lt 0 (length q.body))

-- a new call wants an open slot and a fit highest
abbrev pub judge_new : SlotM → Request → Verdict
judge_new x q = cond x.is_open (cond (bad_highest q) (refuse 10077) new) (refuse 10053)

-- the decision on a slot's number
abbrev pub judge : SlotM → Request → Verdict
judge x q = cond (is_repeat x q) (judge_repeat x q) (cond (is_new x q) (judge_new x q) (refuse 10063))

-- what a session says of a request
abbrev pub verdict : SessionM → Request → Verdict
verdict s q = cond (nat_lt 15 q.slot) (refuse 10053) (judge (slot_at s q.slot) q)

-- the slot with a new call in progress
abbrev pub accepted : SlotM → Request → SlotM
accepted x q = record { is_open = x.is_open; number = q.number; highest = q.highest; keep = q.keep; body = q.body; last = in_progress }

-- a work order
pub record Work : Type 0 where
  pub id : SessionId
  pub slot : ℕ
  pub number : ℕ

-- what serve gives: a fault, a status, an old outcome or a work order
pub data Served : Type 0 where
  fault : Refusal → Served
  says : Reply → Served
  old : Reply → Served
  work : Work → Served

-- and the server after
pub record Serving : Type 0 where
  pub answer : Served
  pub after : ServerM

-- the reply of status 0 to a request, or to a work order
abbrev pub outcome_reply : SessionId → ℕ → ℕ → ℕ → ℕ → Bytes → Reply
outcome_reply id number slot high target body = record { status = 0; id = id; number = number; slot = slot; highest = high; target = target; body = body }

-- serve, by what the session said
abbrev pub serve_by : Verdict → ServerM → SessionM → Request → Serving
serve_by (refuse n) m s q = record { answer = says (refusing q n); after = m }
serve_by (repeat h t b) m s q = record { answer = old (outcome_reply q.id q.number q.slot h t b); after = m }
serve_by new m s q = record {
  answer = work (record { id = q.id; slot = q.slot; number = q.number });
  after = with_session m q.id (Some (with_slot s q.slot (accepted (slot_at s q.slot) q)));
}

-- a request read, or a message that is none
abbrev pub serve_read : ServerM → Result Request Refusal → Serving
serve_read m (Ok q) = when_found (record { answer = says (refusing q 10052); after = m }) (λ s. serve_by (verdict s q) m s q) (session_of m q.id)
serve_read m (Err r) = record { answer = fault r; after = m }

-- serve, on any byte string
unfoldable pub serve : ServerM → Bytes → Serving
serve m bs = serve_read m (read_request bs)

-- Run. A call without a body is bare.
abbrev pub is_bare : SlotM → Bool
is_bare x = length x.body == 0

-- the outcome of a bare call is always kept
abbrev pub is_kept : SlotM → Bool
is_kept x = is_bare x || x.keep

-- a bare call with highest below its slot, run while the slot is above the target, shuts it
abbrev pub shuts : SessionM → ℕ → SlotM → Bool
shuts s i x = is_bare x && (nat_lt x.highest i && nat_lt s.target i)

-- slot i is open after the run
abbrev pub run_open : SessionM → ℕ → Bool
run_open s i = (slot_at s i).is_open && not (shuts s i (slot_at s i))

-- the highest open slot after the run
abbrev pub run_highest : SessionM → ℕ → ℕ
run_highest s i = highest_at (λ (x : SlotM). x.is_open) (slice_set s.slots i (with_open (run_open s i) (slot_at s i))) 0 0

-- slot i once its call has run and gave those bytes
abbrev pub finished : SessionM → ℕ → Bytes → SlotM
finished s i bytes = record {
  is_open = run_open s i;
  number = (slot_at s i).number;
  highest = (slot_at s i).highest;
  keep = (slot_at s i).keep;
  body = (slot_at s i).body;
  last = cond (is_kept (slot_at s i)) (kept (run_highest s i) s.target bytes) not_kept;
}

-- a call is in progress at slot i
abbrev pub works_at : SessionM → ℕ → Bool
works_at s i = nat_le i 15 && is_working (slot_at s i).last

-- and it is the one that the work order names
abbrev pub is_in_hand : SessionM → Work → Bool
is_in_hand s w = works_at s w.slot && (slot_at s w.slot).number == w.number

module _ (S : ServiceModel) where
  -- the server and the service after a run, and its reply
  pub record Run : Type 0 where
    pub reply : Reply
    pub server : ServerM
    pub content : S.Content

  -- the server after a run, or after its refusal
  abbrev pub server_after : ServerM → Result Run Refusal → ServerM
  server_after m (Ok r) = r.server
  server_after m (Err e) = m

  -- the content after a run, or after its refusal
  abbrev pub content_after : S.Content → Result Run Refusal → S.Content
  content_after k (Ok r) = r.content
  content_after k (Err e) = k

  module _ (k : S.Content) where
    -- the bytes that a run gives: a bare call asks nothing of the service
    abbrev pub run_bytes : SlotM → Bytes
    run_bytes x = cond (is_bare x) [] (S.reply k x.body)

    -- the content after it
    abbrev pub run_content : SlotM → S.Content
    run_content x = cond (is_bare x) k (S.next k x.body)

    -- the call in progress at slot i of the session s is run
    abbrev pub run_slot : ServerM → SessionId → ℕ → SessionM → Run
    run_slot m id i s = record {
      reply = outcome_reply id (slot_at s i).number i (run_highest s i) s.target (run_bytes (slot_at s i));
      server = with_session m id (Some (with_slot s i (finished s i (run_bytes (slot_at s i)))));
      content = run_content (slot_at s i);
    }

    -- a work order, run
    unfoldable pub run_work : ServerM → Work → Result Run Refusal
    run_work m w = when_found (Err no_work) (λ s. cond (is_in_hand s w) (Ok (run_slot m w.id w.slot s)) (Err no_work)) (session_of m w.id)

    -- work set aside at a slot, resumed
    unfoldable pub resume_work : ServerM → SessionId → ℕ → Result Run Refusal
    resume_work m id slot = when_found (Err not_standing) (λ s. cond (works_at s slot) (Ok (run_slot m id slot s)) (Err no_work)) (session_of m id)

-- a work order, set aside: its call stays in progress, and the server as it is
unfoldable pub set_work_aside : ServerM → Work → Result (Unit {0}) Refusal
set_work_aside m w = when_found (Err no_work) (λ s. cond (is_in_hand s w) (Ok tt) (Err no_work)) (session_of m w.id)
