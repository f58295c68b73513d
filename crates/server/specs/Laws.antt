-- What the server's steps amount to: worked cases, what always holds of a session, and what a repeat gets.
use Rattle.std.specs.Prelude.{◌≡◌, ℕ, ◌≤◌, true, cond, ◌||◌, List, [], ◌∷◌, length, Some, None, Ok, Err, ◌==◌, ◌≢◌, slice_index_or}
use Rattle.common.specs.Bytes.{Bytes}
use Rattle.wire.specs.Wire.{SessionId, Request, refusing, few_trays, no_work, read_request}
use Rattle.service.specs.Service.{ServiceModel}
use Rattle.server.specs.Server.{SlotM, SessionM, ServerM, Work, Run, says, old, work, new_slot, with_open, new_session, slot_at, judge, verdict, refuse, new, is_new, with_slot, finished, retargeted, free_trays, open_session, retarget_session, close_session, after_call, serve, run_work, resume_work, server_after}
use Rattle.server.specs.Calls.{new_server, after_opening}

-- the server after opens at those targets
abbrev pub opens : ServerM → List ℕ → ServerM
opens m [] = m
opens m (target ∷ targets) = opens (after_opening m (open_session m target)) targets

-- worked cases, and behind them two slips that they exclude
pub record Cases : Type 0 where
  -- at a fresh open slot number 1 is new, 0 and 2 get 10063
  pub one_is_new : (q : Request) → q.number ≡ 1 → is_new (with_open true new_slot) q ≡ true
  pub zero_misordered : (q : Request) → q.number ≡ 0 → judge (with_open true new_slot) q ≡ refuse 10063
  pub two_misordered : (q : Request) → q.number ≡ 2 → judge (with_open true new_slot) q ≡ refuse 10063
  -- slot 15 open is served, slot 16 gets 10053
  pub slot_15 : (id : SessionId) (q : Request) → q.slot ≡ 15 → q.number ≡ 1 → q.highest ≡ 15 → verdict (new_session id 15) q ≡ new
  pub slot_16 : (s : SessionM) (q : Request) → q.slot ≡ 16 → verdict s q ≡ refuse 10053
  -- at number 4,294,967,295 a request with number 0 gets 10063
  pub worn_out : (x : SlotM) (q : Request) → x.number ≡ 4294967295 → q.number ≡ 0 → judge x q ≡ refuse 10063
  -- four opens at target 15 use 64 trays, a fifth at target 0 is refused
  pub no_tray : free_trays (opens (new_server 1 1) (15 ∷ 15 ∷ 15 ∷ 15 ∷ [])) ≡ 0
  pub fifth : open_session (opens (new_server 1 1) (15 ∷ 15 ∷ 15 ∷ 15 ∷ [])) 0 ≡ Err few_trays
  -- a run changes no slot but its own, whatever its request says of the highest slot
  pub other_slots : (s : SessionM) (i j : ℕ) (bytes : Bytes) → (j ≢ i) → slot_at (with_slot s i (finished s i bytes)) j ≡ slot_at s j
  -- a slot that is opened again keeps its number
  pub reopened_number : (s : SessionM) (target i : ℕ) → (slot_at (retargeted s target) i).number ≡ (slot_at s i).number

-- a session has sixteen slots, and those from 0 to its target, at most 15, are open
pub record Manned (s : SessionM) : Type 0 where
  pub sixteen : length s.slots ≡ 16
  pub low : s.target ≤ 15
  pub reach : (i : ℕ) → i ≤ s.target → (slot_at s i).is_open ≡ true

-- each session that stands
abbrev pub AllManned : ServerM → Type 0
AllManned m = (place : ℕ) (s : SessionM) → slice_index_or m.sessions place None ≡ Some s → Manned s

-- from a server as made on, whatever is called
pub record StaysManned (S : ServiceModel) : Type 0 where
  pub made : (boot count : ℕ) → AllManned (new_server boot count)
  pub opened : (m : ServerM) (target : ℕ) → AllManned m → AllManned (after_opening m (open_session m target))
  pub retargeting : (m : ServerM) (id : SessionId) (target : ℕ) → AllManned m → AllManned (after_call m (retarget_session m id target))
  pub closing : (m : ServerM) (id : SessionId) → AllManned m → AllManned (after_call m (close_session m id))
  pub serving : (m : ServerM) (bs : Bytes) → AllManned m → AllManned (serve m bs).after
  pub ran : (k : S.Content) (m : ServerM) (w : Work) → AllManned m → AllManned (server_after S m (run_work S k m w))
  pub resumed : (k : S.Content) (m : ServerM) (id : SessionId) (slot : ℕ) → AllManned m → AllManned (server_after S m (resume_work S k m id slot))

-- Work runs once, and repeats of the request that it came from get what became of it.
pub record Repeats (S : ServiceModel) : Type 0 where
  -- work that has run is in progress no more
  pub once : (k k' : S.Content) (m : ServerM) (w : Work) (r : Run S) → run_work S k m w ≡ Ok r → run_work S k' r.server w ≡ Err no_work
  -- while it is in progress, a repeat is told to wait
  pub waits : (m : ServerM) (bs : Bytes) (q : Request) (w : Work) → read_request bs ≡ Ok q → (serve m bs).answer ≡ work w → (serve (serve m bs).after bs).answer ≡ says (refusing q 10008)
  -- once it has run, a repeat gets the outcome as first made, or hears that it was not kept
  pub same_outcome : (k : S.Content) (m : ServerM) (bs : Bytes) (q : Request) (w : Work) (r : Run S) → read_request bs ≡ Ok q → (serve m bs).answer ≡ work w → run_work S k (serve m bs).after w ≡ Ok r → (serve r.server bs).answer ≡ cond (length q.body == 0 || q.keep) (old r.reply) (says (refusing q 10068))
