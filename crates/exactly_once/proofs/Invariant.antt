-- The invariant of a house: what its history and its two ends have to do with each other.
use Rattle.std.proofs.Common.{◌≡◌, ℕ, ◌+◌, ◌^◌, ◌<◌, ◌≤◌, true, false, cond, ltb, ◌⊎◌, List, [], length, get_or, Some, None}
use Rattle.common.specs.Bytes.{Bytes}
use Rattle.common.specs.Search.{In}
use Rattle.wire.specs.Wire.{SessionId, Request, Reply, refusing, request_message, reply_message, FitsRequest}
use Rattle.server.specs.Server.{SlotM, SessionM, Last, never, in_progress, kept, not_kept, is_working, outcome_reply, slot_at}
use Rattle.terminal.specs.Terminal.{TerminalM, EndM, OpenCall, reply_effect, still_open, end_at}
use Rattle.exactly_once.specs.History.{Told, aside, asked_hear, Event, History, At}
use Rattle.exactly_once.specs.Words.{Call, Ordered, Opened, Stands, Session, Open, HeardBefore, FirstHeard, Resumed, Ran, RanBefore}
use Rattle.exactly_once.specs.Promise.{Timed, after, RunsBefore}
use Rattle.exactly_once.specs.Steps.{Parts, Model, terminal_at}
use Rattle.exactly_once.proofs.Messages.{PermittedReply}

-- a call that was ordered, with its session and the fields of its request
pub record Known (h : History) (t o : ℕ) (c : Call) (f : Request) : Type 0 where
  pub ordered : Ordered h t c
  pub session : Session h c.terminal o t
  pub message : c.request ≡ request_message f
  pub slot : f.slot ≡ c.slot
  pub keep : f.keep ≡ c.keep
  pub body : f.body ≡ c.body
  pub fits : FitsRequest f
  pub short : length f.body ≤ 256

-- it has a body, and its reply was not to be kept
abbrev pub Unkept : Call → Type 0
Unkept c = (0 < length c.body) × (c.keep ≡ false)

-- its run has put m
abbrev pub Put : History → ℕ → Call → Bytes → Type 0
Put h o c m = (y : ℕ) × (e : Event) × (y < length h) × Ran h o c y × At h y e × (e.put ≡ Some m)

-- it was set aside and not resumed since
abbrev pub Aside : History → ℕ → Call → Type 0
Aside h o c = (y : ℕ) × FirstHeard h o c y aside × ((z : ℕ) → y < z → z < length h → Resumed h c.terminal c.slot z → ⊥)

-- the reply of status 0 to a request
abbrev pub result : Request → ℕ → ℕ → Bytes → Reply
result f high goal b = outcome_reply f.id f.number f.slot high goal b

-- what a slot keeps of the call that it heard last
abbrev pub ByLast : History → ℕ → Call → Request → Last → Type 0
ByLast h o c f never = ⊥
ByLast h o c f in_progress = Aside h o c × (RanBefore h o c (length h) → ⊥)
ByLast h o c f (kept high goal b) = Put h o c (reply_message (result f high goal b)) × (Unkept c → ⊥) × (high ≤ 15) × (goal ≤ 15) × (length b ≤ 256)
ByLast h o c f not_kept = RanBefore h o c (length h) × Unkept c

pub record Holds (h : History) (o : ℕ) (c : Call) (f : Request) (x : SlotM) : Type 0 where
  pub highest : x.highest ≡ f.highest
  pub keep : x.keep ≡ f.keep
  pub body : x.body ≡ f.body
  pub last : ByLast h o c f x.last

-- 1 while a call is in progress
abbrev pub pend : SlotM → ℕ
pend x = cond (is_working x.last) 1 0

-- how the numbers of the two ends of a slot stand
pub record Close (e : EndM) (x : SlotM) : Type 0 where
  pub low : x.number ≤ e.number
  pub near : e.number + pend x ≤ x.number + 1
  pub free : e.call ≡ None → e.number + pend x ≤ x.number

-- the slot's open call is a part that has run and shut it
pub record Shutting (s : ℕ) (e : EndM) (x : SlotM) : Type 0 where
  pub call : OpenCall
  pub is : e.call ≡ Some call
  pub part : call.part ≡ true
  pub level : e.number ≡ x.number
  pub high : ℕ
  pub goal : ℕ
  pub bytes : Bytes
  pub ran : x.last ≡ kept high goal bytes
  pub below : goal < s

abbrev pub Ready : ℕ → EndM → SlotM → Type 0
Ready s e x = (x.is_open ≡ true) ⊎ Shutting s e x

-- the calls of a history; ids gives a session's id by the time of its open
pub record Calls (h : History) (ids : ℕ → SessionId) : Type 0 where
  pub known : (t : ℕ) (c : Call) → Ordered h t c → (o : ℕ) × (f : Request) × Known h t o c f
  pub named : (t o : ℕ) (c : Call) (f : Request) → Known h t o c f → f.id ≡ ids o
  pub numbered : (t o : ℕ) (c : Call) (f : Request) → Known h t o c f → 1 ≤ f.number
  pub placed : (t o : ℕ) (c : Call) (f : Request) → Known h t o c f → (f.slot ≤ 15) × (f.highest ≤ 15)
  pub formed : (t o : ℕ) (c : Call) (f : Request) → Known h t o c f → (f.slot ≤ f.highest) ⊎ (f.body ≡ [])
  pub once : (t u o : ℕ) (c d : Call) (f g : Request) → Known h t o c f → Known h u o d g → f.slot ≡ g.slot → f.number ≡ g.number → t ≡ u

-- the terminal T, which is the record of the session opened at time o
pub record TerminalSide (h : History) (o : ℕ) (T : TerminalM) : Type 0 where
  pub sixteen : length T.slots ≡ 16
  pub bound : (s : ℕ) → (end_at T s).number ≤ 4294967295
  pub low : (t : ℕ) (c : Call) (f : Request) → Known h t o c f → f.number ≤ (end_at T f.slot).number
  -- an open call is the one that its slot holds
  pub open_held : (t : ℕ) (c : Call) (f : Request) → Known h t o c f → Open h t c (length h) → (k : OpenCall) × ((end_at T f.slot).call ≡ Some k) × (f.number ≡ (end_at T f.slot).number) × (k.highest ≡ f.highest) × (k.keep ≡ f.keep) × (k.body ≡ f.body)
  pub held_open : (s : ℕ) (k : OpenCall) → (end_at T s).call ≡ Some k → (t : ℕ) × (c : Call) × (f : Request) × Known h t o c f × (f.slot ≡ s) × (f.number ≡ (end_at T s).number) × Open h t c (length h)
  pub held_usable : (s : ℕ) (k : OpenCall) → (end_at T s).call ≡ Some k → (end_at T s).usable ≡ true
  pub held_part : (s : ℕ) (k : OpenCall) → (end_at T s).call ≡ Some k → (k.part ≡ ltb k.highest s) × (k.part ≡ true → k.body ≡ [])

-- the session S, opened at time o, which stands
pub record ServerSide (h : History) (o : ℕ) (S : SessionM) : Type 0 where
  pub sixteen : length S.slots ≡ 16
  pub target : S.target ≤ 15
  pub target_open : (s : ℕ) → s ≤ S.target → (slot_at S s).is_open ≡ true
  pub heard_low : (t : ℕ) (c : Call) (f : Request) → Known h t o c f → HeardBefore h o c (length h) → f.number ≤ (slot_at S f.slot).number
  pub low_heard : (t : ℕ) (c : Call) (f : Request) → Known h t o c f → f.number ≤ (slot_at S f.slot).number → HeardBefore h o c (length h)
  pub older_ran : (t : ℕ) (c : Call) (f : Request) → Known h t o c f → f.number < (slot_at S f.slot).number → RanBefore h o c (length h)
  pub last_holds : (t : ℕ) (c : Call) (f : Request) → Known h t o c f → f.number ≡ (slot_at S f.slot).number → Holds h o c f (slot_at S f.slot)
  pub last_known : (s : ℕ) → 1 ≤ (slot_at S s).number → (t : ℕ) × (c : Call) × (f : Request) × Known h t o c f × (f.slot ≡ s) × (f.number ≡ (slot_at S s).number)
  pub unused : (s : ℕ) → (slot_at S s).number ≡ 0 → (slot_at S s).last ≡ never

-- both ends of a standing session
pub record BothSides (h : History) (o : ℕ) (T : TerminalM) (S : SessionM) : Type 0 where
  pub close : (s : ℕ) → Close (end_at T s) (slot_at S s)
  pub usable_ready : (s : ℕ) → (end_at T s).usable ≡ true → Ready s (end_at T s) (slot_at S s)
  pub fresh_ready : (t : ℕ) (c : Call) (f : Request) (k : OpenCall) (high goal : ℕ) (b : Bytes) → Known h t o c f → (end_at T f.slot).call ≡ Some k → f.number ≡ (end_at T f.slot).number → k.fresh ≡ true → goal ≤ 15 → Put h o c (reply_message (result f high goal b)) → (s : ℕ) → s ≤ goal → Ready s (end_at T s) (slot_at S s)

-- a reply that may wait: it answers the call c
abbrev pub ByStatus : History → ℕ → Call → Request → Reply → Type 0
ByStatus h o c f r =
    ((r.status ≡ 0) × Put h o c (reply_message r)) ⊎ (((r.status ≡ 10068) × RanBefore h o c (length h) × Unkept c × (r ≡ refusing f 10068)) ⊎ (((r.status ≡ 10052) × (Stands h c.terminal o (length h) → ⊥)) ⊎ (reply_effect r ≡ still_open r.status)))

pub record Answers (h : History) (o : ℕ) (c : Call) (f : Request) (r : Reply) : Type 0 where
  pub permitted : PermittedReply r
  pub id : r.id ≡ f.id
  pub number : r.number ≡ f.number
  pub slot : r.slot ≡ f.slot
  pub by_status : ByStatus h o c f r

module _ (P : Parts) where
  -- the places, at the server and at the terminals, and the sessions' ids
  pub record Places (h : History) (ids : ℕ → SessionId) (m : Model P) : Type 0 where
    pub eight_sessions : length m.server.sessions ≡ 8
    pub eight_terminals : length m.terminals ≡ 8
    pub boot_fits : m.server.boot < 2 ^ 64
    pub count_fits : m.server.count < 2 ^ 64
    pub counted : (o p : ℕ) → Opened h o p → ((ids o).boot ≡ m.server.boot) × ((ids o).count < m.server.count)
    pub apart : (o u p q : ℕ) → Opened h o p → Opened h u q → ids o ≡ ids u → o ≡ u
    pub newest : (p o : ℕ) → Stands h p o (length h) → Session h p o (length h)
    pub terminal_there : (p o : ℕ) → Session h p o (length h) → (T : TerminalM) × (terminal_at P m p ≡ Some T) × (T.id ≡ ids o)
    pub terminal_known : (p : ℕ) (T : TerminalM) → terminal_at P m p ≡ Some T → (o : ℕ) × Session h p o (length h) × (T.id ≡ ids o)
    pub session_there : (p o : ℕ) → Stands h p o (length h) → (S : SessionM) × (get_or m.server.sessions p None ≡ Some S) × (S.id ≡ ids o)
    pub session_known : (p : ℕ) (S : SessionM) → get_or m.server.sessions p None ≡ Some S → (o : ℕ) × Stands h p o (length h) × (S.id ≡ ids o)

  -- what waits in the two channels
  pub record Waiting (h : History) (m : Model P) : Type 0 where
    pub requests : (b : Bytes) → In b (P.requests.waits m.requests) → (t : ℕ) × (o : ℕ) × (c : Call) × (f : Request) × Known h t o c f × (b ≡ c.request)
    -- what a hear took was the request of a call ordered before
    pub heard : (x : ℕ) (e : Event) (w : Told) (room : ℕ) (b : Bytes) → At h x e → e.asked ≡ asked_hear w room → e.took ≡ Some b → (t : ℕ) × (o : ℕ) × (c : Call) × (f : Request) × Known h t o c f × (b ≡ c.request) × (t < x)
    pub replies : (b : Bytes) → In b (P.replies.waits m.replies) → (t : ℕ) × (o : ℕ) × (c : Call) × (f : Request) × (r : Reply) × Known h t o c f × (b ≡ reply_message r) × Answers h o c f r

  -- the calls with bodies that have run, in that order, lead to the present content
  pub record Done (first : P.service.Content) (h : History) (m : Model P) : Type 0 where
    pub list : List Timed
    pub runs : RunsBefore P.service.next P.service.reply request_message reply_message h (length h) list
    pub reach : after P.service.next P.service.reply request_message reply_message first list ≡ m.content

  -- the whole
  pub record Inv (first : P.service.Content) (h : History) (m : Model P) : Type 0 where
    pub ids : ℕ → SessionId
    pub calls : Calls h ids
    pub places : Places h ids m
    pub terminals : (p o : ℕ) (T : TerminalM) → Session h p o (length h) → terminal_at P m p ≡ Some T → TerminalSide h o T
    pub sessions : (p o : ℕ) (S : SessionM) → Stands h p o (length h) → get_or m.server.sessions p None ≡ Some S → ServerSide h o S
    pub both : (p o : ℕ) (T : TerminalM) (S : SessionM) → Stands h p o (length h) → terminal_at P m p ≡ Some T → get_or m.server.sessions p None ≡ Some S → BothSides h o T S
    pub waiting : Waiting h m
    pub done : Done first h m
