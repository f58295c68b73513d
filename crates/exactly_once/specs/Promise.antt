-- The promise of a house, over its history: what its service has done, what an open call can count on,
-- and how the two ends of a session agree.
use Rattle.std.specs.Prelude.{◌≡◌, ℕ, ◌+◌, ◌<◌, ◌≤◌, Bool, true, false, ◌⊎◌, ◌↔◌, List, [], ◌∷◌, ◌++◌, length, Some, None, ◌≢◌}
use Rattle.common.specs.Bytes.{Bytes}
use Rattle.common.specs.Search.{In}
use Rattle.terminal.specs.Terminal.{Effect, answered, done, unknown}
use Rattle.wire.specs.Wire.{Request, Reply}
use Rattle.exactly_once.specs.History.{Told, run, aside, asked_resend, asked_hear, asked_take, refused, ordered, ran, set_aside, again, status, ok, Event, History, At}
use Rattle.exactly_once.specs.Words.{Call, Ordered, Opened, Stands, Session, ReplyCloses, Open, Closed, Over, HeardBefore, Ran, RanBefore}

-- an ordered call with the time of its order
pub record Timed : Type 0 where
  pub time : ℕ
  pub call : Call

-- no time comes twice
abbrev pub Distinct : List Timed → Type 0
Distinct [] = Unit {0}
Distinct (x ∷ xs) = ((y : Timed) → In y xs → x.time ≢ y.time) × Distinct xs

-- what the two ends hold of a terminal's slot
pub record Ends : Type 0 where
  pub at_rest : ℕ → ℕ → Bool
  pub usable : ℕ → ℕ → Bool
  pub terminal_number : ℕ → ℕ → ℕ
  pub server_number : ℕ → ℕ → ℕ
  pub server_open : ℕ → ℕ → Bool

module _ {Content : Type 0} (next : Content → Bytes → Content) (reply : Content → Bytes → Bytes) (request_message : Request → Bytes) (reply_message : Reply → Bytes) where
  -- the content after the calls of a list have run in turn
  abbrev pub after : Content → List Timed → Content
  after k [] = k
  after k (c ∷ cs) = after (next k c.call.body) cs

  -- Some list of ordered calls with bodies, none twice, takes the service from its first content to its present.
  pub record Explained (h : History) (first present : Content) : Type 0 where
    pub calls : List Timed
    pub are_ordered : (c : Timed) → In c calls → Ordered h c.time c.call × (0 < length c.call.body)
    pub distinct : Distinct calls
    pub reaches : after first calls ≡ present
    -- each answered one has the bytes that the service gave at its place
    pub answers : (before later : List Timed) (c : Timed) → calls ≡ before ++ (c ∷ later) → (x : ℕ) (b : Bytes) → Closed h c.time c.call x (answered b) → b ≡ reply (after first before) c.call.body
    -- each call with a body that is answered or known as done is in the list
    pub complete : (c : Timed) → Ordered h c.time c.call → 0 < length c.call.body → (x : ℕ) (f : Effect) → Closed h c.time c.call x f → (f ≢ unknown) → In c calls
    -- of two, one closed before the other was ordered comes first
    pub in_order : (a b z : List Timed) (c d : Timed) → calls ≡ a ++ (c ∷ (b ++ (d ∷ z))) → Over h d.time d.call c.time → ⊥

  -- the calls with bodies that ran before time x, in the order in which they ran
  pub record RunsBefore (h : History) (x : ℕ) (rs : List Timed) : Type 0 where
    pub each : (r : Timed) → In r rs → Ordered h r.time r.call × (0 < length r.call.body) × ((o : ℕ) × Session h r.call.terminal o r.time × RanBefore h o r.call x)
    pub all : (r : Timed) (o : ℕ) → Ordered h r.time r.call → 0 < length r.call.body → Session h r.call.terminal o r.time → RanBefore h o r.call x → In r rs
    pub ascend : (a b z : List Timed) (q r : Timed) (o p y w : ℕ) → rs ≡ a ++ (q ∷ (b ++ (r ∷ z))) → Session h q.call.terminal o q.time → Session h r.call.terminal p r.time → Ran h o q.call y → Ran h p r.call w → y < w

  -- f holds the fields of the request that was put for c: its slot, its keep and its body are the call's
  abbrev pub Fields : Call → Request → Type 0
  Fields c f = (c.request ≡ request_message f) × (f.slot ≡ c.slot) × (f.keep ≡ c.keep) × (f.body ≡ c.body)

  -- a reply that carries a status other than 0
  abbrev pub plain : Request → ℕ → Bytes
  plain f n = reply_message (record { status = n; id = f.id; number = f.number; slot = f.slot; highest = 0; target = 0; body = [] })

  -- the reply of status 0 that a run puts
  abbrev pub result : Request → ℕ → ℕ → Bytes → Bytes
  result f high goal b = reply_message (record { status = 0; id = f.id; number = f.number; slot = f.slot; highest = high; target = goal; body = b })

  -- the call has a body and its reply was not to be kept
  abbrev pub NotKept : Call → Type 0
  NotKept c = (0 < length c.body) × (c.keep ≡ false)

  module _ (h : History) (first : Content) where
    -- m was put by the run of c before time x
    abbrev pub PutByRun : ℕ → Call → ℕ → Bytes → Type 0
    PutByRun o c x m = (y : ℕ) × (e : Event) × (y < x) × Ran h o c y × At h y e × (e.put ≡ Some m)

    -- m is an outcome of c just before time x
    abbrev pub Outcome : ℕ → Call → Request → ℕ → Bytes → Type 0
    Outcome o c f x m = PutByRun o c x m ⊎ (RanBefore h o c x × NotKept c × (m ≡ plain f 10068))

    -- what happens at time x to the open call c, with the fields f, of the session opened at time o, which stands
    pub record Served (o : ℕ) (c : Call) (f : Request) (x : ℕ) (e : Event) : Type 0 where
      -- each resend not refused with 1 puts a copy
      pub resends : (room : ℕ) → e.asked ≡ asked_resend c.terminal c.slot room → (e.answer ≡ refused 1 0) ⊎ ((e.answer ≡ ok) × (e.put ≡ Some c.request))
      -- the first copy heard runs it or sets it aside, as told
      pub first_run : (room : ℕ) → e.asked ≡ asked_hear run room → e.took ≡ Some c.request → (HeardBefore h o c x → ⊥) → e.answer ≡ ran
      pub first_aside : (room : ℕ) → e.asked ≡ asked_hear aside room → e.took ≡ Some c.request → (HeardBefore h o c x → ⊥) → (e.answer ≡ set_aside) × (e.put ≡ None)
      -- later ones send 10008 until it has run
      pub waits : (w : Told) (room : ℕ) → e.asked ≡ asked_hear w room → e.took ≡ Some c.request → HeardBefore h o c x → (RanBefore h o c x → ⊥) → (e.answer ≡ status 10008) × (e.put ≡ Some (plain f 10008))
      -- and then its outcome
      pub kept : (w : Told) (room : ℕ) → e.asked ≡ asked_hear w room → e.took ≡ Some c.request → RanBefore h o c x → (NotKept c → ⊥) → (e.answer ≡ again) × ((m : Bytes) → PutByRun o c x m → e.put ≡ Some m)
      pub not_kept : (w : Told) (room : ℕ) → e.asked ≡ asked_hear w room → e.took ≡ Some c.request → RanBefore h o c x → NotKept c → (e.answer ≡ status 10068) × (e.put ≡ Some (plain f 10068))
      -- it closes exactly when an outcome of it is first taken
      pub closes : ((g : Effect) × ReplyCloses h c x g) ↔ ((room : ℕ) × (m : Bytes) × (e.asked ≡ asked_take room) × (e.took ≡ Some m) × Outcome o c f x m)
      -- the reply of the run closes it as answered, with its body, and 10068 as done
      pub as_answered : (high goal : ℕ) (b : Bytes) (g : Effect) → e.took ≡ Some (result f high goal b) → ReplyCloses h c x g → g ≡ answered b
      pub as_done : (g : Effect) → e.took ≡ Some (plain f 10068) → ReplyCloses h c x g → g ≡ done
      -- and nothing else ends it: its terminal's record is not replaced
      pub stays : Opened h x c.terminal → ⊥

    -- what the run of c at time y puts: the service's reply at the content that the runs before it left
    pub record Result (c : Call) (f : Request) (y : ℕ) (e : Event) : Type 0 where
      pub highest : ℕ
      pub target : ℕ
      pub body : Bytes
      pub puts : e.put ≡ Some (result f highest target body)
      pub bare : c.body ≡ [] → body ≡ []
      pub given : (rs : List Timed) → 0 < length c.body → RunsBefore h y rs → body ≡ reply (after first rs) c.body

    -- the whole promise
    pub record KeptPromise (ends : Ends) (present : Content) : Type 0 where
      pub explained : Explained h first present
      -- at each time there is such a list of the runs before it, and at present it leads to the present content
      pub runs : (x : ℕ) → (rs : List Timed) × RunsBefore h x rs
      pub runs_reach : (rs : List Timed) → RunsBefore h (length h) rs → after first rs ≡ present
      -- each accepted order or part orders a call, in a session
      pub orders : (t : ℕ) (e : Event) (s : ℕ) → At h t e → e.answer ≡ ordered s → (c : Call) × (o : ℕ) × Ordered h t c × Session h c.terminal o t
      -- an ordered call's request carries its slot, keep and body
      pub sends : (t : ℕ) (c : Call) → Ordered h t c → (f : Request) × Fields c f
      pub served : (t o : ℕ) (c : Call) (f : Request) (x : ℕ) (e : Event) → Ordered h t c → Session h c.terminal o t → Fields c f → Open h t c x → Stands h c.terminal o x → At h x e → Served o c f x e
      pub results : (t o : ℕ) (c : Call) (f : Request) (y : ℕ) (e : Event) → Ordered h t c → Session h c.terminal o t → Fields c f → Ran h o c y → At h y e → Result c f y e
      -- in a standing session a slot is at rest exactly when no call of it is open
      pub rests : (p o s : ℕ) → Stands h p o (length h) → s ≤ 15 → (ends.at_rest p s ≡ true) ↔ ((t : ℕ) (c : Call) → Ordered h t c → c.terminal ≡ p → c.slot ≡ s → Open h t c (length h) → ⊥)
      -- a slot at rest has equal numbers at both ends and, if usable, is open at the server
      pub equal : (p o s : ℕ) → Stands h p o (length h) → s ≤ 15 → ends.at_rest p s ≡ true → ends.terminal_number p s ≡ ends.server_number p s
      pub usable_open : (p o s : ℕ) → Stands h p o (length h) → s ≤ 15 → ends.at_rest p s ≡ true → ends.usable p s ≡ true → ends.server_open p s ≡ true
      -- with a call open the terminal holds the next number until a copy is heard, then the same
      pub ahead : (t o : ℕ) (c : Call) → Ordered h t c → Open h t c (length h) → Session h c.terminal o t → Stands h c.terminal o (length h) → (HeardBefore h o c (length h) → ⊥) → ends.terminal_number c.terminal c.slot ≡ ends.server_number c.terminal c.slot + 1
      pub level : (t o : ℕ) (c : Call) → Ordered h t c → Open h t c (length h) → Session h c.terminal o t → Stands h c.terminal o (length h) → HeardBefore h o c (length h) → ends.terminal_number c.terminal c.slot ≡ ends.server_number c.terminal c.slot
