-- The words of the promise, each from the history alone.
use Rattle.std.specs.Prelude.{◌≡◌, ℕ, ◌<◌, Bool, false, ◌⊎◌, [], Some}
use Rattle.common.specs.Bytes.{Bytes}
use Rattle.terminal.specs.Terminal.{Effect, answered, done, unknown}
use Rattle.exactly_once.specs.History.{Told, run, aside, asked_open, asked_order, asked_part, asked_hear, asked_resume, asked_take, asked_close, opened, ordered, taken, ok, Event, History, At}

-- an ordered call: its terminal and slot, its keep and body, and the request that was put for it
pub record Call : Type 0 where
  pub terminal : ℕ
  pub slot : ℕ
  pub keep : Bool
  pub body : Bytes
  pub request : Bytes

module _ (h : History) where
  -- an accepted order or part at time t orders the call c; a part has no body and keep 0
  abbrev pub Ordered : ℕ → Call → Type 0
  Ordered t c =
      (e : Event) × At h t e × (e.answer ≡ ordered c.slot) × (e.put ≡ Some c.request) × (((room : ℕ) × (e.asked ≡ asked_order c.terminal c.keep c.body room)) ⊎ ((room : ℕ) × (e.asked ≡ asked_part c.terminal c.slot room) × (c.keep ≡ false) × (c.body ≡ [])))

  -- an open accepted at time t gave the place p
  abbrev pub Opened : ℕ → ℕ → Type 0
  Opened t p = (e : Event) × (n : ℕ) × At h t e × (e.asked ≡ asked_open n) × (e.answer ≡ opened p)

  -- the session at p was closed at time t
  abbrev pub ClosedSession : ℕ → ℕ → Type 0
  ClosedSession t p = (e : Event) × At h t e × (e.asked ≡ asked_close p) × (e.answer ≡ ok)

  -- the session opened at p at time o stands just before time t
  abbrev pub Stands : ℕ → ℕ → ℕ → Type 0
  Stands p o t = Opened o p × (o < t) × ((x : ℕ) → o < x → x < t → ClosedSession x p → ⊥)

  -- what was ordered at time t belongs to the session opened at p at time o
  abbrev pub Session : ℕ → ℕ → ℕ → Type 0
  Session p o t = Opened o p × (o < t) × ((x : ℕ) → o < x → x < t → Opened x p → ⊥)

  -- a reply taken at time x closed the call then open at c's terminal and slot
  abbrev pub ReplyCloses : Call → ℕ → Effect → Type 0
  ReplyCloses c x f =
      (e : Event) × (room : ℕ) × At h x e × (e.asked ≡ asked_take room) × (e.answer ≡ taken c.terminal c.slot f) × (((b : Bytes) × (f ≡ answered b)) ⊎ (f ≡ done) ⊎ (f ≡ unknown))

  -- the call c ordered at time t is open just before time x: no reply has closed it,
  -- and its terminal's record was not replaced
  abbrev pub Open : ℕ → Call → ℕ → Type 0
  Open t c x = (t < x) × ((y : ℕ) (f : Effect) → t < y → y < x → ReplyCloses c y f → ⊥) × ((y : ℕ) → t < y → y < x → Opened y c.terminal → ⊥)

  -- the call c ordered at time t was closed at time x, with effect f, by a reply
  abbrev pub Closed : ℕ → Call → ℕ → Effect → Type 0
  Closed t c x f = Open t c x × ReplyCloses c x f

  -- the call c ordered at time t is no longer open at time x
  abbrev pub Over : ℕ → Call → ℕ → Type 0
  Over t c x = (y : ℕ) × (t < y) × (y < x) × (((f : Effect) × ReplyCloses c y f) ⊎ Opened y c.terminal)

  -- a copy of c, whose session was opened at time o, is heard at time x, with what hear was told
  abbrev pub Heard : ℕ → Call → ℕ → Told → Type 0
  Heard o c x w =
      (e : Event) × (room : ℕ) × At h x e × (e.asked ≡ asked_hear w room) × (e.took ≡ Some c.request) × Stands c.terminal o x

  -- a copy of c is heard before time x
  abbrev pub HeardBefore : ℕ → Call → ℕ → Type 0
  HeardBefore o c x = (y : ℕ) × (w : Told) × (y < x) × Heard o c y w

  -- and none before that time
  abbrev pub FirstHeard : ℕ → Call → ℕ → Told → Type 0
  FirstHeard o c x w = Heard o c x w × (HeardBefore o c x → ⊥)

  -- a resume was accepted at time x at terminal p and slot s
  abbrev pub Resumed : ℕ → ℕ → ℕ → Type 0
  Resumed p s x = (e : Event) × (room : ℕ) × At h x e × (e.asked ≡ asked_resume p s room) × (e.answer ≡ ok)

  -- c was run at time x: by the hear of its first copy, or, set aside then, by the first resume at its slot since
  abbrev pub Ran : ℕ → Call → ℕ → Type 0
  Ran o c x =
      FirstHeard o c x run ⊎ ((y : ℕ) × FirstHeard o c y aside × (y < x) × Resumed c.terminal c.slot x × Stands c.terminal o x × ((z : ℕ) → y < z → z < x → Resumed c.terminal c.slot z → ⊥))

  -- c was run before time x
  abbrev pub RanBefore : ℕ → Call → ℕ → Type 0
  RanBefore o c x = (y : ℕ) × (y < x) × Ran o c y
