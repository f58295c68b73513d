-- What holds of all times of a history, kept beside the invariant while the history grows.
use Rattle.std.proofs.Common.{◌≡◌, ℕ, List, [], inl, inr}
use Rattle.common.specs.Bytes.{Bytes}
use Rattle.wire.specs.Wire.{Request, request_message, reply_message}
use Rattle.terminal.specs.Terminal.{answered, done}
use Rattle.exactly_once.specs.History.{ordered, Event, History, At}
use Rattle.exactly_once.specs.Words.{Call, Ordered, Stands, Session, Open, Closed, Ran, RanBefore}
use Rattle.exactly_once.specs.Promise.{Timed, after, RunsBefore, Fields, result, PutByRun, Served, Result}
use Rattle.exactly_once.specs.Steps.{Parts}
use Rattle.exactly_once.proofs.Invariant.{Known}

module _ (P : Parts) (first : P.service.Content) where
  -- the promise's words at the parts of a house
  abbrev pub RunList : History → ℕ → List Timed → Type 0
  RunList h x rs = RunsBefore P.service.next P.service.reply request_message reply_message h x rs

  abbrev pub HasFields : Call → Request → Type 0
  HasFields c f = Fields P.service.next P.service.reply request_message reply_message c f

  abbrev pub ResultPut : History → ℕ → Call → ℕ → Bytes → Type 0
  ResultPut h o c x m = PutByRun P.service.next P.service.reply request_message reply_message h first o c x m

  abbrev pub IsServed : History → ℕ → Call → Request → ℕ → Event → Type 0
  IsServed h o c f x e = Served P.service.next P.service.reply request_message reply_message h first o c f x e

  abbrev pub HasResult : History → Call → Request → ℕ → Event → Type 0
  HasResult h c f y e = Result P.service.next P.service.reply request_message reply_message h first c f y e

  abbrev pub outcome : Request → ℕ → ℕ → Bytes → Bytes
  outcome f high goal b = result P.service.next P.service.reply request_message reply_message f high goal b

  -- the content that the runs of a list lead to
  abbrev pub leads : List Timed → P.service.Content
  leads rs = after P.service.next P.service.reply request_message reply_message first rs

  pub record Past (h : History) : Type 0 where
    pub runs : (x : ℕ) → (rs : List Timed) × RunList h x rs
    pub orders : (t : ℕ) (e : Event) (s : ℕ) → At h t e → e.answer ≡ ordered s → (c : Call) × (o : ℕ) × Ordered h t c × Session h c.terminal o t
    pub serves : (t o : ℕ) (c : Call) (f : Request) (x : ℕ) (e : Event) → Ordered h t c → Session h c.terminal o t → HasFields c f → Open h t c x → Stands h c.terminal o x → At h x e → IsServed h o c f x e
    pub results : (t o : ℕ) (c : Call) (f : Request) (y : ℕ) (e : Event) → Ordered h t c → Session h c.terminal o t → HasFields c f → Ran h o c y → At h y e → HasResult h c f y e
    -- a call is open when it is run
    pub ran_open : (t o : ℕ) (c : Call) (f : Request) (y : ℕ) → Known h t o c f → Ran h o c y → Open h t c y
    -- a call closed as answered has the bytes that its run put, and one closed as done has run
    pub closed_answered : (t o : ℕ) (c : Call) (f : Request) (x : ℕ) (b : Bytes) → Known h t o c f → Closed h t c x (answered b) → (high : ℕ) × (goal : ℕ) × ResultPut h o c x (outcome f high goal b)
    pub closed_done : (t o : ℕ) (c : Call) (f : Request) (x : ℕ) → Known h t o c f → Closed h t c x done → RanBefore h o c x

  -- before anything happened
  pub past_made : Past []
  past_made = record {
    runs = λ x. ([], record { each = λ r i. absurd i; all = λ r o or body se ra. absurd or.1; ascend = λ a b z q r o p y w is sq sr rq rr. absurd (nothing q.call o y rq) });
    orders = λ t e s a. absurd a;
    serves = λ t o c f x e or. absurd or.1;
    results = λ t o c f y e or. absurd or.1;
    ran_open = λ t o c f y z. absurd z.ordered.1;
    closed_answered = λ t o c f x b z. absurd z.ordered.1;
    closed_done = λ t o c f x z. absurd z.ordered.1;
  }
    where
      nothing : (c : Call) (o y : ℕ) → Ran [] o c y → ⊥
      nothing c o y (inl z) = z.0.2
      nothing c o y (inr z) = z.3.2
