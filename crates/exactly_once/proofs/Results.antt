-- What a run puts just now: the service's reply at the content that the runs before it left.
use Rattle.std.proofs.Common.{◌≡◌, ℕ, ◌<◌, List, [], ◌∷◌, length, Some, sym, ap, ◌∙◌, subst, inl, inr, arith}
use Rattle.std.proofs.lemmas.Bool.{cond-true, cond-false, eq-eqb, ne_eqb}
use Rattle.common.specs.Bytes.{Bytes}
use Rattle.wire.specs.Wire.{Request, request_message, reply_message}
use Rattle.server.specs.Server.{is_bare, run_bytes}
use Rattle.exactly_once.specs.History.{run, aside, Asked, Event, History}
use Rattle.exactly_once.specs.Words.{Call, Ordered, Session, Ran}
use Rattle.exactly_once.specs.Promise.{Timed}
use Rattle.exactly_once.specs.Steps.{Parts, Model, act, event_of}
use Rattle.exactly_once.specs.Lived.{PartsLaws}
use Rattle.exactly_once.proofs.Messages.{like_replies}
use Rattle.exactly_once.proofs.Unique.{session_one}
use Rattle.exactly_once.proofs.Newest.{runs_new}
use Rattle.exactly_once.proofs.Runlist.{runs_stay}
use Rattle.exactly_once.proofs.Onelist.{runs_same}
use Rattle.exactly_once.proofs.Invariant.{Known, Inv}
use Rattle.exactly_once.proofs.Carry.{known_old}
use Rattle.exactly_once.proofs.Present.{heard_after}
use Rattle.exactly_once.proofs.Past.{leads, RunList, HasFields, HasResult}
use Rattle.exactly_once.proofs.Earlier.{unrun}
use Rattle.exactly_once.proofs.Runs.{RunNow, run_now}

-- a call is run after it was ordered
pub ran_after : (P : Parts) (first : P.service.Content) (h : History) (m : Model P) → Inv P first h m → (t o : ℕ) (c : Call) (f : Request) (y : ℕ) → Known h t o c f → Ran h o c y → t < y
ran_after P first h m inv t o c f y z (inl r) = heard_after P first h m inv t o c f y run z r.0
ran_after P first h m inv t o c f y z (inr r) = omega (arith, heard_after P first h m inv t o c f r.0 aside z r.1.0, r.2)

-- what is known of an ordered call, with its session given
pub known_in : (P : Parts) (first : P.service.Content) (h : History) (m : Model P) → Inv P first h m → (t o : ℕ) (c : Call) → Ordered h t c → Session h c.terminal o t → (f : Request) × Known h t o c f
known_in P first h m inv t o c or se =
    let k = inv.calls.known t c or in
    (k.1, subst (λ x. Known h t x c k.1) (session_one h c.terminal k.0 o t k.2.session se) k.2)

module _ (P : Parts) (laws : PartsLaws P) (first : P.service.Content) (h : History) (m : Model P) (inv : Inv P first h m) (a : Asked) (after : Inv P first (event_of P m a ∷ h) (act P m a).after) where
  abbrev e : Event
  e = event_of P m a

  -- a call that is run now was known before
  pub runs_known : (t o : ℕ) (c : Call) (f : Request) → Known (e ∷ h) t o c f → Ran (e ∷ h) o c (length h) → Known h t o c f × RunNow P h m t c f (act P m a).put
  runs_known t o c f z r =
      let k = known_old e h t o c f (ran_after P first (e ∷ h) (act P m a).after after t o c f (length h) z r) z in
      (k, run_now P laws first h m inv a t o c f k (runs_new e h o c r))

  -- the runs before now led to the content that the run met
  content_then : (rs : List Timed) → RunList P first (e ∷ h) (length h) rs → leads P first rs ≡ m.content
  content_then rs b =
      let stay = runs_stay P.service.next P.service.reply request_message reply_message e h (unrun P first e h (act P m a).after after) (length h) inv.done.list (omega arith) inv.done.runs in
      let same : rs ≡ inv.done.list = runs_same P.service.next P.service.reply request_message reply_message (e ∷ h) (length h) rs inv.done.list b stay in
      ap (leads P first) same ∙ inv.done.reach

  module _ (t : ℕ) (c : Call) (f g : Request) (same : request_message g ≡ request_message f) (w : RunNow P h m t c g (act P m a).put) where
    abbrev bytes : Bytes
    bytes = run_bytes P.service m.content w.slot

    is_empty : c.body ≡ [] → bytes ≡ []
    is_empty b = cond-true (is_bare w.slot) [] (P.service.reply m.content w.slot.body) (eq-eqb (length w.slot.body) 0 (ap length (w.body ∙ b)))

    is_given : 0 < length c.body → bytes ≡ P.service.reply m.content c.body
    is_given some = cond-false (is_bare w.slot) [] (P.service.reply m.content w.slot.body) (ne_eqb (length w.slot.body) 0 (λ b. omega (arith, some, b, ap length w.body))) ∙ ap (P.service.reply m.content) w.body

    result_of : HasResult P first (e ∷ h) c f (length h) e
    result_of = record {
      highest = w.high;
      target = w.goal;
      body = bytes;
      puts = w.puts ∙ ap Some (like_replies g f same 0 w.high w.goal bytes);
      bare = is_empty;
      given = λ rs some b. is_given some ∙ ap (λ k. P.service.reply k c.body) (sym (content_then rs b));
    }

  pub result_now : (t o : ℕ) (c : Call) (f : Request) → Ordered (e ∷ h) t c → Session (e ∷ h) c.terminal o t → HasFields P first c f → Ran (e ∷ h) o c (length h) → HasResult P first (e ∷ h) c f (length h) e
  result_now t o c f or se fi r =
      let k = known_in P first (e ∷ h) (act P m a).after after t o c or se in
      let w = runs_known t o c k.0 k.1 r in
      result_of t c f k.0 (sym w.0.message ∙ fi.0) w.1
