-- What the newest event does to an open call of a standing session is as promised.
use Rattle.std.proofs.Common.{◌≡◌, ℕ, ◌⊎◌, ◌↔◌, [], ◌∷◌, length, Some, None, sym, ap, ◌∙◌, subst, inl, inr, ⊎_elim, arith}
use Rattle.common.specs.Bytes.{Bytes}
use Rattle.wire.specs.Wire.{Request, refusing, request_message, reply_message}
use Rattle.terminal.specs.Terminal.{Effect, answered, done}
use Rattle.exactly_once.specs.History.{run, aside, Asked, asked_hear, asked_take, refused, ran, set_aside, again, status, taken, ok, Event, History, At}
use Rattle.exactly_once.specs.Words.{Call, Ordered, Stands, Session, ReplyCloses, Open, HeardBefore, Ran, RanBefore}
use Rattle.exactly_once.specs.Promise as promise
use Rattle.exactly_once.specs.Promise.{Fields, PutByRun, Outcome, Served, Result}
use Rattle.exactly_once.specs.Steps.{Parts, Model, act, event_of}
use Rattle.exactly_once.specs.Lived.{PartsLaws}
use Rattle.exactly_once.proofs.Messages.{like_replies}
use Rattle.exactly_once.proofs.Growth as growth
use Rattle.exactly_once.proofs.Growth.{Alike, flip, grown}
use Rattle.exactly_once.proofs.Tables.{some_same}
use Rattle.exactly_once.proofs.Unique.{session_one}
use Rattle.exactly_once.proofs.Newest.{Replies, closes_new, closes_now}
use Rattle.exactly_once.proofs.Invariant.{Known, Put, result, Inv}
use Rattle.exactly_once.proofs.Resend.{resends_now}
use Rattle.exactly_once.proofs.Copies.{first_run_now, first_aside_now, waits_now, kept_now, not_kept_now}
use Rattle.exactly_once.proofs.Earlier.{put_down, out_up, out_down}
use Rattle.exactly_once.proofs.Outcomes.{closes_outcome, outcome_closes, take_answered, take_done}
use Rattle.exactly_once.proofs.Opening.{place_stays}

-- each run has put a reply of status 0 to its call's request
abbrev pub RunsPut : History → Type 0
RunsPut h = (t o : ℕ) (c : Call) (f : Request) (b : Bytes) → Known h t o c f → Put h o c b → (high goal : ℕ) × (y : Bytes) × (b ≡ reply_message (result f high goal y))

-- as the promise says of the results
pub results_put : (P : Parts) (first : P.service.Content) (h : History) → ((t o : ℕ) (c : Call) (f : Request) (y : ℕ) (e : Event) → Ordered h t c → Session h c.terminal o t → Fields P.service.next P.service.reply request_message reply_message c f → Ran h o c y → At h y e → Result P.service.next P.service.reply request_message reply_message h first c f y e) → RunsPut h
results_put P first h results t o c f b z x =
    let w = results t o c f x.0 x.1 z.ordered z.session (z.message, z.slot, z.keep, z.body) x.3 x.4 in
    (w.highest, w.target, w.body, some_same b _ (sym x.5 ∙ w.puts))

module _ (P : Parts) (laws : PartsLaws P) (first : P.service.Content) {h : History} {m : Model P} (inv : Inv P first h m) (puts : RunsPut h) (a : Asked) where
  abbrev e : Event
  e = event_of P m a

  old : Alike (length h) h (e ∷ h)
  old = grown e h

  heard_up : (o : ℕ) (c : Call) → HeardBefore h o c (length h) → HeardBefore (e ∷ h) o c (length h)
  heard_up o c b = growth.heard_before old o c (length h) (omega arith) b

  heard_down : (o : ℕ) (c : Call) → HeardBefore (e ∷ h) o c (length h) → HeardBefore h o c (length h)
  heard_down o c b = growth.heard_before (flip old) o c (length h) (omega arith) b

  ran_up : (o : ℕ) (c : Call) → RanBefore h o c (length h) → RanBefore (e ∷ h) o c (length h)
  ran_up o c b = growth.ran_before old o c (length h) (omega arith) b

  ran_down : (o : ℕ) (c : Call) → RanBefore (e ∷ h) o c (length h) → RanBefore h o c (length h)
  ran_down o c b = growth.ran_before (flip old) o c (length h) (omega arith) b

  abbrev Outcomes : History → ℕ → Call → Request → ℕ → Bytes → Type 0
  Outcomes k o c f x b = Outcome P.service.next P.service.reply request_message reply_message k first o c f x b

  -- a reply that closes now
  closing_now : (c : Call) (g : Effect) → ReplyCloses (e ∷ h) c (length h) g → Replies e c g
  closing_now c g x = ⊎_elim (λ q. q.1) (λ q. absurd (omega (arith, q.0))) (closes_new e h c (length h) g x)

  module _ (t o : ℕ) (c : Call) (k f : Request) (z : Known h t o c k) (same : request_message k ≡ request_message f) (op : Open h t c (length h)) (st : Stands h c.terminal o (length h)) where
    plain_is : (n : ℕ) → reply_message (refusing k n) ≡ promise.plain P.service.next P.service.reply request_message reply_message f n
    plain_is n = like_replies k f same n 0 0 []

    -- a call that sends a status puts its plain reply
    says_plain : (n : ℕ) (w : Asked) → a ≡ w → ((act P m w).answer ≡ status n) × ((act P m w).put ≡ Some (reply_message (refusing k n))) → (e.answer ≡ status n) × (e.put ≡ Some (promise.plain P.service.next P.service.reply request_message reply_message f n))
    says_plain n w q x = (ap (λ y. (act P m y).answer) q ∙ x.0, ap (λ y. (act P m y).put) q ∙ x.1 ∙ ap Some (plain_is n))

    -- an event that asks the same
    took_as : (b : Asked) → a ≡ b → (x : Bytes) → e.took ≡ Some x → (act P m b).took ≡ Some x
    took_as b q x y = subst (λ w. (act P m w).took ≡ Some x) q y

    -- an outcome is the same by either request
    same_outcome : (x y : Request) → reply_message (refusing x 10068) ≡ reply_message (refusing y 10068) → (b : Bytes) → Outcomes (e ∷ h) o c x (length h) b → Outcomes (e ∷ h) o c y (length h) b
    same_outcome x y is b (inl q) = inl q
    same_outcome x y is b (inr q) = inr (q.0, q.1, q.2 ∙ is)

    closes : ((g : Effect) × ReplyCloses (e ∷ h) c (length h) g) ↔ ((room : ℕ) × (b : Bytes) × (a ≡ asked_take room) × (e.took ≡ Some b) × Outcomes (e ∷ h) o c f (length h) b)
    closes = (there, back)
      where
        there : ((g : Effect) × ReplyCloses (e ∷ h) c (length h) g) → (room : ℕ) × (b : Bytes) × (a ≡ asked_take room) × (e.took ≡ Some b) × Outcomes (e ∷ h) o c f (length h) b
        there x =
            let w = closes_outcome P laws first h m inv t o c k z op st a x.0 (closing_now c x.0 x.1) in
            (w.0, w.1, w.2, w.3, same_outcome k f (plain_is 10068) w.1 (out_up P first e h o c k (length h) (omega arith) w.1 w.4))

        back : ((room : ℕ) × (b : Bytes) × (a ≡ asked_take room) × (e.took ≡ Some b) × Outcomes (e ∷ h) o c f (length h) b) → (g : Effect) × ReplyCloses (e ∷ h) c (length h) g
        back x =
            let w = outcome_closes P laws first h m inv t o c k z op (λ b y. puts t o c k b z y) x.0 x.1 (took_as (asked_take x.0) x.2 x.1 x.3) (out_down P first e h o c k (length h) (omega arith) x.1 (same_outcome f k (sym (plain_is 10068)) x.1 x.4)) in
            (w.0, closes_now e h c w.0 (subst (λ y. Replies (event_of P m y) c w.0) (sym x.2) w.1))

    -- an event that closes it with an effect is a take that answers so
    effect_is : (g g' : Effect) (b : Bytes) → e.took ≡ Some b → ReplyCloses (e ∷ h) c (length h) g → ((room : ℕ) → (act P m (asked_take room)).took ≡ Some b → (act P m (asked_take room)).answer ≡ taken c.terminal c.slot g') → g ≡ g'
    effect_is g g' b tk x by =
        let r = closing_now c g x in
        let is : taken c.terminal c.slot g ≡ taken c.terminal c.slot g' = sym r.2 ∙ ap (λ y. (act P m y).answer) r.1 ∙ by r.0 (took_as (asked_take r.0) r.1 b tk) in
        cc

    as_answered : (high goal : ℕ) (b : Bytes) (g : Effect) → e.took ≡ Some (promise.result P.service.next P.service.reply request_message reply_message f high goal b) → ReplyCloses (e ∷ h) c (length h) g → g ≡ answered b
    as_answered high goal b g tk x = effect_is g (answered b) (reply_message (result k high goal b)) (tk ∙ ap Some (sym (like_replies k f same 0 high goal b))) x (take_answered P laws first h m inv t o c k z op high goal b)

    as_done : (g : Effect) → e.took ≡ Some (promise.plain P.service.next P.service.reply request_message reply_message f 10068) → ReplyCloses (e ∷ h) c (length h) g → g ≡ done
    as_done g tk x = effect_is g done (reply_message (refusing k 10068)) (tk ∙ ap Some (sym (plain_is 10068))) x (take_done P laws first h m inv t o c k z op)

    served_by : Served P.service.next P.service.reply request_message reply_message (e ∷ h) first o c f (length h) e
    served_by = record {
      resends = λ room q. subst (λ w. ((act P m w).answer ≡ refused 1 0) ⊎ (((act P m w).answer ≡ ok) × ((act P m w).put ≡ Some c.request))) (sym q) (resends_now P first h m inv t o c k z op room);
      first_run = λ room q tk un. subst (λ w. (act P m w).answer ≡ ran) (sym q) (first_run_now P laws first h m inv t o c k z st room (took_as (asked_hear run room) q c.request tk) (λ b. un (heard_up o c b)));
      first_aside = λ room q tk un. subst (λ w. ((act P m w).answer ≡ set_aside) × ((act P m w).put ≡ None)) (sym q) (first_aside_now P laws first h m inv t o c k z st room (took_as (asked_hear aside room) q c.request tk) (λ b. un (heard_up o c b)));
      waits = λ told room q tk b un. says_plain 10008 (asked_hear told room) q (waits_now P laws first h m inv t o c k z st op told room (took_as (asked_hear told room) q c.request tk) (heard_down o c b) (λ r. un (ran_up o c r)));
      kept = λ told room q tk r un. subst (λ w. ((act P m w).answer ≡ again) × ((b : Bytes) → PutByRun P.service.next P.service.reply request_message reply_message (e ∷ h) first o c (length h) b → (act P m w).put ≡ Some b)) (sym q) (let y = kept_now P laws first h m inv t o c k z st op told room (took_as (asked_hear told room) q c.request tk) (ran_down o c r) un in (y.0, λ b p. y.1 b (put_down P first e h o c (length h) b (omega arith) p)));
      not_kept = λ told room q tk r un. says_plain 10068 (asked_hear told room) q (not_kept_now P laws first h m inv t o c k z st op told room (took_as (asked_hear told room) q c.request tk) (ran_down o c r) un);
      closes = closes;
      as_answered = as_answered;
      as_done = as_done;
      stays = place_stays P first h m inv a c.terminal o st;
    }

  -- by the history before the event
  pub served_now : (t o : ℕ) (c : Call) (f : Request) → Ordered h t c → Session h c.terminal o t → Fields P.service.next P.service.reply request_message reply_message c f → Open h t c (length h) → Stands h c.terminal o (length h) → Served P.service.next P.service.reply request_message reply_message (event_of P m a ∷ h) first o c f (length h) (event_of P m a)
  served_now t o c f or se fi op st =
      let k = inv.calls.known t c or in
      let os : k.0 ≡ o = session_one h c.terminal k.0 o t k.2.session se in
      served_by t o c k.1 f (subst (λ x. Known h t x c k.1) os k.2) (sym k.2.message ∙ fi.0) op st
