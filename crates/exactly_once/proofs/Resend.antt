-- Resend: refused with 1, or it puts a copy of the open call's request; so it keeps the invariant.
use Rattle.std.proofs.Common.{◌≡◌, ℕ, Bool, true, false, cond, ltb, ◌⊎◌, ◌∷◌, length, Some, None, Ok, Err, Option, sym, refl, ap, ◌∙◌, subst, inl, inr, ⊎_elim, arith}
use Rattle.common.specs.Bytes.{Bytes}
use Rattle.common.specs.Search.{In, when_found}
use Rattle.wire.specs.Wire.{Request, request_message, short_scratch, no_terminal, no_open_call}
use Rattle.terminal.specs.Terminal.{TerminalM, OpenCall, end_at, call_request, resent, resend_sends}
use Rattle.std.proofs.lemmas.Bool.{le-ltb, cond-false}
use Rattle.exactly_once.specs.History.{asked_resend, ok, Event, History, refused}
use Rattle.exactly_once.specs.Words.{Call, Session, Open}
use Rattle.exactly_once.specs.Steps.{Parts, Model, Step, terminal_at, refuse, send_by, send_step, is_short, act}
use Rattle.exactly_once.specs.Lived.{PartsLaws}
use Rattle.exactly_once.proofs.Tables.{some_same, set_same}
use Rattle.exactly_once.proofs.Invariant.{Known, TerminalSide, Inv}
use Rattle.exactly_once.proofs.Quiet.{quiet_inv, silent_quiet, took_none, Good, good_cond, good_found, good_refused}
use Rattle.exactly_once.proofs.Unique.{open_newest}
use Rattle.exactly_once.proofs.Present.{same_call}

same_fields : (f : Request) (T : TerminalM) (s n : ℕ) (k : OpenCall) → f.id ≡ T.id → f.number ≡ n → f.slot ≡ s → k.highest ≡ f.highest → k.keep ≡ f.keep → k.body ≡ f.body → f ≡ call_request T s n k
same_fields f T s n k a b c d e g = λ i. record { id = a i; number = b i; slot = c i; highest = sym d i; keep = sym e i; body = sym g i }

-- the open call that a slot holds, and its request
pub record Held (h : History) (o : ℕ) (T : TerminalM) (s : ℕ) (k : OpenCall) : Type 0 where
  pub time : ℕ
  pub call : Call
  pub fields : Request
  pub known : Known h time o call fields
  pub is_open : Open h time call (length h)
  pub is : fields ≡ call_request T s (end_at T s).number k
  pub request : call.request ≡ request_message (call_request T s (end_at T s).number k)

module _ (P : Parts) (first : P.service.Content) (h : History) (m : Model P) (inv : Inv P first h m) where
  pub held : (p o : ℕ) (T : TerminalM) → Session h p o (length h) → terminal_at P m p ≡ Some T → T.id ≡ inv.ids o → (s : ℕ) (k : OpenCall) → (end_at T s).call ≡ Some k → Held h o T s k
  held p o T se at id s k e =
      let side : TerminalSide h o T = inv.terminals p o T se at in
      let w = side.held_open s k e in
      let f = w.2 in
      let v = side.open_held w.0 w.1 f w.3 w.6 in
      let ks : v.0 ≡ k = some_same v.0 k (sym v.1 ∙ ap (λ x. (end_at T x).call) w.4 ∙ e) in
      let named : f.id ≡ T.id = inv.calls.named w.0 o w.1 f w.3 ∙ sym id in
      let same : f ≡ call_request T s (end_at T s).number k = same_fields f T s (end_at T s).number k named w.5 w.4 (ap (λ x. x.highest) (sym ks) ∙ v.3) (ap (λ x. x.keep) (sym ks) ∙ v.4) (ap (λ x. x.body) (sym ks) ∙ v.5) in
      record { time = w.0; call = w.1; fields = f; known = w.3; is_open = w.6; is = same; request = w.3.message ∙ ap request_message same }

  module _ (laws : PartsLaws P) (p s room : ℕ) where
    resent_good : (T : TerminalM) → terminal_at P m p ≡ Some T → (k : OpenCall) → (end_at T s).call ≡ Some k → Good P first h (asked_resend p s room) (send_by P m p (λ i. ok) (Ok (resent T s k)))
    resent_good T at k e = subst (λ ts. Inv P first (ev ∷ h) (record { server = m.server; terminals = ts; content = m.content; requests = P.requests.puts m.requests msg; replies = m.replies })) (sym (set_same m.terminals p T at)) quiet
      where
        msg : Bytes
        msg = request_message (call_request T s (end_at T s).number k)

        ev : Event
        ev = record { asked = asked_resend p s room; answer = ok; put = Some msg; took = None }

        here : (o : ℕ) × Session h p o (length h) × (T.id ≡ inv.ids o)
        here = inv.places.terminal_known p T at

        w : Held h here.0 T s k
        w = held p here.0 T here.1 at here.2 s k e

        waits : (b : Bytes) → In b (P.requests.waits (P.requests.puts m.requests msg)) → In b (P.requests.waits m.requests) ⊎ ((t : ℕ) × (o : ℕ) × (c : Call) × (f : Request) × Known h t o c f × (b ≡ c.request))
        waits b i = ⊎_elim (λ q. inr (w.time, here.0, w.call, w.fields, w.known, q.0 ∙ sym w.request)) inl (laws.requests.put_keeps m.requests msg b i)

        quiet : Inv P first (ev ∷ h) (record { server = m.server; terminals = m.terminals; content = m.content; requests = P.requests.puts m.requests msg; replies = m.replies })
        quiet = quiet_inv P first ev h m (silent_quiet h (asked_resend p s room) ok (Some msg) refl) inv (λ q z. (let x = z.0 in let w : ◌≡◌ {A = ℕ} 0 1 = cc in omega arith)) (λ w room b x y. absurd (took_none b y)) (P.requests.puts m.requests msg) m.replies waits (λ b i. inl i)

    by_terminal : (T : TerminalM) → terminal_at P m p ≡ Some T → Good P first h (asked_resend p s room) (send_by P m p (λ i. ok) (resend_sends T s))
    unfolding resend_sends
    by_terminal T at = go (ltb 15 s) (end_at T s).call refl
      where
        go : (b : Bool) (k : Option OpenCall) → (end_at T s).call ≡ k → Good P first h (asked_resend p s room) (send_by P m p (λ i. ok) (cond b (Err no_open_call) (when_found (Err no_open_call) (λ c. Ok (resent T s c)) k)))
        go true k f = good_refused P first h (asked_resend p s room) m no_open_call inv
        go false None f = good_refused P first h (asked_resend p s room) m no_open_call inv
        go false (Some k) f = resent_good T at k f

    -- resend
    pub resend_keeps : Good P first h (asked_resend p s room) (act P m (asked_resend p s room))
    unfolding send_step
    resend_keeps =
        good_cond P first h (asked_resend p s room) (is_short room) _ _
        (λ e. good_refused P first h (asked_resend p s room) m short_scratch inv)
        (λ e. good_found P first h (asked_resend p s room) _ _ (terminal_at P m p) (good_refused P first h (asked_resend p s room) m no_terminal inv) by_terminal)

-- What a resend of an open call does.
module _ (P : Parts) (first : P.service.Content) (h : History) (m : Model P) (inv : Inv P first h m) (t o : ℕ) (c : Call) (f : Request) (z : Known h t o c f) (op : Open h t c (length h)) where
  -- the session of an open call is the newest at its place
  pub open_session : Session h c.terminal o (length h)
  open_session = open_newest h t o c (length h) z.session z.ordered op

  -- the record at its place, and the open call that its slot holds
  pub record There : Type 0 where
    pub T : TerminalM
    pub terminal : terminal_at P m c.terminal ≡ Some T
    pub id : T.id ≡ inv.ids o
    pub side : TerminalSide h o T
    pub held : OpenCall
    pub holds : (end_at T f.slot).call ≡ Some held
    pub number : f.number ≡ (end_at T f.slot).number

  pub there : There
  there =
      let w = inv.places.terminal_there c.terminal o open_session in
      let side : TerminalSide h o w.0 = inv.terminals c.terminal o w.0 open_session w.1 in
      let k = side.open_held t c f z op in
      record { T = w.0; terminal = w.1; id = w.2; side = side; held = k.0; holds = k.1; number = k.2 }

  -- the slot's request is the call's
  copy_is : (s : ℕ) → f.slot ≡ s → request_message (call_request there.T s (end_at there.T s).number there.held) ≡ c.request
  copy_is s e =
      let at : (end_at there.T s).call ≡ Some there.held = ap (λ x. (end_at there.T x).call) (sym e) ∙ there.holds in
      let w = held P first h m inv c.terminal o there.T open_session there.terminal there.id s there.held at in
      let number : w.fields.number ≡ f.number = ap (λ x. x.number) w.is ∙ ap (λ x. (end_at there.T x).number) (sym e) ∙ sym there.number in
      let cs : w.call ≡ c = (same_call P first h m inv w.time t o o w.call c w.fields f w.known z (inv.calls.named w.time o w.call w.fields w.known ∙ sym (inv.calls.named t o c f z)) (ap (λ x. x.slot) w.is ∙ sym e) number).2 in
      sym w.request ∙ ap (λ x. x.request) cs

  module _ (room : ℕ) where
    sends_copy : resend_sends there.T c.slot ≡ Ok (resent there.T c.slot there.held)
    unfolding resend_sends
    sends_copy =
        cond-false (ltb 15 c.slot) _ _ (ap (ltb 15) (sym z.slot) ∙ le-ltb 15 f.slot (inv.calls.placed t o c f z).0)
        ∙ ap (when_found (Err no_open_call) (λ k. Ok (resent there.T c.slot k))) (ap (λ x. (end_at there.T x).call) (sym z.slot) ∙ there.holds)

    abbrev Puts : Step P → Type 0
    Puts s = (s.answer ≡ refused 1 0) ⊎ ((s.answer ≡ ok) × (s.put ≡ Some c.request))

    -- each resend not refused with 1 puts a copy
    pub resends_now : ((act P m (asked_resend c.terminal c.slot room)).answer ≡ refused 1 0) ⊎ (((act P m (asked_resend c.terminal c.slot room)).answer ≡ ok) × ((act P m (asked_resend c.terminal c.slot room)).put ≡ Some c.request))
    unfolding send_step
    resends_now = go (is_short room)
      where
        found : Puts (when_found (refuse P m no_terminal) (λ (T : TerminalM). send_by P m c.terminal (λ i. ok) (resend_sends T c.slot)) (terminal_at P m c.terminal))
        found = subst (λ x. Puts (when_found (refuse P m no_terminal) (λ (T : TerminalM). send_by P m c.terminal (λ i. ok) (resend_sends T c.slot)) x)) (sym there.terminal) (subst (λ x. Puts (send_by P m c.terminal (λ i. ok) x)) (sym sends_copy) (inr (refl, ap Some (copy_is c.slot z.slot))))

        go : (b : Bool) → Puts (cond b (refuse P m short_scratch) (when_found (refuse P m no_terminal) (λ (T : TerminalM). send_by P m c.terminal (λ i. ok) (resend_sends T c.slot)) (terminal_at P m c.terminal)))
        go true = inl refl
        go false = found
