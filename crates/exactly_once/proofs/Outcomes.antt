-- A take closes an open call of a standing session with an outcome of it, and with nothing else; and each outcome taken closes it.
use Rattle.std.proofs.Common.{◌≡◌, ℕ, ◌+◌, ◌^◌, ◌<◌, true, false, cond, eqb, leb, length, get_or, is_some, Some, None, Ok, Err, Option, Result, sym, refl, ap, ◌∙◌, subst, inl, inr, ⊎_elim, arith}
use borrow.Author.Tests.{clash}
use Rattle.std.proofs.lemmas.Bool.{and_from, le-leb, eq-eqb, cond_both, cases_Bool}
use Rattle.common.specs.Bytes.{Bytes}
use Rattle.wire.specs.Wire.{same_id, Request, Reply, Refusal, refusing, request_message, reply_message, read_reply, nothing_waits, no_call, FitsReply}
use Rattle.common.specs.Search.{when_found, lowest_at}
use Rattle.terminal.specs.Terminal.{TerminalM, Effect, answered, done, reply_effect, belongs, accept_effect, end_at, is_busy}
use Rattle.exactly_once.specs.History.{Asked, asked_take, taken, History}
use Rattle.exactly_once.specs.Words.{Call, Opened, Session, Stands, Open, RanBefore}
use Rattle.exactly_once.specs.Promise.{Outcome}
use Rattle.exactly_once.specs.Steps.{Parts, Model, Step, terminal_at, refuse, rest_replies, bears, take_stops, take_effect, take_at, take_read, take_step, is_short, act, event_of}
use Rattle.exactly_once.specs.Lived.{PartsLaws}
use Rattle.exactly_once.proofs.Messages.{read_written_reply, same_reply_status, same_reply_body, same_reply_head}
use Rattle.exactly_once.proofs.Tables.{some_same, within, lowest_is, same_id_true, same_id_refl}
use Rattle.exactly_once.proofs.Unique.{opened_one, open_newest}
use Rattle.exactly_once.proofs.Newest.{Replies}
use Rattle.exactly_once.proofs.Invariant.{Known, Unkept, Put, result, Answers, Inv}
use Rattle.exactly_once.proofs.Quiet.{took_none}
use Rattle.exactly_once.proofs.Take.{effect_answered, effect_done}
use Rattle.exactly_once.proofs.Taken.{take_tells, answers_this, answers_open, ClosingReply, closing_reply}

module _ (P : Parts) (laws : PartsLaws P) (first : P.service.Content) (h : History) (m : Model P) (inv : Inv P first h m) (t o : ℕ) (c : Call) (f : Request) (z : Known h t o c f) (op : Open h t c (length h)) where
  -- the event that closes c took a reply that answers it
  pub closed_by : (a : Asked) (g : Effect) → Replies (event_of P m a) c g → (r : Reply) × ((act P m a).took ≡ Some (reply_message r)) × Answers h o c f r × (reply_effect r ≡ g)
  closed_by a g y =
      let w = take_tells P laws first h m inv y.0 c.terminal c.slot g (ap (λ x. (act P m x).answer) (sym y.1) ∙ y.2) in
      (w.r, ap (λ x. (act P m x).took) y.1 ∙ w.took, answers_open P first h m inv t o c f z op w.t w.o w.c w.f w.r w.known w.answers w.T w.at w.belongs_to w.slot, w.effect)

  -- and by what kind of reply
  pub closed_how : (a : Asked) (g : Effect) → Replies (event_of P m a) c g → (b : Bytes) × ((act P m a).took ≡ Some b) × ClosingReply h o c f b g
  closed_how a g y =
      let w = closed_by a g y in
      (reply_message w.0, w.1, closing_reply h o c f w.0 g w.2 w.3 y.3)

  -- in a standing session it was an outcome of c
  pub closes_outcome : Stands h c.terminal o (length h) → (a : Asked) (g : Effect) → Replies (event_of P m a) c g → (room : ℕ) × (b : Bytes) × (a ≡ asked_take room) × ((act P m a).took ≡ Some b) × Outcome P.service.next P.service.reply request_message reply_message h first o c f (length h) b
  closes_outcome st a g y = let w = closed_how a g y in (y.0, w.0, y.1, w.1, go w.0 w.2)
    where
      go : (b : Bytes) → ClosingReply h o c f b g → Outcome P.service.next P.service.reply request_message reply_message h first o c f (length h) b
      go b (inl x) = inl x.5
      go b (inr (inl x)) = inr (x.2, x.3, x.1)
      go b (inr (inr x)) = absurd (x.1 st)

  abbrev m1 : Model P
  m1 = rest_replies P m

  -- what was taken is told
  took_read : (b : Bytes) (x : Result Reply Refusal) → (take_read P m1 b x).took ≡ Some b
  took_read b (Err e) = refl
  took_read b (Ok r) = found (lowest_at (bears r) m.terminals 0)
    where
      accepted : (p : ℕ) (T : TerminalM) (x : Option Effect) → (when_found (take_stops P m1 b no_call) (take_effect P m1 b p r T) x).took ≡ Some b
      accepted p T None = refl
      accepted p T (Some g) = refl

      there : (p : ℕ) (x : Option TerminalM) → (when_found (take_stops P m1 b no_call) (λ (T : TerminalM). when_found (take_stops P m1 b no_call) (take_effect P m1 b p r T) (accept_effect T r)) x).took ≡ Some b
      there p None = refl
      there p (Some T) = accepted p T (accept_effect T r)

      found : (x : Option ℕ) → (when_found (take_stops P m1 b no_call) (take_at P m1 b r) x).took ≡ Some b
      found None = refl
      found (Some p) = there p (terminal_at P m p)

  -- a reply that answers c is handed to its terminal and belongs to it
  module _ (r : Reply) (an : Answers h o c f r) where
    newest : Session h c.terminal o (length h)
    newest = open_newest h t o c (length h) z.session z.ordered op

    -- no other record bears its id
    bears_this : (q : ℕ) → bears r (terminal_at P m q) ≡ true → q ≡ c.terminal
    bears_this q e = go (terminal_at P m q) refl e
      where
        go : (x : Option TerminalM) → terminal_at P m q ≡ x → bears r x ≡ true → q ≡ c.terminal
        go None at y = absurd (clash y)
        go (Some U) at y =
            let w = inv.places.terminal_known q U at in
            let os : w.0 ≡ o = inv.places.apart w.0 o q c.terminal w.1.0 z.session.0 (sym w.2 ∙ same_id_true U.id r.id y ∙ an.id ∙ inv.calls.named t o c f z) in
            opened_one h o q c.terminal (subst (λ x. Opened h x q) os w.1.0) z.session.0

    handed : (take_read P m1 (reply_message r) (Ok r)).answer ≡ taken c.terminal c.slot (reply_effect r)
    handed =
        let w = inv.places.terminal_there c.terminal o newest in
        let T = w.0 in
        let side = inv.terminals c.terminal o T newest w.1 in
        let k = side.open_held t c f z op in
        let ids : T.id ≡ r.id = w.2 ∙ sym (inv.calls.named t o c f z) ∙ sym an.id in
        let same : same_id T.id r.id ≡ true = same_id_refl T.id r.id ids in
        let low : leb r.slot 15 ≡ true = le-leb r.slot 15 (omega (arith, an.slot, (inv.calls.placed t o c f z).0)) in
        let busy : is_busy (end_at T r.slot) ≡ true = ap (λ s. is_some (end_at T s).call) an.slot ∙ ap is_some k.1 in
        let numbers : eqb (end_at T r.slot).number r.number ≡ true = eq-eqb (end_at T r.slot).number r.number (ap (λ s. (end_at T s).number) an.slot ∙ sym k.2 ∙ sym an.number) in
        let be : belongs T r ≡ true = and_from (same_id T.id r.id) _ same (and_from (leb r.slot 15) _ low (and_from (is_busy (end_at T r.slot)) (eqb (end_at T r.slot).number r.number) busy numbers)) in
        let place : lowest_at (bears r) m.terminals 0 ≡ Some c.terminal = lowest_is (bears r) m.terminals 0 c.terminal None (within m.terminals c.terminal T w.1) (ap (bears r) w.1 ∙ same) below ∙ (let e : 0 + c.terminal ≡ c.terminal = omega arith in ap Some e) in
        ap (λ x. (when_found (take_stops P m1 (reply_message r) no_call) (take_at P m1 (reply_message r) r) x).answer) place
        ∙ ap (λ x. (when_found (take_stops P m1 (reply_message r) no_call) (λ (U : TerminalM). when_found (take_stops P m1 (reply_message r) no_call) (take_effect P m1 (reply_message r) c.terminal r U) (accept_effect U r)) x).answer) w.1
        ∙ ap (λ x. (when_found (take_stops P m1 (reply_message r) no_call) (take_effect P m1 (reply_message r) c.terminal r T) (cond x (Some (reply_effect r)) None)).answer) be
        ∙ ap (λ s. taken c.terminal s (reply_effect r)) (an.slot ∙ z.slot)
      where
        below : (j : ℕ) → j < c.terminal → bears r (get_or m.terminals j None) ≡ false
        below j lt = ⊎_elim (λ y. absurd (omega (arith, lt, bears_this j y))) (λ y. y) (cases_Bool (bears r (get_or m.terminals j None)))

  -- what a take of a reply with c's id, number and slot answers
  abbrev Hands : Reply → Step P → Type 0
  Hands x s = s.took ≡ Some (reply_message x) → (r : Reply) × (s.answer ≡ taken c.terminal c.slot (reply_effect r)) × (r.status ≡ x.status) × (r.body ≡ x.body) × Answers h o c f r

  pub taken_hands : (x : Reply) → x.id ≡ f.id → x.number ≡ f.number → x.slot ≡ f.slot → x.status < 4294967296 → (room : ℕ) → Hands x (act P m (asked_take room))
  unfolding take_step
  taken_hands x ids numbers slots small room =
      cond_both (is_short room) _ _ (Hands x)
      (λ e y. absurd (took_none (reply_message x) y))
      (λ e. given (P.replies.gives m.replies) refl)
    where
      fits : FitsReply x
      fits =
          let y = z.fits.0 in
          record { boot = subst (λ d. d.boot < 2 ^ 64) (sym ids) y.boot; count = subst (λ d. d.count < 2 ^ 64) (sym ids) y.count; number_fits = subst (λ d. d < 2 ^ 32) (sym numbers) y.number_fits; slot_fits = subst (λ d. d < 2 ^ 32) (sym slots) y.slot_fits }

      read : (u v : ℕ) (d : Call) (g : Request) (r : Reply) → Known h u v d g → Answers h v d g r → reply_message r ≡ reply_message x → (s : Reply) × ((take_read P m1 (reply_message r) (read_reply (reply_message r))).answer ≡ taken c.terminal c.slot (reply_effect s)) × (s.status ≡ x.status) × (s.body ≡ x.body) × Answers h o c f s
      read u v d g r y an e =
          let w = same_reply_head r x an.permitted.head fits e in
          let mine : Answers h o c f r = answers_this P first h m inv t u o v c d f g r z y an (w.0 ∙ ids) (w.2 ∙ slots) (w.1 ∙ numbers) in
          (r, ap (λ q. (take_read P m1 (reply_message r) q).answer) (read_written_reply r an.permitted) ∙ handed r mine, same_reply_status r x an.permitted.low small e, same_reply_body r x e, mine)

      given : (y : Option Bytes) → P.replies.gives m.replies ≡ y → Hands x (when_found (refuse P m1 nothing_waits) (λ b. take_read P m1 b (read_reply b)) y)
      given None e q = absurd (took_none (reply_message x) q)
      given (Some b) e q =
          let w = inv.waiting.replies b (laws.replies.give_waited m.replies b e) in
          let same : reply_message w.4 ≡ reply_message x = sym w.6 ∙ some_same b (reply_message x) (sym (took_read b (read_reply b)) ∙ q) in
          subst (λ k. (s : Reply) × ((take_read P m1 k (read_reply k)).answer ≡ taken c.terminal c.slot (reply_effect s)) × (s.status ≡ x.status) × (s.body ≡ x.body) × Answers h o c f s) (sym w.6) (read w.0 w.1 w.2 w.3 w.4 w.5 w.7 same)

  -- the reply of a run closes c as answered, with its body
  pub take_answered : (high goal : ℕ) (b : Bytes) (room : ℕ) → (act P m (asked_take room)).took ≡ Some (reply_message (result f high goal b)) → (act P m (asked_take room)).answer ≡ taken c.terminal c.slot (answered b)
  take_answered high goal b room e =
      let w = taken_hands (result f high goal b) refl refl refl (omega arith) room e in
      w.1 ∙ ap (taken c.terminal c.slot) (effect_answered w.0 w.2 ∙ ap answered w.3)

  -- and 10068 closes it as done
  pub take_done : (room : ℕ) → (act P m (asked_take room)).took ≡ Some (reply_message (refusing f 10068)) → (act P m (asked_take room)).answer ≡ taken c.terminal c.slot done
  take_done room e =
      let w = taken_hands (refusing f 10068) refl refl refl (omega arith) room e in
      w.1 ∙ ap (taken c.terminal c.slot) (effect_done w.0 w.2)

  -- so each outcome of c, taken, closes it, given that the reply of a run bears the head of its request
  pub outcome_closes : ((b : Bytes) → Put h o c b → (high : ℕ) × (goal : ℕ) × (body : Bytes) × (b ≡ reply_message (result f high goal body))) → (room : ℕ) (b : Bytes) → (act P m (asked_take room)).took ≡ Some b → Outcome P.service.next P.service.reply request_message reply_message h first o c f (length h) b → (g : Effect) × Replies (event_of P m (asked_take room)) c g
  outcome_closes puts room b e (inl x) = let w = puts b x in (answered w.2, (room, refl, take_answered w.0 w.1 w.2 room (e ∙ ap Some w.3), inl (w.2, refl)))
  outcome_closes puts room b e (inr x) = (done, (room, refl, take_done room (e ∙ ap Some x.2), inr (inl refl)))

  -- c answered: its run put a reply with that body
  pub answered_put : (a : Asked) (b : Bytes) → Replies (event_of P m a) c (answered b) → (high : ℕ) × (goal : ℕ) × Put h o c (reply_message (result f high goal b))
  answered_put a b y = let w = closed_how a (answered b) y in go w.0 w.2
    where
      go : (x : Bytes) → ClosingReply h o c f x (answered b) → (high : ℕ) × (goal : ℕ) × Put h o c (reply_message (result f high goal b))
      go x (inl w) =
          let same : b ≡ w.2 = let q = w.3 in cc in
          (w.0, w.1, subst (λ y. Put h o c (reply_message (result f w.0 w.1 y))) (sym same) (subst (Put h o c) w.4 w.5))
      go x (inr (inl w)) = absurd (let q = w.0 in let v : ◌≡◌ {A = ℕ} 0 1 = cc in omega arith)
      go x (inr (inr w)) = absurd (let q = w.0 in let v : ◌≡◌ {A = ℕ} 0 1 = cc in omega arith)

  -- c known as done: it has run, and its reply was not to be kept
  pub done_ran : (a : Asked) → Replies (event_of P m a) c done → RanBefore h o c (length h) × Unkept c
  done_ran a y = let w = closed_how a done y in go w.0 w.2
    where
      go : (x : Bytes) → ClosingReply h o c f x done → RanBefore h o c (length h) × Unkept c
      go x (inl w) = absurd (let q = w.3 in let v : ◌≡◌ {A = ℕ} 0 1 = cc in omega arith)
      go x (inr (inl w)) = (w.2, w.3)
      go x (inr (inr w)) = absurd (let q = w.0 in let v : ◌≡◌ {A = ℕ} 0 1 = cc in omega arith)
