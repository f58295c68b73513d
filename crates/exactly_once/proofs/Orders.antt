-- Only order and part answer that a call was ordered, and then they have put its request.
use Rattle.std.proofs.Common.{◌≡◌, ℕ, Bool, true, false, cond, [], Ok, Err, Result, sym, refl, ap, ◌∙◌, inl, inr, arith}
use Rattle.std.proofs.lemmas.Bool.{cond_both}
use Rattle.common.specs.Bytes.{Bytes}
use Rattle.wire.specs.Wire.{Reply, Refusal, row_of, no_part, read_reply}
use Rattle.common.specs.Search.{lowest_at}
use Rattle.server.specs.Server as server
use Rattle.server.specs.Server.{ServerM, Served, fault, says, old, work, Opening, Run}
use Rattle.terminal.specs.Terminal as terminal
use Rattle.terminal.specs.Terminal.{TerminalM, Sending, begin, part_call, can_part, part_sends, order_sends}
use Rattle.exactly_once.specs.History.{Told, run, aside, Asked, asked_open, asked_order, asked_part, asked_resend, asked_hear, asked_resume, asked_take, asked_retarget, asked_close, Answer, refused, ordered, ok}
use Rattle.exactly_once.specs.Words.{Call}
use Rattle.exactly_once.specs.Steps.{Parts, Model, Step, terminal_at, bears, act, event_of, is_short, open_by, open_step, send_by, send_step, hear_served, hear_run, hear_aside, hear_step, resume_by, resume_step, rest_replies, take_read, take_step, server_by, retarget_step, close_step}
use Rattle.exactly_once.proofs.Tables.{found_both}
use Rattle.exactly_once.proofs.Unique.{Orders}

refused_else : (i j s : ℕ) → refused i j ≡ ordered s → ⊥
refused_else i j s e = let w : ◌≡◌ {A = ℕ} 0 1 = cc in omega arith

module _ (P : Parts) (m : Model P) (s : ℕ) where
  -- it answers something else
  abbrev Else : Step P → Type 0
  Else x = x.answer ≡ ordered s → ⊥

  opening : (target : ℕ) → Else (act P m (asked_open target))
  unfolding open_step
  opening target = by (server.open_session m.server target)
    where
      by : (r : Result Opening Refusal) → Else (open_by P m target r)
      by (Err r) e = refused_else (row_of r).number (row_of r).offset s e
      by (Ok x) e = let w : ◌≡◌ {A = ℕ} 0 1 = cc in omega arith

  serving : (n : Model P) (b : Bytes) (told : Told) (x : Served) → Else (hear_served P n b told x)
  serving n b told (fault r) e = refused_else (row_of r).number (row_of r).offset s e
  serving n b told (says r) e = let w : ◌≡◌ {A = ℕ} 0 1 = cc in omega arith
  serving n b told (old r) e = let w : ◌≡◌ {A = ℕ} 0 1 = cc in omega arith
  serving n b run (work k) e = runs (server.run_work P.service n.content n.server k) e
    where
      runs : (r : Result (Run P.service) Refusal) → Else (hear_run P n b r)
      runs (Err r) f = refused_else (row_of r).number (row_of r).offset s f
      runs (Ok r) f = let w : ◌≡◌ {A = ℕ} 0 1 = cc in omega arith
  serving n b aside (work k) e = asides (server.set_work_aside n.server k) e
    where
      asides : (r : Result (Unit {0}) Refusal) → Else (hear_aside P n b r)
      asides (Err r) f = refused_else (row_of r).number (row_of r).offset s f
      asides (Ok r) f = let w : ◌≡◌ {A = ℕ} 0 1 = cc in omega arith

  hearing : (told : Told) (room : ℕ) → Else (act P m (asked_hear told room))
  unfolding hear_step
  hearing told room = cond_both (is_short room) _ _ Else (λ q. refused_else 1 0 s) (λ q. found_both Else _ _ (P.requests.gives m.requests) (refused_else 13 0 s) (λ b g. serving _ b told _))

  resuming : (p slot room : ℕ) → Else (act P m (asked_resume p slot room))
  unfolding resume_step
  resuming p slot room = cond_both (is_short room) _ _ Else (λ q. refused_else 1 0 s) (λ q. found_both Else _ _ (terminal_at P m p) (refused_else 2 0 s) (λ t g. by (server.resume_work P.service m.content m.server t.id slot)))
    where
      by : (r : Result (Run P.service) Refusal) → Else (resume_by P m r)
      by (Err r) f = refused_else (row_of r).number (row_of r).offset s f
      by (Ok r) f = let w : ◌≡◌ {A = ℕ} 0 1 = cc in omega arith

  taking : (room : ℕ) → Else (act P m (asked_take room))
  unfolding take_step
  taking room = cond_both (is_short room) _ _ Else (λ q. refused_else 1 0 s) (λ q. found_both Else _ _ (P.replies.gives m.replies) (refused_else 13 0 s) (λ b g. by b (read_reply b)))
    where
      by : (b : Bytes) (r : Result Reply Refusal) → Else (take_read P (rest_replies P m) b r)
      by b (Err r) = refused_else (row_of r).number (row_of r).offset s
      by b (Ok r) = found_both Else _ _ (lowest_at (bears r) m.terminals 0) (refused_else 14 0 s) (λ p g. found_both Else _ _ (terminal_at P m p) (refused_else 14 0 s) (λ t k. found_both Else _ _ (terminal.accept_effect t r) (refused_else 14 0 s) (λ x y f. (let w : ◌≡◌ {A = ℕ} 0 1 = cc in omega arith))))

  server_else : (r : Result ServerM Refusal) → Else (server_by P m r)
  server_else (Err r) e = refused_else (row_of r).number (row_of r).offset s e
  server_else (Ok r) e = let w : ◌≡◌ {A = ℕ} 0 1 = cc in omega arith

  retargeting : (p target : ℕ) → Else (act P m (asked_retarget p target))
  unfolding retarget_step
  retargeting p target = found_both Else _ _ (terminal_at P m p) (refused_else 2 0 s) (λ t g. server_else (server.retarget_session m.server t.id target))

  closing : (p : ℕ) → Else (act P m (asked_close p))
  unfolding close_step
  closing p = found_both Else _ _ (terminal_at P m p) (refused_else 2 0 s) (λ t g. server_else (server.close_session m.server t.id))

  -- a terminal that sends
  sending : (Q : Step P → Type 0) (p room : ℕ) (answer : ℕ → Answer) (send : TerminalM → Result Sending Refusal) → ((i j : ℕ) (x : Step P) → x.answer ≡ refused i j → Q x) → ((t : TerminalM) (x : Sending) → send t ≡ Ok x → Q (send_by P m p answer (Ok x))) → Q (send_step P m p room answer send)
  unfolding send_step
  sending Q p room answer send none some = cond_both (is_short room) _ _ Q (λ q. none 1 0 _ refl) (λ q. found_both Q _ _ (terminal_at P m p) (none 2 0 _ refl) (λ t g. by t (send t) refl))
    where
      by : (t : TerminalM) (r : Result Sending Refusal) → send t ≡ r → Q (send_by P m p answer r)
      by t (Err r) g = none (row_of r).number (row_of r).offset _ refl
      by t (Ok x) g = some t x g

  -- the call that an event of this answer orders
  abbrev Ordering : Asked → Step P → Type 0
  Ordering a x = x.answer ≡ ordered s → (c : Call) × Orders (record { asked = a; answer = x.answer; put = x.put; took = x.took }) c

  stopped : (a : Asked) (i j : ℕ) (x : Step P) → x.answer ≡ refused i j → Ordering a x
  stopped a i j x e f = absurd (refused_else i j s (sym e ∙ f))

  part_slot : (t : TerminalM) (slot : ℕ) (x : Sending) → part_sends t slot ≡ Ok x → x.slot ≡ slot
  unfolding part_sends
  part_slot t slot x e = go (can_part t slot) e
    where
      go : (b : Bool) → ◌≡◌ {A = Result Sending Refusal} (cond b (Ok (begin t slot (part_call slot))) (Err no_part)) (Ok x) → x.slot ≡ slot
      go true f = let k : begin t slot (part_call slot) ≡ x = cc in sym (ap (λ y. y.slot) k)
      go false f = absurd (let w : ◌≡◌ {A = ℕ} 0 1 = cc in omega arith)

  pub orders_now : (a : Asked) → (act P m a).answer ≡ ordered s → (c : Call) × Orders (event_of P m a) c
  orders_now (asked_open target) e = absurd (opening target e)
  orders_now (asked_order p keep body room) e = sending (Ordering (asked_order p keep body room)) p room ordered (λ t. order_sends t keep body) (stopped (asked_order p keep body room)) (λ t x g f. (record { terminal = p; slot = x.slot; keep = keep; body = body; request = x.message }, (refl, refl, inl (room, refl)))) e
  orders_now (asked_part p slot room) e = sending (Ordering (asked_part p slot room)) p room ordered (λ t. part_sends t slot) (stopped (asked_part p slot room)) (λ t x g f. (record { terminal = p; slot = slot; keep = false; body = []; request = x.message }, (ap ordered (part_slot t slot x g), refl, inr (room, refl, refl, refl)))) e
  orders_now (asked_resend p slot room) e = absurd (sending Else p room (λ i. ok) (λ t. terminal.resend_sends t slot) (λ i j x g f. refused_else i j s (sym g ∙ f)) (λ t x g f. (let w : ◌≡◌ {A = ℕ} 0 1 = cc in omega arith)) e)
  orders_now (asked_hear told room) e = absurd (hearing told room e)
  orders_now (asked_resume p slot room) e = absurd (resuming p slot room e)
  orders_now (asked_take room) e = absurd (taking room e)
  orders_now (asked_retarget p target) e = absurd (retargeting p target e)
  orders_now (asked_close p) e = absurd (closing p e)
