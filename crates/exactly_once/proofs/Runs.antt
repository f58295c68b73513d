-- The newest event, where it runs a call: the call was open, and the event put the reply that the content gave then.
use Rattle.std.proofs.Common.{◌≡◌, ℕ, ◌≤◌, Bool, true, false, cond, length, Some, None, Ok, Err, Option, sym, refl, ap, ◌∙◌, subst, inl, inr, ⊎_elim, arith}
use Rattle.std.proofs.lemmas.Bool.{cases_lt, cond_both}
use Rattle.common.specs.Bytes.{Bytes}
use Rattle.wire.specs.Wire.{SessionId, Request, not_standing, no_work, reply_message}
use Rattle.common.specs.Search.{when_found}
use Rattle.server.specs.Server.{SessionM, SlotM, Last, never, in_progress, kept, not_kept, is_working, slot_at, with_slot, accepted, works_at, run_highest, run_bytes, run_slot, resume_work, outcome_reply}
use Rattle.terminal.specs.Terminal.{TerminalM, end_at}
use Rattle.exactly_once.specs.History.{run, aside, Asked, asked_hear, asked_resume, refused, ok, History}
use Rattle.exactly_once.specs.Words.{Call, Stands, Open, HeardBefore, RanBefore}
use Rattle.exactly_once.specs.Steps.{Parts, Model, Step, terminal_at, act, event_of, is_short, resume_by, resume_step}
use Rattle.exactly_once.specs.Lived.{PartsLaws}
use Rattle.exactly_once.proofs.Times.{at_below}
use Rattle.exactly_once.proofs.Tables.{some_same, found_both}
use Rattle.exactly_once.proofs.Newest.{Runs}
use Rattle.exactly_once.proofs.Invariant.{Known, Aside, result, Holds, ByLast, pend, Inv}
use Rattle.exactly_once.proofs.Present.{call_cases, Standing, standing, held_is}
use Rattle.exactly_once.proofs.Workorder.{slot_now, run_is}
use Rattle.exactly_once.proofs.Copies.{next_call, first_copy}
use Rattle.exactly_once.proofs.Resume.{aside_unran}

-- the slot of a call set aside and not run keeps it in progress
in_hand : (h : History) (o : ℕ) (c : Call) (f : Request) → (RanBefore h o c (length h) → ⊥) → (l : Last) → ByLast h o c f l → l ≡ in_progress
in_hand h o c f un never b = absurd b
in_hand h o c f un in_progress b = refl
in_hand h o c f un (kept high goal y) b = absurd (un (b.0.0, b.0.2, b.0.3))
in_hand h o c f un not_kept b = absurd (un b.0)

module _ (P : Parts) (h : History) (m : Model P) where
  -- what is known of a run of c just now
  pub record RunNow (t : ℕ) (c : Call) (f : Request) (put : Option Bytes) : Type 0 where
    pub is_open : Open h t c (length h)
    pub slot : SlotM
    pub body : slot.body ≡ c.body
    pub high : ℕ
    pub goal : ℕ
    pub puts : put ≡ Some (reply_message (result f high goal (run_bytes P.service m.content slot)))

module _ (P : Parts) (laws : PartsLaws P) (first : P.service.Content) (h : History) (m : Model P) (inv : Inv P first h m) (t o : ℕ) (c : Call) (f : Request) (z : Known h t o c f) (st : Stands h c.terminal o (length h)) where
  abbrev here : Standing P first h m inv c.terminal o
  here = standing P first h m inv c.terminal o st

  abbrev X : SlotM
  X = slot_at here.S f.slot

  -- by hear
  module _ (un : HeardBefore h o c (length h) → ⊥) (room : ℕ) where
    -- the session with the call accepted
    abbrev S1 : SessionM
    S1 = with_slot here.S f.slot (accepted X f)

    abbrev V : SlotM
    V = slot_at S1 f.slot

    now : V ≡ accepted X f
    now = slot_now P first h m inv t o c f z st

    pub hear_now : (act P m (asked_hear run room)).took ≡ Some c.request → RunNow P h m t c f (act P m (asked_hear run room)).put
    hear_now e = record {
      is_open = (next_call P laws first h m inv t o c f z st run room e un).open_call;
      slot = V;
      body = ap (λ (x : SlotM). x.body) now ∙ z.body;
      high = run_highest S1 f.slot;
      goal = S1.target;
      puts = ap (λ s. s.put) (first_copy P laws first h m inv t o c f z st run room e un ∙ run_is P first h m inv t o c f z st) ∙ ap (λ n. Some (reply_message (outcome_reply f.id n f.slot (run_highest S1 f.slot) S1.target (run_bytes P.service m.content V)))) (ap (λ (x : SlotM). x.number) now);
    }

  -- by resume
  module _ (aside_call : Aside h o c) (room : ℕ) where
    unran : RanBefore h o c (length h) → ⊥
    unran = aside_unran h o c aside_call

    low : f.number ≤ X.number
    low = here.server_side.heard_low t c f z (aside_call.0, aside, at_below h aside_call.0 aside_call.1.0.0 aside_call.1.0.2, aside_call.1.0)

    number_is : f.number ≡ X.number
    number_is = ⊎_elim (λ lt. absurd (unran (here.server_side.older_ran t c f z lt))) (λ le. omega (arith, low, le)) (cases_lt f.number X.number)

    holds : Holds h o c f X
    holds = here.server_side.last_holds t c f z number_is

    one : pend X ≡ 1
    one = ap (λ l. cond (is_working l) 1 0) (in_hand h o c f unran X.last holds.last)

    level : f.number ≡ (end_at here.T f.slot).number
    level = let cl = here.both_sides.close f.slot in omega (arith, cl.low, cl.near, one, number_is)

    open_now : Open h t c (length h)
    open_now =
        let k = ⊎_elim (λ x. absurd (omega (arith, (here.both_sides.close f.slot).free x, one, number_is, level))) (λ x. x) (call_cases (end_at here.T f.slot)) in
        held_is P first h m inv t o c f here.T here.terminal_side z level k.0 k.1

    -- of a step that answers ok
    abbrev Resuming : Step P → Type 0
    Resuming x = x.answer ≡ ok → RunNow P h m t c f x.put

    stops : (i j : ℕ) → refused i j ≡ ok → RunNow P h m t c f None
    stops i j e = absurd (let w : ◌≡◌ {A = ℕ} 0 1 = cc in omega arith)

    -- the reply, by its id, number and slot
    reply_is : (d : SessionId) (n s : ℕ) → f.id ≡ d → f.number ≡ n → f.slot ≡ s → RunNow P h m t c f (Some (reply_message (outcome_reply d n s (run_highest here.S f.slot) here.S.target (run_bytes P.service m.content X))))
    reply_is d n s a b e = record {
      is_open = open_now;
      slot = X;
      body = holds.body ∙ z.body;
      high = run_highest here.S f.slot;
      goal = here.S.target;
      puts = λ i. Some (reply_message (outcome_reply (sym a i) (sym b i) (sym e i) (run_highest here.S f.slot) here.S.target (run_bytes P.service m.content X)));
    }

    worked : (b : Bool) → Resuming (resume_by P m (cond b (Ok (run_slot P.service m.content m.server here.T.id f.slot here.S)) (Err no_work)))
    worked true e = reply_is here.T.id X.number f.slot (inv.calls.named t o c f z ∙ sym here.TId) number_is refl
    worked false e = stops 8 0 e

    resumed : Resuming (resume_by P m (resume_work P.service m.content m.server here.T.id f.slot))
    unfolding resume_work
    resumed = subst (λ x. Resuming (resume_by P m (when_found (Err not_standing) (λ s. cond (works_at s f.slot) (Ok (run_slot P.service m.content m.server here.T.id f.slot s)) (Err no_work)) x))) (sym here.lookup) (worked (works_at here.S f.slot))

    pub resume_now : Resuming (act P m (asked_resume c.terminal c.slot room))
    unfolding resume_step
    resume_now = cond_both (is_short room) _ _ Resuming (λ q. stops 1 0) (λ q. found_both Resuming _ _ (terminal_at P m c.terminal) (stops 2 0) by)
      where
        by : (T : TerminalM) → terminal_at P m c.terminal ≡ Some T → Resuming (resume_by P m (resume_work P.service m.content m.server T.id c.slot))
        by T at = subst (λ s. Resuming (resume_by P m (resume_work P.service m.content m.server T.id s))) z.slot (subst (λ (u : TerminalM). Resuming (resume_by P m (resume_work P.service m.content m.server u.id f.slot))) (some_same here.T T (sym here.terminal ∙ at)) resumed)

-- by whichever event
pub run_now : (P : Parts) (laws : PartsLaws P) (first : P.service.Content) (h : History) (m : Model P) (inv : Inv P first h m) (a : Asked) (t o : ℕ) (c : Call) (f : Request) → Known h t o c f → Runs h (event_of P m a) o c → RunNow P h m t c f (act P m a).put
run_now P laws first h m inv a t o c f z (st, inl (hears, un)) = subst (λ x. (act P m x).took ≡ Some c.request → RunNow P h m t c f (act P m x).put) (sym hears.1) (hear_now P laws first h m inv t o c f z st un hears.0) hears.2
run_now P laws first h m inv a t o c f z (st, inr (y, fi, re, since)) = subst (λ x. (act P m x).answer ≡ ok → RunNow P h m t c f (act P m x).put) (sym re.1) (resume_now P laws first h m inv t o c f z st (y, fi, since) re.0) re.2
