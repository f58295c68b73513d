-- What a hear of a copy of an open call of a standing session answers and puts.
use Rattle.std.proofs.Common.{◌≡◌, ℕ, Bool, true, false, cond, length, Some, None, Ok, Err, Option, Result, sym, refl, ap, ◌∙◌, subst, ⊎_elim, arith}
use Rattle.std.proofs.lemmas.Bool.{cases_lt}
use Rattle.common.specs.Bytes.{Bytes}
use Rattle.wire.specs.Wire.{Request, refusing, Refusal, short_scratch, nothing_waits, reply_message}
use Rattle.common.specs.Search.{when_found}
use Rattle.server.specs.Server as server
use Rattle.server.specs.Server.{SlotM, Last, never, in_progress, kept, not_kept, slot_at, session_of, Verdict, new, verdict, judge_last, Run, Served, fault, says, old, work, Serving, serve_by, serve}
use Rattle.exactly_once.specs.History.{Told, run, aside, asked_hear, ran, set_aside, again, status, History}
use Rattle.exactly_once.specs.Words.{Call, Stands, Open, HeardBefore, RanBefore}
use Rattle.exactly_once.specs.Steps.{Parts, Model, Step, refuse, rest_requests, with_server, hear_run, hear_aside, hear_work, hear_served, hear_request, hear_step, is_short, act}
use Rattle.exactly_once.specs.Lived.{PartsLaws}
use Rattle.exactly_once.proofs.Tables.{some_same}
use Rattle.exactly_once.proofs.Unique.{ran_heard}
use Rattle.exactly_once.proofs.Invariant.{Known, Put, Unkept, ByLast, Inv}
use Rattle.exactly_once.proofs.Carry.{put_one}
use Rattle.exactly_once.proofs.Present.{Standing, standing}
use Rattle.exactly_once.proofs.Quiet.{took_none}
use Rattle.exactly_once.proofs.Hearing.{NewCall, verdict_repeat, fresh_call, verdict_new}
use Rattle.exactly_once.proofs.Workorder.{serve_is, run_is, aside_is}

module _ (P : Parts) (m : Model P) (told : Told) where
  -- whatever serve gave, the request was taken
  took_it : (n : Model P) (b : Bytes) (s : Served) → (hear_served P n b told s).took ≡ Some b
  took_it n b (fault r) = refl
  took_it n b (says r) = refl
  took_it n b (old r) = refl
  took_it n b (work w) = works told
    where
      by_run : (r : Result (Run P.service) Refusal) → (hear_run P n b r).took ≡ Some b
      by_run (Err r) = refl
      by_run (Ok r) = refl

      by_aside : (r : Result (Unit {0}) Refusal) → (hear_aside P n b r).took ≡ Some b
      by_aside (Err r) = refl
      by_aside (Ok r) = refl

      works : (w' : Told) → (hear_work P n b w' w).took ≡ Some b
      works run = by_run (server.run_work P.service n.content n.server w)
      works aside = by_aside (server.set_work_aside n.server w)

  -- a hear that took b served b
  pub hear_took : (room : ℕ) (b : Bytes) → (act P m (asked_hear told room)).took ≡ Some b → act P m (asked_hear told room) ≡ hear_request P (rest_requests P m) told b
  unfolding hear_step
  hear_took room b e = go (is_short room) (P.requests.gives m.requests) e
    where
      go : (s : Bool) (x : Option Bytes) → (cond s (refuse P m short_scratch) (when_found (refuse P (rest_requests P m) nothing_waits) (hear_request P (rest_requests P m) told) x)).took ≡ Some b → cond s (refuse P m short_scratch) (when_found (refuse P (rest_requests P m) nothing_waits) (hear_request P (rest_requests P m) told) x) ≡ hear_request P (rest_requests P m) told b
      go true x y = absurd (took_none b y)
      go false None y = absurd (took_none b y)
      go false (Some a) y =
          let is : a ≡ b = some_same a b (sym (took_it (with_server P (rest_requests P m) (serve m.server a).after) a (serve m.server a).answer) ∙ y) in
          ap (hear_request P (rest_requests P m) told) is

module _ (P : Parts) (laws : PartsLaws P) (first : P.service.Content) (h : History) (m : Model P) (inv : Inv P first h m) (t o : ℕ) (c : Call) (f : Request) (z : Known h t o c f) (st : Stands h c.terminal o (length h)) where
  abbrev pub here : Standing P first h m inv c.terminal o
  here = standing P first h m inv c.terminal o st

  abbrev pub X : SlotM
  X = slot_at here.S f.slot

  -- the step made of what the session said
  abbrev pub step : Told → Verdict → Step P
  step told v = hear_served P (with_server P (rest_requests P m) (serve_by v m.server here.S f).after) c.request told (serve_by v m.server here.S f).answer

  -- a hear that took a copy asked its session
  pub hear_copy : (told : Told) (room : ℕ) → (act P m (asked_hear told room)).took ≡ Some c.request → act P m (asked_hear told room) ≡ step told (verdict here.S f)
  hear_copy told room e =
      hear_took P m told room c.request e
      ∙ ap (λ (s : Serving). hear_served P (with_server P (rest_requests P m) s.after) c.request told s.answer) (serve_is h m.server t o c f z ∙ ap (when_found (record { answer = server.says (refusing f 10052); after = m.server }) (λ s. serve_by (verdict s f) m.server s f)) (ap (session_of m.server) (inv.calls.named t o c f z ∙ sym here.TId) ∙ here.lookup))

  module _ (told : Told) (room : ℕ) (took : (act P m (asked_hear told room)).took ≡ Some c.request) (un : HeardBefore h o c (length h) → ⊥) where
    -- a call that was not heard is the next of its slot
    pub next_call : NewCall h t o c f here.T here.S
    next_call = fresh_call P laws first h m inv told room t o c f z st here.T here.S here.terminal_side here.server_side here.both_sides (⊎_elim (λ lt. lt) (λ le. absurd (un (here.server_side.low_heard t c f z le))) (cases_lt X.number f.number))

    -- so its copy is new to the server
    pub first_copy : act P m (asked_hear told room) ≡ step told new
    first_copy = hear_copy told room took ∙ ap (step told) (verdict_new P laws first h m inv told room t o c f z st here.T here.S here.terminal_side here.server_side here.both_sides next_call)

  -- the first copy heard runs the call
  pub first_run_now : (room : ℕ) → (act P m (asked_hear run room)).took ≡ Some c.request → (HeardBefore h o c (length h) → ⊥) → (act P m (asked_hear run room)).answer ≡ ran
  first_run_now room e un = ap (λ s. s.answer) (first_copy run room e un ∙ run_is P first h m inv t o c f z st)

  -- or sets it aside
  pub first_aside_now : (room : ℕ) → (act P m (asked_hear aside room)).took ≡ Some c.request → (HeardBefore h o c (length h) → ⊥) → ((act P m (asked_hear aside room)).answer ≡ set_aside) × ((act P m (asked_hear aside room)).put ≡ None)
  first_aside_now room e un =
      let is = first_copy aside room e un ∙ aside_is P first h m inv t o c f z st in
      (ap (λ s. s.answer) is, ap (λ s. s.put) is)

  module _ (op : Open h t c (length h)) (told : Told) (room : ℕ) (took : (act P m (asked_hear told room)).took ≡ Some c.request) where
    -- a heard call that is open is the last of its slot
    level : HeardBefore h o c (length h) → f.number ≡ X.number
    level b = omega (arith, here.server_side.heard_low t c f z b, (here.both_sides.close f.slot).low, (here.terminal_side.open_held t c f z op).2)

    abbrev now : Step P
    now = act P m (asked_hear told room)

    -- it gets what the slot keeps
    by_last : (Q : Step P → Type 0) → HeardBefore h o c (length h) → ((l : Last) → ByLast h o c f l → Q (step told (judge_last l))) → Q now
    by_last Q b q =
        let e = level b in
        let is = hear_copy told room took ∙ ap (step told) (verdict_repeat P laws first h m inv told room t o c f z st here.T here.S here.terminal_side here.server_side here.both_sides e) in
        subst Q (sym is) (q X.last (here.server_side.last_holds t c f z e).last)

    -- until it has run, 10008
    pub waits_now : HeardBefore h o c (length h) → (RanBefore h o c (length h) → ⊥) → ((act P m (asked_hear told room)).answer ≡ status 10008) × ((act P m (asked_hear told room)).put ≡ Some (reply_message (refusing f 10008)))
    waits_now b un = by_last (λ s. (s.answer ≡ status 10008) × (s.put ≡ Some (reply_message (refusing f 10008)))) b go
      where
        go : (l : Last) → ByLast h o c f l → ((step told (judge_last l)).answer ≡ status 10008) × ((step told (judge_last l)).put ≡ Some (reply_message (refusing f 10008)))
        go never y = absurd y
        go in_progress y = (refl, refl)
        go (kept high goal x) y = absurd (un (y.0.0, y.0.2, y.0.3))
        go not_kept y = absurd (un y.0)

    -- and then what its run put
    pub kept_now : RanBefore h o c (length h) → (Unkept c → ⊥) → ((act P m (asked_hear told room)).answer ≡ again) × ((b : Bytes) → Put h o c b → (act P m (asked_hear told room)).put ≡ Some b)
    kept_now r un = by_last (λ s. (s.answer ≡ again) × ((b : Bytes) → Put h o c b → s.put ≡ Some b)) (ran_heard h o c (length h) r) go
      where
        go : (l : Last) → ByLast h o c f l → ((step told (judge_last l)).answer ≡ again) × ((b : Bytes) → Put h o c b → (step told (judge_last l)).put ≡ Some b)
        go never y = absurd y
        go in_progress y = absurd (y.1 r)
        go (kept high goal x) y = (refl, λ b p. ap Some (put_one h o c _ b y.0 p))
        go not_kept y = absurd (un y.1)

    -- or 10068
    pub not_kept_now : RanBefore h o c (length h) → Unkept c → ((act P m (asked_hear told room)).answer ≡ status 10068) × ((act P m (asked_hear told room)).put ≡ Some (reply_message (refusing f 10068)))
    not_kept_now r un = by_last (λ s. (s.answer ≡ status 10068) × (s.put ≡ Some (reply_message (refusing f 10068)))) (ran_heard h o c (length h) r) go
      where
        go : (l : Last) → ByLast h o c f l → ((step told (judge_last l)).answer ≡ status 10068) × ((step told (judge_last l)).put ≡ Some (reply_message (refusing f 10068)))
        go never y = absurd y
        go in_progress y = absurd (y.1 r)
        go (kept high goal x) y = absurd (y.1 un)
        go not_kept y = (refl, refl)
