-- A new call that hear runs keeps the invariant.
use Rattle.std.proofs.Common.{◌≡◌, ℕ, ltb, List, ◌∷◌, length, Some, Ok, Option, sym, refl, ap, ◌∙◌, subst, inl, ⊎_elim, arith}
use Rattle.std.proofs.lemmas.List.{length-set}
use Rattle.common.specs.Bytes.{Bytes}
use Rattle.wire.specs.Wire.{Request, reply_message}
use Rattle.server.specs.Server.{ServerM, SessionM, SlotM, slot_at, with_slot, accepted, with_session, run_highest, finished, run_bytes, run_content, run_slot, outcome_reply}
use Rattle.exactly_once.specs.History.{Told, run, asked_hear, ran, Event, History}
use Rattle.exactly_once.specs.Words.{Call, Stands}
use Rattle.exactly_once.specs.Steps.{Parts, Model, rest_requests, with_server, hear_run, hear_work}
use Rattle.exactly_once.specs.Lived.{PartsLaws}
use Rattle.exactly_once.proofs.Tables.{some_same, set_twice}
use Rattle.exactly_once.proofs.Newest.{Hears, Resumes, heard_now}
use Rattle.exactly_once.proofs.Invariant.{Known, result, Inv}
use Rattle.exactly_once.proofs.Present.{Standing, standing, one_call}
use Rattle.exactly_once.proofs.Quiet.{Good}
use Rattle.exactly_once.proofs.Hearing.{NewCall}
use Rattle.exactly_once.proofs.Setaside.{unheard, earlier_ran}
use Rattle.exactly_once.proofs.Workorder as workorder
use Rattle.exactly_once.proofs.Workorder.{put_again}
use Rattle.exactly_once.proofs.Running.{Running, running_inv}

module _ (P : Parts) (laws : PartsLaws P) (first : P.service.Content) (h : History) (m : Model P) (inv : Inv P first h m) (t o : ℕ) (c : Call) (f : Request) (z : Known h t o c f) (st : Stands h c.terminal o (length h)) where
  abbrev here : Standing P first h m inv c.terminal o
  here = standing P first h m inv c.terminal o st

  abbrev X : SlotM
  X = slot_at here.S f.slot

  abbrev S1 : SessionM
  S1 = with_slot here.S f.slot (accepted X f)

  abbrev V : SlotM
  V = slot_at S1 f.slot

  module _ (g : NewCall h t o c f here.T here.S) (room : ℕ) where
    abbrev bytes : Bytes
    bytes = run_bytes P.service m.content V

    abbrev e : Event
    e = record { asked = asked_hear run room; answer = ran; put = Some (reply_message (result f (run_highest S1 f.slot) S1.target bytes)); took = Some c.request }

    slot_now : V ≡ accepted X f
    slot_now = workorder.slot_now P first h m inv t o c f z st

    no_resume : (q s : ℕ) → Resumes e q s → ⊥
    no_resume q s y = let x = y.1 in let v : ◌≡◌ {A = ℕ} 0 1 = cc in omega arith

    only_hears : (u v : ℕ) (d : Call) (k : Request) (b : Told) → Known h u v d k → Hears e d b → u ≡ t
    only_hears u v d k b y x = sym (one_call P first h m inv t u o v c d f k z y (some_same c.request d.request x.2)).0

    held_now : (g.held.highest ≡ f.highest) × (g.held.part ≡ ltb g.held.highest f.slot)
    held_now =
        let v = here.terminal_side.open_held t c f z g.open_call in
        let same : v.0 ≡ g.held = some_same v.0 g.held (sym v.1 ∙ g.holds) in
        (ap (λ x. x.highest) (sym same) ∙ v.3, (here.terminal_side.held_part f.slot g.held g.holds).0)

    running : Running P laws first h m inv e t o c f z st S1
    running = record {
      length16 = length-set here.S.slots f.slot (accepted X f) ∙ here.server_side.sixteen;
      goal = refl;
      number = ap (λ (x : SlotM). x.number) slot_now;
      highest = ap (λ (x : SlotM). x.highest) slot_now;
      keep = ap (λ (x : SlotM). x.keep) slot_now;
      body = ap (λ (x : SlotM). x.body) slot_now;
      is_open = ap (λ (x : SlotM). x.is_open) slot_now ∙ g.is_open;
      no_order = λ d y. (let x = y.0 in let v : ◌≡◌ {A = ℕ} 0 1 = cc in omega arith);
      no_open = λ q y. (let x = y.1 in let v : ◌≡◌ {A = ℕ} 0 1 = cc in omega arith);
      no_end = λ q y. (let x = y.0 in let v : ◌≡◌ {A = ℕ} 0 1 = cc in omega arith);
      no_reply = λ d k y. (let x = y.1 in let v : ◌≡◌ {A = ℕ} 0 1 = cc in omega arith);
      only_hears = only_hears;
      only_resumes = λ q s y. absurd (no_resume q s y);
      only_runs = λ u v d k y r. ⊎_elim (λ x. only_hears u v d k run y x.0) (λ x. absurd (no_resume d.terminal d.slot x.2)) r.1;
      level = g.level;
      grows = omega (arith, g.next);
      next = omega (arith, g.next);
      below_ran = earlier_ran P laws first h m inv t o c f z st g;
      heard_now = heard_now e h o c run (room, refl, refl) st;
      held = g.held;
      holds = g.holds;
      held_highest = held_now.0;
      held_part = held_now.1;
      runs = (st, inl ((room, refl, refl), unheard P laws first h m inv t o c f z st g));
      put = refl;
    }

    abbrev placed : SessionM → ServerM
    placed s = workorder.placed P first h m inv t o c f z st s

    -- by the reply's number and the server after
    abbrev Then : ℕ → ServerM → Type 0
    Then n s = Inv P first (record { asked = asked_hear run room; answer = ran; put = Some (reply_message (outcome_reply f.id n f.slot (run_highest S1 f.slot) S1.target bytes)); took = Some c.request } ∷ h) (record { server = s; terminals = m.terminals; content = run_content P.service m.content V; requests = P.requests.rests m.requests; replies = P.replies.puts m.replies (reply_message (outcome_reply f.id n f.slot (run_highest S1 f.slot) S1.target bytes)) })

    run_inv : Then f.number (placed (with_slot here.S f.slot (finished S1 f.slot bytes)))
    run_inv = running_inv P laws first h m inv e t o c f z st S1 running (P.requests.rests m.requests) (λ b i. laws.requests.rest_waited m.requests b i) (λ a r b x y. sym (some_same c.request b y))

    finished_server : with_session (placed S1) f.id (Some (with_slot S1 f.slot (finished S1 f.slot bytes))) ≡ placed (with_slot here.S f.slot (finished S1 f.slot bytes))
    finished_server =
        put_again m.server c.terminal here.S S1 here.session refl here.alone f.id (Some (with_slot S1 f.slot (finished S1 f.slot bytes))) (workorder.id_is P first h m inv t o c f z st)
        ∙ ap (λ (xs : List (Option SessionM)). record { boot = m.server.boot; count = m.server.count; sessions = xs }) (set_twice m.server.sessions c.terminal (Some S1) (Some (with_slot S1 f.slot (finished S1 f.slot bytes))))
        ∙ ap (λ (xs : List SlotM). placed (record { id = here.S.id; target = here.S.target; slots = xs })) (set_twice here.S.slots f.slot (accepted X f) (finished S1 f.slot bytes))

    ran_good : Good P first h (asked_hear run room) (hear_run P (with_server P (rest_requests P m) (placed S1)) c.request (Ok (run_slot P.service m.content (placed S1) f.id f.slot S1)))
    ran_good = subst (λ n. Then n (with_session (placed S1) f.id (Some (with_slot S1 f.slot (finished S1 f.slot bytes))))) (sym (ap (λ (x : SlotM). x.number) slot_now)) (subst (λ s. Then f.number s) (sym finished_server) run_inv)

    pub run_keeps : Good P first h (asked_hear run room) (hear_work P (with_server P (rest_requests P m) (with_session m.server f.id (Some S1))) c.request run (record { id = f.id; slot = f.slot; number = f.number }))
    run_keeps = subst (λ s. Good P first h (asked_hear run room) s) (sym (workorder.run_is P first h m inv t o c f z st)) ran_good
