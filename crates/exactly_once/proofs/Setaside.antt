-- A new call that hear sets aside keeps the invariant.
use Rattle.std.proofs.Common.{◌≡◌, ℕ, ◌<◌, false, ◌∷◌, length, set, Some, None, sym, refl, ap, ◌∙◌, subst, inl, ⊎_elim, arith}
use borrow.Author.Tests.{clash}
use Rattle.std.proofs.lemmas.Bool.{cases_lt}
use Rattle.wire.specs.Wire.{Request, request_message, reply_message}
use Rattle.server.specs.Server.{SlotM, Last, never, in_progress, kept, not_kept, is_working, slot_at, accepted, with_session}
use Rattle.exactly_once.specs.History.{run, aside, asked_hear, set_aside, Event, History}
use Rattle.exactly_once.specs.Words.{Call, Stands, HeardBefore, RanBefore}
use Rattle.exactly_once.specs.Steps.{Parts, Model, rest_requests, with_server, hear_work}
use Rattle.exactly_once.specs.Lived.{PartsLaws}
use Rattle.exactly_once.proofs.Tables.{some_same}
use Rattle.exactly_once.proofs.Unique.{Orders, ran_heard}
use Rattle.exactly_once.proofs.Newest.{Hears, Resumes, Runs, heard_now, ran_new}
use Rattle.exactly_once.proofs.Runlist.{runs_on}
use Rattle.exactly_once.proofs.Invariant.{Known, ByLast, Inv}
use Rattle.exactly_once.proofs.Carry.{put_new, aside_now}
use Rattle.exactly_once.proofs.Present.{Standing, standing, one_call}
use Rattle.exactly_once.proofs.Quiet.{Good}
use Rattle.exactly_once.proofs.Hearing.{NewCall}
use Rattle.exactly_once.proofs.Workorder.{S1, order, aside_is}
use Rattle.exactly_once.proofs.Serving.{Working, working_inv}

module _ (P : Parts) (laws : PartsLaws P) (first : P.service.Content) (h : History) (m : Model P) (inv : Inv P first h m) (t o : ℕ) (c : Call) (f : Request) (z : Known h t o c f) (st : Stands h c.terminal o (length h)) where
  abbrev pub here : Standing P first h m inv c.terminal o
  here = standing P first h m inv c.terminal o st

  abbrev pub X : SlotM
  X = slot_at here.S f.slot

  module _ (g : NewCall h t o c f here.T here.S) where
    -- it was not heard
    pub unheard : HeardBefore h o c (length h) → ⊥
    unheard b = omega (arith, here.server_side.heard_low t c f z b, g.next)

    pub unrun : RanBefore h o c (length h) → ⊥
    unrun r = unheard (ran_heard h o c (length h) r)

    -- the earlier calls of its slot have run
    pub earlier_ran : (u : ℕ) (d : Call) (k : Request) → Known h u o d k → k.slot ≡ f.slot → k.number < f.number → RanBefore h o d (length h)
    earlier_ran u d k y es lt = ⊎_elim (λ l. here.server_side.older_ran u d k y (subst (λ s. k.number < (slot_at here.S s).number) (sym es) l)) (λ le. last (omega (arith, lt, g.next, le))) (cases_lt k.number X.number)
      where
        by : (l : Last) → is_working l ≡ false → ByLast h o d k l → RanBefore h o d (length h)
        by never i b = absurd b
        by in_progress i b = absurd (clash (sym i))
        by (kept high goal x) i b = (b.0.0, b.0.2, b.0.3)
        by not_kept i b = b.0

        last : k.number ≡ X.number → RanBefore h o d (length h)
        last eq =
            let v = here.server_side.last_holds u d k y (eq ∙ ap (λ s. (slot_at here.S s).number) (sym es)) in
            by (slot_at here.S k.slot).last (ap (λ s. is_working (slot_at here.S s).last) es ∙ g.idle) v.last

    module _ (room : ℕ) where
      abbrev e : Event
      e = record { asked = asked_hear aside room; answer = set_aside; put = None; took = Some c.request }

      only_aside : (d : Call) → Hears e d run → ⊥
      only_aside d y = let x = y.1 in let v : ◌≡◌ {A = ℕ} 0 1 = cc in omega arith

      no_resume : (q s : ℕ) → Resumes e q s → ⊥
      no_resume q s y = let x = y.1 in let v : ◌≡◌ {A = ℕ} 0 1 = cc in omega arith

      no_run : (v : ℕ) (d : Call) → Runs h e v d → ⊥
      no_run v d r = ⊎_elim (λ x. only_aside d x.0) (λ x. no_resume d.terminal d.slot x.2) r.1

      no_order : (d : Call) → Orders e d → ⊥
      no_order d y = let x = y.0 in let v : ◌≡◌ {A = ℕ} 0 1 = cc in omega arith

      working : Working P first h m inv e t o c f z st (accepted X f)
      working = record {
        no_order = no_order;
        no_open = λ q y. (let x = y.1 in let v : ◌≡◌ {A = ℕ} 0 1 = cc in omega arith);
        no_end = λ q y. (let x = y.0 in let v : ◌≡◌ {A = ℕ} 0 1 = cc in omega arith);
        no_reply = λ d k y. (let x = y.1 in let v : ◌≡◌ {A = ℕ} 0 1 = cc in omega arith);
        only_hears = λ u v d k b y x. sym (one_call P first h m inv t u o v c d f k z y (some_same c.request d.request x.2)).0;
        only_resumes = λ q s y. absurd (no_resume q s y);
        only_runs = λ u d k y r. absurd (no_run o d r);
        number = refl;
        level = g.level;
        grows = omega (arith, g.next);
        next = omega (arith, g.next);
        below_ran = earlier_ran;
        heard_now = heard_now e h o c aside (room, refl, refl) st;
        holds = record { highest = refl; keep = refl; body = refl; last = (aside_now e h o c (room, refl, refl) unheard st, λ r. ⊎_elim unrun (no_run o c) (ran_new e h o c r)) };
        ready = inl g.is_open;
        target = λ le. g.is_open;
        held = (g.held, g.holds);
        put_target = λ high goal b fg pu. ⊎_elim inl (λ r. absurd (no_run o c r.0)) (put_new e h o c _ pu);
      }

      -- the step that sets it aside
      aside_inv : Inv P first (e ∷ h) (record { server = record { boot = m.server.boot; count = m.server.count; sessions = set m.server.sessions c.terminal (Some (S1 P first h m inv t o c f z st)) }; terminals = m.terminals; content = m.content; requests = P.requests.rests m.requests; replies = m.replies })
      aside_inv = working_inv P first h m inv e t o c f z st (accepted X f) working m.content (P.requests.rests m.requests) m.replies (λ b i. laws.requests.rest_waited m.requests b i) (λ b i. inl i) (λ a r b x y. sym (some_same c.request b y)) (record {
        list = inv.done.list;
        runs = runs_on P.service.next P.service.reply request_message reply_message e h (λ d v y r. no_order d y) inv.done.list (λ u v d y k b r. no_run v d r) (λ v d y r. no_run v d r) inv.done.runs;
        reach = inv.done.reach;
      })

      pub aside_keeps : Good P first h (asked_hear aside room) (hear_work P (with_server P (rest_requests P m) (with_session m.server f.id (Some (S1 P first h m inv t o c f z st)))) c.request aside (order P first h m inv t o c f z st))
      aside_keeps = subst (λ s. Good P first h (asked_hear aside room) s) (sym (aside_is P first h m inv t o c f z st)) aside_inv
